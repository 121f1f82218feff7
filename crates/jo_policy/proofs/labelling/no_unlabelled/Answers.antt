use Rattle.std.proofs.Common.{◌≡◌, List, Option, ap, ◌∙◌, subst, refl}
use Rattle.std.specs.Prelude.{Result, length}
use Rattle.policy_tree.specs.declared.faults.PolicyFault.{PolicyFault}
use Rattle.policy_tree.specs.declared.faults.PolicyFault.TheVariants.{UnlabelledNative}
use Rattle.policy_tree.specs.Outcomes.{Gives, refused}
use Rattle.jo_prog.specs.declared.labels.Label.{Label}
use Rattle.jo_policy.specs.Labelling.{unlabelled_from, table_at, table_of, first_unlabelled}
use Rattle.jo_policy.proofs.Tables.{unlabelled_in}
use Rattle.jo_policy.proofs.labelling.no_unlabelled.Goals as goal

pub returns : goal.returns
returns c =
    let methods = c.args.program.now.methods in
    let table : c.as_slice.result.now ≡ table_of (length methods) c.args.table.now.placed = c.as_slice.ensures.value ∙ c.requires.table.labels in
    let same : unlabelled_from c.args.program.now (table_at c.as_slice.result.now) 0 methods ≡ first_unlabelled c.args.program.now c.args.table.now.placed =
    ap (λ (t : List (Option Label)). unlabelled_from c.args.program.now (table_at t) 0 methods) table ∙ unlabelled_in c.args.program.now (length methods) c.args.table.now.placed methods refl in
    subst (λ (read : Result (Unit {0}) PolicyFault). Gives (λ x. x) c.none_unlabelled.result read) (ap (refused UnlabelledNative) same) c.none_unlabelled.ensures
