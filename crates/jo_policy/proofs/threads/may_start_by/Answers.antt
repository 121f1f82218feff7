use Rattle.std.proofs.Common.{◌≡◌, ◌∙◌, ℕ, ap, false, ◌==◌, ◌||◌, rules}
use Rattle.std.specs.List.{list_any}
use Rattle.jo_prog.specs.Hierarchy.{is_subtype}
use Rattle.jo_policy.proofs.StartLemmas.{by_threads}
use Rattle.jo_policy.proofs.threads.may_start_by.Goals as goal

pub returns : goal.returns
returns c =
    let other : (c.args.op == 183 || c.args.op == 184) ≡ false = search rules in
    by_threads c.args.program.now c.args.op c.args.current c.args.named c.args.method c.has_subtype.result other c.requires.start
    (c.has_subtype.ensures ∙ ap (list_any (λ (k : ℕ). is_subtype c.args.program.now k c.args.named)) c.requires.threads)
