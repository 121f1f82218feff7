use Rattle.std.specs.Prelude.{slice_get}
use Rattle.std.proofs.Common.{rules, ◌∙◌, ℕ, ap}
use Rattle.jo_prog.specs.Sites.{sites_of}
use Rattle.dependence.specs.FlowGraph.{type_of_site}
use Rattle.fact_rules.proofs.callees.callee_at.Goals as goal

pub returns : goal.returns
returns c = λ o same.
    let program = c.args.view.now.program.now in
    c.callee_on-callee.ensures o (ap (λ (s : ℕ). type_of_site program (slice_get (sites_of program.methods) s)) same ∙ (search rules))
