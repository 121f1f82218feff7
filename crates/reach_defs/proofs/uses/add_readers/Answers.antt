use Rattle.std.proofs.Common.{◌≡◌, ℕ, ◌+◌, List, ◌++◌, ◌∷◌, [], ◌∙◌, sym, subst, arith}
use Rattle.dependence.specs.declared.flows.Use.{Use}
use Rattle.dependence.specs.Listed.{AddsExactly}
use Rattle.reach_defs.proofs.UseLemmas.{IsUseTo, use_of, use_added, use_skipped, uses_all, is_there, is_absent}
use Rattle.reach_defs.proofs.uses.add_readers.Goals as goal
use Rattle.reach_defs.proofs.uses.add_readers.Goals.{then-is_reader+in-Ok, else-is_reader}

pub loop-node-preserved : goal.loop-node-preserved
loop-node-preserved c =
    let flow = c.args.flow.now in
    let d = c.args.d in
    let place = c.args.place in
    let n = c.loop-node.node in
    elim c.if-is_reader.branch [
      | then-is_reader+in-Ok w ↦
          let made : c.if-is_reader.uses ≡ c.loop-node.uses ++ use_of n place d ∷ [] = w.uses-is ∙ w.in-Ok.ensures.ok in
          use_added flow d place c.args.found.now c.requires.writes c.requires.found n c.args.uses.now c.loop-node.uses c.loop-node.invariant c.if-is_reader.uses (is_there flow c.args.found.now n place c.is_reader.result c.is_reader.ensures w.if-is_reader.true) made
      | else-is_reader w ↦
          subst (λ (us : List Use). AddsExactly (IsUseTo flow d place (n + 1)) c.args.uses.now us) (sym w.uses-is)
          (use_skipped flow d place c.args.found.now c.requires.writes c.requires.found n c.args.uses.now c.loop-node.uses c.loop-node.invariant (is_absent flow c.args.found.now n place c.is_reader.result c.is_reader.ensures w.if-is_reader.false))
    ]

pub returns : goal.returns
returns c = uses_all c.args.flow.now c.args.d c.args.place c.args.found.now c.requires.writes c.requires.found c.loop-node.node c.args.uses.now c.loop-node.uses (omega (arith, c.len-node-end.ensures, c.loop-node-test.false)) c.loop-node.invariant
