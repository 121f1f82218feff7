use Rattle.std.proofs.Common.{◌≡◌, ℕ, ◌+◌, List, ◌++◌, ◌∷◌, [], ◌∙◌, sym, subst, arith}
use Rattle.dependence.specs.Listed.{AddsExactly}
use Rattle.control_dep.proofs.PairLemmas.{IsPairTo, pair_added, pair_skipped, pairs_all, is_there, is_absent}
use Rattle.control_dep.proofs.pairs.add_controlled.Goals as goal
use Rattle.control_dep.proofs.pairs.add_controlled.Goals.{then-is_controlled+in-Ok, else-is_controlled}

pub loop-n-preserved : goal.loop-n-preserved
loop-n-preserved c =
    let flow = c.args.flow.now in
    let b = c.args.b in
    let n = c.loop-n.n in
    elim c.if-is_controlled.branch [
      | then-is_controlled+in-Ok w ↦
          let made : c.if-is_controlled.pairs ≡ c.loop-n.pairs ++ (b, n) ∷ [] = w.pairs-is ∙ w.in-Ok.ensures.ok in
          pair_added flow b c.args.found.now c.requires.found n c.args.pairs.now c.loop-n.pairs c.loop-n.invariant c.if-is_controlled.pairs (is_there flow c.args.found.now n c.is_controlled.result c.is_controlled.ensures w.if-is_controlled.true) made
      | else-is_controlled w ↦
          subst (λ (ps : List (ℕ × ℕ)). AddsExactly (IsPairTo flow b (n + 1)) c.args.pairs.now ps) (sym w.pairs-is)
          (pair_skipped flow b c.args.found.now c.requires.found n c.args.pairs.now c.loop-n.pairs c.loop-n.invariant (is_absent flow c.args.found.now n c.is_controlled.result c.is_controlled.ensures w.if-is_controlled.false))
    ]

pub returns : goal.returns
returns c = pairs_all c.args.flow.now c.args.b c.args.found.now c.requires.found c.loop-n.n c.args.pairs.now c.loop-n.pairs (omega (arith, c.len-n-end.ensures, c.loop-n-test.false)) c.loop-n.invariant
