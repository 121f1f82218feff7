use Rattle.std.proofs.Common.{◌≡◌, ℕ, ◌+◌, List, [], ◌∷◌, ◌++◌, sym, ◌∙◌, ap, subst, arith}
use Rattle.thread_regions.proofs.ForkLemmas.{NumbersBelow, numbers_more, numbers_same, numbers_all}
use Rattle.thread_regions.proofs.forks.numbers_of.Goals as goal
use Rattle.thread_regions.proofs.forks.numbers_of.Goals.{then-has+in-Ok, else-has}

pub loop-n-preserved : goal.loop-n-preserved
loop-n-preserved c =
    let row = c.args.row.now in
    let numbers = c.loop-n.numbers in
    let n = c.loop-n.n in
    elim c.if-has.branch [
      | then-has+in-Ok w ↦
          let e : c.if-has.numbers ≡ numbers ++ n ∷ [] = w.numbers-is ∙ (w.in-Ok.ensures.ok ∙ ap (λ (k : ℕ). numbers ++ k ∷ []) w.of.ensures) in
          subst (λ (ns : List ℕ). NumbersBelow row ns (n + 1)) (sym e) (numbers_more row numbers n c.loop-n.invariant (sym c.has.ensures ∙ w.if-has.true))
      | else-has w ↦ subst (λ (ns : List ℕ). NumbersBelow row ns (n + 1)) (sym w.numbers-is) (numbers_same row numbers n c.loop-n.invariant (sym c.has.ensures ∙ w.if-has.false))
    ]

pub returns : goal.returns
returns c = numbers_all c.args.row.now c.loop-n.numbers c.loop-n.n c.loop-n.invariant (omega arith)
