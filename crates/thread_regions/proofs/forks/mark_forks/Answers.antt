use Rattle.std.proofs.Common.{◌≡◌, ℕ, ◌+◌, Bool, true, List, set, take, sym, ◌∙◌, ap, subst}
use Rattle.thread_regions.specs.Forks.{MarksForks}
use Rattle.thread_regions.proofs.ForkLemmas.{marks_none, mark_step, pass_step}
use Rattle.thread_regions.proofs.forks.mark_forks.Goals as goal
use Rattle.thread_regions.proofs.forks.mark_forks.Goals.{then-starts_a_thread, else-starts_a_thread}

pub loop-from-preserved : goal.loop-from-preserved
loop-from-preserved c =
    let nodes = c.args.graph.now in
    let edges = c.args.edges.now in
    let i = c.loop-from.from-index in
    let old = c.args.forks.now in
    let row = c.loop-from.forks in
    let item = c.loop-from-item.result in
    elim c.if-starts_a_thread.branch [
      | then-starts_a_thread w ↦
          let e : c.if-starts_a_thread.forks ≡ set row item.0 true = w.forks-is ∙ (w.set.ensures.set ∙ ap (λ (k : ℕ). set row k true) w.number.ensures) in
          subst (λ (r : List Bool). MarksForks nodes (take (i + 1) edges) old r) (sym e)
          (mark_step nodes edges i old row item c.node.result.now c.loop-from-test.true c.loop-from-item.is c.node.ensures c.loop-from.invariant c.requires.inside c.requires.size
          (sym c.starts_a_thread.ensures ∙ w.if-starts_a_thread.true))
      | else-starts_a_thread w ↦
          subst (λ (r : List Bool). MarksForks nodes (take (i + 1) edges) old r) (sym w.forks-is)
          (pass_step nodes edges i old row item c.node.result.now c.loop-from-test.true c.loop-from-item.is c.node.ensures c.loop-from.invariant
          (sym c.starts_a_thread.ensures ∙ w.if-starts_a_thread.false))
    ]

pub loop-from-init : goal.loop-from-init
loop-from-init c = marks_none c.args.graph.now c.args.forks.now
