use Rattle.std.proofs.Common.{◌≡◌, ◌++◌, ◌∷◌, [], length, true, false, rules}
use Rattle.std.specs.List.{filter}
use Rattle.jo_prog.specs.Numbers.{count_from}
use Rattle.jo_policy.specs.Threads.{selects_start}
use Rattle.jo_policy.proofs.StartLemmas.{thread_added, thread_passed}
use Rattle.jo_policy.proofs.threads.thread_classes.Goals as goal
use Rattle.jo_policy.proofs.threads.thread_classes.Goals.{then-selects_start+in_ok-add, else-selects_start}

pub loop-class-preserved : goal.loop-class-preserved
loop-class-preserved c = elim c.if-selects_start.branch [
  | then-selects_start+in_ok-add w ↦
      let is : selects_start c.args.program.now c.loop-class.class ≡ true = cc in
      let added : c.if-selects_start.threads ≡ c.loop-class.threads ++ c.loop-class.class ∷ [] = search rules in
      thread_added (selects_start c.args.program.now) c.loop-class.threads c.if-selects_start.threads (filter (selects_start c.args.program.now) (count_from 0 (length c.as_slice.result.now)))
      c.loop-class.class (length c.as_slice.result.now) c.loop-class-test.true is added c.loop-class.invariant
  | else-selects_start w ↦
      let is : selects_start c.args.program.now c.loop-class.class ≡ false = cc in
      let same : c.if-selects_start.threads ≡ c.loop-class.threads = search rules in
      rw same (thread_passed (selects_start c.args.program.now) c.loop-class.threads (filter (selects_start c.args.program.now) (count_from 0 (length c.as_slice.result.now)))
      c.loop-class.class (length c.as_slice.result.now) c.loop-class-test.true is c.loop-class.invariant)
]
