use Rattle.jo_ids.proofs.JoinLemmas.{JoinsTo}
use Rattle.jo_ids.proofs.rows.join_words.Given as goal

abbrev pub invariant-loop-i : goal.invariant-loop-i
invariant-loop-i l = JoinsTo l.i l.initial.words l.others l.words l.changed
