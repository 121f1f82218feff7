use Rattle.std.proofs.Common.{get_or, refl, arith, rules}
use Rattle.std.proofs.lemmas.Bool.{OnFalse_from}
use Rattle.jo_ids.proofs.JoinLemmas.{joins_none, joins_set, joins_keep, joined_words, same_words, changed_words, words_changed}
use Rattle.jo_ids.proofs.rows.join_words.Goals as goal
use Rattle.jo_ids.proofs.rows.join_words.Goals.{then-joined-word, else-joined-word}

pub loop-i-init : goal.loop-i-init
loop-i-init c = joins_none c.args.words.now c.args.others.now

pub loop-i-preserved : goal.loop-i-preserved
loop-i-preserved c =
    let i = c.loop-i.i in
    let first = c.args.words.now in
    let others = c.args.others.now in
    let words = c.loop-i.words in
    let word = get_or words i 0 in
    let other = get_or others i 0 in
    elim c.if-joined-word.branch [
      | then-joined-word w ↦
          rw (w.words-is, w.changed-is) (joins_set i first others words c.loop-i.changed c.loop-i.invariant word other refl refl (omega arith) (search rules) (omega (arith, c.type_inv.others i)) w.if-joined-word.true)
      | else-joined-word w ↦
          rw (w.words-is, w.changed-is) (joins_keep i first others words c.loop-i.changed c.loop-i.invariant word other refl refl (omega arith) w.if-joined-word.false)
    ]

pub returns : goal.returns
returns c =
    let first = c.args.words.now in
    let others = c.args.others.now in
    let all = c.loop-i.invariant in
    let i = c.loop-i.i in
    record {
      joined = joined_words i first others c.loop-i.words c.loop-i.changed all (omega arith) (omega arith);
      changed = (
        changed_words i first others c.loop-i.words c.loop-i.changed all (omega arith) (omega arith),
        words_changed i first others c.loop-i.words c.loop-i.changed all (omega arith) (omega arith),
      );
      same = OnFalse_from c.loop-i.changed _ (same_words i first others c.loop-i.words c.loop-i.changed all (omega arith) (omega arith));
    }
