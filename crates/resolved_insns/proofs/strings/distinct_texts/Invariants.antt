use Rattle.std.proofs.Common.{◌≡◌, take}
use Rattle.jo_prog.specs.Constants.{distinct}
use Rattle.resolved_insns.specs.Strings.{lent, texts_in}
use Rattle.resolved_insns.proofs.strings.distinct_texts.Given as goal

abbrev pub invariant-loop-text : goal.invariant-loop-text
invariant-loop-text l = texts_in l.strings ≡ distinct (lent (take l.text-index l.texts))
