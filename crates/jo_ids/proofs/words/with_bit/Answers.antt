use Rattle.jo_ids.proofs.WordLemmas.{in_word-with_bit}
use Rattle.jo_ids.proofs.words.with_bit.Goals as goal

pub returns : goal.returns
returns c = in_word-with_bit c.args.word c.args.bit c.requires
