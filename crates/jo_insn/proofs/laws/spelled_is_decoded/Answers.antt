use Rattle.jo_insn.proofs.SpelledIsDecoded
use Rattle.jo_insn.proofs.laws.spelled_is_decoded.Goals as goal

pub returns : goal.returns
returns c = SpelledIsDecoded.spelled_is_decoded
