use Rattle.jo_insn.proofs.SpelledFromDecoded
use Rattle.jo_insn.proofs.laws.decoded_is_spelled.Goals as goal

pub returns : goal.returns
returns c = SpelledFromDecoded.decoded_is_spelled
