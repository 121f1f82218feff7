use Rattle.jo_text.proofs.NumberLaws.{one_number}
use Rattle.jo_text.proofs.laws.one_number.Goals as goal

pub returns : goal.returns
returns c = one_number
