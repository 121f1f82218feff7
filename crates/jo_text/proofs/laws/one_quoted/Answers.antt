use Rattle.jo_text.proofs.EscapeLaws.{one_quoted}
use Rattle.jo_text.proofs.laws.one_quoted.Goals as goal

pub returns : goal.returns
returns c = one_quoted
