use Rattle.jo_text.proofs.EscapeLaws.{one_name}
use Rattle.jo_text.proofs.laws.one_name.Goals as goal

pub returns : goal.returns
returns c = one_name
