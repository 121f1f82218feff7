use Rattle.std.proofs.Common.{◌==◌}
use Rattle.std.proofs.lemmas.Map.Made.{is_some-lookup}
use Rattle.jo_insn.specs.ArrayKinds.{kind_names, name_of_kind}
use Rattle.jo_insn.proofs.laws.kinds_have_names.Goals as goal

pub returns : goal.returns
unfolding name_of_kind kind_names
returns c = λ kind. is_some-lookup (λ k. k == kind) kind_names
