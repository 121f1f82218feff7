use Rattle.jo_text.proofs.TestLaws.{field_decided, method_decided, member_decided, class_decided, class_or_array_decided, mutf8_decided}
use Rattle.jo_text.proofs.laws.tests.Goals as goal

pub returns : goal.returns
returns c = record {
  field = field_decided;
  method = method_decided;
  member = member_decided;
  class = class_decided;
  class_or_array = class_or_array_decided;
  mutf8 = mutf8_decided;
}
