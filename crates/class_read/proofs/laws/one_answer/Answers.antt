use Rattle.class_pool.proofs.GrammarClass.{no_class}
use Rattle.class_read.proofs.ClassLaws.{one_fault}
use Rattle.class_read.proofs.laws.one_answer.Goals as goal

pub returns : goal.returns
returns c = record {
  one_fault = one_fault;
  not_both = λ file class f is failed. no_class file f failed class is;
}
