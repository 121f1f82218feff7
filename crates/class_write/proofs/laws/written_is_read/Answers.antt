use Rattle.class_pool.proofs.GrammarClass.{class_again}
use Rattle.class_write.specs.Spelling.{spelled_class}
use Rattle.class_write.proofs.Written.{written_is_read}
use Rattle.class_write.proofs.laws.written_is_read.Goals as goal

pub returns : goal.returns
returns c = record {
  grammar = written_is_read;
  reading = λ bytes class all is. class_again (spelled_class class) class (written_is_read bytes class all is);
}
