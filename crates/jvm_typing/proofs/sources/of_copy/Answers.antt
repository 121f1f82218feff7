use Rattle.std.proofs.Common.{ap, Some, sym, ◌∙◌, arith}
use Rattle.jvm_typing.specs.KindPasses.{origin_source}
use Rattle.jvm_typing.specs.Sources.{frame_in}
use Rattle.jvm_typing.proofs.SourceLemmas.{copy_there, copy_past}
use Rattle.jvm_typing.proofs.sources.of_copy.Goals as goal

pub returns-then-k-places : goal.returns-then-k-places
returns-then-k-places c = λ program. ap (λ s. Some s) (c.from_stack.ensures program) ∙ sym (copy_there (origin_source program (frame_in c.args.sizes)) c.args.places.now c.args.k (omega arith))

pub returns-else-k-places : goal.returns-else-k-places
returns-else-k-places c = λ program. sym (copy_past (origin_source program (frame_in c.args.sizes)) c.args.places.now c.args.k (omega arith))
