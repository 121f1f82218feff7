use Rattle.jo_prog.specs.Sites.{opcode_of}
use Rattle.instance_flows.specs.Raising.{ObjectRaises}
use Rattle.instance_flows.proofs.HeldLemmas.{NoneOf}
use Rattle.instance_flows.proofs.objects.some_object_raises.Given as goal

abbrev pub invariant-loop-id : goal.invariant-loop-id
invariant-loop-id g l = NoneOf l.facts.objects l.held (ObjectRaises l.program l.method l.pc (opcode_of l.insn)) l.id-index
