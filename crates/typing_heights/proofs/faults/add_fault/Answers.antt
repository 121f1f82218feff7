use Rattle.std.proofs.Common.{rules, Contains, subst, Option}
use Rattle.jo_prog.specs.declared.typed.TypeCode.{TypeCode}
use Rattle.typing_heights.specs.Adds.{Adds}
use Rattle.typing_heights.specs.Moves.{Tells}
use Rattle.typing_heights.proofs.FaultLemmas.{fault_added, none_added}
use Rattle.typing_heights.proofs.faults.add_fault.Goals as goal

pub returns-in_ok-push-in-Some : goal.returns-in_ok-push-in-Some
returns-in_ok-push-in-Some c = subst (λ (o : Option TypeCode). Adds (Contains c.args.found.now.items) (Contains c.push.new.self.items) (Tells c.args.pc o)) (search rules) (fault_added c.args.found.now.items c.push.new.self.items c.args.pc c.in-Some.code (search rules))

pub returns-in-None : goal.returns-in-None
returns-in-None c = subst (λ (o : Option TypeCode). Adds (Contains c.args.found.now.items) (Contains c.args.found.now.items) (Tells c.args.pc o)) (search rules) (none_added (Contains c.args.found.now.items) c.args.pc)
