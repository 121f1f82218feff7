use Rattle.std.proofs.Common.{◌≡◌, ◌≤◌, None, drop}
use Rattle.std.specs.Option.{IfSome}
use Rattle.linker.specs.LinkFaults.{is_known}
use Rattle.linker.specs.NeededClasses.{names_there_from}
use Rattle.linker.proofs.needs.are_names_there.Given as goal

-- what is left decides
abbrev pub invariant-loop-place : goal.invariant-loop-place
invariant-loop-place l = record {
  start : IfSome l.begun (λ start. start ≤ l.place);
  rest :
      names_there_from (is_known l.names) l.desc l.place l.begun (drop l.place l.desc)
      ≡ names_there_from (is_known l.names) l.desc 0 None l.desc;
}
