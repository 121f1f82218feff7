use Rattle.std.specs.Io.KnownBytes.{Consumes}
use Rattle.jo_io.proofs.std_files.read_to_end.Given as goal

-- the bytes so far are what the file has lost
abbrev pub invariant-loop-turn : goal.invariant-loop-turn
invariant-loop-turn g l =
    Consumes (g.F.Read.remaining l.initial.file) (g.F.Read.remaining l.file) l.bytes.items
