-- The key by which a table finds a node of a method (this project's own). Nothing but time depends on it.
use Rattle.std.specs.Prelude.{ℕ}
use Rattle.dep_nodes.specs.ItemKeys.{mixed_key}
use Rattle.dep_nodes.specs.declared.kinds.NodeKind.{NodeKind}
use Rattle.dep_nodes.specs.declared.kinds.NodeKind.TheVariants.{Entry, Exit, Instr, Call, RetVal, RetKind, Throw, Catch, Poll, XPoll, Arg, Param, Kind, Value, Thrown}

-- three numbers, each of which spreads
abbrev pub key_of : ℕ → ℕ → ℕ → ℕ
key_of tag first second = mixed_key (mixed_key (mixed_key first second) tag) 0

abbrev pub spot_key : NodeKind → ℕ
spot_key Entry = key_of 0 0 0
spot_key Exit = key_of 1 0 0
spot_key (Instr pc) = key_of 2 pc 0
spot_key (Call pc) = key_of 3 pc 0
spot_key (RetVal pc) = key_of 4 pc 0
spot_key (RetKind pc) = key_of 5 pc 0
spot_key (Throw pc) = key_of 6 pc 0
spot_key (Catch k) = key_of 7 k 0
spot_key (Poll pc target) = key_of 8 pc target
spot_key (XPoll pc k) = key_of 9 pc k
spot_key (Arg pc i) = key_of 10 pc i
spot_key (Param i) = key_of 11 i 0
spot_key Kind = key_of 12 0 0
spot_key Value = key_of 13 0 0
spot_key Thrown = key_of 14 0 0
