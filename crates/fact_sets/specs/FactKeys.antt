-- The keys by which tables find facts (this project's own). Nothing but time depends on them.
use Rattle.std.specs.Prelude.{ℕ}
use Rattle.dep_nodes.specs.ItemKeys.{mixed_key}
use Rattle.dep_nodes.specs.declared.kinds.NodeKind.{NodeKind}
use Rattle.dep_nodes.specs.declared.kinds.NodeKind.TheVariants.{Entry, Exit, Instr, Call, RetVal, RetKind, Throw, Catch, Poll, XPoll, Arg, Param, Kind, Value, Thrown}
use Rattle.fact_sets.specs.declared.numbered.CellNumber.{CellNumber}
use Rattle.fact_sets.specs.declared.numbered.CellNumber.TheVariants.{Field, Elements, Static}
use Rattle.fact_sets.specs.declared.numbered.Holder.{Holder}
use Rattle.fact_sets.specs.declared.numbered.Holder.TheVariants.{Node, Cell}
use Rattle.fact_sets.specs.declared.numbered.CallPlace.{CallPlace}
use Rattle.fact_sets.specs.declared.numbered.NumberedFact.{NumberedFact}
use Rattle.fact_sets.specs.declared.numbered.NumberedFact.TheVariants.{Reached, Holds, Calls, Throws, Stalls}

-- spread over all numbers of 32 bits
abbrev pub spread : ℕ → ℕ
spread n = mixed_key n 0

abbrev pub kind_key : NodeKind → ℕ
kind_key Entry = 0
kind_key Exit = 1
kind_key (Instr pc) = mixed_key pc 2
kind_key (Call pc) = mixed_key pc 3
kind_key (RetVal pc) = mixed_key pc 4
kind_key (RetKind pc) = mixed_key pc 5
kind_key (Throw pc) = mixed_key pc 6
kind_key (Catch k) = mixed_key k 7
kind_key (Poll pc target) = mixed_key (mixed_key pc target) 8
kind_key (XPoll pc k) = mixed_key (mixed_key pc k) 9
kind_key (Arg pc i) = mixed_key (mixed_key pc i) 10
kind_key (Param i) = mixed_key i 11
kind_key Kind = 12
kind_key Value = 13
kind_key Thrown = 14

abbrev pub cell_key : CellNumber → ℕ
cell_key (Field field object) = mixed_key (mixed_key object field) 1
cell_key (Elements object) = mixed_key object 2
cell_key (Static field) = mixed_key field 3

abbrev pub holder_key : Holder → ℕ
holder_key (Node instance kind) = mixed_key (kind_key kind) instance
holder_key (Cell cell) = mixed_key (cell_key cell) 1

abbrev pub call_key : CallPlace → ℕ
call_key call = mixed_key call.instance call.pc

abbrev pub fact_key : NumberedFact → ℕ
fact_key (Reached instance) = mixed_key instance 0
fact_key (Holds holder object) = mixed_key (holder_key holder) object
fact_key (Calls call instance fork) = mixed_key (call_key call) instance
fact_key (Throws instance) = mixed_key instance 1
fact_key (Stalls instance) = mixed_key instance 2
