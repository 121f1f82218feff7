-- The keys by which a table finds an edge, an access or a cell (this project's own). Nothing but time depends on them.
use Rattle.std.specs.Prelude.{ℕ, ◌+◌, ◌*◌, ◌%◌, if◌then◌else◌}
use Rattle.dep_nodes.specs.declared.kinds.EdgeKind.{EdgeKind}
use Rattle.dep_nodes.specs.declared.kinds.EdgeKind.TheVariants.{Data, Control, Out, Arg, Call, Ret, Heap, Fork}
use Rattle.dep_nodes.specs.declared.accesses.ObjName.{ObjName}
use Rattle.dep_nodes.specs.declared.accesses.Access.{Access}
use Rattle.dep_nodes.specs.declared.accesses.Cell.{Cell}
use Rattle.dep_nodes.specs.declared.accesses.Cell.TheVariants.{Field, Elements, Static, Cursor, Started}

-- one key of two numbers; the constant spreads the first (Knuth, The Art of Computer Programming 3, 6.4)
abbrev pub mixed_key : ℕ → ℕ → ℕ
mixed_key first second = (first * 2654435761 + second) % 4294967296

abbrev pub kind_key : EdgeKind → ℕ
kind_key Data = 0
kind_key Control = 1
kind_key Out = 2
kind_key Arg = 3
kind_key Call = 4
kind_key Ret = 5
kind_key Heap = 6
kind_key Fork = 7

abbrev pub edge_key : ℕ × EdgeKind → ℕ
edge_key edge = mixed_key edge.0 (kind_key edge.1)

abbrev pub object_key : ObjName → ℕ
object_key object = mixed_key (mixed_key object.site object.sites.first) object.sites.second

abbrev pub cell_key : Cell → ℕ
cell_key (Field field object) = mixed_key (object_key object) field
cell_key (Elements object) = mixed_key (object_key object) 1
cell_key (Static field) = mixed_key field 2
cell_key (Cursor method) = mixed_key method 3
cell_key (Started object) = mixed_key (object_key object) 4

abbrev pub access_key : Access → ℕ
access_key access = mixed_key (cell_key access.cell) (if access.write then 1 else 0)
