-- The parts of a class in memory while it is assembled. Private functions compute these; the public contract cites
-- `Assembly` alone.
use Rattle.std.specs.Prelude.{option_map}
use Rattle.class_asm.specs.declared.assembly.OpenCode.{OpenCode}
use Rattle.class_asm.specs.declared.assembly.Parts.{Parts}
use Rattle.class_asm.specs.Assembly.{OpenMethod, Made}

abbrev pub seen_code : OpenCode → OpenMethod
seen_code code = record { flags = code.flags; name = code.name; desc = code.desc; stack = code.stack; locals = code.locals; settings = code.labels; caught = code.caught; bytes = code.bytes.items; rows = code.rows }

abbrev pub seen : Parts → Made
seen parts = record { stage = parts.stage; flags = parts.flags; this_class = parts.this_class; super_class = parts.super_class; pool = parts.pool.pool; interfaces = parts.interfaces; fields = parts.fields; methods = parts.methods; opened = option_map seen_code parts.opened }
