-- The labels of a method's code in memory. Private functions compute these; the definition cites `Layout` alone.
use Rattle.std.specs.Prelude.{ℕ, List, Vec}
use Rattle.std.specs.declared.alloc.Global.{Global}
use Rattle.class_asm.specs.declared.labels.Place.{Place}
use Rattle.class_asm.specs.Layout.{Setting}

abbrev pub setting_at : List ℕ → Place → Setting
setting_at name place = record { name = name; line = place.line; pc = place.pc }

abbrev pub setting_in : Vec ℕ Global × Place → Setting
setting_in entry = setting_at entry.0.items entry.1

abbrev pub place_in : Setting → Place
place_in setting = record { line = setting.line; pc = setting.pc }
