-- What of an instruction's effect decides about heights and locals (this project's own).
use Rattle.std.specs.Prelude.{ℕ, ◌+◌, ◌-◌, length, option_map}
use Rattle.jo_prog.specs.Shapes.{Need, Origin, Effect}
use Rattle.typing_heights.specs.declared.sizes.Size.{Size}

abbrev pub size_of : Effect → Size
size_of effect = record {
  pops = length effect.pops;
  pushes = length effect.pushes;
  reads = option_map (λ (r : ℕ × Need). r.0) effect.reads;
  writes = option_map (λ (w : ℕ × Origin). w.0) effect.writes;
}

abbrev pub grown : Size → ℕ → ℕ
grown size height = size.pushes + (height - size.pops)
