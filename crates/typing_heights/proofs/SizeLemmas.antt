-- Sizes of effects.
use Rattle.std.proofs.Common.{◌≡◌, Option, Some, None, option_map, refl}
use Rattle.jo_prog.specs.Shapes.{Effect}
use Rattle.jo_prog.specs.InsnTyping.{first_of}
use Rattle.typing_heights.specs.Sizes.{size_of}

-- where the first has none, the other's counts
pub none_first : (first : Option Effect) (other : Effect) → option_map size_of first ≡ None → size_of (first_of first other) ≡ size_of other
none_first None other e = refl
none_first (Some effect) other e = absurd (cc)
