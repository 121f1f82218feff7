-- What places are asked for.
use Rattle.std.proofs.Common.{◌≡◌, Bool, true, false, ◌&&◌, List, [], ◌∷◌, refl, sym, ap, ◌∙◌}
use Rattle.jo_prog.specs.declared.program.Program.{Program}
use Rattle.jo_prog.specs.declared.program.TypeRef.{TypeRef}
use Rattle.jo_prog.specs.declared.program.TypeRef.TheVariants.{Class, Array}
use Rattle.jo_prog.specs.Typing.{Ref}
use Rattle.jo_prog.specs.Shapes.{OfEach, passes, takes_type, fits_each}

and_true : (b : Bool) → (b && true) ≡ b
and_true true = refl
and_true false = refl

each_passes : (program : Program) (types : List TypeRef) (named : TypeRef) → passes program (OfEach types) (Ref named) ≡ fits_each program named types
each_passes program types (Class c) = refl
each_passes program types (Array desc) = refl

pub one_passes : (program : Program) (named needed : TypeRef) → takes_type program named needed ≡ passes program (OfEach (needed ∷ [])) (Ref named)
one_passes program named needed = sym (each_passes program (needed ∷ []) named ∙ and_true (takes_type program named needed))

pub two_pass : (program : Program) (named needed other : TypeRef) → (takes_type program named needed && takes_type program named other) ≡ passes program (OfEach (needed ∷ other ∷ [])) (Ref named)
two_pass program named needed other = sym (each_passes program (needed ∷ other ∷ []) named ∙ ap (λ (b : Bool). takes_type program named needed && b) (and_true (takes_type program named other)))
