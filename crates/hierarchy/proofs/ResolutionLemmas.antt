-- What stands in a table is what is resolved.
use Rattle.std.proofs.Common.{◌≡◌, ◌∙◌, ℕ, zero, suc, List, [], ◌∷◌, map, Option, Some, None, refl, ap}
use Rattle.std.specs.Prelude.{option_map, option_and_then, slice_get}
use Rattle.jo_prog.specs.declared.program.Program.{Program}
use Rattle.jo_prog.specs.declared.program.Class.{Class}
use Rattle.jo_prog.specs.Program.{class_at}
use Rattle.hierarchy.specs.declared.resolutions.Member.{Member}
use Rattle.hierarchy.specs.declared.resolutions.Resolutions.{Resolutions}
use Rattle.hierarchy.specs.Resolutions.{resolved_operand, resolved_of_class, resolved_at, AreResolutionsOf}

at_map : {X Y : Type 0} (f : X → Y) (xs : List X) (k : ℕ) → slice_get (map f xs) k ≡ option_map f (slice_get xs k)
at_map f [] k = refl
at_map f (x ∷ xs) zero = refl
at_map f (x ∷ xs) (suc k) = at_map f xs k

-- a table, and an item of its row
abbrev pub in_table : List (List (Option Member)) → ℕ → ℕ → Option Member
in_table table c index = option_and_then (λ (o : Option Member). o) (option_and_then (λ (row : List (Option Member)). slice_get row index) (slice_get table c))

pub table_resolves : (program : Program) (resolutions : Resolutions) (c index : ℕ) → AreResolutionsOf program resolutions
    → in_table resolutions.members.items c index ≡ resolved_at program c index
table_resolves program resolutions c index are =
    ap (λ (table : List (List (Option Member))). in_table table c index) are
    ∙ ap (λ (row : Option (List (Option Member))). option_and_then (λ (o : Option Member). o) (option_and_then (λ (r : List (Option Member)). slice_get r index) row)) (at_map (resolved_of_class program) program.classes c)
    ∙ by_class (class_at program c)
  where
    by_operand : (o : Option _) → option_and_then (λ (m : Option Member). m) (option_map (resolved_operand program) o) ≡ option_and_then (resolved_operand program) o
    by_operand None = refl
    by_operand (Some operand) = refl

    by_class : (o : Option Class) → option_and_then (λ (m : Option Member). m) (option_and_then (λ (r : List (Option Member)). slice_get r index) (option_map (resolved_of_class program) o))
        ≡ option_and_then (resolved_operand program) (option_and_then (λ (class : Class). slice_get class.operands index) o)
    by_class None = refl
    by_class (Some class) = ap (option_and_then (λ (m : Option Member). m)) (at_map (resolved_operand program) class.operands index) ∙ by_operand (slice_get class.operands index)
