-- One mark, as the code makes it.
use Rattle.std.proofs.Common.{◌≡◌, ℕ, true, false, List, [], ◌∷◌, ◌++◌, Option, Some, refl}
use Rattle.std.specs.Prelude.{slice_set}
use Rattle.typing_heights.specs.Marks.{Marks, is_unknown, marked}

pub marked_is : (to height : ℕ) (old new : List (Option ℕ)) (had has : List ℕ) → is_unknown old to ≡ true → new ≡ slice_set old to (Some height) → has ≡ had ++ to ∷ []
    → ◌≡◌ {A = Marks} (record { heights = new; found = has }) (marked to height (record { heights = old; found = had }))
marked_is to height old new had has e f g = rw (e, f, g) refl

pub stays_marked : (to height : ℕ) (old : List (Option ℕ)) (had : List ℕ) → is_unknown old to ≡ false
    → ◌≡◌ {A = Marks} (record { heights = old; found = had }) (marked to height (record { heights = old; found = had }))
stays_marked to height old had e = rw e refl
