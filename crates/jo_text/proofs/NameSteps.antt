-- The loop over a class's name.
use Rattle.std.proofs.Common.{◌≡◌, ℕ, ◌+◌, ◌<◌, ◌≤◌, Bool, false, cond, not, ◌==◌, List, length, get_or, drop}
use Rattle.std.proofs.lemmas.List.{at_drop_more, at_drop_all}
use Rattle.jo_text.specs.Scan.{breaks_name, names_on}

-- one step, and the end
pub names_at : (empty : Bool) (bs : List ℕ) (i : ℕ) → i < length bs → names_on empty (drop i bs) ≡ cond (breaks_name empty (get_or bs i 0)) false (names_on (get_or bs i 0 == 47) (drop (i + 1) bs))
unfolding names_on
names_at empty bs i lt = at_drop_more (names_on empty) bs i 0 lt

pub names_end : (empty : Bool) (bs : List ℕ) (i : ℕ) → length bs ≤ i → names_on empty (drop i bs) ≡ not empty
unfolding names_on
names_end empty bs i le = at_drop_all (names_on empty) bs i le
