-- Classes that lack a body, as relations and as tests.
use Rattle.std.proofs.Common.{◌≡◌, ℕ, ◌<◌, Bool, true, false, ◌&&◌, List, length, refl, inl, inr}
use Rattle.std.specs.List.{Contains, list_any}
use Rattle.jo_ids.specs.Path.{stays, goes}
use Rattle.jo_prog.specs.declared.program.Program.{Program}
use Rattle.jo_prog.specs.declared.calls.Taken.{Taken}
use Rattle.jo_prog.specs.declared.calls.Taken.TheVariants.{Code, Start, Join, Native, Nothing}
use Rattle.jo_prog.specs.Hierarchy.{Subtype, select}
use Rattle.jo_prog.specs.Calls.{taken_from}
use Rattle.jo_prog.proofs.HierarchyLemmas.{parents_inside}
use Rattle.program_faults.specs.UsedOperands.{methods_of, uses_of}
use Rattle.program_faults.specs.BodyFaults.{is_abstract, is_abstract_method, is_nothing, LacksBody, is_bodiless_use, UsesNoBody, IsNotImplemented, is_unselected, has_unselected, uses_no_body}
use Rattle.program_faults.proofs.FirstLemmas.{some_item, some_passes}
use Rattle.program_faults.proofs.UseLemmas.{with_method, with_use}

nothing : (taken : Taken) → is_nothing taken ≡ true → taken ≡ Nothing
nothing (Code m) h = absurd (cc)
nothing Start h = absurd (cc)
nothing Join h = absurd (cc)
nothing (Native m) h = absurd (cc)
nothing Nothing h = refl

both : (a b : Bool) → (a && b) ≡ true → (a ≡ true) × (b ≡ true)
both true b h = (refl, h)
both false b h = absurd (cc)

module _ (program : Program) (c : ℕ) where
  -- some class of an order of those above has an abstract method without a body
  pub lacks : (order : List ℕ) → ((b : ℕ) → Contains order b → Subtype program c b) → is_abstract program c ≡ false → list_any (has_unselected program c) order ≡ true
      → LacksBody program c
  lacks order above concrete h =
      let found = some_item (has_unselected program c) order h in
      let method = some_item (is_unselected program c) (methods_of program found.0) found.2 in
      let parts = both (is_abstract_method program method.0) (is_nothing (taken_from program (select program c method.0))) method.2 in
      record {
        concrete = concrete;
        above = found.0;
        is_above = above found.0 found.1;
        method = method.0;
        of_above = method.1;
        abstract_one = parts.0;
        nothing = nothing (taken_from program (select program c method.0)) parts.1;
      }

  pub is_lacking : (order : List ℕ) → ((b : ℕ) → Subtype program c b → Contains order b) → LacksBody program c → list_any (has_unselected program c) order ≡ true
  is_lacking order above l =
      let passes : is_unselected program c l.method ≡ true = rw (l.abstract_one, l.nothing) refl in
      let some : has_unselected program c l.above ≡ true = some_passes (is_unselected program c) (methods_of program l.above) l.method l.of_above passes in
      some_passes (has_unselected program c) order l.above (above l.above l.is_above) some

  pub uses : uses_no_body program c ≡ true → UsesNoBody program c
  uses h =
      let found = some_item (is_bodiless_use program c) (uses_of program c) h in
      record { used = found.0; is_there = found.1; is_bodiless = found.2 }

  pub is_using : UsesNoBody program c → uses_no_body program c ≡ true
  is_using u = some_passes (is_bodiless_use program c) (uses_of program c) u.used u.is_there u.is_bodiless

  body_inside : (above m : ℕ) → Subtype program c above → Contains (methods_of program above) m → c < length program.classes
  body_inside above m (stays a) among = with_method program c m among
  body_inside above m (goes a b d edge more) among = parents_inside program c b edge

  pub is_inside : IsNotImplemented program c → c < length program.classes
  is_inside (inl l) = body_inside l.above l.method l.is_above l.of_above
  is_inside (inr u) = with_use program c u.used u.is_there
