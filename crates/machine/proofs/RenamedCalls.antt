-- A call does the same with addresses renamed.
use Rattle.std.specs.Prelude.{◌≡◌, refl, ℕ, ℤ, Bool, true, false, List, [], ◌∷◌, Option, Some, None, if◌then◌else◌}
use Rattle.jo_prog.specs.declared.labels.Label.{Label}
use Rattle.jo_prog.specs.declared.labels.Label.TheVariants.{Source, Sink, Release}
use Rattle.jo_prog.specs.declared.calls.Taken.{Taken}
use Rattle.jo_prog.specs.declared.calls.Taken.TheVariants.{Code, Start, Join, Native, Nothing}
use Rattle.jo_prog.specs.declared.sites.Cause.{Cause}
use Rattle.jo_prog.specs.declared.sites.Cause.TheVariants.{NullBase, SecondStart, MissingInterface}
use Rattle.jo_prog.specs.PreludeClasses.{object_number}
use Rattle.jo_prog.specs.Values.{Value, int, null, ref, Info, object, array}
use Rattle.machine.specs.Execution.{Ways}
use Rattle.machine.specs.Invocation.{Callee, Invoked, enters, begins, joins, asks, shows, releases, fails, natively, begun, by_taken, by_receiver, invoked}
use Rattle.machine.specs.Renamings.{Both, neither, each, RenamedValue, same_int, both_null, renamed, RenamedValues, no_values, one_more, RenamedInvoked, both_enter, both_begin, both_join, both_ask, both_show, both_release, both_fail, IsRenaming}

abbrev pub Same : {A B : Type 0} (R : A → B → Type 0) → Option (Invoked A) → Option (Invoked B) → Type 0
Same R = Both (RenamedInvoked R)

native_same : {A B : Type 0} (R : A → B → Type 0) (m : ℕ) (label : Option Label) (vs : List (Value A)) (ws : List (Value B)) → RenamedValues R vs ws
    → Same R (natively m label vs) (natively m label ws)
native_same R m None vs ws same = neither
native_same R m (Some (Source level)) vs ws no_values = each _ _ (both_ask m)
native_same R m (Some (Source level)) vs ws (one_more v w xs ys p more) = neither
native_same R m (Some (Sink level)) vs ws no_values = neither
native_same R m (Some (Sink level)) vs ws (one_more v w xs ys (same_int z) no_values) = each _ _ (both_show m z)
native_same R m (Some (Sink level)) vs ws (one_more v w xs ys both_null no_values) = neither
native_same R m (Some (Sink level)) vs ws (one_more v w xs ys (renamed a b r) no_values) = neither
native_same R m (Some (Sink level)) vs ws (one_more v w xs ys (same_int z) (one_more x y cs ds q more)) = neither
native_same R m (Some (Sink level)) vs ws (one_more v w xs ys both_null (one_more x y cs ds q more)) = neither
native_same R m (Some (Sink level)) vs ws (one_more v w xs ys (renamed a b r) (one_more x y cs ds q more)) = neither
native_same R m (Some (Release from to)) vs ws no_values = neither
native_same R m (Some (Release from to)) vs ws (one_more v w xs ys (same_int z) no_values) = each _ _ (both_release m z)
native_same R m (Some (Release from to)) vs ws (one_more v w xs ys both_null no_values) = neither
native_same R m (Some (Release from to)) vs ws (one_more v w xs ys (renamed a b r) no_values) = neither
native_same R m (Some (Release from to)) vs ws (one_more v w xs ys (same_int z) (one_more x y cs ds q more)) = neither
native_same R m (Some (Release from to)) vs ws (one_more v w xs ys both_null (one_more x y cs ds q more)) = neither
native_same R m (Some (Release from to)) vs ws (one_more v w xs ys (renamed a b r) (one_more x y cs ds q more)) = neither

begun_same : {A B : Type 0} (R : A → B → Type 0) (a : A) (b : B) → R a b → (was : Bool) (run : Taken) → Same R (begun a was run) (begun b was run)
begun_same R a b r true run = each _ _ (both_fail SecondStart)
begun_same R a b r false (Code m) = each _ _ (both_begin a b m r)
begun_same R a b r false Start = neither
begun_same R a b r false Join = neither
begun_same R a b r false (Native m) = neither
begun_same R a b r false Nothing = neither

taken_same : {A B : Type 0} (R : A → B → Type 0) (one : Ways A) (other : Ways B) → IsRenaming R one other → (callee : Callee)
    (started : A → Bool) (begun_b : B → Bool) → ((a : A) (b : B) → R a b → started a ≡ begun_b b)
    → (taken : Taken) (vs : List (Value A)) (ws : List (Value B)) → RenamedValues R vs ws
    → Same R (by_taken callee one.info started taken vs) (by_taken callee other.info begun_b taken ws)
taken_same R one other is callee started begun_b flags (Code m) vs ws same = each _ _ (both_enter m vs ws same)
taken_same R one other is callee started begun_b flags Start vs ws no_values = neither
taken_same R one other is callee started begun_b flags Start vs ws (one_more v w xs ys (same_int z) no_values) = neither
taken_same R one other is callee started begun_b flags Start vs ws (one_more v w xs ys both_null no_values) = neither
taken_same R one other is callee started begun_b flags Start vs ws (one_more v w xs ys (renamed a b r) no_values) =
    rw (flags a b r, is.info a b r) (begun_same R a b r (begun_b b) (callee.run (other.info b)))
taken_same R one other is callee started begun_b flags Start vs ws (one_more v w xs ys (same_int z) (one_more x y cs ds q more)) = neither
taken_same R one other is callee started begun_b flags Start vs ws (one_more v w xs ys both_null (one_more x y cs ds q more)) = neither
taken_same R one other is callee started begun_b flags Start vs ws (one_more v w xs ys (renamed a b r) (one_more x y cs ds q more)) = neither
taken_same R one other is callee started begun_b flags Join vs ws no_values = neither
taken_same R one other is callee started begun_b flags Join vs ws (one_more v w xs ys (same_int z) no_values) = neither
taken_same R one other is callee started begun_b flags Join vs ws (one_more v w xs ys both_null no_values) = neither
taken_same R one other is callee started begun_b flags Join vs ws (one_more v w xs ys (renamed a b r) no_values) = each _ _ (both_join a b r)
taken_same R one other is callee started begun_b flags Join vs ws (one_more v w xs ys (same_int z) (one_more x y cs ds q more)) = neither
taken_same R one other is callee started begun_b flags Join vs ws (one_more v w xs ys both_null (one_more x y cs ds q more)) = neither
taken_same R one other is callee started begun_b flags Join vs ws (one_more v w xs ys (renamed a b r) (one_more x y cs ds q more)) = neither
taken_same R one other is callee started begun_b flags (Native m) vs ws same = native_same R m (callee.label m) vs ws same
taken_same R one other is callee started begun_b flags Nothing vs ws same = neither

received_same : {A B : Type 0} (R : A → B → Type 0) (one : Ways A) (other : Ways B) → IsRenaming R one other → (callee : Callee)
    (started : A → Bool) (begun_b : B → Bool) → ((a : A) (b : B) → R a b → started a ≡ begun_b b)
    → (vs : List (Value A)) (ws : List (Value B)) → RenamedValues R vs ws
    → Same R (by_receiver callee one.info started vs) (by_receiver callee other.info begun_b ws)
received_same R one other is callee started begun_b flags vs ws no_values = neither
received_same R one other is callee started begun_b flags vs ws (one_more v w xs ys (same_int z) more) = neither
received_same R one other is callee started begun_b flags vs ws (one_more v w xs ys both_null more) = each _ _ (both_fail NullBase)
received_same R one other is callee started begun_b flags vs ws (one_more v w xs ys (renamed a b r) more) =
    rw (is.info a b r) (by_test (callee.implements (other.info b)))
  where
    by_test : (test : Bool) → Same R
        (if test then by_taken callee one.info started (callee.taken (other.info b)) (ref a ∷ xs) else Some (fails MissingInterface))
        (if test then by_taken callee other.info begun_b (callee.taken (other.info b)) (ref b ∷ ys) else Some (fails MissingInterface))
    by_test true = taken_same R one other is callee started begun_b flags (callee.taken (other.info b)) _ _ (one_more _ _ _ _ (renamed a b r) more)
    by_test false = each _ _ (both_fail MissingInterface)

pub invoked_same : {A B : Type 0} (R : A → B → Type 0) (one : Ways A) (other : Ways B) → IsRenaming R one other → (callee : Callee)
    (started : A → Bool) (begun_b : B → Bool) → ((a : A) (b : B) → R a b → started a ≡ begun_b b)
    → (vs : List (Value A)) (ws : List (Value B)) → RenamedValues R vs ws
    → Same R (invoked callee one.info started vs) (invoked callee other.info begun_b ws)
invoked_same R one other is callee started begun_b flags vs ws same = by_test callee.has_receiver
  where
    by_test : (test : Bool) → Same R
        (if test then by_receiver callee one.info started vs else by_taken callee one.info started (callee.taken (object object_number)) vs)
        (if test then by_receiver callee other.info begun_b ws else by_taken callee other.info begun_b (callee.taken (object object_number)) ws)
    by_test true = received_same R one other is callee started begun_b flags vs ws same
    by_test false = taken_same R one other is callee started begun_b flags (callee.taken (object object_number)) vs ws same
