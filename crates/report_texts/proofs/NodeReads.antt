-- Nodes are read whole, each up to the end of its line.
use Rattle.std.proofs.Common.{◌≡◌, inl, inr, ℕ, Bool, true, List, [], ◌∷◌, ◌++◌, map, refl, sym, ap, ◌∙◌, subst, append_assoc, append-nil}
use Rattle.std.specs.Prelude.{codes}
use Rattle.report_texts.specs.NodeTexts.{IsNameText, IsSomeName, IsNumberText, IsContext, kinds, AreNumbers, IsKind, IsNodeText}
use Rattle.report_texts.specs.Parts.{Is, Joined, IsOneOf}
use Rattle.report_texts.specs.Reading.{closing, closed, closed_kinds, numbers_line, kind_line, node_line, level_line}
use Rattle.report_texts.specs.declared.words.Numbers.{Numbers}
use Rattle.report_texts.specs.declared.words.Numbers.TheVariants.{Zero, One, Two}
use Rattle.report_texts.proofs.NameReads.{Begins, ends_name, good_name, good_some_name}
use Rattle.report_texts.proofs.NumberReads.{ends_number, good_number}
use Rattle.report_texts.proofs.SiteReads.{nothing_read}
use Rattle.report_texts.proofs.ContextReads.{good_context}
use Rattle.report_texts.proofs.AmongReads.{Apart, OneOf, apart_by_test, good_one_of}
use Rattle.report_texts.proofs.Steps.{Any, Good, good_word, good_then, good_like, regroup, ungroup}

-- what begins with a word's byte
begins_so : (test : ℕ → Bool) (b : ℕ) (others : List ℕ) → test b ≡ true → {Q : List ℕ → Type 0} (x k : List ℕ) → Joined (Is (b ∷ others)) Q x → Begins test (x ++ k)
begins_so test b others holds x k j = subst (λ (t : List ℕ). Begins test (t ++ k)) (sym (j.parts ∙ ap (λ (t : List ℕ). t ++ j.rest) j.first)) holds

is_so : (test : ℕ → Bool) (b : ℕ) (others : List ℕ) → test b ≡ true → (x k : List ℕ) → Is (b ∷ others) x → Begins test (x ++ k)
is_so test b others holds x k is = subst (λ (t : List ℕ). Begins test (t ++ k)) (sym is) holds

-- ---- the numbers of a kind

abbrev Ends : List ℕ → Type 0
Ends text = Is (codes "\n") text

abbrev Rest : Numbers → List ℕ → Type 0
Rest Zero text = Is [] text
Rest One text = Joined IsNumberText Ends text
Rest Two text = Joined IsNumberText (Joined (Is (codes " ")) (Joined IsNumberText Ends)) text

good_rest : (numbers : Numbers) → Good Any (Rest numbers) (numbers_line numbers)
unfolding numbers_line
good_rest Zero = nothing_read
good_rest One = good_then good_number (good_word (codes "\n")) (λ q k is h. is_so ends_number 10 [] refl q k is)
good_rest Two = good_then good_number (good_then (good_word (codes " ")) (good_then good_number (good_word (codes "\n")) (λ q k is h. is_so ends_number 10 [] refl q k is)) (λ q k j h. tt)) (λ q k j h. begins_so ends_number 32 [] refl q k j)

-- a kind's text and a line feed, as a word up to its closing byte and the rest
to_closed : (numbers : Numbers) (w y : List ℕ) → AreNumbers numbers y → (z : List ℕ) × Rest numbers z × ((w ++ y) ++ codes "\n" ≡ (w ++ closing numbers) ++ z)
to_closed Zero w y none = ([], refl, ap (λ (t : List ℕ). (w ++ t) ++ codes "\n") none ∙ ap (λ (t : List ℕ). t ++ codes "\n") (append-nil w) ∙ sym (append-nil (w ++ codes "\n")))
to_closed One w y j =
    let is : y ≡ 32 ∷ j.rest = j.parts ∙ ap (λ (t : List ℕ). t ++ j.rest) j.first in (
      j.rest ++ codes "\n",
      record { front = j.rest; rest = codes "\n"; parts = refl; first = j.second; second = refl },
      ap (λ (t : List ℕ). (w ++ t) ++ codes "\n") is ∙ append_assoc w (32 ∷ j.rest) (codes "\n") ∙ sym (append_assoc w (codes " ") (j.rest ++ codes "\n")),
    )
to_closed Two w y j =
    let n = j.second.front in
    let m = j.second.second.rest in
    let inner : j.rest ≡ n ++ 32 ∷ m = j.second.parts ∙ ap (λ (t : List ℕ). n ++ t) (j.second.second.parts ∙ ap (λ (t : List ℕ). t ++ m) j.second.second.first) in
    let is : y ≡ 32 ∷ (n ++ 32 ∷ m) = j.parts ∙ ap (λ (t : List ℕ). t ++ j.rest) j.first ∙ ap (λ (t : List ℕ). 32 ∷ t) inner in (
      n ++ 32 ∷ (m ++ codes "\n"),
      record {
        front = n;
        rest = 32 ∷ (m ++ codes "\n");
        parts = refl;
        first = j.second.first;
        second = record { front = codes " "; rest = m ++ codes "\n"; parts = refl; first = refl; second = record { front = m; rest = codes "\n"; parts = refl; first = j.second.second.second; second = refl } };
      },
      ap (λ (t : List ℕ). (w ++ t) ++ codes "\n") is ∙ append_assoc w (32 ∷ (n ++ 32 ∷ m)) (codes "\n") ∙ ap (λ (t : List ℕ). w ++ 32 ∷ t) (append_assoc n (32 ∷ m) (codes "\n"))
          ∙ sym (append_assoc w (codes " ") (n ++ 32 ∷ (m ++ codes "\n"))),
    )

from_closed : (numbers : Numbers) (w z : List ℕ) → Rest numbers z → (y : List ℕ) × AreNumbers numbers y × ((w ++ closing numbers) ++ z ≡ (w ++ y) ++ codes "\n")
from_closed Zero w z none = ([], refl, ap (λ (t : List ℕ). (w ++ codes "\n") ++ t) none ∙ append-nil (w ++ codes "\n") ∙ ap (λ (t : List ℕ). t ++ codes "\n") (sym (append-nil w)))
from_closed One w z j =
    let is : z ≡ j.front ++ codes "\n" = j.parts ∙ ap (λ (t : List ℕ). j.front ++ t) j.second in (
      32 ∷ j.front,
      record { front = codes " "; rest = j.front; parts = refl; first = refl; second = j.first },
      ap (λ (t : List ℕ). (w ++ codes " ") ++ t) is ∙ append_assoc w (codes " ") (j.front ++ codes "\n") ∙ sym (append_assoc w (32 ∷ j.front) (codes "\n")),
    )
from_closed Two w z j =
    let n = j.front in
    let m = j.second.second.front in
    let inner : j.rest ≡ 32 ∷ (m ++ codes "\n") =
    j.second.parts ∙ ap (λ (t : List ℕ). t ++ j.second.rest) j.second.first ∙ ap (λ (t : List ℕ). 32 ∷ t) (j.second.second.parts ∙ ap (λ (t : List ℕ). m ++ t) j.second.second.second) in
    let is : z ≡ n ++ 32 ∷ (m ++ codes "\n") = j.parts ∙ ap (λ (t : List ℕ). n ++ t) inner in (
      32 ∷ (n ++ 32 ∷ m),
      record { front = codes " "; rest = n ++ 32 ∷ m; parts = refl; first = refl; second = record { front = n; rest = 32 ∷ m; parts = refl; first = j.first; second = record { front = codes " "; rest = m; parts = refl; first = refl; second = j.second.second.first } } },
      ap (λ (t : List ℕ). (w ++ codes " ") ++ t) is ∙ append_assoc w (codes " ") (n ++ 32 ∷ (m ++ codes "\n")) ∙ ap (λ (t : List ℕ). w ++ 32 ∷ t) (sym (append_assoc n (32 ∷ m) (codes "\n")))
          ∙ sym (append_assoc w (32 ∷ (n ++ 32 ∷ m)) (codes "\n")),
    )

-- ---- kinds

pub to_map : {A B : Type 0} (f : A → B) (xs : List A) (x : A) → IsOneOf xs x → IsOneOf (map f xs) (f x)
to_map f [] x there = there
to_map f (y ∷ ys) x (inl is) = inl (ap f is)
to_map f (y ∷ ys) x (inr there) = inr (to_map f ys x there)

pub from_map : {A B : Type 0} (f : A → B) (xs : List A) (y : B) → IsOneOf (map f xs) y → (x : A) × IsOneOf xs x × (y ≡ f x)
from_map f [] y there = absurd there
from_map f (x ∷ xs) y (inl is) = (x, inl refl, is)
from_map f (x ∷ xs) y (inr there) = let found = from_map f xs y there in (found.0, inr found.1, found.2)

abbrev KindLine : List ℕ → Type 0
KindLine text = Joined IsKind Ends text

to_kind : (x : List ℕ) → OneOf closed_kinds Rest x → KindLine x
unfolding closed_kinds
to_kind x o =
    let found = from_map closed kinds o.0 o.1 in
    let kind = found.0 in
    let rest : Rest kind.1 o.2.rest = subst (λ (r : List ℕ × Numbers). Rest r.1 o.2.rest) found.2 o.2.second in
    let back = from_closed kind.1 kind.0 o.2.rest rest in
    let whole : x ≡ (kind.0 ++ closing kind.1) ++ o.2.rest = o.2.parts ∙ ap (λ (t : List ℕ). t ++ o.2.rest) (o.2.first ∙ ap (λ (r : List ℕ × Numbers). r.0) found.2) in
    record {
      front = kind.0 ++ back.0;
      rest = codes "\n";
      parts = whole ∙ back.2;
      first = (kind, found.1, record { front = kind.0; rest = back.0; parts = refl; first = refl; second = back.1 });
      second = refl;
    }

from_kind : (x : List ℕ) → KindLine x → OneOf closed_kinds Rest x
unfolding closed_kinds
from_kind x j =
    let kind = j.first.0 in
    let inner = j.first.2 in
    let there = to_closed kind.1 kind.0 inner.rest inner.second in
    let front : j.front ≡ kind.0 ++ inner.rest = inner.parts ∙ ap (λ (t : List ℕ). t ++ inner.rest) inner.first in (
      closed kind,
      to_map closed kinds kind j.first.1,
      record {
        front = kind.0 ++ closing kind.1;
        rest = there.0;
        parts = j.parts ∙ ap (λ (t : List ℕ). j.front ++ t) j.second ∙ ap (λ (t : List ℕ). t ++ codes "\n") front ∙ there.2;
        first = refl;
        second = there.1;
      },
    )

kinds_apart : Apart closed_kinds
unfolding closed_kinds
kinds_apart = apart_by_test closed_kinds refl

good_kind : Good Any KindLine kind_line
unfolding kind_line closed_kinds
good_kind = good_like to_kind from_kind (good_one_of closed_kinds Rest kinds_apart numbers_line good_rest (codes "entry\n", Zero) (inl refl))

-- ---- nodes and levels

abbrev pub NodeLine : List ℕ → Type 0
NodeLine text = Joined IsNodeText Ends text

abbrev pub LevelLine : List ℕ → Type 0
LevelLine text = Joined IsNameText Ends text

second_as : {P Q R : List ℕ → Type 0} → ((x : List ℕ) → Q x → R x) → (x : List ℕ) → Joined P Q x → Joined P R x
second_as to x j = record { front = j.front; rest = j.rest; parts = j.parts; first = j.first; second = to j.rest j.second }

abbrev Spaced : List ℕ → Type 0
Spaced text = Is (codes " ") text

abbrev InTurn : List ℕ → Type 0
InTurn text = Joined IsSomeName (Joined Spaced (Joined IsContext (Joined Spaced KindLine))) text

to_node : (x : List ℕ) → InTurn x → NodeLine x
to_node x j = regroup IsSomeName (Joined Spaced (Joined IsContext (Joined Spaced IsKind))) Ends
    (second_as (λ y k. regroup Spaced (Joined IsContext (Joined Spaced IsKind)) Ends
    (second_as (λ z l. regroup IsContext (Joined Spaced IsKind) Ends (second_as (λ v m. regroup Spaced IsKind Ends m) z l)) y k)) x j)

from_node : (x : List ℕ) → NodeLine x → InTurn x
from_node x j = second_as (λ y k. second_as (λ z l. second_as (λ v m. ungroup Spaced IsKind Ends m) z (ungroup IsContext (Joined Spaced IsKind) Ends l)) y (ungroup Spaced (Joined IsContext (Joined Spaced IsKind)) Ends k)) x
    (ungroup IsSomeName (Joined Spaced (Joined IsContext (Joined Spaced IsKind))) Ends j)

pub good_node : Good Any NodeLine node_line
unfolding node_line
good_node = good_like to_node from_node
    (good_then good_some_name (good_then (good_word (codes " ")) (good_then good_context (good_then (good_word (codes " ")) good_kind (λ q k j h. tt)) (λ q k j h. tt)) (λ q k j h. tt))
    (λ q k j h. begins_so ends_name 32 [] refl q k j))

pub good_level : Good Any LevelLine level_line
unfolding level_line
good_level = good_then good_name (good_word (codes "\n")) (λ q k is h. is_so ends_name 10 [] refl q k is)
