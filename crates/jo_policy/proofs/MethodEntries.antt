-- The index of methods by their spellings.
use Rattle.std.proofs.Common.{◌≡◌, ℕ, ◌+◌, ◌<◌, ◌≤◌, ◌&&◌, get_or, suc, zero, Bool, true, false, cond, List, [], ◌∷◌, ◌++◌, length, drop, map, Option, Some, None, refl, sym, ap, ◌∙◌, subst, Vec, Global, arith, IfSome}
use Rattle.std.specs.Map.{lookup}
use Rattle.std.specs.Option.{is_some}
use Rattle.std.specs.Str.{bytes_eq}
use Rattle.std.proofs.lemmas.Slice.Eq.{bytes_eq-Decides}
use Rattle.std.proofs.lemmas.List.{drop_more}
use Rattle.indexmap.specs.IndexMap.{insert_entry}
use Rattle.jo_prog.specs.declared.program.Program.{Program}
use Rattle.jo_prog.specs.declared.program.Method.{Method}
use Rattle.jo_prog.specs.FileClasses.{is_of_files}
use Rattle.jo_prog.specs.Program.{method_at}
use Rattle.jo_prog.specs.Spelling.{spelled_in}
use Rattle.jo_policy.specs.FileMethods.{is_spelled, named_from, method_named, entry_in, entry_of, with_entry, with_method}
use Rattle.jo_policy.proofs.PolicyParts.{at_some, method_below}

-- ---- one look-up

found_first : (v : Bool) (entry : Vec ℕ Global × ℕ) (more other : Option ℕ) → more ≡ other → cond v (Some entry.1) more ≡ cond v (Some entry.1) other
found_first true entry more other h = refl
found_first false entry more other h = h

pub found : (entries : List (Vec ℕ Global × ℕ)) (text : List ℕ) → lookup (λ key. bytes_eq text key.items) entries ≡ entry_of (map entry_in entries) text
found [] text = refl
found (entry ∷ more) text = found_first (bytes_eq text entry.0.items) entry _ _ (found more text)

-- ---- one spelling more

abbrev pub inserted : List (Vec ℕ Global × ℕ) → Vec ℕ Global → ℕ → List (Vec ℕ Global × ℕ)
inserted entries key place = insert_entry (λ k other. bytes_eq k.items other.items) entries key place

one_more : (v : Bool) (entry : Vec ℕ Global × ℕ) (key : Vec ℕ Global) (place : ℕ) (entries : List (Vec ℕ Global × ℕ)) (found : Option ℕ)
    → (found ≡ None → map entry_in (inserted entries key place) ≡ map entry_in entries ++ (key.items, place) ∷ [])
    → cond v (Some entry.1) found ≡ None
    → map entry_in (cond v ((entry.0, place) ∷ entries) (entry ∷ inserted entries key place)) ≡ entry_in entry ∷ (map entry_in entries ++ (key.items, place) ∷ [])
one_more true entry key place entries found more h = absurd (cc)
one_more false entry key place entries found more h = ap (λ t. entry_in entry ∷ t) (more h)

added : (entries : List (Vec ℕ Global × ℕ)) (key : Vec ℕ Global) (place : ℕ) → entry_of (map entry_in entries) key.items ≡ None
    → map entry_in (inserted entries key place) ≡ map entry_in entries ++ (key.items, place) ∷ []
added [] key place h = refl
added (entry ∷ more) key place h = one_more (bytes_eq key.items entry.0.items) entry key place more (entry_of (map entry_in more) key.items) (added more key place) h

not_there : (found : Option ℕ) → is_some found ≡ false → found ≡ None
not_there None h = refl
not_there (Some x) h = absurd (cc)

pub spelling_added : (entries : List (Vec ℕ Global × ℕ)) (key : Vec ℕ Global) (place : ℕ) → is_some (entry_of (map entry_in entries) key.items) ≡ false
    → map entry_in (inserted entries key place) ≡ with_entry (map entry_in entries) key.items place
spelling_added entries key place h = rw h (added entries key place (not_there _ h))

-- ---- what the index finds, and what is still to come

-- the first, or else the second
abbrev pub or_else : Option ℕ → Option ℕ → Option ℕ
or_else None second = second
or_else (Some n) second = Some n

-- what is indexed so far, before the methods to come
pub record IsSoFar (program : Program) (entries : List (List ℕ × ℕ)) (n : ℕ) (rest : List Method) : Type 0 where
  pub finds : (text : List ℕ) → or_else (entry_of entries text) (named_from program text n rest) ≡ method_named program text

pub none_so_far : (program : Program) (entries : List (List ℕ × ℕ)) → entries ≡ [] → IsSoFar program entries 0 program.methods
none_so_far program entries none = record { finds = λ text. ap (λ es. or_else (entry_of es text) (named_from program text 0 program.methods)) none }

last_of : (b : Bool) (n : ℕ) (found second : Option ℕ) → or_else (cond b (Some n) found) second ≡ cond b (Some n) (or_else found second)
last_of true n found second = refl
last_of false n found second = refl

behind_them : (entries : List (List ℕ × ℕ)) (spelling text : List ℕ) (n : ℕ) (rest : Option ℕ)
    → or_else (entry_of (entries ++ (spelling, n) ∷ []) text) rest ≡ or_else (entry_of entries text) (cond (bytes_eq text spelling) (Some n) rest)
behind_them [] spelling text n rest = last_of (bytes_eq text spelling) n None rest
behind_them (entry ∷ entries) spelling text n rest =
    last_of (bytes_eq text entry.0) entry.1 _ rest ∙ ap (λ found. cond (bytes_eq text entry.0) (Some entry.1) found) (behind_them entries spelling text n rest)
    ∙ sym (last_of (bytes_eq text entry.0) entry.1 _ _)

there_already : (found : Option ℕ) (b : Bool) (n : ℕ) (rest : Option ℕ) → (b ≡ true → is_some found ≡ true) → or_else found (cond b (Some n) rest) ≡ or_else found rest
there_already None true n rest h = let e : false ≡ true = h refl in absurd (cc)
there_already None false n rest h = refl
there_already (Some m) b n rest h = refl

with_entry-else : (b : Bool) (entries : List (List ℕ × ℕ)) (spelling text : List ℕ) (n : ℕ) (rest : Option ℕ) → is_some (entry_of entries spelling) ≡ b
    → or_else (entry_of (cond b entries (entries ++ (spelling, n) ∷ [])) text) rest ≡ or_else (entry_of entries text) (cond (bytes_eq text spelling) (Some n) rest)
with_entry-else true entries spelling text n rest h =
    sym (there_already (entry_of entries text) (bytes_eq text spelling) n rest (λ same. subst (λ t. is_some (entry_of entries t) ≡ true) (sym ((bytes_eq-Decides text spelling).0 same)) h))
with_entry-else false entries spelling text n rest h = behind_them entries spelling text n rest

by_files : (b : Bool) (program : Program) (old : List (List ℕ × ℕ)) (n : ℕ) (method : Method) (text : List ℕ) (rest : Option ℕ)
    → or_else (entry_of (cond b (with_entry old (spelled_in program (Some method)) n) old) text) rest ≡ or_else (entry_of old text) (cond (b && bytes_eq text (spelled_in program (Some method))) (Some n) rest)
by_files true program old n method text rest = with_entry-else (is_some (entry_of old (spelled_in program (Some method)))) old (spelled_in program (Some method)) text n rest refl
by_files false program old n method text rest = refl

one_indexed : (program : Program) (old new : List (List ℕ × ℕ)) (n : ℕ) (method : Method) (rest : List Method) → IsSoFar program old n (method ∷ rest)
    → new ≡ with_method program old method n → IsSoFar program new (suc n) rest
one_indexed program old new n method rest so_far is = record {
  finds = λ text.
      ap (λ entries. or_else (entry_of entries text) (named_from program text (suc n) rest)) is
      ∙ by_files (is_of_files program method) program old n method text (named_from program text (suc n) rest)
      ∙ so_far.finds text;
}

-- one method more
pub next_indexed : (program : Program) (old new : List (List ℕ × ℕ)) (i : ℕ) (method : Method) (methods : List Method) → methods ≡ program.methods → i < length methods
    → method ≡ get_or methods i method → IsSoFar program old i (drop i program.methods) → new ≡ with_method program old method i
    → IsSoFar program new (i + 1) (drop (i + 1) program.methods)
next_indexed program old new i method methods same below at so_far is =
    let inside : i < length program.methods = subst (λ (ms : List Method). i < length ms) same below in
    let there : get_or program.methods i method ≡ method = sym (at ∙ ap (λ (ms : List Method). get_or ms i method) same) in
    let next : drop i program.methods ≡ method ∷ drop (i + 1) program.methods = drop_more program.methods i method inside ∙ ap (λ m. m ∷ drop (i + 1) program.methods) there in
    let before : IsSoFar program old i (method ∷ drop (i + 1) program.methods) = subst (λ ms. IsSoFar program old i ms) next so_far in
    let e : suc i ≡ i + 1 = omega arith in
    subst (λ n. IsSoFar program new n (drop (i + 1) program.methods)) e
    (one_indexed program old new i method (drop (i + 1) program.methods) before is)

or_none : (found : Option ℕ) → or_else found None ≡ found
or_none None = refl
or_none (Some n) = refl

none_left : (methods : List Method) (i : ℕ) → length methods ≤ i → drop i methods ≡ []
none_left [] zero h = refl
none_left [] (suc i) h = refl
none_left (m ∷ ms) zero h = absurd (omega arith)
none_left (m ∷ ms) (suc i) h = none_left ms i (omega arith)

pub all_indexed : (program : Program) (entries : List (List ℕ × ℕ)) (i : ℕ) (methods : List Method) → methods ≡ program.methods → length methods ≤ i
    → IsSoFar program entries i (drop i program.methods) → (text : List ℕ) → entry_of entries text ≡ method_named program text
all_indexed program entries i methods same past so_far text =
    let inside : length program.methods ≤ i = subst (λ (ms : List Method). length ms ≤ i) same past in
    sym (or_none (entry_of entries text)) ∙ ap (λ (ms : List Method). or_else (entry_of entries text) (named_from program text i ms)) (sym (none_left program.methods i inside)) ∙ so_far.finds text

-- ---- numbers

below_by : (b : Bool) (n end : ℕ) (more : Option ℕ) → n < end → IfSome more (λ m. m < end) → IfSome (cond b (Some n) more) (λ m. m < end)
below_by true n end more h rest = h
below_by false n end more h rest = rest

pub named_from-below : (program : Program) (text : List ℕ) (n end : ℕ) (methods : List Method) → n + length methods ≡ end
    → IfSome (named_from program text n methods) (λ m. m < end)
named_from-below program text n end [] e = tt
named_from-below program text n end (method ∷ methods) e =
    below_by (is_spelled program text method) n end _ (omega arith) (named_from-below program text (suc n) end methods (omega arith))

pub no_missing : (program : Program) (text : List ℕ) (n : ℕ) → method_named program text ≡ Some n → None ≡ method_at program n → ⊥
no_missing program text n named missing =
    let below : n < length program.methods = at_some (λ m. m < length program.methods) (method_named program text) n
    (named_from-below program text 0 (length program.methods) program.methods (omega arith)) named in
    let (method, found) = method_below program.methods n below in
    absurd (cc)
