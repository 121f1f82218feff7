-- The pairs of a lookupswitch, one after another.
use Rattle.std.proofs.Common.{◌≡◌, ℕ, zero, suc, ◌+◌, ◌-◌, ◌<◌, ◌≤◌, List, [], ◌∷◌, ◌++◌, length, take, drop, get_or, refl, sym, ap, ◌∙◌, append_assoc, add-one, drop-cons, arith}
use Rattle.std.specs.Prelude.{ℤ, pos}
use Rattle.std.proofs.lemmas.List.{append-nil, length-map, take_all}
use Rattle.std.specs.Fmt.{signed_decimal}
use Rattle.byteorder.specs.Endian.{big_number, twos_complement}
use Rattle.jo_insn.specs.declared.instructions.Insn.TheVariants.{LookupSwitch}
use Rattle.jo_insn.specs.Jumps.{offsets_of, targets_of}
use Rattle.class_dis.specs.Words.{spaced, label}
use Rattle.class_dis.specs.Listing.{pair_words, lookup_words}

abbrev pub pair_text : List ℕ → ℤ → List ℕ
pair_text table target = spaced (signed_decimal (twos_complement 4 (big_number 4 table)) ∷ label target ∷ [])

split_pair : (table : List ℕ) (target : ℤ) (rest : List (List ℕ)) → spaced (signed_decimal (twos_complement 4 (big_number 4 table)) ∷ label target ∷ rest) ≡ pair_text table target ++ spaced rest
split_pair table target rest = split (32 ∷ signed_decimal (twos_complement 4 (big_number 4 table))) (32 ∷ label target) (spaced rest)
  where
    split : (a b d : List ℕ) → a ++ (b ++ d) ≡ (a ++ (b ++ [])) ++ d
    split a b d = ap (λ (x : List ℕ). a ++ (x ++ d)) (sym (append-nil b)) ∙ sym (append_assoc a (b ++ []) d)

-- an iteration of the loop over the targets, at index i
pub pair_spelled : (table : List ℕ) (targets : List ℤ) (i : ℕ) (d : ℤ) (before now all : List ℕ) → i < length targets → now ≡ before ++ pair_text table (get_or targets i d)
    → before ++ spaced (pair_words table (drop i targets)) ≡ all → now ++ spaced (pair_words (drop 8 table) (drop (i + 1) targets)) ≡ all
pair_spelled table targets i d before now all more is so_far =
    let target : ℤ = get_or targets i d in
    let rest : List (List ℕ) = pair_words (drop 8 table) (drop (i + 1) targets) in
    let next : drop i targets ≡ target ∷ drop (i + 1) targets = rw (add-one, drop-cons targets i d) refl in
    ap (λ (text : List ℕ). text ++ spaced rest) is ∙ append_assoc before (pair_text table target) (spaced rest)
    ∙ ap (λ (text : List ℕ). before ++ text) (sym (split_pair table target rest)) ∙ sym (ap (λ (these : List ℤ). before ++ spaced (pair_words table these)) next) ∙ so_far

-- the first target and the ones behind it
pub lookup_split : (table : List ℕ) (targets : List ℤ) → 1 ≤ length targets → lookup_words table targets ≡ label (get_or targets 0 (pos 0)) ∷ pair_words table (take (length targets - 1) (drop 1 targets))
lookup_split table [] some = absurd (omega arith)
lookup_split table (target ∷ more) some =
    let all : take (length (target ∷ more) - 1) more ≡ more = take_all (length (target ∷ more) - 1) more (omega arith) in
    ap (λ (these : List ℤ). label target ∷ pair_words table these) (sym all)

-- ---- how many targets a lookupswitch has

length_offsets : (n step : ℕ) (table : List ℕ) → length (offsets_of n step table) ≡ n
length_offsets zero step table = refl
length_offsets (suc n) step table = let rest = length_offsets n step (drop step table) in omega arith

pub lookup_targets : (code : List ℕ) (pc pairs at : ℕ) (other : ℤ) → length (targets_of code pc (LookupSwitch other pairs at)) ≡ pairs + 1
lookup_targets code pc pairs at other =
    let offsets : List ℤ = offsets_of pairs 8 (drop (at + 4) code) in
    let many = length_offsets pairs 8 (drop (at + 4) code) in
    simp length-map (omega arith)
