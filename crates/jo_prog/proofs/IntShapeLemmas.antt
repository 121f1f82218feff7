-- What the operations do to shapes whose places hold ints alone.
use Rattle.std.proofs.Common.{◌≡◌, ℕ, zero, suc, ◌+◌, ◌-◌, ◌<◌, ◌≤◌, Bool, true, false, List, ◌∷◌, length, map, replicate, set, Some, None, refl, ap, sym, ◌∙◌, arith, ltb}
use Rattle.std.specs.Prelude.{option_map}
use Rattle.std.proofs.lemmas.List.{map-set, length-map, replicate-append-replicate}
use Rattle.std.proofs.lemmas.Bool.{lt-ltb, cond-true}
use Rattle.jo_prog.specs.Typing.{Kind, Int, Unset, Shape, with_stack, pop_ints, push_ints, exchange, stored}
use Rattle.jo_prog.specs.IntShapes.{kind_of}

pub map-kind_of-replicate : (n : ℕ) → map kind_of (replicate n false) ≡ replicate n Unset
map-kind_of-replicate zero = refl
map-kind_of-replicate (suc n) = ap (λ ks. Unset ∷ ks) (map-kind_of-replicate n)

pop_ints-replicate : (n h : ℕ) → n ≤ h → pop_ints n (replicate h Int) ≡ Some (replicate (h - n) Int)
pop_ints-replicate zero h low = ap (λ k. Some (replicate k Int)) (omega arith)
pop_ints-replicate (suc n) zero low = absurd (omega (arith, low))
pop_ints-replicate (suc n) (suc h) low =
    pop_ints-replicate n h (omega (arith, low)) ∙ ap (λ k. Some (replicate k Int)) (omega arith)

pop_ints-short : (n h : ℕ) → h < n → pop_ints n (replicate h Int) ≡ None
pop_ints-short zero h short = absurd (omega (arith, short))
pop_ints-short (suc n) zero short = refl
pop_ints-short (suc n) (suc h) short = pop_ints-short n h (omega (arith, short))

-- an exchange on a stack of ints
pub exchange-ints : (pops pushes h : ℕ) (locals : List Kind) → pops ≤ h → exchange pops pushes (record { locals = locals; stack = replicate h Int }) ≡ Some (record { locals = locals; stack = replicate (h - pops + pushes) Int })
exchange-ints pops pushes h locals low =
    let s : Shape = record { locals = locals; stack = replicate h Int } in
    ap (λ o. option_map (λ stack. with_stack s (push_ints pushes stack)) o) (pop_ints-replicate pops h low)
    ∙ ap (λ stack. Some (with_stack s stack)) (replicate-append-replicate pushes (h - pops) Int ∙ ap (λ n. replicate n Int) (omega arith))

pub exchange-short : (pops pushes h : ℕ) (locals : List Kind) → h < pops → exchange pops pushes (record { locals = locals; stack = replicate h Int }) ≡ None
exchange-short pops pushes h locals short =
    let s : Shape = record { locals = locals; stack = replicate h Int } in
    ap (λ o. option_map (λ stack. with_stack s (push_ints pushes stack)) o) (pop_ints-short pops h short)

-- a store from a stack of ints
pub stored-ints : (k h : ℕ) (is_set : List Bool) → 0 < h → k < length is_set → stored k (record { locals = map kind_of is_set; stack = replicate h Int }) (replicate h Int) ≡ Some (record { locals = map kind_of (set is_set k true); stack = replicate (h - 1) Int })
stored-ints k zero is_set some inside = absurd (omega (arith, some))
stored-ints k (suc h) is_set some inside =
    let low : h ≡ suc h - 1 = omega arith in
    cond-true (ltb k (length (map kind_of is_set))) _ None (lt-ltb k _ (omega (arith, length-map is_set kind_of, inside)))
    ∙ ap (λ locals. Some (record { locals = locals; stack = replicate h Int })) (sym (map-set kind_of is_set k true))
    ∙ ap (λ n. Some (record { locals = map kind_of (set is_set k true); stack = replicate n Int })) low
