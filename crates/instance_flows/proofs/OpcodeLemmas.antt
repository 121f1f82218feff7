-- Where the base of an instruction stands that may raise an exception by an operand, by the table of opcodes.
use Rattle.std.specs.Prelude.{nat_le}
use Rattle.std.proofs.Common.{inl, inr, ◌≡◌, ℕ, ◌<◌, ◌≤◌, Bool, true, false, not, ◌||◌, ◌&&◌, ◌==◌, refl, sym, ◌∙◌, ap, subst, arith}
use Rattle.std.proofs.lemmas.Bool.{agree_below_at, both_ways, and_parts, eqb-true, leb-true, or_cases}
use Rattle.jo_prog.specs.declared.sites.Cause.{Cause}
use Rattle.jo_prog.specs.declared.sites.Cause.TheVariants.{ZeroDivisor, NullBase, FailingCast, WrongElement, NegativeLength, BadIndex, SecondStart, MissingInterface}
use Rattle.jo_prog.specs.Operations.{within}
use Rattle.jo_prog.specs.Sites.{may_raise, is_array_access}
use Rattle.dependence.specs.WideGraph.{is_call}
use Rattle.dependence.specs.NodePlaces.{stack_use_of}
use Rattle.dependence.specs.FlowGraph.{base_depth}

-- the base of an instruction that is no call is among what it reads from the stack
pub record ReadsBase (op : ℕ) : Type 0 where
  pub first : 1 ≤ base_depth op
  pub last : base_depth op ≤ (stack_use_of op).pops

-- and it is the top of the stack
pub record TakesTop (op : ℕ) : Type 0 where
  pub plain : is_call op ≡ false
  pub top : base_depth op ≡ 1

top_at : (k op : ℕ) → is_call k ≡ false → base_depth k ≡ 1 → (op == k) ≡ true → TakesTop op
top_at k op plain top e = let same : k ≡ op = sym (eqb-true op k e) in record { plain = subst (λ x. is_call x ≡ false) same plain; top = subst (λ x. base_depth x ≡ 1) same top }

pub zero_top : (op : ℕ) → may_raise ZeroDivisor op ≡ true → TakesTop op
zero_top op e = elim (or_cases (op == 108) (op == 112) e) [
  | inl a ↦ top_at 108 op refl refl a
  | inr b ↦ top_at 112 op refl refl b
]

pub length_top : (op : ℕ) → may_raise NegativeLength op ≡ true → TakesTop op
length_top op e = elim (or_cases (op == 188) (op == 189) e) [
  | inl a ↦ top_at 188 op refl refl a
  | inr b ↦ top_at 189 op refl refl b
]

pub cast_top : (op : ℕ) → may_raise FailingCast op ≡ true → TakesTop op
cast_top op e = top_at 192 op refl refl e

pub element_indexes : (op : ℕ) → may_raise WrongElement op ≡ true → may_raise BadIndex op ≡ true
element_indexes op e = subst (λ x. may_raise BadIndex x ≡ true) (sym (eqb-true op 83 e)) refl

call_at : (k op : ℕ) → is_call k ≡ true → (op == k) ≡ true → is_call op ≡ true
call_at k op call e = subst (λ x. is_call x ≡ true) (sym (eqb-true op k e)) call

pub start_calls : (op : ℕ) → may_raise SecondStart op ≡ true → is_call op ≡ true
start_calls op e = elim (or_cases (op == 182 || op == 183) (op == 185) e) [
  | inl more ↦ elim (or_cases (op == 182) (op == 183) more) [
    | inl a ↦ call_at 182 op refl a
    | inr b ↦ call_at 183 op refl b
  ]
  | inr c ↦ call_at 185 op refl c
]

pub interface_calls : (op : ℕ) → may_raise MissingInterface op ≡ true → is_call op ≡ true
interface_calls op e = call_at 185 op refl e

-- no cause is one of invokestatic
pub not_static : (cause : Cause) (op : ℕ) → may_raise cause 184 ≡ false → may_raise cause op ≡ true → (op == 184) ≡ false
not_static cause op quiet may = by_test (op == 184) refl
  where
    by_test : (b : Bool) → (op == 184) ≡ b → b ≡ false
    by_test true e = absurd (both_ways (may_raise cause op) (ap (may_raise cause) (eqb-true op 184 e) ∙ quiet) may)
    by_test false e = refl

-- ---- null bases

upto : (low high op : ℕ) → within low high op ≡ true → op ≤ high
upto low high op e = leb-true op high (and_parts (nat_le low op) (nat_le op high) e).1

upto_at : (k op : ℕ) → (op == k) ≡ true → op ≤ k
upto_at k op e = let same = eqb-true op k e in omega (arith, same)

access_below : (op : ℕ) → is_array_access op ≡ true → op < 256
access_below op e = elim (or_cases (op == 46 || within 50 53 op || op == 79) (within 83 86 op) e) [
  | inl more ↦ elim (or_cases (op == 46 || within 50 53 op) (op == 79) more) [
    | inl rest ↦ elim (or_cases (op == 46) (within 50 53 op) rest) [
      | inl a ↦ (let b = upto_at 46 op a in omega (arith, b))
      | inr a ↦ (let b = upto 50 53 op a in omega (arith, b))
    ]
    | inr a ↦ (let b = upto_at 79 op a in omega (arith, b))
  ]
  | inr a ↦ (let b = upto 83 86 op a in omega (arith, b))
]

below_all : (op : ℕ) → may_raise NullBase op ≡ true → op < 256
below_all op e = elim (or_cases (is_array_access op || within 180 183 op || op == 185) (within 190 191 op) e) [
  | inl more ↦ elim (or_cases (is_array_access op || within 180 183 op) (op == 185) more) [
    | inl rest ↦ elim (or_cases (is_array_access op) (within 180 183 op) rest) [
      | inl access ↦ access_below op access
      | inr a ↦ (let b = upto 180 183 op a in omega (arith, b))
    ]
    | inr a ↦ (let b = upto_at 185 op a in omega (arith, b))
  ]
  | inr a ↦ (let b = upto 190 191 op a in omega (arith, b))
]

tested : (a b c : Bool) → (not a || b || c) ≡ true → a ≡ true → b ≡ false → c ≡ true
tested true true c e may plain = absurd (cc)
tested true false c e may plain = e
tested false b c e may plain = absurd (cc)

pub null_reads : (op : ℕ) → may_raise NullBase op ≡ true → is_call op ≡ false → ReadsBase op
null_reads op may plain =
    let all : (not (may_raise NullBase op) || is_call op || nat_le 1 (base_depth op) && nat_le (base_depth op) (stack_use_of op).pops) ≡ true =
    agree_below_at (λ k. not (may_raise NullBase k) || is_call k || nat_le 1 (base_depth k) && nat_le (base_depth k) (stack_use_of k).pops) (λ k. true) 256 op refl (below_all op may)
    in
    let both = and_parts (nat_le 1 (base_depth op)) (nat_le (base_depth op) (stack_use_of op).pops) (tested (may_raise NullBase op) (is_call op) (nat_le 1 (base_depth op) && nat_le (base_depth op) (stack_use_of op).pops) all may plain) in
    record { first = leb-true 1 (base_depth op) both.0; last = leb-true (base_depth op) (stack_use_of op).pops both.1 }

top_read : (k op : ℕ) → 1 ≤ base_depth k → base_depth k ≤ (stack_use_of k).pops → (op == k) ≡ true → ReadsBase op
top_read k op first last e = let same : k ≡ op = sym (eqb-true op k e) in subst ReadsBase same (record { first = first; last = last })

pub zero_reads : (op : ℕ) → may_raise ZeroDivisor op ≡ true → ReadsBase op
zero_reads op e = elim (or_cases (op == 108) (op == 112) e) [
  | inl a ↦ top_read 108 op (omega arith) (omega arith) a
  | inr b ↦ top_read 112 op (omega arith) (omega arith) b
]

pub length_reads : (op : ℕ) → may_raise NegativeLength op ≡ true → ReadsBase op
length_reads op e = elim (or_cases (op == 188) (op == 189) e) [
  | inl a ↦ top_read 188 op (omega arith) (omega arith) a
  | inr b ↦ top_read 189 op (omega arith) (omega arith) b
]

pub cast_reads : (op : ℕ) → may_raise FailingCast op ≡ true → ReadsBase op
cast_reads op e = top_read 192 op (omega arith) (omega arith) e
