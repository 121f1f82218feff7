-- Numbers and runs of bytes: what is read is spelled so, and what is spelled so is read, whatever follows.
use Rattle.std.proofs.Common.{◌≡◌, ℕ, ◌^◌, ◌<◌, ◌≤◌, Bool, true, false, if◌then◌else◌, List, ◌++◌, length, take, Result, Ok, Err, refl, sym, ap, subst, ◌∙◌, append_assoc, arith}
use Rattle.std.proofs.lemmas.Bool.{ltb-false, le-ltb}
use Rattle.std.proofs.lemmas.List.{take_at, drop_at, take-append-drop, length-append, length-take-le}
use Rattle.byteorder.specs.Endian.{big_bytes, big_number}
use Rattle.byteorder.specs.Numbers.{big_from-lt, big_number-reads_back, length-bytes_high_first}
use Rattle.jo_insn.proofs.Numbers.{AreBytes, bytes_behind, bytes_of_number}
use Rattle.class_pool.specs.declared.faults.ClassCode.{ClassCode}
use Rattle.class_pool.specs.declared.faults.ClassFault.{ClassFault}
use Rattle.class_pool.specs.Items.{◌>>=◌, passing, number, bytes_of, two_numbers}
use Rattle.class_pool.specs.ClassGrammar.{u2}

-- ---- what is shown of a reader

-- these bytes spell x, and `left` follows them
pub record Takes {X : Type 0} (Spells : X → List ℕ → Type 0) (rest : List ℕ) (x : X) (left : List ℕ) : Type 0 where
  pub text : List ℕ
  pub parts : rest ≡ text ++ left
  pub spells : Spells x text
  pub bytes : AreBytes left

-- of what is given, P holds
pub record Yields {A : Type 0} (P : A → Type 0) (read : Result A ClassFault) : Type 0 where
  pub takes : (a : A) → read ≡ Ok a → P a

-- what is read is spelled so
abbrev pub IsReadAs : {X : Type 0} → (X → List ℕ → Type 0) → List ℕ → Result (X × List ℕ) ClassFault → Type 0
IsReadAs {X} Spells rest read = Yields (λ (r : X × List ℕ). Takes Spells rest r.0 r.1) read

pub yields : {A : Type 0} {P : A → Type 0} {a : A} → P a → Yields P (Ok a)
yields {P = P} holds = record { takes = λ b is. subst P (cc is) holds }

pub ends : {X : Type 0} {Spells : X → List ℕ → Type 0} {rest : List ℕ} {x : X} {left : List ℕ} → Takes Spells rest x left → IsReadAs Spells rest (Ok (x, left))
ends {Spells = Spells} {rest = rest} t = yields {P = λ (r : _). Takes Spells rest r.0 r.1} t

pub fails : {A : Type 0} {P : A → Type 0} {f : ClassFault} → Yields P (Err f)
fails = record { takes = λ a is. absurd (cc) }

-- by cases of a step
pub by_answer : {A P : Type 0} (read : Result A ClassFault) → ((f : ClassFault) → read ≡ Err f → P) → ((a : A) → read ≡ Ok a → P) → P
by_answer (Err f) failed goes = failed f refl
by_answer (Ok a) failed goes = goes a refl

-- a step, and what follows it
pub after : {A B : Type 0} {P : B → Type 0} (read : Result A ClassFault) (more : A → Result B ClassFault) → ((a : A) → read ≡ Ok a → Yields P (more a)) → Yields P (read >>= more)
after (Err f) more goes = fails
after (Ok a) more goes = goes a refl

pub then_read : {X B : Type 0} {Spells : X → List ℕ → Type 0} {rest : List ℕ} {P : B → Type 0} {read : Result (X × List ℕ) ClassFault} (more : X × List ℕ → Result B ClassFault)
    → IsReadAs Spells rest read → ((x : X) (left : List ℕ) → Takes Spells rest x left → Yields P (more (x, left))) → Yields P (read >>= more)
then_read {read = read} more first goes = after read more (λ r is. goes r.0 r.1 (first.takes r is))

pub when : {A : Type 0} {P : A → Type 0} (test : Bool) (code : ClassCode) (place : ℕ) {next : Result A ClassFault} → (test ≡ true → Yields P next) → Yields P (passing test code place next)
when true code place goes = goes refl
when false code place goes = fails

pub either : {A : Type 0} {P : A → Type 0} (test : Bool) {this other : Result A ClassFault} → (test ≡ true → Yields P this) → (test ≡ false → Yields P other) → Yields P (if test then this else other)
either true this_one other_one = this_one refl
either false this_one other_one = other_one refl

pub yields_more : {A : Type 0} {P Q : A → Type 0} {read : Result A ClassFault} → Yields P read → ((a : A) → P a → Q a) → Yields Q read
yields_more first as_well = record { takes = λ a is. as_well a (first.takes a is) }

-- the same bytes, spelled as something else
pub reads_more : {X : Type 0} {First Spells : X → List ℕ → Type 0} {rest : List ℕ} {read : Result (X × List ℕ) ClassFault} → IsReadAs First rest read
    → ((x : X) (text : List ℕ) → First x text → Spells x text) → IsReadAs Spells rest read
reads_more first as_well = yields_more first (λ r t. record { text = t.text; parts = t.parts; spells = as_well r.0 t.text t.spells; bytes = t.bytes })

-- one run of bytes behind another
pub joined : {rest middle : List ℕ} (text more left : List ℕ) → rest ≡ text ++ middle → middle ≡ more ++ left → rest ≡ (text ++ more) ++ left
joined text more left first second = first ∙ ap (λ (r : List ℕ). text ++ r) second ∙ sym (append_assoc text more left)

-- a run of two parts, and what is behind it
pub split : {rest text : List ℕ} (first more left : List ℕ) → rest ≡ text ++ left → text ≡ first ++ more → rest ≡ first ++ (more ++ left)
split first more left parts both = parts ∙ ap (λ (t : List ℕ). t ++ left) both ∙ append_assoc first more left

-- a step that reads a, and what follows it
pub step : {A B : Type 0} {read : Result A ClassFault} (more : A → Result B ClassFault) {a : A} {b : B} → read ≡ Ok a → more a ≡ Ok b → (read >>= more) ≡ Ok b
step more first second = ap (λ (r : Result _ ClassFault). r >>= more) first ∙ second

pub pass : {A : Type 0} {test : Bool} (code : ClassCode) (place : ℕ) {next : Result A ClassFault} {x : A} → test ≡ true → next ≡ Ok x → passing test code place next ≡ Ok x
pass code place {next = next} passed is = ap (λ (t : Bool). passing t code place next) passed ∙ is

-- ---- numbers

-- the bytes are those of the number
abbrev pub SpellsNumber : ℕ → ℕ → List ℕ → Type 0
SpellsNumber k n text = (text ≡ big_bytes k n) × (n < 256 ^ k)

pub number_read : (size k : ℕ) (rest : List ℕ) → AreBytes rest → IsReadAs (SpellsNumber k) rest (number size k rest)
number_read size k rest bytes = either _ (λ short. fails) (λ enough. ends (record {
  text = big_bytes k (big_number k rest);
  parts = bytes_of_number k rest bytes (ltb-false (length rest) k enough);
  spells = (refl, big_from-lt 0 k rest bytes);
  bytes = bytes_behind k rest bytes;
}))

pub number_again : (size k n : ℕ) {rest : List ℕ} (left : List ℕ) → rest ≡ big_bytes k n ++ left → n < 256 ^ k → number size k rest ≡ Ok (n, left)
number_again size k n left parts below =
    let head = length-bytes_high_first k n in
    let enough : k ≤ length (big_bytes k n ++ left) = omega (arith, length-append (big_bytes k n) left) in
    ap (number size k) parts ∙ rw (le-ltb (length (big_bytes k n ++ left)) k enough, big_number-reads_back k n left below, drop_at (big_bytes k n) left k head) refl

-- ---- two numbers

abbrev pub SpellsTwo : ℕ × ℕ → List ℕ → Type 0
SpellsTwo p text = (text ≡ u2 p.0 ++ u2 p.1) × (p.0 < 2 ^ 16) × (p.1 < 2 ^ 16)

pub two_read : (size : ℕ) (rest : List ℕ) → AreBytes rest → IsReadAs SpellsTwo rest (two_numbers size rest)
two_read size rest bytes =
    then_read _ (number_read size 2 rest bytes) (λ a middle t. then_read _ (number_read size 2 middle t.bytes) (λ b left u. ends (record {
      text = t.text ++ u.text;
      parts = joined _ _ _ t.parts u.parts;
      spells = (cc, t.spells.1, u.spells.1);
      bytes = u.bytes;
    })))

pub two_again : (size : ℕ) (p : ℕ × ℕ) {rest : List ℕ} (left : List ℕ) → rest ≡ u2 p.0 ++ u2 p.1 ++ left → (p.0 < 2 ^ 16) × (p.1 < 2 ^ 16) → two_numbers size rest ≡ Ok (p, left)
two_again size p left parts small =
    step _ (number_again size 2 p.0 (u2 p.1 ++ left) parts small.0) (step _ (number_again size 2 p.1 left refl small.1) refl)

-- ---- so many bytes

abbrev pub SpellsBytes : ℕ → List ℕ → List ℕ → Type 0
SpellsBytes count content text = (text ≡ content) × (length content ≡ count)

pub bytes_read : (size count : ℕ) (rest : List ℕ) → AreBytes rest → IsReadAs (SpellsBytes count) rest (bytes_of size count rest)
bytes_read size count rest bytes = either _ (λ short. fails) (λ enough. ends (record {
  text = take count rest;
  parts = sym (take-append-drop count rest);
  spells = (refl, length-take-le count rest (ltb-false (length rest) count enough));
  bytes = bytes_behind count rest bytes;
}))

pub bytes_again : (size : ℕ) (content : List ℕ) {rest : List ℕ} (left : List ℕ) → rest ≡ content ++ left → bytes_of size (length content) rest ≡ Ok (content, left)
bytes_again size content left parts =
    let enough : length content ≤ length (content ++ left) = omega (arith, length-append content left) in
    ap (bytes_of size (length content)) parts
    ∙ rw (le-ltb (length (content ++ left)) (length content) enough, take_at content left (length content) refl, drop_at content left (length content) refl) refl
