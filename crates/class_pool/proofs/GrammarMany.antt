-- Repeated items, one after another and behind their count: what is read is spelled so, and what is spelled so is read.
use Rattle.std.proofs.Common.{◌≡◌, ℕ, zero, suc, ◌^◌, ◌<◌, List, [], ◌∷◌, ◌++◌, length, Result, Ok, refl, sym, ap, subst, ◌∙◌}
use Rattle.jo_insn.proofs.Numbers.{AreBytes}
use Rattle.class_pool.specs.declared.faults.ClassFault.{ClassFault}
use Rattle.class_pool.specs.Items.{◌>>=◌, number, many}
use Rattle.class_pool.specs.ClassGrammar.{u2, SpellsEach, SpellsCounted}
use Rattle.class_pool.proofs.GrammarNumbers.{Takes, Yields, IsReadAs, ends, then_read, joined, split, step, SpellsNumber, number_read, number_again}

-- each item that is read is spelled so, and each that is spelled so is read
abbrev pub EachIsSpelled : {X : Type 0} → (List ℕ → Result (X × List ℕ) ClassFault) → (X → List ℕ → Type 0) → Type 0
EachIsSpelled read Spells = (rest : List ℕ) → AreBytes rest → IsReadAs Spells rest (read rest)

abbrev pub EachIsRead : {X : Type 0} → (List ℕ → Result (X × List ℕ) ClassFault) → (X → List ℕ → Type 0) → Type 0
EachIsRead {X} read Spells = (x : X) (rest text left : List ℕ) → rest ≡ text ++ left → Spells x text → read rest ≡ Ok (x, left)

-- so many items
abbrev pub SpellsMany : {X : Type 0} → (X → List ℕ → Type 0) → ℕ → List X → List ℕ → Type 0
SpellsMany Spells n xs text = SpellsEach Spells xs text × (length xs ≡ n)

pub counted : {X : Type 0} (Spells : X → List ℕ → Type 0) (xs : List X) {n : ℕ} {first : List ℕ} (items : List ℕ) → SpellsNumber 2 n first → SpellsEach Spells xs items → length xs ≡ n → SpellsCounted Spells xs (first ++ items)
counted Spells xs items (is, below) each many_are = (items, cc, subst (λ (n : ℕ). n < 2 ^ 16) (sym many_are) below, each)

module _ {X : Type 0} (read : List ℕ → Result (X × List ℕ) ClassFault) (Spells : X → List ℕ → Type 0) where
  pub many_read : EachIsSpelled read Spells → (n : ℕ) (rest : List ℕ) → AreBytes rest → IsReadAs (SpellsMany Spells n) rest (many read n rest)
  unfolding many
  many_read one zero rest bytes = ends (record { text = []; parts = refl; spells = (refl, refl); bytes = bytes })
  many_read one (suc n) rest bytes =
      then_read _ (one rest bytes) (λ x middle t. then_read _ (many_read one n middle t.bytes) (λ xs left u. ends (record {
        text = t.text ++ u.text;
        parts = joined _ _ _ t.parts u.parts;
        spells = ((t.text, u.text, refl, t.spells, u.spells.0), ap suc u.spells.1);
        bytes = u.bytes;
      })))

  pub many_again : EachIsRead read Spells → (xs : List X) (rest text left : List ℕ) → rest ≡ text ++ left → SpellsEach Spells xs text → many read (length xs) rest ≡ Ok (xs, left)
  unfolding many
  many_again one [] rest text left parts h = ap Ok (ap (λ (r : List ℕ). ([], r)) (parts ∙ ap (λ (t : List ℕ). t ++ left) h))
  many_again one (x ∷ xs) rest text left parts (first, others, both, spelled, more) =
      step _ (one x rest first (others ++ left) (split first others left parts both) spelled) (step _ (many_again one xs (others ++ left) others left refl more) refl)

  -- behind their count
  pub counted_read : EachIsSpelled read Spells → {B : Type 0} {P : B → Type 0} (size : ℕ) (rest : List ℕ) (more : List X × List ℕ → Result B ClassFault) → AreBytes rest
      → ((xs : List X) (left : List ℕ) → Takes (SpellsCounted Spells) rest xs left → Yields P (more (xs, left))) → Yields P (number size 2 rest >>= (λ count. many read count.0 count.1 >>= more))
  counted_read one size rest more bytes goes =
      then_read _ (number_read size 2 rest bytes) (λ count middle t.
      then_read more (many_read one count middle t.bytes) (λ xs left u. goes xs left (record {
        text = t.text ++ u.text;
        parts = joined _ _ _ t.parts u.parts;
        spells = counted Spells xs u.text t.spells u.spells.0 u.spells.1;
        bytes = u.bytes;
      })))

  pub counted_again : EachIsRead read Spells → {B : Type 0} (size : ℕ) (xs : List X) (rest text left : List ℕ) (more : List X × List ℕ → Result B ClassFault) {b : B} → rest ≡ text ++ left → SpellsCounted Spells xs text
      → more (xs, left) ≡ Ok b → (number size 2 rest >>= (λ count. many read count.0 count.1 >>= more)) ≡ Ok b
  counted_again one size xs rest text left more parts (items, both, few, spelled) is =
      step _ (number_again size 2 (length xs) (items ++ left) (split (u2 (length xs)) items left parts both) few) (step more (many_again one xs (items ++ left) items left refl spelled) is)
