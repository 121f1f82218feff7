-- Steps of reading: each stops with exactly the faults that the relations by items have there.
use Rattle.std.proofs.Common.{◌≡◌, ◌↔◌, ℕ, zero, suc, ◌+◌, ◌<◌, nat_lt, Bool, true, false, if◌then◌else◌, List, [], ◌∷◌, ◌++◌, length, drop, Option, Some, None, Result, Ok, Err, inl, inr, refl, sym, ap, subst, ◌∙◌, append_assoc, length-append, arith}
use Rattle.std.specs.Bool.{Decides}
use Rattle.std.proofs.lemmas.Bool.{true≢false}
use Rattle.std.proofs.lemmas.Bool.Decides.{Decides-ltb}
use Rattle.std.proofs.lemmas.List.{drop_at}
use Rattle.jo_insn.proofs.Numbers.{AreBytes, bytes_behind}
use Rattle.class_pool.specs.declared.faults.ClassCode.{ClassCode}
use Rattle.class_pool.specs.declared.faults.ClassCode.TheVariants.{Truncated}
use Rattle.class_pool.specs.declared.faults.ClassFault.{ClassFault}
use Rattle.class_pool.specs.Items.{◌>>=◌, fault, passing, number, bytes_of, two_numbers, many}
use Rattle.class_pool.specs.Pool.{first_failing}
use Rattle.class_pool.specs.ClassGrammar.{SpellsEach}
use Rattle.class_pool.specs.FirstFaultItems.{IsCut, Never, Check, fails, passes, Either, Item, stops, behind, SpellsNumber, SpellsBytes, OneStops, SpellsMany}
use Rattle.class_pool.proofs.Many.{with_front}
use Rattle.class_pool.proofs.GrammarNumbers.{Takes, IsReadAs, by_answer, joined, split, number_read, number_again, SpellsTwo, two_read, two_again, bytes_read, bytes_again}
use Rattle.class_pool.proofs.GrammarMany.{EachIsSpelled, EachIsRead, many_read, many_again}

-- reading stops with exactly these faults
pub record StopsBy {A : Type 0} (read : Result A ClassFault) (Stops : ClassFault → Type 0) : Type 0 where
  pub found : (f : ClassFault) → read ≡ Err f → Stops f
  pub again : (f : ClassFault) → Stops f → read ≡ Err f

-- a part that is read: what spells it, and how it stops
pub record Reads {X : Type 0} (read : List ℕ → Result (X × List ℕ) ClassFault) (Spells : X → List ℕ → Type 0) (Stops : List ℕ → ClassFault → Type 0) : Type 0 where
  pub spelled : EachIsSpelled read Spells
  pub spells : EachIsRead read Spells
  pub stopped : (rest : List ℕ) → AreBytes rest → StopsBy (read rest) (Stops rest)

pub never : {A : Type 0} {a : A} → StopsBy (Ok a) Never
never = record { found = λ f is. absurd (cc); again = λ f none. absurd none }

-- one fault alone
pub only : {A : Type 0} {g : ClassFault} → StopsBy {A = A} (Err g) (λ f. f ≡ g)
only = record { found = λ f is. cc; again = λ f is. ap Err (sym is) }

pub stops_as : {A : Type 0} {read : Result A ClassFault} {Stops Also : ClassFault → Type 0} → StopsBy read Stops → ((f : ClassFault) → Stops f ↔ Also f) → StopsBy read Also
stops_as first same = record { found = λ f is. (same f).0 (first.found f is); again = λ f is. first.again f ((same f).1 is) }

-- reading as something else that stops so
pub reads_as : {A : Type 0} {read other : Result A ClassFault} {Stops : ClassFault → Type 0} → read ≡ other → StopsBy other Stops → StopsBy read Stops
reads_as same first = record { found = λ f is. first.found f (sym same ∙ is); again = λ f is. same ∙ first.again f is }

-- where what is read is only put together
pub then_ok : {A B : Type 0} (read : Result A ClassFault) (made : A → B) {Stops : ClassFault → Type 0} → StopsBy read Stops → StopsBy (read >>= λ a. Ok (made a)) Stops
then_ok (Err g) made first = record { found = λ f is. let same : g ≡ f = cc in first.found f (ap Err same); again = λ f is. let same = first.again f is in cc }
then_ok (Ok a) made first = record { found = λ f is. absurd (cc); again = λ f is. let wrong = first.again f is in absurd (cc) }

-- a step fails, or it goes on
pub fails_first : {A B : Type 0} {read : Result A ClassFault} (more : A → Result B ClassFault) {f : ClassFault} → read ≡ Err f → (read >>= more) ≡ Err f
fails_first more failed = ap (λ (r : Result _ ClassFault). r >>= more) failed

pub goes_on : {A B : Type 0} {read : Result A ClassFault} (more : A → Result B ClassFault) {a : A} {r : Result B ClassFault} → read ≡ Ok a → more a ≡ r → (read >>= more) ≡ r
goes_on more given is = ap (λ (r : Result _ ClassFault). r >>= more) given ∙ is

-- ---- items

module _ {X B : Type 0} {Spells : X → List ℕ → Type 0} {Stops : List ℕ → ClassFault → Type 0} {Next : X → List ℕ → ClassFault → Type 0} {rest : List ℕ} where
  failed_item : {g : ClassFault} → ((x : X) (text left : List ℕ) → rest ≡ text ++ left → Spells x text → ◌≡◌ {A = Result (X × List ℕ) ClassFault} (Err g) (Ok (x, left)))
      → StopsBy {A = X × List ℕ} (Err g) (Stops rest) → (f : ClassFault) → Item Spells Stops rest Next f → ◌≡◌ {A = Result B ClassFault} (Err g) (Err f)
  failed_item spells first f (stops here) = let same = first.again f here in cc
  failed_item spells first f (behind x text left parts spelled next) = let wrong = spells x text left parts spelled in absurd (cc)

  read_item : {r : X × List ℕ} (more : X × List ℕ → Result B ClassFault) → ((a : X × List ℕ) → ◌≡◌ {A = Result (X × List ℕ) ClassFault} (Ok r) (Ok a) → Takes Spells rest a.0 a.1)
      → ((x : X) (text left : List ℕ) → rest ≡ text ++ left → Spells x text → ◌≡◌ {A = Result (X × List ℕ) ClassFault} (Ok r) (Ok (x, left)))
      → StopsBy {A = X × List ℕ} (Ok r) (Stops rest) → ((x : X) (left : List ℕ) → Takes Spells rest x left → StopsBy (more (x, left)) (Next x left)) → (f : ClassFault) → Item Spells Stops rest Next f → more r ≡ Err f
  read_item more takes spells first goes f (stops here) = let wrong = first.again f here in absurd (cc)
  read_item more takes spells first goes f (behind x text left parts spelled next) =
      let is = spells x text left parts spelled in
      let same : _ ≡ (x, left) = cc in
      ap more same ∙ (goes x left (takes (x, left) is)).again f next

  pub item : (read : Result (X × List ℕ) ClassFault) (more : X × List ℕ → Result B ClassFault) → IsReadAs Spells rest read → ((x : X) (text left : List ℕ) → rest ≡ text ++ left → Spells x text → read ≡ Ok (x, left))
      → StopsBy read (Stops rest) → ((x : X) (left : List ℕ) → Takes Spells rest x left → StopsBy (more (x, left)) (Next x left)) → StopsBy (read >>= more) (Item Spells Stops rest Next)
  item (Err g) more takes spells first goes = record { found = λ f is. stops (first.found f (let same : g ≡ f = cc in ap Err same)); again = failed_item spells first }
  item (Ok r) more takes spells first goes =
      let t = takes.takes r refl in
      record { found = λ f is. behind r.0 t.text r.1 t.parts t.spells ((goes r.0 r.1 t).found f is); again = read_item more takes.takes spells first goes }

pub part : {X B : Type 0} {read : List ℕ → Result (X × List ℕ) ClassFault} {Spells : X → List ℕ → Type 0} {Stops : List ℕ → ClassFault → Type 0} {Next : X → List ℕ → ClassFault → Type 0}
    → Reads read Spells Stops → (rest : List ℕ) → AreBytes rest → (more : X × List ℕ → Result B ClassFault)
    → ((x : X) (left : List ℕ) → Takes Spells rest x left → StopsBy (more (x, left)) (Next x left)) → StopsBy (read rest >>= more) (Item Spells Stops rest Next)
part {read = read} r rest bytes more goes = item (read rest) more (r.spelled rest bytes) (λ x text left. r.spells x rest text left) (r.stopped rest bytes) goes

-- ---- checks

failed_check : {A P : Type 0} {Next : ClassFault → Type 0} {code : ClassCode} {place : ℕ} → (P → ⊥) → (f : ClassFault) → Check P code place Next f → ◌≡◌ {A = Result A ClassFault} (Err (fault code place)) (Err f)
failed_check refuted f (fails _ is) = ap Err (sym is)
failed_check refuted f (passes holds _) = absurd (refuted holds)

passed_check : {A P : Type 0} {Next : ClassFault → Type 0} {code : ClassCode} {place : ℕ} {next : Result A ClassFault} → P → StopsBy next Next → (f : ClassFault) → Check P code place Next f → next ≡ Err f
passed_check holds goes f (fails refuted _) = absurd (refuted holds)
passed_check holds goes f (passes _ more) = goes.again f more

pub check : {A P : Type 0} {Next : ClassFault → Type 0} (code : ClassCode) (place : ℕ) {next : Result A ClassFault} (test : Bool) → Decides test P → (P → StopsBy next Next) → StopsBy (passing test code place next) (Check P code place Next)
check code place true decides goes = let holds = decides.0 refl in record { found = λ f is. passes holds ((goes holds).found f is); again = passed_check holds (goes holds) }
check {P = P} code place false decides goes = let refuted : P → ⊥ = λ holds. true≢false (sym (decides.1 holds)) in record { found = λ f is. fails refuted (cc); again = failed_check refuted }

-- questions in order, each with its code, all at one place
abbrev pub asked : Option ClassCode → ℕ → Result (Unit {0}) ClassFault
asked None place = Ok tt
asked (Some code) place = Err (fault code place)

pub ask : {P : Type 0} {Next : ClassFault → Type 0} (test : Bool) (code : ClassCode) (place : ℕ) (more : List (Bool × ClassCode)) → Decides test P → (P → StopsBy (asked (first_failing more) place) Next)
    → StopsBy (asked (first_failing ((test, code) ∷ more)) place) (λ f. Check P code place Next f)
ask true code place more decides goes = check code place true decides goes
ask false code place more decides goes = check code place false decides goes

pub by_question : {P : Type 0} (o : Option ClassCode) → (o ≡ None → P) → ((code : ClassCode) → o ≡ Some code → P) → P
by_question None passed failed = passed refl
by_question (Some code) passed failed = failed code refl

pub either_one : {A P : Type 0} {One Other : ClassFault → Type 0} {read : Result A ClassFault} → P → StopsBy read One → StopsBy read (Either P One Other)
either_one {P = P} {One = One} {Other = Other} {read = read} holds first = record { found = λ f is. inl (holds, first.found f is); again = back }
  where
    back : (f : ClassFault) → Either P One Other f → read ≡ Err f
    back f (inl (_, one)) = first.again f one
    back f (inr (refuted, _)) = absurd (refuted holds)

pub either_other : {A P : Type 0} {One Other : ClassFault → Type 0} {read : Result A ClassFault} → (P → ⊥) → StopsBy read Other → StopsBy read (Either P One Other)
either_other {P = P} {One = One} {Other = Other} {read = read} refuted first = record { found = λ f is. inr (refuted, first.found f is); again = back }
  where
    back : (f : ClassFault) → Either P One Other f → read ≡ Err f
    back f (inl (holds, _)) = absurd (refuted holds)
    back f (inr (_, other)) = first.again f other

-- ---- steps within steps

pub regroup : {A B C : Type 0} {Stops : ClassFault → Type 0} (read : Result A ClassFault) (more : A → Result B ClassFault) (last : B → Result C ClassFault)
    → StopsBy (read >>= λ a. more a >>= last) Stops → StopsBy ((read >>= more) >>= last) Stops
regroup (Err g) more last first = first
regroup (Ok a) more last first = first

pub regroup_check : {A B : Type 0} {Stops : ClassFault → Type 0} (test : Bool) (code : ClassCode) (place : ℕ) (next : Result A ClassFault) (last : A → Result B ClassFault)
    → StopsBy (passing test code place (next >>= last)) Stops → StopsBy (passing test code place next >>= last) Stops
regroup_check true code place next last first = first
regroup_check false code place next last first = first

-- ---- numbers and runs of bytes

cut_at : {A : Type 0} (size count : ℕ) (rest : List ℕ) (a : A) (test : Bool) → Decides test (length rest < count) → StopsBy (if test then Err (fault Truncated size) else Ok a) (IsCut size count rest)
cut_at size count rest a true decides = record { found = λ f is. (decides.0 refl, cc); again = λ f is. ap Err (sym is.1) }
cut_at size count rest a false decides = record { found = λ f is. absurd (cc); again = λ f is. absurd (true≢false (sym (decides.1 is.0))) }

pub cut : {A : Type 0} (size count : ℕ) (rest : List ℕ) (a : A) → StopsBy (if nat_lt (length rest) count then Err (fault Truncated size) else Ok a) (IsCut size count rest)
cut size count rest a = cut_at size count rest a (nat_lt (length rest) count) (Decides-ltb (length rest) count)

pub number_reads : (size k : ℕ) → Reads (number size k) (SpellsNumber k) (IsCut size k)
number_reads size k = record {
  spelled = number_read size k;
  spells = λ n rest text left parts h. number_again size k n left (parts ∙ ap (λ (t : List ℕ). t ++ left) h.0) h.1;
  stopped = λ rest bytes. cut size k rest _;
}

pub bytes_reads : (size count : ℕ) → Reads (bytes_of size count) (SpellsBytes count) (IsCut size count)
bytes_reads size count = record {
  spelled = bytes_read size count;
  spells = λ content rest text left parts h. subst (λ (n : ℕ). bytes_of size n rest ≡ Ok (content, left)) h.1 (bytes_again size content left (parts ∙ ap (λ (t : List ℕ). t ++ left) h.0));
  stopped = λ rest bytes. cut size count rest _;
}

-- bytes behind bytes, each with its own size, are cut where they are together
module _ {X : Type 0} {read : List ℕ → Result (X × List ℕ) ClassFault} {Spells : X → List ℕ → Type 0} (size a b : ℕ) (r : Reads read Spells (IsCut size a)) (long : (x : X) (text : List ℕ) → Spells x text → length text ≡ a) where
  joined_cut : (rest : List ℕ) (f : ClassFault) → Item Spells (IsCut size a) rest (λ x left. IsCut size b left) f → IsCut size (a + b) rest f
  joined_cut rest f (stops (short, is)) = (omega arith, is)
  joined_cut rest f (behind x text left parts spelled (short, is)) = (omega (arith, ap length parts, length-append text left, long x text spelled), is)

  pub cut_join : {B : Type 0} (rest : List ℕ) → AreBytes rest → (more : X × List ℕ → Result B ClassFault) → ((x : X) (left : List ℕ) → AreBytes left → StopsBy (more (x, left)) (IsCut size b left)) → StopsBy (read rest >>= more) (IsCut size (a + b) rest)
  cut_join rest bytes more goes =
      let parted = part {Next = λ x left. IsCut size b left} r rest bytes more (λ x left t. goes x left t.bytes) in
      record {
        found = λ f is. joined_cut rest f (parted.found f is);
        again = λ f short. by_answer (read rest)
            (λ g failed. let here = (r.stopped rest bytes).found g failed in fails_first more (failed ∙ ap Err (here.1 ∙ sym short.1)))
            (λ o given. let t = (r.spelled rest bytes).takes o given in goes_on more given ((goes o.0 o.1 t.bytes).again f (omega (arith, short.0, ap length t.parts, length-append t.text o.1, long o.0 t.text t.spells), short.1)));
      }

two_long : (n : ℕ) (text : List ℕ) → SpellsNumber 2 n text → length text ≡ 2
two_long n text (is, below) = ap length is

pub two_reads : (size : ℕ) → Reads (two_numbers size) SpellsTwo (IsCut size 4)
two_reads size = record {
  spelled = two_read size;
  spells = λ p rest text left parts h. two_again size p left (parts ∙ ap (λ (t : List ℕ). t ++ left) h.0) (h.1, h.2);
  stopped = λ rest bytes. cut_join size 2 2 (number_reads size 2) two_long rest bytes _ (λ x left b. then_ok _ _ (cut size 2 left _));
}

-- ---- so many items

-- what was read before, and what is read behind it
pub nothing_before : {X : Type 0} (read : Result (List X × List ℕ) ClassFault) → read ≡ with_front [] read
nothing_before (Ok o) = refl
nothing_before (Err f) = refl

pub front_of_both : {X : Type 0} (first others : List X) (read : Result (List X × List ℕ) ClassFault) → with_front first (with_front others read) ≡ with_front (first ++ others) read
front_of_both {X} first others (Ok o) = ap (λ (xs : List X). Ok (xs, o.1)) (sym (append_assoc first others o.0))
front_of_both first others (Err f) = refl

pub bytes_left : (rest text left : List ℕ) → rest ≡ text ++ left → AreBytes rest → AreBytes left
bytes_left rest text left parts bytes = subst AreBytes (ap (drop (length text)) parts ∙ drop_at text left (length text) refl) (bytes_behind (length text) rest bytes)

pub err_same : {A : Type 0} {g f : ClassFault} → ◌≡◌ {A = Result A ClassFault} (Err g) (Err f) → g ≡ f
err_same is = cc

pub err_inside : {A B : Type 0} (read : Result A ClassFault) (made : A → B) (f : ClassFault) → (read >>= λ a. Ok (made a)) ≡ Err f → read ≡ Err f
err_inside (Err g) made f is = let same : g ≡ f = cc in ap Err same
err_inside (Ok a) made f is = absurd (cc)

module _ {X : Type 0} {read : List ℕ → Result (X × List ℕ) ClassFault} {Spells : X → List ℕ → Type 0} {Stops : List ℕ → ClassFault → Type 0} (r : Reads read Spells Stops) where
  many_found : (n : ℕ) (rest : List ℕ) → AreBytes rest → (f : ClassFault) → many read n rest ≡ Err f → OneStops Spells (λ _. Stops) n rest f
  unfolding many
  many_found zero rest bytes f is = absurd (cc)
  many_found (suc n) rest bytes f is = by_answer (read rest)
      (λ g failed. let same : g ≡ f = err_same (rw failed at is) in record { before = []; text = []; left = rest; parts = refl; spelled = refl; fewer = omega arith; next = (r.stopped rest bytes).found f (failed ∙ ap Err same) })
      (λ o given.
      let t = (r.spelled rest bytes).takes o given in
      let later = many_found n o.1 t.bytes f (err_inside _ _ f (rw given at is)) in record {
        before = o.0 ∷ later.before;
        text = t.text ++ later.text;
        left = later.left;
        parts = joined _ _ _ t.parts later.parts;
        spelled = (t.text, later.text, refl, t.spells, later.spelled);
        fewer = omega (arith, later.fewer);
        next = later.next;
      })

  many_stops : (before : List X) (n : ℕ) (rest text left : List ℕ) (f : ClassFault) → AreBytes rest → rest ≡ text ++ left → SpellsEach Spells before text → length before < n → Stops left f → many read n rest ≡ Err f
  unfolding many
  many_stops before zero rest text left f bytes parts each fewer next = absurd (omega arith)
  many_stops [] (suc n) rest text left f bytes parts each fewer next =
      let here : rest ≡ left = parts ∙ ap (λ (t : List ℕ). t ++ left) each in
      fails_first _ ((r.stopped rest bytes).again f (subst (λ (l : List ℕ). Stops l f) (sym here) next))
  many_stops (x ∷ xs) (suc n) rest text left f bytes parts (first, others, both, one, each) fewer next =
      let at_others : rest ≡ first ++ (others ++ left) = split first others left parts both in
      goes_on _ (r.spells x rest first (others ++ left) at_others one)
      (fails_first _ (many_stops xs n (others ++ left) others left f (bytes_left rest first (others ++ left) at_others bytes) refl each (omega arith) next))

  pub many_reads : (n : ℕ) → Reads (many read n) (SpellsMany Spells n) (OneStops Spells (λ _. Stops) n)
  many_reads n = record {
    spelled = many_read read Spells r.spelled n;
    spells = λ xs rest text left parts h. subst (λ (k : ℕ). many read k rest ≡ Ok (xs, left)) h.1 (many_again read Spells r.spells xs rest text left parts h.0);
    stopped = λ rest bytes. record { found = many_found n rest bytes; again = λ f one. many_stops one.before n rest one.text one.left f bytes one.parts one.spelled one.fewer one.next };
  }
