-- Parts of a text read one behind the other: what is read is the only way to read it, and where a part breaks off, no
-- text goes on with the next byte.
use Rattle.std.proofs.Common.{◌≡◌, ℕ, Bool, true, false, cond, List, [], ◌∷◌, ◌++◌, Ok, Err, refl, sym, ap, ◌∙◌, subst, append_assoc, arith}
use Rattle.std.specs.Prelude.{◌==◌}
use Rattle.std.proofs.lemmas.List.{append_cancel_left}
use Rattle.std.proofs.lemmas.Bool.Decides.{nat_tests}
use Rattle.report_texts.specs.Parts.{Is, Joined}
use Rattle.report_texts.specs.Reading.{Left, ◌>>=◌, word}

-- the texts go on alike: with one byte, or both end
abbrev pub Alike : List ℕ → List ℕ → Type 0
Alike [] [] = Unit {0}
Alike [] (b ∷ other) = ⊥
Alike (a ∷ one) [] = ⊥
Alike (a ∷ one) (b ∷ other) = a ≡ b

pub alike_same : (text : List ℕ) → Alike text text
alike_same [] = tt
alike_same (a ∷ rest) = refl

pub alike_behind : (front one other : List ℕ) → Alike one other → Alike (front ++ one) (front ++ other)
alike_behind [] one other alike = alike
alike_behind (a ∷ front) one other alike = refl

-- ---- one part, with what may stand behind it

-- the part is the front, and cannot be read otherwise
pub record Goes (P K : List ℕ → Type 0) (text rest : List ℕ) : Type 0 where
  pub front : List ℕ
  pub parts : text ≡ front ++ rest
  pub is : P front
  pub alone : (x k more : List ℕ) → Alike more rest → P x → K k → x ++ k ≡ front ++ more → x ≡ front

-- the front begins such a text, and with the next byte it begins none
pub record Stops (P K : List ℕ → Type 0) (text rest : List ℕ) : Type 0 where
  pub front : List ℕ
  pub parts : text ≡ front ++ rest
  pub more : List ℕ
  pub goes : Joined P K (front ++ more)
  pub none : (x k more : List ℕ) → Alike more rest → P x → K k → x ++ k ≡ front ++ more → ⊥

abbrev pub Reads : (List ℕ → Type 0) → (List ℕ → Type 0) → List ℕ → Left → Type 0
Reads P K text (Ok rest) = Goes P K text rest
Reads P K text (Err rest) = Stops P K text rest

-- ---- two parts

module _ (P Q K : List ℕ → Type 0) where
  pub regroup : {text : List ℕ} → Joined P (Joined Q K) text → Joined (Joined P Q) K text
  regroup j = record {
    front = j.front ++ j.second.front;
    rest = j.second.rest;
    parts = j.parts ∙ ap (λ (t : List ℕ). j.front ++ t) j.second.parts ∙ sym (append_assoc j.front j.second.front j.second.rest);
    first = record { front = j.front; rest = j.second.front; parts = refl; first = j.first; second = j.second.first };
    second = j.second.second;
  }

  pub ungroup : {text : List ℕ} → Joined (Joined P Q) K text → Joined P (Joined Q K) text
  ungroup j = record {
    front = j.first.front;
    rest = j.first.rest ++ j.rest;
    parts = j.parts ∙ ap (λ (t : List ℕ). t ++ j.rest) j.first.parts ∙ append_assoc j.first.front j.first.rest j.rest;
    first = j.first.first;
    second = record { front = j.first.rest; rest = j.rest; parts = refl; first = j.first.second; second = j.second };
  }

  apart : {x text : List ℕ} (k : List ℕ) (p : Joined P Q x) → x ++ k ≡ text → p.front ++ (p.rest ++ k) ≡ text
  apart k p is = sym (append_assoc p.front p.rest k) ∙ ap (λ (t : List ℕ). t ++ k) (sym p.parts) ∙ is

  behind : {x : List ℕ} (k : List ℕ) (p : Joined P Q x) → K k → Joined Q K (p.rest ++ k)
  behind k p h = record { front = p.rest; rest = k; parts = refl; first = p.second; second = h }

  stops_first : {text rest : List ℕ} → Stops P (Joined Q K) text rest → Stops (Joined P Q) K text rest
  stops_first s = record {
    front = s.front;
    parts = s.parts;
    more = s.more;
    goes = regroup s.goes;
    none = λ x k more alike p h is. s.none p.front (p.rest ++ k) more alike p.first (behind k p h) (apart k p is);
  }

  module _ {text rest : List ℕ} (after : List ℕ) (f : Goes P (Joined Q K) text rest) where
    module _ (front : List ℕ) (parts : rest ≡ front ++ after) where
      both : text ≡ (f.front ++ front) ++ after
      both = f.parts ∙ ap (λ (t : List ℕ). f.front ++ t) parts ∙ sym (append_assoc f.front front after)

      module _ (x k more : List ℕ) (alike : Alike more after) (p : Joined P Q x) (h : K k) (is : x ++ k ≡ (f.front ++ front) ++ more) where
        whole : p.front ++ (p.rest ++ k) ≡ f.front ++ (front ++ more)
        whole = apart k p (is ∙ append_assoc f.front front more)

        one : p.front ≡ f.front
        one =
            let near : Alike (front ++ more) rest = subst (λ (t : List ℕ). Alike (front ++ more) t) (sym parts) (alike_behind front more after alike) in
            f.alone p.front (p.rest ++ k) (front ++ more) near p.first (behind k p h) whole

        left : p.rest ++ k ≡ front ++ more
        left = append_cancel_left f.front _ _ (ap (λ (t : List ℕ). t ++ (p.rest ++ k)) (sym one) ∙ whole)

    goes_second : Goes Q K rest after → Goes (Joined P Q) K text after
    goes_second g = record {
      front = f.front ++ g.front;
      parts = both g.front g.parts;
      is = record { front = f.front; rest = g.front; parts = refl; first = f.is; second = g.is };
      alone = λ x k more alike p h is.
          let first = one g.front g.parts x k more alike p h is in
          let second = g.alone p.rest k more alike p.second h (left g.front g.parts x k more alike p h is) in
          p.parts ∙ ap (λ (t : List ℕ). t ++ p.rest) first ∙ ap (λ (t : List ℕ). f.front ++ t) second;
    }

    stops_second : Stops Q K rest after → Stops (Joined P Q) K text after
    stops_second s = record {
      front = f.front ++ s.front;
      parts = both s.front s.parts;
      more = s.more;
      goes = regroup (record { front = f.front; rest = s.front ++ s.more; parts = append_assoc f.front s.front s.more; first = f.is; second = s.goes });
      none = λ x k more alike p h is. s.none p.rest k more alike p.second h (left s.front s.parts x k more alike p h is);
    }

  then_reads : {text rest : List ℕ} (next : Left) → Goes P (Joined Q K) text rest → Reads Q K rest next → Reads (Joined P Q) K text next
  then_reads (Ok after) f g = goes_second after f g
  then_reads (Err after) f s = stops_second after f s

  pub in_turn : (text : List ℕ) (read : Left) (next : List ℕ → Left) → Reads P (Joined Q K) text read → ((rest : List ℕ) → Reads Q K rest (next rest)) → Reads (Joined P Q) K text (read >>= next)
  in_turn text (Ok rest) next f g = then_reads (next rest) f (g rest)
  in_turn text (Err rest) next s g = stops_first s

-- ---- readers, where what stands behind is such

pub record Good (F P : List ℕ → Type 0) (read : List ℕ → Left) : Type 1 where
  pub some : List ℕ
  pub is_some : P some
  pub reads : (K : List ℕ → Type 0) → ((k : List ℕ) → K k → F k) → (k : List ℕ) → K k → (text : List ℕ) → Reads P K text (read text)

pub good_then : {F G P Q : List ℕ → Type 0} {read next : List ℕ → Left} → Good F P read → Good G Q next → ((q k : List ℕ) → Q q → G k → F (q ++ k)) → Good G (Joined P Q) (λ text. read text >>= next)
good_then {F} {G} {P} {Q} {read} {next} p q follows = record {
  some = p.some ++ q.some;
  is_some = record { front = p.some; rest = q.some; parts = refl; first = p.is_some; second = q.is_some };
  reads = λ K fits k is text.
      let behind : Joined Q K (q.some ++ k) = record { front = q.some; rest = k; parts = refl; first = q.is_some; second = is } in
      in_turn P Q K text (read text) next
      (p.reads (Joined Q K) (λ t j. subst F (sym j.parts) (follows j.front j.rest j.first (fits j.rest j.second))) (q.some ++ k) behind text)
      (λ rest. q.reads K fits k is rest);
}

reads_like : (P Q K : List ℕ → Type 0) → ((x : List ℕ) → P x → Q x) → ((x : List ℕ) → Q x → P x) → (text : List ℕ) (read : Left) → Reads P K text read → Reads Q K text read
reads_like P Q K to from text (Ok rest) g = record { front = g.front; parts = g.parts; is = to g.front g.is; alone = λ x k more alike q h is. g.alone x k more alike (from x q) h is }
reads_like P Q K to from text (Err rest) s = record {
  front = s.front;
  parts = s.parts;
  more = s.more;
  goes = record { front = s.goes.front; rest = s.goes.rest; parts = s.goes.parts; first = to s.goes.front s.goes.first; second = s.goes.second };
  none = λ x k more alike q h is. s.none x k more alike (from x q) h is;
}

pub good_like : {F P Q : List ℕ → Type 0} {read : List ℕ → Left} → ((x : List ℕ) → P x → Q x) → ((x : List ℕ) → Q x → P x) → Good F P read → Good F Q read
good_like {P = P} {Q = Q} {read = read} to from p = record {
  some = p.some;
  is_some = to p.some p.is_some;
  reads = λ K fits k is text. reads_like P Q K to from text (read text) (p.reads K fits k is text);
}

-- ---- a word

abbrev pub Any : List ℕ → Type 0
Any text = Unit {0}

pub no_more : {a : ℕ} {x : List ℕ} (more : List ℕ) → Alike more [] → a ∷ x ≡ more → ⊥
no_more [] alike is = absurd (cc)
no_more (b ∷ more) alike is = alike

pub other_byte : {a b : ℕ} {x : List ℕ} (more rest : List ℕ) → Alike more (b ∷ rest) → a ∷ x ≡ more → a ≡ b
other_byte [] rest alike is = absurd alike
other_byte (c ∷ more) rest alike is = cc

module _ (K : List ℕ → Type 0) (k : List ℕ) (behind_is : K k) where
  breaks : (a : ℕ) (others rest : List ℕ) → ((x more : List ℕ) → Alike more rest → a ∷ x ≡ more → ⊥) → Stops (Is (a ∷ others)) K rest rest
  breaks a others rest wrong = record {
    front = [];
    parts = refl;
    more = a ∷ others ++ k;
    goes = record { front = a ∷ others; rest = k; parts = refl; first = refl; second = behind_is };
    none = λ x k more alike p h is. wrong (others ++ k) more alike (ap (λ (t : List ℕ). t ++ k) (sym p) ∙ is);
  }

  longer : (a : ℕ) (others text : List ℕ) (read : Left) → Reads (Is others) K text read → Reads (Is (a ∷ others)) K (a ∷ text) read
  longer a others text (Ok rest) g = record {
    front = a ∷ g.front;
    parts = ap (λ (t : List ℕ). a ∷ t) g.parts;
    is = ap (λ (t : List ℕ). a ∷ t) g.is;
    alone = λ x k more alike p h is. p ∙ ap (λ (t : List ℕ). a ∷ t) (sym g.is);
  }
  longer a others text (Err rest) s = record {
    front = a ∷ s.front;
    parts = ap (λ (t : List ℕ). a ∷ t) s.parts;
    more = s.more;
    goes = record { front = a ∷ s.goes.front; rest = s.goes.rest; parts = ap (λ (t : List ℕ). a ∷ t) s.goes.parts; first = ap (λ (t : List ℕ). a ∷ t) s.goes.first; second = s.goes.second };
    none = λ x k more alike p h is.
        let e : a ∷ (others ++ k) ≡ a ∷ (s.front ++ more) = ap (λ (t : List ℕ). t ++ k) (sym p) ∙ is in
        s.none others k more alike refl h (cc);
  }

  word_reads : (w text : List ℕ) → Reads (Is w) K text (word w text)
  unfolding word
  word_reads [] text = record { front = []; parts = refl; is = refl; alone = λ x k more alike p h is. p }
  word_reads (a ∷ others) [] = breaks a others [] (λ x more alike is. no_more more alike is)
  word_reads (a ∷ others) (b ∷ text) = by (word_reads others text) (b == a) refl
    where
      by : Reads (Is others) K text (word others text) → (test : Bool) → (b == a) ≡ test → Reads (Is (a ∷ others)) K (b ∷ text) (cond test (word others text) (Err (b ∷ text)))
      by inner true same =
          let is : a ≡ b = grind (arith, nat_tests) in
          subst (λ (c : ℕ). Reads (Is (a ∷ others)) K (c ∷ text) (word others text)) is (longer a others text (word others text) inner)
      by inner false apart = breaks a others (b ∷ text) (λ x more alike is. let same : a ≡ b = other_byte more text alike is in absurd (grind (arith, nat_tests)))

pub good_word : (w : List ℕ) → Good Any (Is w) (word w)
good_word w = record { some = w; is_some = refl; reads = λ K fits k is text. word_reads K k is w text }
