-- Ways to the first node of a set that is closed under control dependence.
use Rattle.std.proofs.Common.{◌≡◌, ◌≢◌, ◌⊎◌, inl, inr, refl, sym, ◌∙◌, subst}
use Rattle.jo_ids.specs.Path.{Path, stays, goes}
use Rattle.dependence.specs.Dependence.{Controls}
use Rattle.control_dep.specs.Ways.{IsClosed, Way, here, on, WayOut, out, past, HasOneSuccessorEach}

module _ {N : Type 0} (E : N → N → Type 0) (IsExit S : N → Type 0) (compared : (a b : N) → (a ≡ b) ⊎ (a ≢ b)) where
  way_end : (x n : N) → Way E S x n → S n
  way_end _ _ (here n chosen) = chosen
  way_end _ _ (on x y n free edge way) = way_end y n way

  way_path : (x n : N) → Way E S x n → Path E x n
  way_path _ _ (here n chosen) = stays n
  way_path _ _ (on x y n free edge way) = goes x y n edge (way_path y n way)

  -- a node before the end with another successor would control the end, and be in the set
  one_only : IsClosed E IsExit S → (x y n : N) → (S x → ⊥) → E x y → Way E S y n → (z : N) → E x z → z ≡ y
  one_only closed x y n free edge way z other = elim (compared z y) [
    | inl same ↦ same
    | inr differ ↦ absurd (free (closed.controllers x n (way_end y n way) (controls differ)))
  ]
    where
      controls : z ≢ y → Controls E IsExit x n
      controls differ = record {
        one = z;
        other = y;
        to_one = other;
        to_other = edge;
        differ = differ;
        first = y;
        leads = edge;
        path = way_path y n way;
        no_exit = closed.no_exit n (way_end y n way);
      }

  pub one_successor : IsClosed E IsExit S → (x n : N) (way : Way E S x n) → HasOneSuccessorEach E S x n way
  one_successor closed _ _ (here n chosen) = tt
  one_successor closed _ _ (on x y n free edge way) = (one_only closed x y n free edge way, one_successor closed y n way)

  stays_there : (n other : N) → S n → Way E S n other → other ≡ n
  stays_there _ _ chosen (here n also) = refl
  stays_there _ _ chosen (on x y n free edge way) = absurd (free chosen)

  -- a way from a node outside the set goes on by one of its successors
  goes_on_by : (P : N → N → Type 0) (x other : N) → (S x → ⊥) → Way E S x other → ((z : N) → E x z → Way E S z other → P x other) → P x other
  goes_on_by P _ _ free (here n chosen) next = absurd (free chosen)
  goes_on_by P _ _ free (on x y n also edge way) next = next y edge way

  pub one_next : IsClosed E IsExit S → (x n other : N) → Way E S x n → Way E S x other → other ≡ n
  one_next closed _ _ other (here n chosen) second = stays_there n other chosen second
  one_next closed _ _ other (on x y n free edge way) second =
      goes_on_by (λ a b. b ≡ n) x other free second
      (λ z leads rest. one_next closed y n other way (subst (λ k. Way E S k other) (one_only closed x y n free edge way z leads) rest))

  not_out : ((a b : N) → IsExit a → E a b → ⊥) → (x y o : N) → E x y → WayOut E IsExit S x o → ((z : N) → E x z → WayOut E IsExit S z o → ⊥) → ⊥
  not_out nowhere _ y _ edge (out n ends free) next = nowhere n y ends edge
  not_out nowhere _ y _ edge (past x z n free leads rest) next = next z leads rest

  in_set : (x o : N) → S x → WayOut E IsExit S x o → ⊥
  in_set _ _ chosen (out n ends free) = free chosen
  in_set _ _ chosen (past x z n free leads rest) = free chosen

  pub no_way_out : ((a b : N) → IsExit a → E a b → ⊥) → IsClosed E IsExit S → (x n o : N) → Way E S x n → WayOut E IsExit S x o → ⊥
  no_way_out nowhere closed _ _ o (here n chosen) leaves = in_set n o chosen leaves
  no_way_out nowhere closed _ _ o (on x y n free edge way) leaves =
      not_out nowhere x y o edge leaves (λ z leads rest. no_way_out nowhere closed y n o way (subst (λ k. WayOut E IsExit S k o) (one_only closed x y n free edge way z leads) rest))
