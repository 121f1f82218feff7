use Rattle.std.proofs.Common.{◌≡◌, ℕ, ◌||◌, length, subst, sym, ap, ◌∙◌}
use Rattle.std.proofs.lemmas.Bool.{OnFalse_from, OnFalse_at}
use Rattle.std.proofs.lemmas.List.{with_items_is}
use Rattle.jo_ids.specs.Rows.{in_words, row_of, IsUnion, FitsLength, IsNewIn}
use Rattle.jo_ids.proofs.JoinLemmas.{words_match, fits_after, union_after, new_after, new_before}
use Rattle.jo_ids.proofs.rows.BitRow.union_from.Goals as goal

pub join_words-requires : goal.join_words-requires
join_words-requires c =
    let r = c.self.inside in
    let o = c.other.inside in
    ap length c.as_mut_slice.ensures.value
    ∙ words_match r.words.items o.words.items r.words.items r.len o.len c.args.self.now c.args.other.now c.self.invariant c.other.invariant c.self.view_is c.other.view_is c.requires
    ∙ sym (ap length c.as_slice.ensures.value)

pub invariant_of-self : goal.invariant_of-self
invariant_of-self c =
    let r = c.self.inside in
    let o = c.other.inside in
    let ws = c.join_words.new.words in
    let same : length ws ≡ length r.words.items = c.join_words.auto.words ∙ ap length c.as_mut_slice.ensures.value in
    let joined : (i : ℕ) → in_words ws i ≡ (in_words r.words.items i || in_words o.words.items i) =
    λ i. c.join_words.ensures.joined i ∙ ap (λ t. in_words t i || in_words c.as_slice.result.now i) c.as_mut_slice.ensures.value ∙ ap (λ t. in_words r.words.items i || in_words t i) c.as_slice.ensures.value in
    subst (λ t. FitsLength t r.len) (sym (with_items_is r.words ws (same ∙ sym r.words.ok.0)))
    (fits_after r.words.items o.words.items ws r.len o.len c.args.self.now c.args.other.now c.self.invariant c.other.invariant c.self.view_is c.other.view_is c.requires same joined)

pub returns-clause-union : goal.returns-clause-union
returns-clause-union c =
    let r = c.self.inside in
    let o = c.other.inside in
    let ws = c.join_words.new.words in
    let same : length ws ≡ length r.words.items = c.join_words.auto.words ∙ ap length c.as_mut_slice.ensures.value in
    let joined : (i : ℕ) → in_words ws i ≡ (in_words r.words.items i || in_words o.words.items i) =
    λ i. c.join_words.ensures.joined i ∙ ap (λ t. in_words t i || in_words c.as_slice.result.now i) c.as_mut_slice.ensures.value ∙ ap (λ t. in_words r.words.items i || in_words t i) c.as_slice.ensures.value in
    subst (λ t. IsUnion c.args.self.now c.args.other.now (row_of t r.len)) (sym (with_items_is r.words ws (same ∙ sym r.words.ok.0)))
    (union_after r.words.items o.words.items ws r.len o.len c.args.self.now c.args.other.now c.self.invariant c.other.invariant c.self.view_is c.other.view_is c.requires same joined)

pub returns-clause-added : goal.returns-clause-added
returns-clause-added c =
    let r = c.self.inside in
    let o = c.other.inside in
    let first = c.as_mut_slice.ensures.value in
    let second = c.as_slice.ensures.value in (
      λ added. new_after r.words.items o.words.items r.words.items r.len o.len c.args.self.now c.args.other.now c.self.invariant c.other.invariant c.self.view_is c.other.view_is c.requires
          (subst (λ t. (i : ℕ) × IsNewIn t o.words.items i) first (subst (λ t. (i : ℕ) × IsNewIn c.as_mut_slice.result.now t i) second (c.join_words.ensures.changed.0 added))),
      λ found. c.join_words.ensures.changed.1
          (subst (λ t. (i : ℕ) × IsNewIn c.as_mut_slice.result.now t i) (sym second) (subst (λ t. (i : ℕ) × IsNewIn t o.words.items i) (sym first)
          (new_before r.words.items o.words.items r.words.items r.len o.len c.args.self.now c.args.other.now c.self.invariant c.other.invariant c.self.view_is c.other.view_is c.requires found))),
    )

pub returns-clause-same : goal.returns-clause-same
returns-clause-same c =
    let r = c.self.inside in
    let ws = c.join_words.new.words in
    let len : length ws ≡ length r.words.items = c.join_words.auto.words ∙ ap length c.as_mut_slice.ensures.value in
    OnFalse_from c.join_words.result _ (λ quiet.
    ap (λ t. row_of t r.len) (with_items_is r.words ws (len ∙ sym r.words.ok.0) ∙ OnFalse_at quiet c.join_words.ensures.same ∙ c.as_mut_slice.ensures.value) ∙ c.self.view_is)
