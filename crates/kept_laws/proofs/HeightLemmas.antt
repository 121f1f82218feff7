-- In a typed method the stack has one height at each pc.
use Rattle.std.proofs.Common.{◌≡◌, ◌∙◌, ℕ, List, length, refl, sym, ap, subst, inl, inr}
use Rattle.std.proofs.lemmas.Bool.{cases_eq}
use Rattle.jo_prog.specs.declared.program.Program.{Program}
use Rattle.jo_prog.specs.declared.program.Code.{Code}
use Rattle.jo_prog.specs.declared.program.Method.{Method}
use Rattle.jo_prog.specs.declared.typed.TypeCode.TheVariants.{HeightDiffers}
use Rattle.jo_prog.specs.Typing.{Shape}
use Rattle.jo_prog.specs.TypingPaths.{Typable, Step, arrives_at, height_of, IsFirst, IsTypable, TypingPath, HasHeightAt, IsTypedMethod}
use Rattle.jo_prog.specs.Machine.{Frame, HeapObject}
use Rattle.step_laws.specs.TypedStates.{IsOnStack, IsReady}
use Rattle.step_laws.proofs.FetchLemmas.{pairwise_length}
use Rattle.step_laws.proofs.TypeLemmas.{same_some}

-- a method is typable in one way
same_typable : (program : Program) (m : ℕ) (t u : Typable) → IsTypable program m t → IsTypable program m u → t ≡ u
same_typable program m t u one other =
    let number : t.number ≡ u.number = one.0 ∙ sym other.0 in
    let method : t.method ≡ u.method = same_some (sym one.1 ∙ other.1) in
    let code : t.code ≡ u.code = same_some (sym one.2 ∙ ap (λ (x : Method). x.code) method ∙ other.2) in
    ap (λ (n : ℕ). record { number = n; method = t.method; code = t.code }) number
    ∙ ap (λ (x : Method). record { number = u.number; method = x; code = t.code }) method
    ∙ ap (λ (x : Code). record { number = u.number; method = u.method; code = x }) code

module _ (program : Program) (m : ℕ) (typed : IsTypedMethod program m) where
  -- each path arrives with the height of the first
  first_height : (t : Typable) → IsTypable program m t → (path : List Step) → TypingPath program t path → (pc height : ℕ) → arrives_at path ≡ pc → HasHeightAt program m pc height
      → height_of program t path ≡ height
  first_height t is path is_path pc height arrives has =
      let same = same_typable program m has.typable t has.is_typable is in
      let first : IsFirst (TypingPath program t) (arrives_at path) has.path =
      subst (λ (k : ℕ). IsFirst (TypingPath program t) k has.path) (sym arrives) (subst (λ (u : Typable). IsFirst (TypingPath program u) pc has.path) same has.is_first) in
      let own : height_of program t has.path ≡ height = subst (λ (u : Typable). height_of program u has.path ≡ height) same has.same_height in
      elim (cases_eq (height_of program t has.path) (height_of program t path)) [
        | inl e ↦ sym e ∙ own
        | inr other ↦ absurd (typed (arrives_at path) HeightDiffers (record { typable = t; is_typable = is; path = path; is_path = is_path; arrives = refl; meets = record { first = has.path; is_first = first; other_height = other } }))
      ]

  pub one_height : (pc h k : ℕ) → HasHeightAt program m pc h → HasHeightAt program m pc k → h ≡ k
  one_height pc h k one other =
      sym (first_height one.typable one.is_typable one.path one.is_first.is_path pc h one.is_first.arrives one)
      ∙ first_height one.typable one.is_typable one.path one.is_first.is_path pc k one.is_first.arrives other

pub frame_height : (program : Program) (heap : List HeapObject) (f : Frame) → IsTypedMethod program f.method → IsReady program heap f → (height : ℕ) → HasHeightAt program f.method f.pc height
    → length f.stack ≡ height
frame_height program heap f typed ready height has =
    let shown = ready.has_shape in
    sym (pairwise_length (IsOnStack program heap) ready.shape.stack f.stack ready.stack)
    ∙ sym (ap (λ (s : Shape). length s.stack) shown.shape_is)
    ∙ first_height program f.method typed shown.typable shown.is_typable shown.path shown.is_path f.pc height shown.arrives has
