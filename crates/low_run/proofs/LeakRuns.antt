-- The leaking program shows its secret.
use Rattle.std.proofs.Common.{◌≡◌, ℕ, ℤ, Bool, true, false, ◌==◌, cond, [], ◌∷◌, replicate, refl, sym, ap, subst, ◌∙◌, inl, inr, arith}
use Rattle.std.proofs.Math.IntN.{pos}
use Rattle.std.specs.Prelude.{slice_index_or}
use Rattle.std.proofs.lemmas.Bool.{cases_Bool, false≢true, eqb-true}
use Rattle.jo_insn.specs.Opcodes.{opcodes, row_of}
use Rattle.jo_insn.specs.Instructions.{decoded}
use Rattle.jo_prog.specs.Operations.{operation_of}
use Rattle.jo_prog.specs.declared.runs.Event.TheVariants.{Out}
use Rattle.jo_prog.specs.Labels.{label_of, reaches}
use Rattle.jo_prog.specs.Machine.{input_at}
use Rattle.jo_prog.specs.Runs.{run_from, run, seen}
use Rattle.jo_prog.specs.Worked.{worked_labels, worked_inputs}
use Rattle.plain_graph.proofs.NodeLists.{contains_first}
use Rattle.low_run.specs.Leak.{leaking_program}
use Rattle.low_run.specs.Security.{Agree, AgreeOnInputs, Secure, source_level}
use Rattle.low_run.proofs.Agreement.{other_out_disagrees}

shows_seven : seen worked_labels 0 (run leaking_program worked_labels (worked_inputs (pos 5) (pos 7)) (replicate 9 0)).events ≡ Out 2 (pos 8) ∷ []
unfolding opcodes row_of decoded operation_of run_from
shows_seven = refl

shows_eight : seen worked_labels 0 (run leaking_program worked_labels (worked_inputs (pos 5) (pos 8)) (replicate 9 0)).events ≡ Out 2 (pos 9) ∷ []
unfolding opcodes row_of decoded operation_of run_from
shows_eight = refl

-- inputs that differ in the secret alone agree for the low observer
secrets_agree : (got one other : ℤ) → AgreeOnInputs worked_labels 0 (worked_inputs got one) (worked_inputs got other)
secrets_agree got one other source seen place = elim (cases_Bool (0 == source)) [
  | inl secret ↦ absurd (false≢true (subst (λ s. reaches worked_labels 0 (source_level (label_of worked_labels s)) ≡ true) (sym (eqb-true 0 source secret)) seen))
  | inr public ↦ at_other got one other source place public
]
  where
    at_other : (got one other : ℤ) (source place : ℕ) → (0 == source) ≡ false → input_at (worked_inputs got one) source place ≡ input_at (worked_inputs got other) source place
    at_other got one other source place public =
        let by : ℤ → Bool → ℤ = λ secret b. cond (1 == source) (slice_index_or (got ∷ []) place (pos 0)) (cond b (slice_index_or (secret ∷ []) place (pos 0)) (pos 0)) in
        ap (by one) public ∙ sym (ap (by other) public)

eight_nine : Out 2 (pos 8) ≡ Out 2 (pos 9) → ⊥
eight_nine e = (let values : pos 8 ≡ pos 9 = cc in let numbers : ◌≡◌ {A = ℕ} 8 9 = cc in omega arith)

pub leak_insecure : Secure leaking_program worked_labels → ⊥
leak_insecure secure =
    let one = run leaking_program worked_labels (worked_inputs (pos 5) (pos 7)) (replicate 9 0) in
    let other = run leaking_program worked_labels (worked_inputs (pos 5) (pos 8)) (replicate 9 0) in
    let agree = secure 0 (contains_first 0 []) (worked_inputs (pos 5) (pos 7)) (worked_inputs (pos 5) (pos 8)) (secrets_agree (pos 5) (pos 7) (pos 8)) (replicate 9 0) (replicate 9 0) in
    other_out_disagrees worked_labels 0 [] [] [] 2 (pos 8) (Out 2 (pos 9)) one.ended other.ended eight_nine
    (subst (λ xs. Agree worked_labels 0 xs one.ended (Out 2 (pos 9) ∷ []) other.ended) shows_seven
    (subst (λ ys. Agree worked_labels 0 (seen worked_labels 0 one.events) one.ended ys other.ended) shows_eight agree))
