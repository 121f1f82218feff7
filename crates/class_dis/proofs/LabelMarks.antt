-- The marks of the labels of some code.
use Rattle.std.proofs.Common.{◌≡◌, ℕ, ◌+◌, ◌<◌, Bool, false, List, length, replicate, get_or, drop, sym, ap, ◌∙◌, arith}
use Rattle.std.specs.Prelude.{ℤ}
use Rattle.std.specs.List.{flat_map}
use Rattle.std.proofs.lemmas.List.{length-replicate}
use Rattle.jo_insn.specs.declared.jumps.Placed.{Placed}
use Rattle.jo_insn.specs.Marks.{marked}
use Rattle.jo_insn.proofs.PcMarkLemmas.{marked_append, length_marked, all_marks}
use Rattle.jo_insn.proofs.PlacedSteps.{split}
use Rattle.class_pool.specs.declared.classes.CodeInfo.{CodeInfo}
use Rattle.class_dis.specs.Insns.{insns_of}
use Rattle.class_dis.specs.Labels.{targets_in, bounds_of, labels_of, AreLabels}

pub jump_marks : (code : List ℕ) (before now all : List Bool) (insns : List Placed) (i : ℕ) (d : Placed) → i < length insns → now ≡ marked before (targets_in code (get_or insns i d))
    → marked before (flat_map (targets_in code) (drop i insns)) ≡ all → marked now (flat_map (targets_in code) (drop (i + 1) insns)) ≡ all
jump_marks code before now all insns i d more is so_far =
    let here : List ℤ = targets_in code (get_or insns i d) in
    let rest : List ℤ = flat_map (targets_in code) (drop (i + 1) insns) in
    ap (λ (marks : List Bool). marked marks rest) is ∙ sym (marked_append before here rest)
    ∙ sym (ap (λ placed. marked before (flat_map (targets_in code) placed)) (split insns i d more)) ∙ so_far

pub labels_are : (code : CodeInfo) (unmarked jumps all : List Bool) → unmarked ≡ replicate (length code.bytes + 1) false
    → jumps ≡ marked unmarked (flat_map (targets_in code.bytes) (insns_of code.bytes)) → all ≡ marked jumps (flat_map bounds_of code.rows) → AreLabels code all
labels_are code unmarked jumps all e0 e1 e2 =
    let size : ℕ = length code.bytes + 1 in
    let targets : List ℤ = flat_map (targets_in code.bytes) (insns_of code.bytes) in
    let bounds : List ℤ = flat_map bounds_of code.rows in
    let is : all ≡ marked (replicate size false) (labels_of code) = e2 ∙ ap (λ (marks : List Bool). marked marks bounds) (e1 ∙ ap (λ (marks : List Bool). marked marks targets) e0) ∙ sym (marked_append (replicate size false) targets bounds) in
    let long = length_marked (replicate size false) (labels_of code) in
    let unmarked_long = length-replicate size false in
    let same_long = ap length is in
    record {
      size = omega arith;
      each = λ pc within. ap (λ (marks : List Bool). get_or marks pc false) is ∙ all_marks size (labels_of code) pc (omega arith);
    }
