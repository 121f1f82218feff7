-- What the parts of the decision say of the first form.
use Rattle.std.proofs.Common.{◌≡◌, ◌∙◌, ℕ, ◌<◌, ◌^◌, Bool, true, false, cond, nat_lt, List, length, get_or, Option, Some, None, slice_get, refl, sym, ap}
use Rattle.std.proofs.lemmas.Bool.{ltb-true}
use Rattle.std.proofs.lemmas.Option.{none-some, slice_get_read, slice_get_within, same_Some}
use Rattle.jo_insn.specs.Instructions.{decoded}
use Rattle.jo_prog.specs.declared.program.Program.{Program}
use Rattle.jo_prog.specs.declared.program.Code.{Code}
use Rattle.jo_prog.specs.declared.labels.Labels.{Labels}
use Rattle.jo_prog.specs.declared.operations.Operation.{Operation}
use Rattle.jo_prog.specs.declared.operations.Operation.TheVariants.{Return}
use Rattle.jo_prog.specs.Program.{as_operation, operation_in, operation_at}
use Rattle.jo_prog.specs.PlainCode.{IsWellLabelled, IsPlainProgram, IsPlainFrom, last, then}
use Rattle.plain_graph.specs.Building.{HasShortCode}
use Rattle.joana_top.specs.Stops.{IsTypedProgram, GivesLabels}
use Rattle.joana_top.specs.Check.{IsFirstForm, HasShortLimits, IsFormOf, IsVerdict, IsDecision}
use Rattle.joana_top.specs.declared.commands.check.Decision.{Decision}
use Rattle.joana_top.specs.declared.commands.check.Decision.TheVariants.{NotBuilt, Accepted, Refused}
use Rattle.joana_top.proofs.PlainTyped.{plain_typed}

pub read_at : {X : Type 0} (xs : List X) (i : ℕ) (x : X) → i < length xs → x ≡ get_or xs i x → slice_get xs i ≡ Some x
read_at xs i x below at = slice_get_read xs (length xs) i x refl below at

-- a program of this form that is typed and well labelled is plain
pub plain_of : (program : Program) (labels : Labels) → IsTypedProgram program → IsWellLabelled program labels → IsFormOf program labels → IsPlainProgram program labels
plain_of program labels typed well f =
    let is_method = typed labels.entry (slice_get_within program.methods labels.entry well.entry.method well.entry.found) in
    record {
      well_labelled = well;
      code = f.0;
      found = f.1;
      typed = plain_typed program labels f.0 well f.1 f.2 is_method;
      plain = f.2;
    }

pub first_form : (program : Program) (policy : List ℕ) (labels : Labels) → GivesLabels program policy labels → IsTypedProgram program → IsWellLabelled program labels → IsFormOf program labels → IsFirstForm program policy labels
first_form program policy labels gives typed well f = record { labels_are = gives; plain = plain_of program labels typed well f }

-- the verdict on the program is the decision
pub decided : (program : Program) (labels : Labels) (decision : Decision) → IsFormOf program labels → IsVerdict program labels decision → IsDecision program labels decision
decided program labels NotBuilt form v = absurd v
decided program labels Accepted form v = (form, v)
decided program labels (Refused text) form v = (form, v)

-- ---- the code is short

-- where an operation stands, the code is short
short_operation : (code : Code) (pc : ℕ) (found : Operation × ℕ) → operation_in (Some code) pc ≡ Some found → length code.bytes < 2 ^ 16
short_operation code pc found e = by (nat_lt (length code.bytes) (2 ^ 16)) refl e
  where
    by : (b : Bool) → nat_lt (length code.bytes) (2 ^ 16) ≡ b → cond {A = Option (Operation × ℕ)} b (as_operation (decoded code.bytes pc)) None ≡ Some found → length code.bytes < 2 ^ 16
    by true is e = ltb-true (length code.bytes) (2 ^ 16) is
    by false is e = absurd (none-some _ e)

plain_operation : (program : Program) (labels : Labels) (m : ℕ) (code : Code) (pc : ℕ) → IsPlainFrom program labels m code pc → (found : Operation × ℕ) × (operation_at program m pc ≡ Some found)
plain_operation program labels m code pc (last at next found end) = ((Return, next), found)
plain_operation program labels m code pc (then at next operation found goes more) = ((operation, next), found)

pub short_code : (program : Program) (labels : Labels) → HasShortLimits program labels.entry → IsFormOf program labels → HasShortCode program labels.entry
short_code program labels limits form code at =
    let same : form.0 ≡ code = same_Some form.0 code (sym form.1 ∙ at) in
    let stands = plain_operation program labels labels.entry form.0 0 form.2 in
    let here : operation_in (Some code) 0 ≡ Some stands.0 = ap (λ (c : Option Code). operation_in c 0) (sym at) ∙ stands.1 in
    let small = limits code at in
    (short_operation code 0 stands.0 here, small.0, small.1)
