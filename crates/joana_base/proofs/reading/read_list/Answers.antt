use Rattle.std.proofs.Common.{◌≡◌, ◌∙◌, ℕ, subst, sym}
use Rattle.jo_text.specs.Lines.{IsStop}
use Rattle.jo_text.specs.declared.lines.ListFault.{ListFault}
use Rattle.jo_text.specs.declared.lines.ListFault.TheVariants.{NotUtf8}
use Rattle.joana_base.specs.Files.{RefusesList}
use Rattle.joana_base.specs.declared.status.InputFault.TheVariants.{ClassList}
use Rattle.joana_base.specs.declared.status.Refusal.TheVariants.{Input}
use Rattle.joana_base.proofs.ReadFiles.{list_stop, too_many}
use Rattle.joana_base.proofs.reading.read_list.Goals as goal

pub returns-in-Err-NotUtf8-clause-read : goal.returns-in-Err-NotUtf8-clause-read
returns-in-Err-NotUtf8-clause-read g c =
    let is : ◌≡◌ {A = ListFault} c.in-Err-NotUtf8.field-0 (NotUtf8 c.in-Err-NotUtf8.place) = c.in-Err-NotUtf8.field-0-is in
    let stop : IsStop c.args.list.now (NotUtf8 c.in-Err-NotUtf8.place) = subst (IsStop c.args.list.now) is c.in-Err-NotUtf8.ensures.stop in
    let Refused : ℕ → Type 0 = λ place. RefusesList c.args.list.now (Input (ClassList place)) in
    subst Refused (sym c.in-Err-NotUtf8.place-is) (list_stop c.args.list.now stop.0 c.in-Err-NotUtf8.place c.requires stop.1 stop.2)

pub returns-then-as_slice-gt-MOST_PATHS-clause-read : goal.returns-then-as_slice-gt-MOST_PATHS-clause-read
returns-then-as_slice-gt-MOST_PATHS-clause-read g c =
    too_many c.args.list.now c.as_slice.result.now c.in-Ok.ensures.text (c.as_slice.ensures.value ∙ c.in-Ok.ensures.lines) c.if-as_slice-gt-MOST_PATHS.true
