use Rattle.std.proofs.Common.{◌≡◌, ◌∙◌, sym, ap, Some, map}
use Rattle.jo_prog.specs.declared.labels.Label.{Label}
use Rattle.jo_prog.specs.declared.labels.Label.TheVariants.{Source, Sink, Release}
use Rattle.jo_prog.specs.Labels.{label_of}
use Rattle.jvm_values.specs.Values.{value_of}
use Rattle.jvm_calls.specs.Invokes.{shown, released}
use Rattle.jvm_calls.proofs.InvokeLemmas.{source_asked, sink_shown, release_released}
use Rattle.jvm_calls.proofs.invocation.natively.Goals as goal

pub returns-in-Some-Source : goal.returns-in-Some-Source
returns-in-Some-Source c =
    let arm = c.in-Some-Source in
    let vs = map value_of c.args.values.now in
    let label : label_of c.args.labels.now c.args.method ≡ Some (Source arm.field-0-0) = sym c.label_of.ensures ∙ arm.is ∙ ap (λ (l : Label). Some l) arm.field-0-is in
    rw label (c.asked.ensures vs ∙ source_asked c.args.method arm.field-0-0 vs)

pub returns-in-Some-Sink : goal.returns-in-Some-Sink
returns-in-Some-Sink c =
    let arm = c.in-Some-Sink in
    let vs = map value_of c.args.values.now in
    let label : label_of c.args.labels.now c.args.method ≡ Some (Sink arm.field-0-0) = sym c.label_of.ensures ∙ arm.is ∙ ap (λ (l : Label). Some l) arm.field-0-is in
    rw label (c.shown.ensures vs ∙ ap (shown c.args.method) c.one_int.ensures ∙ sink_shown c.args.method arm.field-0-0 vs)

pub returns-in-Some-Release : goal.returns-in-Some-Release
returns-in-Some-Release c =
    let arm = c.in-Some-Release in
    let vs = map value_of c.args.values.now in
    let label : label_of c.args.labels.now c.args.method ≡ Some (Release arm.field-0-0 arm.field-0-1) = sym c.label_of.ensures ∙ arm.is ∙ ap (λ (l : Label). Some l) arm.field-0-is in
    rw label (c.released.ensures vs ∙ ap (released c.args.method) c.one_int-in-Some-Release.ensures ∙ release_released c.args.method arm.field-0-0 arm.field-0-1 vs)
