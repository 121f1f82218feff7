use Rattle.std.proofs.Common.{◌≡◌, Option, Some, sym, ap, ◌∙◌}
use Rattle.jo_prog.specs.declared.labels.Label.{Label}
use Rattle.jo_prog.specs.declared.labels.Label.TheVariants.{Source, Sink, Release}
use Rattle.jo_prog.specs.Labels.{label_of}
use Rattle.jo_prog.specs.Running.{called_by}
use Rattle.jo_prog.proofs.runner.RunState.call.Goals as goal

pub returns-in_ok-give-in-Some-Source : goal.returns-in_ok-give-in-Some-Source
returns-in_ok-give-in-Some-Source c =
    let arm = c.in-Some-Source in
    let label : label_of c.args.labels.now c.args.method ≡ Some (Source arm.field-0-0) = sym c.label_of.ensures ∙ arm.is ∙ ap (λ (l : Label). Some l) arm.field-0-is in
    λ program labels. ap (λ (l : Option Label). called_by program labels c.args.inputs.now c.args.self.now c.args.next c.args.method l) label ∙ c.in_ok-give-in-Some-Source.ensures arm.field-0-0 program labels

pub returns-in-Some-Sink : goal.returns-in-Some-Sink
returns-in-Some-Sink c =
    let arm = c.in-Some-Sink in
    let label : label_of c.args.labels.now c.args.method ≡ Some (Sink arm.field-0-0) = sym c.label_of.ensures ∙ arm.is ∙ ap (λ (l : Label). Some l) arm.field-0-is in
    λ program labels. ap (λ (l : Option Label). called_by program labels c.args.inputs.now c.args.self.now c.args.next c.args.method l) label ∙ c.show.ensures c.args.inputs.now arm.field-0-0 program labels

pub returns-in-Some-Release : goal.returns-in-Some-Release
returns-in-Some-Release c =
    let arm = c.in-Some-Release in
    let label : label_of c.args.labels.now c.args.method ≡ Some (Release arm.field-0-0 arm.field-0-1) = sym c.label_of.ensures ∙ arm.is ∙ ap (λ (l : Label). Some l) arm.field-0-is in
    λ program labels. ap (λ (l : Option Label). called_by program labels c.args.inputs.now c.args.self.now c.args.next c.args.method l) label ∙ c.release.ensures c.args.inputs.now arm.field-0-0 arm.field-0-1 program labels
