use Rattle.std.proofs.Common.{rules, ◌≡◌, ◌∙◌, ap, arith}
use Rattle.std.specs.Option.{option_copied}
use Rattle.jvm_typing.specs.KindPasses.{frame_of, row_at}
use Rattle.typing_effects.specs.Effects.{effect_in}
use Rattle.jvm_typing.specs.Sources.{frame_in}
use Rattle.typing_heights.specs.Subjects.{program_of, typable_of}
use Rattle.jvm_typing.proofs.FlowLemmas.{step_source_is}
use Rattle.jvm_typing.proofs.flows.source_behind.Goals as goal

pub source_of-requires-clause-pops : goal.source_of-requires-clause-pops
source_of-requires-clause-pops c =
    let h : c.sizes_at-sizes.result.height ≡ c.args.stop.now.height = search rules in
    let fit = c.requires.stop.pops_there in
    omega arith

pub returns : goal.returns
returns c =
    let s = c.args.subject.now in
    let p = program_of s in
    let t = typable_of s in
    let row : option_copied c.row_at-row.result ≡ row_at t.code.rows c.args.step.row = search rules in
    let frame : frame_in c.sizes_at-sizes.result ≡ frame_of t c.args.stop.now.height = ap frame_in c.sizes_at-sizes.ensures in
    c.in_ok-source.ensures p
    ∙ step_source_is p t c.args.step c.args.stop.now.height c.args.place (frame_in c.sizes_at-sizes.result) (effect_in c.args.stop.now.effect) (option_copied c.row_at-row.result) frame c.requires.stop.same_effect row
