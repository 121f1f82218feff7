use Rattle.std.proofs.Common.{rules, ◌≡◌, Some, None, Option, subst}
use Rattle.std.specs.Prelude.{slice_index_or}
use Rattle.typing_heights.specs.Subjects.{program_of, typable_of}
use Rattle.jvm_typing.specs.declared.stops.Stop.{Stop}
use Rattle.jvm_typing.specs.KindPasses.{items_of, FixesFrom}
use Rattle.jvm_typing.specs.Stops.{IsStopAt}
use Rattle.jvm_typing.proofs.GrowLemmas.{grows_none}
use Rattle.jvm_typing.proofs.BehindLemmas.{fixes_nothing}
use Rattle.jvm_typing.proofs.flows.fix_at.Goals as goal

pub fix_from-requires : goal.fix_from-requires
fix_from-requires c =
    let s = c.args.subject.now in
    let is : slice_index_or c.args.stops.now c.args.pc None ≡ Some c.in-Some.stop.now = search rules in
    subst (λ (o : Option Stop). IsStopAt (program_of s) (typable_of s) c.args.heights.now c.args.pc o) is (c.requires c.args.pc)

pub returns-in-None : goal.returns-in-None
returns-in-None c =
    let s = c.args.subject.now in
    let is : slice_index_or c.args.stops.now c.args.pc None ≡ None = search rules in
    grows_none (FixesFrom (program_of s) (typable_of s) c.args.heights.now c.args.pc) (items_of c.args.facts.now)
    (fixes_nothing (program_of s) (typable_of s) c.args.heights.now c.args.pc (subst (λ (o : Option Stop). IsStopAt (program_of s) (typable_of s) c.args.heights.now c.args.pc o) is (c.requires c.args.pc)))
