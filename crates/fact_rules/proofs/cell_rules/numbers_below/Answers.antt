use Rattle.std.proofs.Common.{◌⊎◌, inl, inr, ℕ, [], get_or, Contains, sym}
use Rattle.jo_prog.specs.TypingPaths.{HasHeightAt}
use Rattle.jo_prog.proofs.WalkLemmas.{none_there}
use Rattle.dependence.specs.declared.flow.Place.TheVariants.{Local}
use Rattle.dependence.specs.declared.flows.Use.{Use}
use Rattle.method_views.proofs.TableLemmas.{same_item}
use Rattle.fact_rules.specs.Adds.{From}
use Rattle.fact_rules.specs.CellSteps.{UseHasNumber}
use Rattle.fact_rules.proofs.AddsLemmas.{over_item, over_all}
use Rattle.fact_rules.proofs.PlaceLemmas.{use_from}
use Rattle.fact_rules.proofs.CellLemmas.{seen_below}
use Rattle.fact_rules.proofs.cell_rules.numbers_below.Goals as goal

pub add_numbers-requires-clause-from : goal.add_numbers-requires-clause-from
add_numbers-requires-clause-from g c =
    let view = c.args.view.now in
    let uses = c.at-u-items.result.now in
    let i = c.loop-u.u-index in
    let none : Use = record { node = 0; place = Local 0; from = 0 } in
    use_from view.program.now view.method (HasHeightAt view.program.now view.method) view.wide.now c.requires.view.graph c.args.n c.args.pc c.args.insn c.requires.at view.uses.now c.requires.view.uses (get_or uses i none)
    ((c.at-u-items.ensures (get_or uses i none)).0 (i, c.loop-u-test.true, sym (same_item uses i none c.loop-u-test.true)))

pub loop-u-preserved : goal.loop-u-preserved
loop-u-preserved g c =
    let view = c.args.view.now in
    let uses = c.at-u-items.result.now in
    let i = c.loop-u.u-index in
    let none : Use = record { node = 0; place = Local 0; from = 0 } in
    let u : Use = get_or uses i none in
    record {
      added = over_item uses (UseHasNumber view.typed.now view.wide.now c.args.facts.now.facts c.args.instance c.args.pc c.args.depth) (Contains []) (Contains c.loop-u.objects.items) (Contains c.add_numbers.new.objects.items) i u c.loop-u-test.true
          (same_item uses i none c.loop-u-test.true) c.loop-u.invariant.added c.in_ok-add_numbers.ensures.added;
      inside = c.in_ok-add_numbers.ensures.inside;
    }

pub returns-clause-each : goal.returns-clause-each
returns-clause-each g c = λ list tells.
    let view = c.args.view.now in
    let uses = c.at-u-items.result.now in
    let makes = UseHasNumber view.typed.now view.wide.now c.args.facts.now.facts c.args.instance c.args.pc c.args.depth in
    let all = over_all uses makes (Contains []) (Contains c.loop-u.objects.items) c.loop-u.u-index c.loop-u-test.false c.loop-u.invariant.added in
    seen_below view.program.now view.method (HasHeightAt view.program.now view.method) view.typed.now c.requires.view.heights view.wide.now c.requires.view.graph view.uses.now c.requires.view.uses c.args.n c.args.pc c.args.insn c.requires.at c.args.depth
    c.requires.plain c.requires.first c.requires.last list tells c.args.facts.now c.args.instance c.args.context c.names_once.ensures c.requires.named uses c.loop-u.objects.items c.at-u-items.ensures
    (λ x. (λ among. only (From uses makes) x ((all x).0 among), λ made. (all x).1 (inr made)))
  where
    only : (P : ℕ → Type 0) (x : ℕ) → Contains {X = ℕ} [] x ⊎ P x → P x
    only P x (inl none) = absurd (none_there x none)
    only P x (inr made) = made
