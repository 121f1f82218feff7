use Rattle.std.proofs.Common.{rules, ◌≡◌, ◌<◌, ◌^◌, ℕ, List, length, sym, ap, subst, arith}
use Rattle.dep_nodes.specs.OnceLists.{IsOnceEach}
use Rattle.dependence.specs.declared.flows.FlowRow.{FlowRow}
use Rattle.instance_flows.specs.Parts.{IsPart}
use Rattle.instance_flows.proofs.PartLemmas.{found_inside, part_is_flow, both_ways_on}
use Rattle.instance_flows.proofs.parts.part_of.Goals as goal

pub rows_of-requires-clause-there : goal.rows_of-requires-clause-there
rows_of-requires-clause-there c = λ n among. (
    let found = c.in_ok-found.found in
    let is = found_inside found n ((c.in_ok-numbers.ensures n).0 among) in
    omega (arith, is, c.in_ok-found.ensures.same, c.requires.same)
    )

pub of-requires : goal.of-requires
of-requires c =
    let numbers = c.in_ok-numbers.numbers in
    let rows = c.in_ok-rows.rows.items in
    let counted : c.in_ok-rows.rows.len ≡ length rows = search rules in
    let few : length numbers < 2 ^ 32 = omega (arith, c.if-as_slice.false, ap length c.as_slice.ensures.items) in
    part_is_flow c.args.flow.now c.args.kept.now numbers rows c.in_ok-rows.rows.len c.in_ok-rows.ensures counted few

pub returns : goal.returns
returns c =
    let flow = c.args.flow.now in
    let kept = c.args.kept.now in
    let numbers = c.in_ok-numbers.numbers in
    subst (λ (part : List FlowRow). IsPart flow kept c.args.start part) (sym c.of.ensures)
    (record {
      numbers = numbers;
      once = subst (λ (xs : List ℕ). IsOnceEach xs) c.as_slice.ensures.items c.as_slice.ensures.once;
      each = λ n. both_ways_on (c.in_ok-numbers.ensures n) (c.in_ok-found.ensures.each n);
      rows = c.in_ok-rows.ensures;
    })
