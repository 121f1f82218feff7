use Rattle.std.proofs.Common.{length}
use Rattle.method_views.proofs.NodeLemmas.{kind_says}
use Rattle.fact_rules.proofs.CellLemmas.{numbers_added, inside_added}
use Rattle.fact_rules.proofs.cell_rules.add_numbers.Goals as goal

pub returns-clause-added : goal.returns-clause-added
returns-clause-added g c =
    let view = c.args.view.now in
    numbers_added view.typed.now view.wide.now c.args.facts.now.facts c.args.instance c.args.pc c.args.depth c.args.u.now c.node.result.now.kind c.named_by-from.result c.args.objects.now.items c.held.result.now c.extend_from_slice.new.self.items
    (c.is_below.ensures.0 c.if-not-is_below.false) (kind_says view.wide.now c.args.u.now.from c.node.result.now c.node.ensures) c.named_by-from.ensures c.held.ensures.each c.in_ok-extend_from_slice.ensures.items

pub returns-clause-inside : goal.returns-clause-inside
returns-clause-inside g c =
    inside_added c.args.objects.now.items c.held.result.now c.extend_from_slice.new.self.items (length c.args.facts.now.objects) c.in_ok-extend_from_slice.ensures.items c.requires.within c.held.ensures.there
