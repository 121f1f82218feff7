use Rattle.std.proofs.Common.{sym, subst, arith}
use Rattle.std.proofs.lemmas.Option.{get_or_from_slice_get}
use Rattle.dep_nodes.specs.declared.chains.Word.{Word}
use Rattle.slicer.specs.declared.finds.Place.{Place}
use Rattle.slicer.specs.declared.finds.Found.{Found}
use Rattle.slicer.specs.Finds.{HasPlace}
use Rattle.slicer.specs.Slices.{Appends, IsStepTo, Leads}
use Rattle.slicer.proofs.SearchLemmas.{followed_more, followed_all, beginnings_below}
use Rattle.slicer.proofs.search.follow.Goals as goal

pub follow_passes-requires : goal.follow_passes-requires
follow_passes-requires c = record {
  below = beginnings_below c.args.graph.now c.args.summaries.now c.get.result.place.node c.follow_edges.new.finds.count c.beginnings.result.now c.requires.summaries c.beginnings.ensures (omega arith);
}

pub returns-clause-more : goal.returns-clause-more
returns-clause-more c = λ d.
    let e = get_or_from_slice_get c.args.finds.now.found c.args.number c.get.result d c.get.ensures.is in
    subst (λ (item : Found). Appends (IsStepTo c.args.graph.now c.args.number item.place) c.args.finds.now.found c.follow_passes.new.finds.found) (sym e)
    (followed_more c.args.graph.now c.args.summaries.now c.requires.summaries c.args.number c.get.result.place c.beginnings.result.now c.beginnings.ensures c.args.finds.now.found c.follow_edges.new.finds.found
    c.follow_passes.new.finds.found c.follow_edges.ensures.more c.follow_passes.ensures.more)

pub returns-clause-all : goal.returns-clause-all
returns-clause-all c = λ d.
    let e = get_or_from_slice_get c.args.finds.now.found c.args.number c.get.result d c.get.ensures.is in
    subst (λ (item : Found). (from : Place) (word : Word) → Leads c.args.graph.now from word item.place → HasPlace c.follow_passes.new.finds.found from) (sym e)
    (followed_all c.args.graph.now c.args.summaries.now c.requires.summaries c.args.number c.get.result.place c.beginnings.result.now c.beginnings.ensures c.args.finds.now.found c.follow_edges.new.finds.found
    c.follow_passes.new.finds.found c.follow_edges.ensures.more c.follow_passes.ensures.more c.follow_edges.ensures.all c.follow_passes.ensures.all)
