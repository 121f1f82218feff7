use Rattle.std.proofs.Common.{length, ap, ◌∙◌, arith}
use Rattle.std.proofs.lemmas.List.{length-replicate}
use Rattle.plain_graph.specs.declared.slicer.Mark.TheVariants.{Unmarked}
use Rattle.plain_graph.proofs.SlicerLemmas.{marking_of_criteria, slice_from}
use Rattle.plain_graph.proofs.slicer.Slicer.mark.Goals as goal

pub mark_criteria-requires-clause-inside : goal.mark_criteria-requires-clause-inside
mark_criteria-requires-clause-inside c = λ n is.
    omega (arith, c.requires.criteria n is, ap length c.clear.ensures ∙ length-replicate (length c.args.self.now.marks.items) Unmarked, c.requires.fits)

pub spread-requires-clause-marking : goal.spread-requires-clause-marking
spread-requires-clause-marking c =
    marking_of_criteria c.args.graph.now c.mark_criteria.new.marks.items
    (c.mark_criteria.ensures.same_length ∙ ap length c.clear.ensures ∙ length-replicate (length c.args.self.now.marks.items) Unmarked ∙ c.requires.fits)
    c.mark_criteria.ensures.no_other

pub returns : goal.returns
returns c =
    let slice = slice_from c.args.graph.now c.args.criteria.now c.mark_criteria.new.marks.items c.spread.new.marks.items c.mark_criteria.ensures.marked c.spread.ensures.marking c.spread.ensures.grows c.spread.ensures.closed in
    record { marking = c.spread.ensures.marking; criteria_marked = slice.0; marked = slice.1 }
