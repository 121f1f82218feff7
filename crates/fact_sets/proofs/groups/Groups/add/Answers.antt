use Rattle.std.proofs.Common.{◌≡◌, slice_set, subst}
use Rattle.fact_sets.specs.Groups.{HasIn, AddsUnder}
use Rattle.fact_sets.proofs.GroupLemmas.{pushed_kept, more_under_set, ok_is, err_is, list_at}
use Rattle.fact_sets.proofs.groups.Groups.add.Goals as goal
use Rattle.fact_sets.proofs.groups.Groups.add.Goals.{in-Ok, in-Err}

pub invariant_of-self : goal.invariant_of-self
invariant_of-self g c =
    let same : (c.self.inside.keys, c.self.inside.lists.items) ≡ c.args.self.now = cc in
    let at = list_at c.self.inside.keys c.self.inside.lists.items c.args.key c.in-Some.place c.index_mut.result.now c.self.invariant c.in-Some.ensures.found c.index_mut.ensures.value in
    pushed_kept c.push.result c.self.inside.keys c.self.inside.lists.items c.args.key c.in-Some.place c.index_mut.result.now c.push.new.self c.args.item
    c.push.ensures.ok c.push.ensures.err c.in-Some.ensures.found at (λ has. c.requires (subst (λ p. HasIn p c.args.key c.args.item) same has)) c.self.invariant

pub returns-clause-ok : goal.returns-clause-ok
returns-clause-ok g c =
    let same : (c.self.inside.keys, c.self.inside.lists.items) ≡ c.args.self.now = cc in
    let at = list_at c.self.inside.keys c.self.inside.lists.items c.args.key c.in-Some.place c.index_mut.result.now c.self.invariant c.in-Some.ensures.found c.index_mut.ensures.value in
    elim c.match-push.branch [
      | in-Ok w ↦ ok_is c.match-push.result w.result-is
          (more_under_set c.args.self.now c.self.inside.keys c.self.inside.lists.items c.args.key c.in-Some.place c.index_mut.result.now c.push.new.self c.args.item
          same c.in-Some.ensures.found at w.in-Ok.ensures.ok c.self.invariant)
      | in-Err w ↦ err_is (AddsUnder c.args.self.now (c.self.inside.keys, slice_set c.self.inside.lists.items c.in-Some.place c.push.new.self) c.args.key c.args.item) c.match-push.result w.result-is
    ]
