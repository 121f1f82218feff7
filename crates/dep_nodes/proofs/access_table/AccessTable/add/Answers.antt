use Rattle.dep_nodes.proofs.ListedLemmas.{names_stay, listed_at}
use Rattle.dep_nodes.proofs.access_table.AccessTable.add.Goals as goal
use Rattle.dep_nodes.proofs.access_table.AccessTable.add.Goals.{in-Ok, in-Err}

pub invariant_of-self : goal.invariant_of-self
invariant_of-self c = names_stay c.self.inside.cells.items c.self.inside.names c.in-Some.place c.index_mut.result.now c.push.new.self c.self.invariant c.index_mut.ensures.value

pub returns-clause-ok : goal.returns-clause-ok
returns-clause-ok c =
    elim c.match-push.branch [
      | in-Ok w ↦ rw w.result-is (listed_at c.self.inside.cells.items c.args.self.now c.self.inside.names c.in-Some.place c.index_mut.result.now c.push.new.self c.args.cell c.args.accessor c.self.view_is c.self.invariant c.in-Some.ensures.found c.index_mut.ensures.value w.in-Ok.ensures.ok)
      | in-Err w ↦ rw w.result-is tt
    ]
