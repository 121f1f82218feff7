use Rattle.fact_sets.proofs.TableLemmas.{tables_grow}
use Rattle.fact_sets.proofs.fact_table.FactTable.add.Goals as goal

pub invariant_of-self-in-Ok : goal.invariant_of-self-in-Ok
invariant_of-self-in-Ok c =
    tables_grow c.self.inside.all c.push_new.new.self c.self.inside.held c.note.new.held c.self.inside.called c.note.new.called c.args.fact
    c.in_ok-push_new.ensures.ok c.self.invariant c.in-Ok.ensures.ok
