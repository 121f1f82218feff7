use Rattle.std.proofs.Common.{OnOk, subst, sym, refl}
use Rattle.fact_sets.specs.Tables.{AddFact}
use Rattle.fact_sets.proofs.TableLemmas.{ok_more}
use Rattle.fact_sets.proofs.fact_table.note.Goals as goal

pub returns-in-Holds-clause-ok : goal.returns-in-Holds-clause-ok
returns-in-Holds-clause-ok c =
    subst (λ fact. OnOk c.add.result (AddFact c.args.held.now c.args.called.now c.add.new.self c.args.called.now fact)) (sym c.in-Holds.is)
    (ok_more c.add.result (λ added. (added, refl)) c.add.ensures.ok)

pub returns-in-Calls-clause-ok : goal.returns-in-Calls-clause-ok
returns-in-Calls-clause-ok c =
    subst (λ fact. OnOk c.add-in-Calls.result (AddFact c.args.held.now c.args.called.now c.args.held.now c.add-in-Calls.new.self fact)) (sym c.in-Calls.is)
    (ok_more c.add-in-Calls.result (λ added. (refl, added)) c.add-in-Calls.ensures.ok)
