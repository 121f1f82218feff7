use Rattle.std.proofs.Common.{◌≡◌, subst}
use Rattle.dep_nodes.specs.GrowingGraphs.{AppendsNew}
use Rattle.fact_sets.proofs.GroupLemmas.{ok_is, err_is}
use Rattle.fact_sets.proofs.NumberingLemmas.{pair_eq, pairs_decided, appends_new}
use Rattle.fact_sets.proofs.numbering.Numbering.name.Goals as goal
use Rattle.fact_sets.proofs.numbering.Numbering.name.Goals.{in-Ok, in-Err}

pub returns-clause-ok : goal.returns-clause-ok
returns-clause-ok g c =
    let same : c.self.inside.pairs.keys ≡ c.args.self.now = cc in
    elim c.match-insert_full.branch [
      | in-Ok w ↦ ok_is c.match-insert_full.result w.result-is
          (subst (λ xs. AppendsNew xs (c.args.number, c.args.context) c.insert_full.new.self.keys) same
          (appends_new (pair_eq g.C.PartialEq.eq) (pairs_decided g.C.PartialEq.eq c.self.invariant) c.self.inside.pairs.keys c.insert_full.new.self.keys (c.args.number, c.args.context) w.in-Ok.ensures.keys))
      | in-Err w ↦ err_is (AppendsNew c.args.self.now (c.args.number, c.args.context) c.insert_full.new.self.keys) c.match-insert_full.result w.result-is
    ]
