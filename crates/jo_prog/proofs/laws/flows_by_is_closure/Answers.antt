use Rattle.jo_prog.proofs.Flows.{along_from_flows, flows_from_along}
use Rattle.jo_prog.proofs.laws.flows_by_is_closure.Goals as goal

pub returns-clause-along : goal.returns-clause-along
returns-clause-along c = along_from_flows

pub returns-clause-every : goal.returns-clause-every
returns-clause-every c = λ pairs a b h. flows_from_along pairs h
