use Rattle.std.proofs.Common.{rules}
use Rattle.jvm_typing.proofs.StartLemmas.{start_added}
use Rattle.jvm_typing.proofs.starts.add_start.Goals as goal

pub returns : goal.returns
returns c = start_added c.args.facts.now c.push.new.self c.args.kinds.now c.args.place c.in-Some.kind.now c.in_ok-kind.kind (search rules) c.in_ok-kind.ensures (search rules)
