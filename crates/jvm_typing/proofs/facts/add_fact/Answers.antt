use Rattle.std.proofs.Common.{rules, Contains}
use Rattle.jvm_typing.specs.declared.facts.Fact.{Fact}
use Rattle.jvm_typing.proofs.GrowLemmas.{grows_known, grows_new}
use Rattle.jvm_typing.proofs.facts.add_fact.Goals as goal

pub returns-then-has_fact : goal.returns-then-has_fact
returns-then-has_fact c =
    let fact : Fact = record { pc = c.args.pc; place = c.args.place; kind = c.args.kind } in
    let among : Contains c.args.facts.now fact = search rules in
    grows_known c.args.facts.now fact among

pub returns : goal.returns
returns c = grows_new c.args.facts.now c.push.new.self (record { pc = c.args.pc; place = c.args.place; kind = c.args.kind }) (search rules)
