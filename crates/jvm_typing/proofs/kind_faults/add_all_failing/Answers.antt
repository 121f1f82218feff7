use Rattle.std.proofs.Common.{Contains}
use Rattle.jvm_typing.specs.KindFaults.{FailsBy}
use Rattle.typing_heights.specs.Subjects.{program_of, typable_of}
use Rattle.typing_heights.proofs.AddsLemmas.{over_none, over_item, over_all}
use Rattle.jvm_typing.proofs.FailLemmas.{asks_there}
use Rattle.jvm_typing.proofs.kind_faults.add_all_failing.Goals as goal

pub loop-fact-init : goal.loop-fact-init
loop-fact-init c = record {
  asked = asks_there (program_of c.args.subject.now) (typable_of c.args.subject.now) 0 c.in_ok-asked.asked c.in_ok-asked.ensures;
  adds = over_none c.args.facts.now (FailsBy (program_of c.args.subject.now) (typable_of c.args.subject.now)) (Contains c.args.found.now.items);
}

pub loop-fact-preserved : goal.loop-fact-preserved
loop-fact-preserved c =
    let s = c.args.subject.now in
    record {
      asked = asks_there (program_of s) (typable_of s) c.fact-item.result.pc c.in_ok-asked-2.asked c.in_ok-asked-2.ensures;
      adds =
          over_item c.args.facts.now (FailsBy (program_of s) (typable_of s)) (Contains c.args.found.now.items) (Contains c.loop-fact.found.items) (Contains c.add_failing.new.found.items)
          c.loop-fact.fact-index c.fact-item.result c.loop-fact-test.true c.fact-item.is c.loop-fact.invariant.adds c.in_ok-add_failing.ensures;
    }

pub returns : goal.returns
returns c =
    over_all c.args.facts.now (FailsBy (program_of c.args.subject.now) (typable_of c.args.subject.now)) (Contains c.args.found.now.items) (Contains c.loop-fact.found.items) c.loop-fact.fact-index c.loop-fact-test.false c.loop-fact.invariant.adds
