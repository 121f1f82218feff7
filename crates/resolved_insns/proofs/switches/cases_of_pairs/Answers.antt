use Rattle.std.proofs.Common.{rules, ◌≡◌, ◌++◌, ◌∷◌, [], map}
use Rattle.jo_insn.proofs.OffsetSteps.{is_there}
use Rattle.machine.specs.Instructions.{pc_behind}
use Rattle.jvm_values.specs.Resolved.{case_of}
use Rattle.resolved_insns.proofs.SwitchLemmas.{first_of, one_pair}
use Rattle.resolved_insns.proofs.switches.cases_of_pairs.Goals as goal

pub loop-preserved : goal.loop-preserved
loop-preserved c =
    let added : map case_of c.add_case.new.cases ≡ map case_of c.loop.cases ++ (first_of c.loop.keys.now, pc_behind c.args.pc (first_of c.loop.offsets.now)) ∷ [] = search rules in
    rw (c.behind-keys.ensures, c.behind-offsets.ensures) (record {
      keys = (is_there c.args.count c.loop.counter c.loop.keys.now 8 c.loop-test.true c.loop.invariant.keys).1;
      offsets = (is_there c.args.count c.loop.counter c.loop.offsets.now 8 c.loop-test.true c.loop.invariant.offsets).1;
      so_far = one_pair c.args.pc c.args.count c.loop.counter _ _ _ c.loop.keys.now c.loop.offsets.now c.loop-test.true added c.loop.invariant.so_far;
    })
