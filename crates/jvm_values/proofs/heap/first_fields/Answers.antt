use Rattle.std.proofs.Common.{rules, ◌≡◌, ◌∙◌, sym, append-nil}
use Rattle.jvm_values.proofs.HeapLemmas.{one_class, last_class, first_contents_up}
use Rattle.jvm_values.proofs.heap.first_fields.Goals as goal

pub loop-left-preserved : goal.loop-left-preserved
loop-left-preserved c =
    one_class c.args.program.now c.loop-left.left c.loop-left.above c.number-above-in-Some.result _ _ _ (search rules) c.loop-left.invariant (search rules) (search rules)

pub returns-in-None : goal.returns-in-None
returns-in-None c =
    last_class c.args.program.now c.loop-left.left c.loop-left.above _ _ _ (search rules) c.loop-left.invariant (search rules) (search rules)
    ∙ first_contents_up c.args.program.now c.args.class

pub returns : goal.returns
returns c =
    let none : c.loop-left.left ≡ 0 = search rules in
    sym (append-nil _) ∙ rw none at c.loop-left.invariant ∙ first_contents_up c.args.program.now c.args.class
