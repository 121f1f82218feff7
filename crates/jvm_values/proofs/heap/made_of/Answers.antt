use Rattle.jvm_values.proofs.heap.made_of.Goals as goal

pub returns-in_ok-made-in-Array : goal.returns-in_ok-made-in-Array
returns-in_ok-made-in-Array c = rw c.in-Array.is (c.in_ok-made-in-Array.ensures c.args.program.now)
