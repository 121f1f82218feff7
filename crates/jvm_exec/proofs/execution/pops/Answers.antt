use Rattle.jvm_exec.proofs.execution.pops.Goals as goal

pub returns-in-Shuffles : goal.returns-in-Shuffles
returns-in-Shuffles c = λ program. rw c.in-Shuffles.is (c.shuffle_pops.ensures program)
