use Rattle.std.proofs.Common.{◌≡◌, ◌≤◌, ℕ, All, drop}
use Rattle.jo_prog.specs.Runs.{run_from, run}
use Rattle.jo_prog.specs.Running.{state_of, behind}
use Rattle.jo_prog.proofs.runner.run.Given as goal

abbrev pub invariant-loop-number : goal.invariant-loop-number
invariant-loop-number l = record {
  so_far : run l.program l.labels l.inputs l.schedule ≡ behind l.events (run_from l.program l.labels l.inputs (state_of l.program l.labels l.state) (drop l._number-index l.schedule));
  cursors : All (λ (c : ℕ). c ≤ l._number-index) l.state.cursors.items;
}
