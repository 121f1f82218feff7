-- Releases beside calls that may start a thread (this project's own), and what finds such calls in few steps.
use Rattle.std.specs.Prelude.{◌≡◌, ℕ, Bool, true, ◌&&◌, if◌then◌else◌, List, Option, None, option_map, find, codes}
use Rattle.std.specs.List.{filter, list_any}
use Rattle.std.specs.Str.{bytes_eq}
use Rattle.jo_insn.specs.declared.jumps.Placed.{Placed}
use Rattle.jo_prog.specs.declared.labels.Label.{Label}
use Rattle.jo_prog.specs.declared.program.Program.{Program}
use Rattle.jo_prog.specs.Calls.{taken_from}
use Rattle.jo_prog.specs.Hierarchy.{search_from}
use Rattle.jo_prog.specs.PlainCode.{is_release}
use Rattle.jo_prog.specs.Program.{method_at, has_signature}
use Rattle.jo_prog.specs.Starts.{is_start, class_numbers, may_start_at, first_start}
use Rattle.policy_tree.specs.declared.faults.PolicyFault.{PolicyFault}
use Rattle.policy_tree.specs.declared.faults.PolicyFault.TheVariants.{ReleaseWithThreads}

-- where there is a release, the first call that may start a thread
abbrev pub start_beside : List (ℕ × Label) → Program → Option (ℕ × ℕ)
start_beside labelled program = if list_any is_release labelled then first_start program else None

abbrev pub with_threads : ℕ × ℕ → PolicyFault
with_threads at = ReleaseWithThreads at.0 at.1

-- ---- the classes of threads

-- a call of `start` takes Thread.start for a receiver of this class
unfoldable pub selects_start : Program → ℕ → Bool
selects_start program k = is_start (taken_from program (search_from program k (codes "start") (codes "()V")))

abbrev pub thread_classes : Program → List ℕ
thread_classes program = filter (selects_start program) (class_numbers program)

-- the name and the descriptor of Thread.start
abbrev pub is_named_start : List ℕ → List ℕ → Bool
is_named_start name desc = bytes_eq name (codes "start") && bytes_eq desc (codes "()V")

-- the method with that number has them
abbrev pub HasStartName : Program → ℕ → Type 0
HasStartName program m = has_signature (codes "start") (codes "()V") (method_at program m) ≡ true

-- ---- the first call among instructions

abbrev pub first_among : Program → ℕ → List Placed → Option ℕ
first_among program current insns = option_map (λ (placed : Placed). placed.pc) (find (may_start_at program current) insns)
