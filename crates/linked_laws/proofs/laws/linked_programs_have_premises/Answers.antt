use Rattle.std.proofs.Common.{◌≡◌, ℕ, Option, Some, None, refl, inr}
use Rattle.std.specs.Prelude.{option_and_then}
use Rattle.jo_prog.specs.declared.program.Code.{Code}
use Rattle.jo_prog.specs.declared.program.Method.{Method}
use Rattle.jo_prog.specs.declared.program.Program.{Program}
use Rattle.jo_prog.specs.Program.{method_at, code_at}
use Rattle.linker.proofs.ParentsThere.{parents_there}
use Rattle.linker.specs.declared.causes.LinkCode.TheVariants.{CyclicSuper, MissingMember, NotImplemented}
use Rattle.linker.specs.Linking.{program_of, linked_classes}
use Rattle.linked_laws.proofs.laws.linked_programs_have_premises.Goals as goal

-- code is that of a method
record IsCodeOf (program : Program) (m : ℕ) (code : Code) : Type 0 where
  method : Method
  is_method : method_at program m ≡ Some method
  has_code : method.code ≡ Some code

code_of : (program : Program) (m : ℕ) (code : Code) → code_at program m ≡ Some code → IsCodeOf program m code
code_of program m code is = by_method (method_at program m) refl is
  where
    by_method : (o : Option Method) → method_at program m ≡ o → option_and_then (λ (own : Method). own.code) o ≡ Some code → IsCodeOf program m code
    by_method None at e = absurd (cc)
    by_method (Some method) at e = record { method = method; is_method = at; has_code = e }

pub returns : goal.returns
returns c = λ files sound none labels well typed inputs ints.
    let hierarchy = c.linked_hierarchies_are_sound.ensures files sound none in
    let members = c.linked_programs_have_sound_members.ensures files none in
    let bodies = c.linked_programs_have_sound_bodies.ensures files sound none in
    let prelude = c.linked_programs_have_prelude_methods.ensures files none in
    let natives = c.natives_and_threads_are_sound.ensures.natives (program_of files) labels well prelude in
    let methods =
    c.methods_without_faults_are_sound.ensures (program_of files) labels hierarchy (parents_there (linked_classes files)) (λ k misplaced. none CyclicSuper k (inr misplaced)) (none NotImplemented)
    bodies natives in
    record {
      hierarchy = hierarchy;
      raised = c.linked_programs_raise_throwables.ensures files none;
      all_typed = typed;
      code = λ m code is. let own = code_of (program_of files) m code is in c.linked_code_is_sound.ensures files sound none m own.method code own.is_method own.has_code;
      calls = λ m code is.
          let own = code_of (program_of files) m code is in
          c.calls_without_faults_are_sound.ensures (program_of files) (none MissingMember) (none NotImplemented) m own.method own.is_method code own.has_code (members.listed m own.method own.is_method)
          (c.linked_code_is_whole.ensures files sound m own.method code own.is_method own.has_code);
      methods = methods;
      threads = c.natives_and_threads_are_sound.ensures.threads (program_of files) labels hierarchy bodies methods natives prelude;
      natives = natives;
      ints = ints;
    }
