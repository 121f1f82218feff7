use Rattle.std.proofs.Common.{◌≡◌, List, ℕ, Ok, Err, subst}
use Rattle.std.specs.Prelude.{Vec}
use Rattle.std.specs.declared.alloc.Global.{Global}
use Rattle.class_pool.specs.declared.classes.ClassFile.{ClassFile}
use Rattle.joana_base.specs.Files.{classes_of}
use Rattle.joana_base.specs.Reading.{in_bytes, all_bytes, third_bytes, AreClasses, IsUnlessMemory}
use Rattle.joana_top.proofs.Outcomes.{few_classes, refused_classes, refused_linking, program_made}
use Rattle.joana_top.proofs.commands.stops.program_of.Goals as goal

pub classes_of-requires : goal.classes_of-requires
classes_of-requires c = rw c.as_slice.ensures.value (few_classes c.args.files.now c.requires)

pub returns-in-Err-clause-stop : goal.returns-in-Err-clause-stop
returns-in-Err-clause-stop c =
    let P : List (Vec ℕ Global) → Type 0 = λ files. IsUnlessMemory {A = List ClassFile} (Err c.in-Err.stop) (classes_of (third_bytes c.args.files.now.third) (all_bytes files)) in
    refused_classes (in_bytes c.args.files.now) c.requires c.in-Err.stop (subst P c.as_slice.ensures.value c.in-Err.ensures.value)

pub returns-in-Ok-linked-clause-program : goal.returns-in-Ok-linked-clause-program
returns-in-Ok-linked-clause-program c =
    let All_read : List (Vec ℕ Global) → Type 0 = λ files. classes_of (third_bytes c.args.files.now.third) (all_bytes files) ≡ Ok c.in-Ok.classes.items in
    let Read : List (Vec ℕ Global) → Type 0 = λ files. AreClasses (all_bytes files) c.in-Ok.classes.items in
    program_made (in_bytes c.args.files.now) c.requires c.in-Ok.classes.items (subst All_read c.as_slice.ensures.value c.in-Ok.ensures.value) (subst Read c.as_slice.ensures.value c.in-Ok.ensures.classes) c.in-Ok-linked.program c.in-Ok-linked.ensures.program

pub returns-in-Err-linked-clause-stop : goal.returns-in-Err-linked-clause-stop
returns-in-Err-linked-clause-stop c =
    let All_read : List (Vec ℕ Global) → Type 0 = λ files. classes_of (third_bytes c.args.files.now.third) (all_bytes files) ≡ Ok c.in-Ok.classes.items in
    refused_linking (in_bytes c.args.files.now) c.requires c.in-Ok.classes.items (subst All_read c.as_slice.ensures.value c.in-Ok.ensures.value) c.in-Err-linked.stop c.in-Err-linked.ensures.stop
