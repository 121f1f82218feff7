-- What linking gives to the methods of the program of files.
use Rattle.std.proofs.Common.{◌∙◌, List, refl, ap}
use Rattle.jo_insn.specs.AccessFlags.{has_flag}
use Rattle.class_pool.specs.declared.classes.ClassFile.{ClassFile}
use Rattle.jo_prog.specs.Shapes.{is_interface_class, interface_flag}
use Rattle.linker.specs.Linking.{linked_classes, program_of}
use Rattle.linker.specs.LinkOrder.{HasNoFault}
use Rattle.linked_laws.specs.Bodies.{HasSoundBodies}
use Rattle.linked_laws.specs.Files.{AreSoundFiles}
use Rattle.linked_laws.proofs.Outlines.{Outline, has_outline, made_by}
use Rattle.linked_laws.proofs.FileLemmas.{begins_with_prelude, supers_of_files}
use Rattle.linked_laws.proofs.MethodFileLemmas.{listed_class, interface_code}
use Rattle.linked_laws.proofs.PreludeMethods.{kinds_of_files}

pub bodies_of_files : (files : List ClassFile) → AreSoundFiles files → HasNoFault (linked_classes files) → HasSoundBodies (program_of files)
bodies_of_files files sound none =
    let begins = begins_with_prelude files in
    let object = made_by (program_of files) begins 0 _ refl refl in
    let thread = has_outline (program_of files) begins 3 _ refl in
    record {
      of_class = listed_class files;
      interfaces = interface_code files none;
      kinds = kinds_of_files files sound;
      superclasses = supers_of_files files sound none;
      object = (object.class, object.is_there, object.made);
      thread = ap is_interface_class thread.is_there ∙ ap (λ (outline : Outline). has_flag interface_flag outline.flags) thread.is_so;
    }
