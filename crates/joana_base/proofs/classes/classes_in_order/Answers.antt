use Rattle.std.proofs.Common.{◌≡◌, List, ℕ, Ok, Err, subst}
use Rattle.class_pool.specs.ClassOrder.{class_of}
use Rattle.class_pool.specs.ClassGrammar.{IsClass}
use Rattle.class_pool.specs.declared.classes.ClassFile.{ClassFile}
use Rattle.joana_base.specs.Files.{class_numbered}
use Rattle.joana_base.specs.Reading.{IsUnlessMemory}
use Rattle.joana_base.proofs.FileClasses.{begins, is_small, goes_on, is_stopped, all_read, all_matched}
use Rattle.joana_base.proofs.classes.classes_in_order.Goals as goal

pub loop-number-init : goal.loop-number-init
loop-number-init c = rw c.new-classes.ensures.items (begins c.args.files.now c.requires.small)

pub class_in-requires : goal.class_in-requires
class_in-requires c =
    rw c.as_slice.ensures.value (is_small c.args.files.now c.loop-number.classes.items c.loop-number.number c.index-files-number.result c.loop-number-test.true c.index-files-number.is c.loop-number.invariant)

pub returns-in-Err-clause-value : goal.returns-in-Err-clause-value
returns-in-Err-clause-value c =
    let P : List ℕ → Type 0 = λ file. IsUnlessMemory {A = ClassFile} (Err c.in-Err.stop) (class_numbered c.loop-number.number (class_of file)) in
    is_stopped c.args.files.now c.loop-number.classes.items c.loop-number.number c.index-files-number.result c.loop-number-test.true c.index-files-number.is c.loop-number.invariant
    c.in-Err.stop (subst P c.as_slice.ensures.value c.in-Err.ensures.value)

pub loop-number-preserved : goal.loop-number-preserved
loop-number-preserved c =
    let P : List ℕ → Type 0 = λ file. class_numbered c.loop-number.number (class_of file) ≡ Ok c.in-Ok.class in
    let Q : List ℕ → Type 0 = λ file. IsClass file c.in-Ok.class in
    rw c.in-Ok-push.ensures.items (goes_on c.args.files.now c.loop-number.classes.items c.loop-number.number c.index-files-number.result c.loop-number-test.true c.index-files-number.is c.loop-number.invariant
    c.in-Ok.class (subst P c.as_slice.ensures.value c.in-Ok.ensures.value) (subst Q c.as_slice.ensures.value c.in-Ok.ensures.class))

pub returns-clause-value : goal.returns-clause-value
returns-clause-value c = all_read c.args.files.now c.loop-number.classes.items c.loop-number.number c.loop-number-test.false c.loop-number.invariant

pub returns-clause-classes : goal.returns-clause-classes
returns-clause-classes c = all_matched c.args.files.now c.loop-number.classes.items c.loop-number.number c.loop-number-test.false c.loop-number.invariant
