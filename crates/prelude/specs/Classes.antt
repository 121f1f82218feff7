-- The classes of the prelude, which come first in each program (this project's own choice).
use Rattle.std.specs.Prelude.{ℕ, Bool, true, false, List, [], ◌∷◌, ◌++◌, map, Option, Result, Ok, Err}
use Rattle.std.specs.List.{flat_map}
use Rattle.class_pool.specs.declared.classes.ClassFile.{ClassFile}
use Rattle.class_pool.specs.Pool.{class_name_at}
use Rattle.class_asm.specs.declared.causes.Fault.{Fault}
use Rattle.class_asm.specs.Assembly.{assembled}
use Rattle.prelude.specs.Texts.{object_text, lower_texts, file_texts}

abbrev pub is_class : Result ClassFile Fault → Bool
is_class (Ok class) = true
is_class (Err fault) = false

-- the class that a text says, where it says one
abbrev pub class_in : Result ClassFile Fault → List ClassFile
class_in (Ok class) = class ∷ []
class_in (Err fault) = []

unfoldable pub class_of_text : List ℕ → List ClassFile
class_of_text text = class_in (assembled text)

abbrev pub without_superclass : ClassFile → ClassFile
without_superclass class = record class { super_class = 0 }

-- java/lang/Object, which alone has no superclass, and the others
abbrev pub object_classes : List ClassFile
object_classes = map without_superclass (class_of_text object_text)

abbrev pub lower_classes : List ClassFile
lower_classes = flat_map class_of_text lower_texts

unfoldable pub prelude_classes : List ClassFile
prelude_classes = object_classes ++ lower_classes

-- ---- what holds of them

-- a class has this name
abbrev pub name_in : ClassFile → Option (List ℕ)
name_in class = class_name_at class.pool class.this_class

-- the classes that a class file can hold: all but java/lang/Object and java/lang/Thread
abbrev pub file_classes : List ClassFile
file_classes = flat_map class_of_text file_texts
