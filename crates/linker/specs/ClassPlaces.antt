-- Where the fields and methods of a class stand among all. Private functions compute these.
use Rattle.std.specs.Prelude.{◌≡◌, ℕ, ◌+◌, length}
use Rattle.class_pool.specs.declared.classes.ClassFile.{ClassFile}
use Rattle.linker.specs.declared.programs.Places.{Places}

-- the first of each have these numbers
pub record ArePlaces (first_field first_method : ℕ) (file : ClassFile) (places : Places) : Type 0 where
  pub field : places.field ≡ first_field
  pub method : places.method ≡ first_method
  pub fields_end : places.fields_end ≡ first_field + length file.fields
  pub methods_end : places.methods_end ≡ first_method + length file.methods
