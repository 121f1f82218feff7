-- Operands that are named, and the texts among them.
use Rattle.std.proofs.Common.{◌≡◌, ◌∙◌, ap, refl, ℕ, zero, suc, List, [], ◌∷◌, ◌++◌, Option, Some, None, option_and_then, slice_get}
use Rattle.std.specs.List.{flat_map}
use Rattle.std.proofs.lemmas.Option.{none-some, same_Some}
use Rattle.jo_text.specs.declared.descriptors.FieldDesc.{FieldDesc}
use Rattle.jo_text.specs.declared.descriptors.MethodDesc.{MethodDesc}
use Rattle.jo_prog.specs.declared.program.Program.{Program}
use Rattle.jo_prog.specs.declared.program.Class.{Class}
use Rattle.jo_prog.specs.declared.program.Field.{Field}
use Rattle.jo_prog.specs.declared.program.Method.{Method}
use Rattle.jo_prog.specs.declared.program.MemberRef.{MemberRef}
use Rattle.jo_prog.specs.declared.program.Operand.TheVariants.{Text}
use Rattle.jo_prog.specs.Constants.{text_of, constant_text, texts_of, string_address}
use Rattle.jo_prog.specs.MethodTypes.{field_desc_in, method_desc_in}
use Rattle.jo_prog.specs.Program.{method_at, class_at, operand_at}
use Rattle.machine.specs.Instructions.{calls, field_instruction, field_named, method_named, names_field, names_method, values_taken}

pub method_is : (program : Program) (op : ℕ) (ref : MemberRef) (m : ℕ) (type : MethodDesc) → method_named program ref ≡ Some m → method_desc_in ref.desc ≡ Some type → names_method program op ref ≡ Some (calls op ref.owner m (values_taken op type))
method_is program op ref m type named found = rw (named, found) refl

pub field_is : (program : Program) (op : ℕ) (ref : MemberRef) (f : ℕ) (type : FieldDesc) → field_named program ref ≡ Some f → field_desc_in ref.desc ≡ Some type → names_field program op ref ≡ Some (field_instruction op f type)
field_is program op ref f type named found = rw (named, found) refl

-- ---- a text that an operand names is among those of the program

module _ {A : Type 0} where
  in_front : (xs ys : List A) (k : ℕ) (x : A) → slice_get xs k ≡ Some x → slice_get (xs ++ ys) k ≡ Some x
  in_front [] ys k x e = absurd (none-some x e)
  in_front (y ∷ xs) ys zero x e = e
  in_front (y ∷ xs) ys (suc k) x e = in_front xs ys k x e

  behind_front : (xs ys : List A) (k : ℕ) (x : A) → slice_get ys k ≡ Some x → (j : ℕ) × (slice_get (xs ++ ys) j ≡ Some x)
  behind_front [] ys k x e = (k, e)
  behind_front (y ∷ xs) ys k x e = let found = behind_front xs ys k x e in (suc found.0, found.1)

  in_map : {B : Type 0} (f : B → List A) (xs : List B) (i j : ℕ) (x : B) (y : A) → slice_get xs i ≡ Some x → slice_get (f x) j ≡ Some y → (k : ℕ) × (slice_get (flat_map f xs) k ≡ Some y)
  in_map f [] i j x y e h = absurd (none-some x e)
  in_map f (z ∷ xs) zero j x y e h = (j, in_front (f z) (flat_map f xs) j y (ap (λ w. slice_get (f w) j) (same_Some z x e) ∙ h))
  in_map f (z ∷ xs) (suc i) j x y e h = let found = in_map f xs i j x y e h in behind_front (f z) (flat_map f xs) found.0 y found.1

abbrev pub HasAddresses : Type 0
HasAddresses = (program : Program) (k : ℕ) (text : List ℕ) → slice_get (texts_of program) k ≡ Some text → (address : ℕ) × (string_address program text ≡ Some address)

of_class : (program : Program) (c : ℕ) (class : Class) (index : ℕ) (text : List ℕ) → HasAddresses → class_at program c ≡ Some class → slice_get class.operands index ≡ Some (Text text) → (address : ℕ) × (string_address program text ≡ Some address)
of_class program c class index text each at is =
    let own = in_map text_of class.operands index 0 (Text text) text is refl in
    let all = in_map (λ (class : Class). flat_map text_of class.operands) program.classes c own.0 class text at own.1 in
    each program all.0 text (in_front _ (flat_map (λ (field : Field). constant_text field.constant) program.fields) all.0 text all.1)

pub text_has_address : (program : Program) (m index : ℕ) (text : List ℕ) → HasAddresses → operand_at program m index ≡ Some (Text text) → (address : ℕ) × (string_address program text ≡ Some address)
text_has_address program m index text each is = by_method (method_at program m) is
  where
    by_class : (c : ℕ) (class : Option Class) → class_at program c ≡ class → option_and_then (λ (class : Class). slice_get class.operands index) class ≡ Some (Text text) → (address : ℕ) × (string_address program text ≡ Some address)
    by_class c None at e = absurd (none-some (Text text) e)
    by_class c (Some class) at e = of_class program c class index text each at e

    by_method : (method : Option Method) → option_and_then (λ (class : Class). slice_get class.operands index) (option_and_then (λ (method : Method). class_at program method.class) method) ≡ Some (Text text) → (address : ℕ) × (string_address program text ≡ Some address)
    by_method None e = absurd (none-some (Text text) e)
    by_method (Some method) e = by_class method.class (class_at program method.class) refl e
