-- What a hierarchy keeps of a program, and which class is refused.
use Rattle.std.specs.Prelude.{◌≡◌, ℕ, ◌<◌, List, ◌++◌, length}
use Rattle.std.specs.List.{Contains, flat_map, AllZip}
use Rattle.std.specs.Option.{option_to_list}
use Rattle.jo_prog.specs.declared.program.Program.{Program}
use Rattle.jo_prog.specs.declared.program.Class.{Class}
use Rattle.jo_prog.specs.Walks.{Leads}
use Rattle.jo_prog.specs.Hierarchy.{parents_of, IsAboveItself, HasNoCycle, supertypes, superclasses, method_order}
use Rattle.hierarchy.specs.declared.Hierarchy.{Hierarchy}
use Rattle.hierarchy.specs.declared.HierarchyFault.{HierarchyFault}
use Rattle.hierarchy.specs.declared.HierarchyFault.TheVariants.{Cyclic, Memory}
use Rattle.hierarchy.specs.Orders.{SameFirst, edges}
use Rattle.hierarchy.specs.ClassNames.{AreNamesOf}

-- each superclass and interface is a class of the program
abbrev pub HasItsParents : Program → Type 0
HasItsParents program = (c p : ℕ) → Leads (parents_of program) c p → p < length program.classes

-- for each class an order in which each look-up finds first what it finds in the order of the definition
pub record KeepsOrder (program : Program) (orders : List (List ℕ)) (order : ℕ → List ℕ) : Type 0 where
  pub same_length : length orders ≡ length program.classes
  pub each : (c : ℕ) → c < length program.classes → SameFirst (edges orders c) (order c)

pub record IsHierarchyOf (program : Program) (hierarchy : Hierarchy) : Type 0 where
  pub no_cycle : HasNoCycle program
  pub supertypes_kept : KeepsOrder program hierarchy.supertypes.items (supertypes program)
  pub superclasses_kept : KeepsOrder program hierarchy.superclasses.items (superclasses program)
  pub methods_kept : KeepsOrder program hierarchy.methods.items (method_order program)
  pub names_kept : AreNamesOf program.classes hierarchy.names

-- the first class that is above itself, or no claim where memory is wanting
abbrev pub IsFaultOf : Program → HierarchyFault → Type 0
IsFaultOf program (Cyclic c) = IsAboveItself program c × ((k : ℕ) → k < c → IsAboveItself program k → ⊥)
IsFaultOf program Memory = Unit {0}

-- ---- what stands directly above the classes, as lists

abbrev pub superclass_list : Class → List ℕ
superclass_list class = option_to_list class.superclass

abbrev pub interface_list : Class → List ℕ
interface_list class = class.interfaces

abbrev pub parent_list : Class → List ℕ
parent_list class = class.interfaces ++ option_to_list class.superclass

-- where methods are looked for, by orders of superclasses and of interfaces
abbrev pub methods_by : List (List ℕ) → List (List ℕ) → List ℕ → List ℕ
methods_by interfaces walks superclasses =
    superclasses ++ flat_map (λ c. flat_map (edges walks) (edges interfaces c)) superclasses

-- for each order of superclasses one that finds the same
abbrev pub AreMethodsBy : List (List ℕ) → List (List ℕ) → List (List ℕ) → List (List ℕ) → Type 0
AreMethodsBy interfaces walks superclasses orders =
    AllZip (λ above order. SameFirst order (methods_by interfaces walks above)) superclasses orders

-- the superclass and the interfaces of a class are below a count
abbrev pub IsInside : ℕ → Class → Type 0
IsInside count class = (p : ℕ) → Contains (parent_list class) p → p < count
