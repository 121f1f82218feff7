-- The one fault that is told of classes which make no program (the order of the faults is this project's own): the first kind that
-- some class has, and of that kind the first class.
use Rattle.std.specs.Prelude.{◌≡◌, ◌⊎◌, ℕ, ◌<◌, Bool, true, List, Option, Some, None, slice_get}
use Rattle.std.specs.Option.{IsSomeAnd}
use Rattle.class_pool.specs.declared.classes.ClassFile.{ClassFile}
use Rattle.jo_prog.specs.declared.program.Program.{Program}
use Rattle.linker.specs.declared.causes.LinkCode.{LinkCode}
use Rattle.linker.specs.declared.causes.LinkCode.TheVariants.{TwiceDefined, MissingClass, CyclicSuper, MissingMember, NotImplemented, InterfaceBody, StaticInit, Memory}
use Rattle.linker.specs.declared.causes.LinkFault.{LinkFault}
use Rattle.linker.specs.Linking.{program_among, linked_classes}
use Rattle.linker.specs.LinkFaults.{IsTwiceDefined, class_names, has_interface_body, has_static_init}
use Rattle.program_faults.specs.FirstFaults.{IsFirst}
use Rattle.linker.specs.NeededClasses.{lacks_class}
use Rattle.program_faults.specs.SuperFaults.{IsCyclicSuper}
use Rattle.program_faults.specs.MemberFaults.{LacksMember}
use Rattle.program_faults.specs.BodyFaults.{IsNotImplemented}

-- of this program the class with that number has that fault
abbrev pub HasProgramFault : Program → LinkCode → ℕ → Type 0
HasProgramFault program CyclicSuper c = IsCyclicSuper program c
HasProgramFault program MissingMember c = LacksMember program c
HasProgramFault program NotImplemented c = IsNotImplemented program c
HasProgramFault program _ c = ⊥

abbrev pub HasNoProgramFault : Program → Type 0
HasNoProgramFault program = (code : LinkCode) (c : ℕ) → HasProgramFault program code c → ⊥

-- the class with that number passes the test
abbrev pub PassesAt : List ClassFile → (ClassFile → Bool) → ℕ → Type 0
PassesAt classes test c = IsSomeAnd (slice_get classes c) (λ class. test class ≡ true)

-- of these classes the one with that number has that fault
abbrev pub HasFault : List ClassFile → LinkCode → ℕ → Type 0
HasFault classes TwiceDefined c = IsTwiceDefined (class_names classes) c
HasFault classes MissingClass c = PassesAt classes (lacks_class (class_names classes)) c
HasFault classes InterfaceBody c = PassesAt classes has_interface_body c
HasFault classes StaticInit c = PassesAt classes has_static_init c
HasFault classes code c = HasProgramFault (program_among classes) code c

-- no class has any
abbrev pub HasNoFault : List ClassFile → Type 0
HasNoFault classes = (code : LinkCode) (c : ℕ) → HasFault classes code c → ⊥

-- the order in which faults are told
abbrev pub rank : LinkCode → ℕ
rank TwiceDefined = 1
rank MissingClass = 2
rank CyclicSuper = 3
rank MissingMember = 4
rank NotImplemented = 5
rank InterfaceBody = 6
rank StaticInit = 7
rank Memory = 8

-- no class has a fault of an earlier kind
abbrev pub HasNoneBefore : List ClassFile → ℕ → Type 0
HasNoneBefore classes place = (code : LinkCode) → rank code < place → (c : ℕ) → HasFault classes code c → ⊥

-- the fault of a class that is told of these
pub record IsFirstFault (classes : List ClassFile) (code : LinkCode) (class : ℕ) : Type 0 where
  pub none_before : HasNoneBefore classes (rank code)
  pub first : IsFirst (HasFault classes code) class

-- the same, or no claim where memory was wanting
abbrev pub IsToldOf : List ClassFile → LinkCode → ℕ → Type 0
IsToldOf classes Memory class = Unit {0}
IsToldOf classes code class = IsFirstFault classes code class

-- of a program alone
pub record IsFirstProgramFault (program : Program) (code : LinkCode) (class : ℕ) : Type 0 where
  pub none_before : (earlier : LinkCode) → rank earlier < rank code → (c : ℕ) → HasProgramFault program earlier c → ⊥
  pub first : IsFirst (HasProgramFault program code) class

abbrev pub IsProgramAnswer : Program → LinkCode → ℕ → Type 0
IsProgramAnswer program Memory class = Unit {0}
IsProgramAnswer program code class = IsFirstProgramFault program code class

-- with the name of the class, unless memory was wanting
abbrev pub IsNamed : List ClassFile → LinkCode → ℕ → LinkFault → Type 0
IsNamed classes code class fault =
    (fault.code ≡ Memory) ⊎ ((fault.code ≡ code) × (fault.class ≡ class) × (slice_get (class_names classes) class ≡ Some fault.name))

-- ---- files

-- with the name of the class
pub record IsLinkFault (files : List ClassFile) (fault : LinkFault) : Type 0 where
  pub told : IsFirstFault (linked_classes files) fault.code fault.class
  pub name : slice_get (class_names (linked_classes files)) fault.class ≡ Some fault.name

-- what is told is it, or that memory was wanting
abbrev pub IsLinkAnswer : List ClassFile → LinkFault → Type 0
IsLinkAnswer files fault = (fault.code ≡ Memory) ⊎ IsLinkFault files fault
