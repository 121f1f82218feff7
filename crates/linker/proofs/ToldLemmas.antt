-- What each step of linking tells, of the classes as a whole.
use Rattle.std.proofs.Common.{◌≡◌, ◌⊎◌, inl, inr, ◌<◌, ◌≤◌, ℕ, ◌+◌, Bool, true, List, Option, Some, None, refl, sym, subst, ap, ◌∙◌, arith}
use Rattle.std.specs.Prelude.{slice_get, position}
use Rattle.class_pool.specs.declared.classes.ClassFile.{ClassFile}
use Rattle.jo_prog.specs.declared.program.Program.{Program}
use Rattle.linker.specs.declared.causes.LinkCode.{LinkCode}
use Rattle.linker.specs.declared.causes.LinkCode.TheVariants.{TwiceDefined, MissingClass, CyclicSuper, MissingMember, NotImplemented, InterfaceBody, StaticInit, Memory}
use Rattle.linker.specs.declared.causes.LinkFault.{LinkFault}
use Rattle.linker.specs.Linking.{program_among, linked_classes}
use Rattle.linker.specs.LinkFaults.{IsTwiceDefined, class_names, has_interface_body, has_static_init}
use Rattle.program_faults.specs.FirstFaults.{IsFirst}
use Rattle.linker.specs.NeededClasses.{lacks_class}
use Rattle.program_faults.specs.SuperFaults.{IsCyclicSuper}
use Rattle.program_faults.specs.MemberFaults.{LacksMember}
use Rattle.program_faults.specs.BodyFaults.{IsNotImplemented}
use Rattle.linker.specs.LinkOrder.{HasFault, HasProgramFault, HasNoProgramFault, HasNoFault, rank, HasNoneBefore, IsFirstFault, IsToldOf, IsFirstProgramFault, IsProgramAnswer, IsNamed, IsLinkFault, IsLinkAnswer}
use Rattle.linker.proofs.OrderLemmas.{first_at, none_at, none_first, none_next}

-- ---- names

module _ (classes : List ClassFile) where
  pub told_twice : (class : ℕ) → IsFirst (IsTwiceDefined (class_names classes)) class → IsFirstFault classes TwiceDefined class
  told_twice class first = record { none_before = none_first (HasFault classes); first = first }

  none_twice : ((k : ℕ) → IsTwiceDefined (class_names classes) k → ⊥) → HasNoneBefore classes 2
  none_twice once = none_next (HasFault classes) TwiceDefined 2 refl (none_first (HasFault classes)) once

  pub told_missing : (names : List (List ℕ)) (class : ℕ) → names ≡ class_names classes → ((k : ℕ) → IsTwiceDefined names k → ⊥) → Some class ≡ position (lacks_class names) classes
      → IsFirstFault classes MissingClass class
  told_missing names class is once at = record {
    none_before = none_twice (subst (λ ns. (k : ℕ) → IsTwiceDefined ns k → ⊥) is once);
    first = first_at (lacks_class (class_names classes)) classes class (at ∙ ap (λ ns. position (lacks_class ns) classes) is);
  }

  pub none_missing : (names : List (List ℕ)) → names ≡ class_names classes → ((k : ℕ) → IsTwiceDefined names k → ⊥) → None ≡ position (lacks_class names) classes
      → HasNoneBefore classes 3
  none_missing names is once at =
      none_next (HasFault classes) MissingClass 3 refl (none_twice (subst (λ ns. (k : ℕ) → IsTwiceDefined ns k → ⊥) is once))
      (none_at (lacks_class (class_names classes)) classes (at ∙ ap (λ ns. position (lacks_class ns) classes) is))

  -- ---- bodies

  pub told_body : (class : ℕ) → HasNoneBefore classes 6 → Some class ≡ position has_interface_body classes → IsFirstFault classes InterfaceBody class
  told_body class before at = record { none_before = before; first = first_at has_interface_body classes class at }

  none_body : HasNoneBefore classes 6 → None ≡ position has_interface_body classes → HasNoneBefore classes 7
  none_body before at = none_next (HasFault classes) InterfaceBody 7 refl before (none_at has_interface_body classes at)

  pub told_init : (class : ℕ) → HasNoneBefore classes 6 → None ≡ position has_interface_body classes → Some class ≡ position has_static_init classes → IsFirstFault classes StaticInit class
  told_init class before body at = record { none_before = none_body before body; first = first_at has_static_init classes class at }

  pub none_told : HasNoneBefore classes 6 → None ≡ position has_interface_body classes → None ≡ position has_static_init classes → HasNoFault classes
  none_told before body at = all
    where
      seven : HasNoneBefore classes 8
      seven = none_next (HasFault classes) StaticInit 8 refl (none_body before body) (none_at has_static_init classes at)

      all : HasNoFault classes
      all TwiceDefined c has = seven TwiceDefined (omega arith) c has
      all MissingClass c has = seven MissingClass (omega arith) c has
      all CyclicSuper c has = seven CyclicSuper (omega arith) c has
      all MissingMember c has = seven MissingMember (omega arith) c has
      all NotImplemented c has = seven NotImplemented (omega arith) c has
      all InterfaceBody c has = seven InterfaceBody (omega arith) c has
      all StaticInit c has = seven StaticInit (omega arith) c has
      all Memory c has = has

  -- ---- the program of the classes

  pub none_in_program : HasNoneBefore classes 3 → HasNoProgramFault (program_among classes) → HasNoneBefore classes 6
  none_in_program before none =
      none_next (HasFault classes) NotImplemented 6 refl
      (none_next (HasFault classes) MissingMember 5 refl
      (none_next (HasFault classes) CyclicSuper 4 refl before (none CyclicSuper)) (none MissingMember)) (none NotImplemented)

  lifted : (code : LinkCode) (class : ℕ) → HasNoneBefore classes 3 → IsFirstProgramFault (program_among classes) code class → ((c : ℕ) → HasProgramFault (program_among classes) code c → HasFault classes code c)
      → ((c : ℕ) → HasFault classes code c → HasProgramFault (program_among classes) code c) → IsFirstFault classes code class
  lifted code class before first up down = record {
    none_before = earlier;
    first = record { here = up class first.first.here; before = λ j below has. first.first.before j below (down j has) };
  }
    where
      earlier : HasNoneBefore classes (rank code)
      earlier TwiceDefined below c has = before TwiceDefined (omega arith) c has
      earlier MissingClass below c has = before MissingClass (omega arith) c has
      earlier CyclicSuper below c has = first.none_before CyclicSuper below c has
      earlier MissingMember below c has = first.none_before MissingMember below c has
      earlier NotImplemented below c has = first.none_before NotImplemented below c has
      earlier InterfaceBody below c has = absurd (too_late code first.first.here below)
        where
          too_late : (code : LinkCode) → HasProgramFault (program_among classes) code class → rank InterfaceBody < rank code → ⊥
          too_late TwiceDefined h b = h
          too_late MissingClass h b = h
          too_late CyclicSuper h b = omega arith
          too_late MissingMember h b = omega arith
          too_late NotImplemented h b = omega arith
          too_late InterfaceBody h b = h
          too_late StaticInit h b = h
          too_late Memory h b = h
      earlier StaticInit below c has = absurd (too_late code first.first.here below)
        where
          too_late : (code : LinkCode) → HasProgramFault (program_among classes) code class → rank StaticInit < rank code → ⊥
          too_late TwiceDefined h b = h
          too_late MissingClass h b = h
          too_late CyclicSuper h b = omega arith
          too_late MissingMember h b = omega arith
          too_late NotImplemented h b = omega arith
          too_late InterfaceBody h b = h
          too_late StaticInit h b = h
          too_late Memory h b = h
      earlier Memory below c has = has

  pub told_by_program : (code : LinkCode) (class : ℕ) → HasNoneBefore classes 3 → IsProgramAnswer (program_among classes) code class → IsToldOf classes code class
  told_by_program TwiceDefined class before told = absurd (told.first.here)
  told_by_program MissingClass class before told = absurd (told.first.here)
  told_by_program CyclicSuper class before told = lifted CyclicSuper class before told (λ c h. h) (λ c h. h)
  told_by_program MissingMember class before told = lifted MissingMember class before told (λ c h. h) (λ c h. h)
  told_by_program NotImplemented class before told = lifted NotImplemented class before told (λ c h. h) (λ c h. h)
  told_by_program InterfaceBody class before told = absurd (told.first.here)
  told_by_program StaticInit class before told = absurd (told.first.here)
  told_by_program Memory class before told = tt

-- ---- faults of a program

module _ (program : Program) where
  pub told_cyclic : (class : ℕ) → IsFirst (IsCyclicSuper program) class → IsFirstProgramFault program CyclicSuper class
  told_cyclic class first = record { none_before = earlier; first = first }
    where
      earlier : (code : LinkCode) → rank code < 3 → (c : ℕ) → HasProgramFault program code c → ⊥
      earlier TwiceDefined below c has = has
      earlier MissingClass below c has = has
      earlier CyclicSuper below c has = omega arith
      earlier MissingMember below c has = omega arith
      earlier NotImplemented below c has = omega arith
      earlier InterfaceBody below c has = has
      earlier StaticInit below c has = has
      earlier Memory below c has = has

  pub told_member : (class : ℕ) → ((c : ℕ) → IsCyclicSuper program c → ⊥) → IsFirst (LacksMember program) class → IsFirstProgramFault program MissingMember class
  told_member class supers first = record { none_before = earlier; first = first }
    where
      earlier : (code : LinkCode) → rank code < 4 → (c : ℕ) → HasProgramFault program code c → ⊥
      earlier TwiceDefined below c has = has
      earlier MissingClass below c has = has
      earlier CyclicSuper below c has = supers c has
      earlier MissingMember below c has = omega arith
      earlier NotImplemented below c has = omega arith
      earlier InterfaceBody below c has = has
      earlier StaticInit below c has = has
      earlier Memory below c has = has

  pub told_bodiless : (class : ℕ) → ((c : ℕ) → IsCyclicSuper program c → ⊥) → ((c : ℕ) → LacksMember program c → ⊥) → IsFirst (IsNotImplemented program) class
      → IsFirstProgramFault program NotImplemented class
  told_bodiless class supers members first = record { none_before = earlier; first = first }
    where
      earlier : (code : LinkCode) → rank code < 5 → (c : ℕ) → HasProgramFault program code c → ⊥
      earlier TwiceDefined below c has = has
      earlier MissingClass below c has = has
      earlier CyclicSuper below c has = supers c has
      earlier MissingMember below c has = members c has
      earlier NotImplemented below c has = omega arith
      earlier InterfaceBody below c has = has
      earlier StaticInit below c has = has
      earlier Memory below c has = has

  pub none_of_program : ((c : ℕ) → IsCyclicSuper program c → ⊥) → ((c : ℕ) → LacksMember program c → ⊥) → ((c : ℕ) → IsNotImplemented program c → ⊥) → HasNoProgramFault program
  none_of_program supers members bodies TwiceDefined c has = has
  none_of_program supers members bodies MissingClass c has = has
  none_of_program supers members bodies CyclicSuper c has = supers c has
  none_of_program supers members bodies MissingMember c has = members c has
  none_of_program supers members bodies NotImplemented c has = bodies c has
  none_of_program supers members bodies InterfaceBody c has = has
  none_of_program supers members bodies StaticInit c has = has
  none_of_program supers members bodies Memory c has = has

-- ---- the name of the class

named_by : (files : List ClassFile) (code : LinkCode) (class : ℕ) (name : List ℕ) → IsToldOf (linked_classes files) code class → slice_get (class_names (linked_classes files)) class ≡ Some name
    → IsLinkAnswer files (record { code = code; class = class; name = name })
named_by files TwiceDefined class name told at = inr (record { told = told; name = at })
named_by files MissingClass class name told at = inr (record { told = told; name = at })
named_by files CyclicSuper class name told at = inr (record { told = told; name = at })
named_by files MissingMember class name told at = inr (record { told = told; name = at })
named_by files NotImplemented class name told at = inr (record { told = told; name = at })
named_by files InterfaceBody class name told at = inr (record { told = told; name = at })
named_by files StaticInit class name told at = inr (record { told = told; name = at })
named_by files Memory class name told at = inl refl

pub answered : (files classes : List ClassFile) (code : LinkCode) (class : ℕ) (fault : LinkFault) → classes ≡ linked_classes files → IsToldOf classes code class → IsNamed classes code class fault
    → IsLinkAnswer files fault
answered files classes code class fault is told (inl memory) = inl memory
answered files classes code class fault is told (inr named) =
    let here : IsToldOf (linked_classes files) code class = subst (λ cs. IsToldOf cs code class) is told in
    let there : slice_get (class_names (linked_classes files)) class ≡ Some fault.name = subst (λ cs. slice_get (class_names cs) class ≡ Some fault.name) is named.2 in
    subst (λ k. IsLinkAnswer files (record { code = k; class = fault.class; name = fault.name })) (sym named.0)
    (subst (λ c. IsLinkAnswer files (record { code = code; class = c; name = fault.name })) (sym named.1) (named_by files code class fault.name here there))

pub not_told : (classes : List ClassFile) (code : LinkCode) (class : ℕ) → code ≡ Memory → IsToldOf classes code class
not_told classes code class is = subst (λ k. IsToldOf classes k class) (sym is) tt

pub not_told_of : (program : Program) (code : LinkCode) (class : ℕ) → code ≡ Memory → IsProgramAnswer program code class
not_told_of program code class is = subst (λ k. IsProgramAnswer program k class) (sym is) tt
