-- What typing the methods of a program answers (this project's own).
use Rattle.std.specs.Prelude.{◌≡◌, ◌↔◌, ℕ, ◌<◌, List, [], length, Option, Some, slice_index_or}
use Rattle.jo_prog.specs.declared.program.Program.{Program}
use Rattle.jo_prog.specs.TypingPaths.{IsTypedMethod, IsTypeFaultOf, HasHeightAt}
use Rattle.jvm_typing.specs.declared.programs.MethodFault.{MethodFault}
use Rattle.typing_heights.specs.FirstPaths.{HasFirstPaths}
use Rattle.typing_heights.specs.Searches.{height_at}

-- the methods below the end are typed, each pc of them that is reached has a first path, and these are their heights, each under its method's number
pub record AreTypings (program : Program) (end : ℕ) (typings : List (List (Option ℕ))) : Type 0 where
  pub count : length typings ≡ end
  pub typed : (m : ℕ) → m < end → IsTypedMethod program m
  pub first_paths : (m : ℕ) → m < end → HasFirstPaths program m
  pub heights : (m : ℕ) → m < end → (pc h : ℕ) → (height_at (slice_index_or typings m []) pc ≡ Some h) ↔ HasHeightAt program m pc h

-- the method has that fault, and those with lower numbers have none
pub record IsFirstMethodFault (program : Program) (f : MethodFault) : Type 0 where
  pub has_fault : IsTypeFaultOf program f.method f.fault
  pub earlier : (m : ℕ) → m < f.method → IsTypedMethod program m
