-- What a reader of a policy answers, against what reading gives.
use Rattle.std.specs.Prelude.{◌≡◌, List, ◌++◌, Option, Some, None, Result, Ok, Err}
use Rattle.policy_tree.specs.declared.faults.PolicyFault.{PolicyFault}
use Rattle.policy_tree.specs.declared.faults.PolicyFault.TheVariants.{Memory}

infixl 10 ◌>>=◌
abbrev pub ◌>>=◌ : {A B E : Type 0} → Result A E → (A → Result B E) → Result B E
(Err fault) >>= f = Err fault
(Ok x) >>= f = f x

-- a fault where there is one
abbrev pub refused : {X : Type 0} → (X → PolicyFault) → Option X → Result (Unit {0}) PolicyFault
refused fault None = Ok tt
refused fault (Some x) = Err (fault x)

-- a value, or else the fault
abbrev pub or_fault : {X : Type 0} → PolicyFault → Option X → Result X PolicyFault
or_fault fault None = Err fault
or_fault fault (Some x) = Ok x

-- a list, behind one that is there
abbrev pub behind : {X E : Type 0} → List X → Result (List X) E → Result (List X) E
behind front (Err fault) = Err fault
behind front (Ok items) = Ok (front ++ items)

-- a fault is that of reading; want of memory says nothing
abbrev pub Fails : {Y : Type 0} → PolicyFault → Result Y PolicyFault → Type 0
Fails Memory read = Unit {0}
Fails fault read = read ≡ Err fault

-- what a reader returned, seen by view, is what reading gives
abbrev pub Gives : {X Y : Type 0} → (X → Y) → Result X PolicyFault → Result Y PolicyFault → Type 0
Gives view (Ok x) read = read ≡ Ok (view x)
Gives view (Err fault) read = Fails fault read
