-- Context policies over lists of sites: in which context a method is called and an object made. Objects as contexts
-- are of Milanova, Rountev and Ryder (2005), contexts of objects of Smaragdakis, Bravenboer and Lhotak (2011).
use Rattle.std.specs.Prelude.{ℕ, List, [], ◌∷◌, take, length, ◌≤◌, Option, Some, None}
use Rattle.jo_ids.specs.declared.ObjKey.{ObjKey}

-- the object that a method is called on: the site that makes it, and the object's context
pub record Receiver : Type 0 where
  pub site : ℕ
  pub context : List ℕ

abbrev pub receiver_at : ℕ → List ℕ → Receiver
receiver_at site context = record { site = site; context = context }

-- an object as a receiver, where its context is seen as a list
abbrev pub receiver_of : {C : Type 0} → (C → List ℕ) → ObjKey C → Receiver
receiver_of list object = record { site = object.site; context = list object.context }

-- the context of what is called by a caller in its context at a site on a receiver (if it has one), and that of an object which
-- is made in a method's context at a site; the program starts in the empty one
pub record ContextPolicy : Type 0 where
  pub enter : List ℕ → ℕ → Option Receiver → List ℕ
  pub heap : List ℕ → ℕ → List ℕ

-- one context for all (context-insensitive)
abbrev pub insensitive : ContextPolicy
insensitive = record { enter = λ caller site receiver. []; heap = λ context site. [] }

-- the receiver's site, and the caller's context where there is no receiver
abbrev pub receiver_site : List ℕ → Option Receiver → List ℕ
receiver_site caller None = caller
receiver_site caller (Some receiver) = receiver.site ∷ []

-- one site for methods, none for objects (1-object-sensitive)
abbrev pub one_object_sensitive : ContextPolicy
one_object_sensitive =
    record {
      enter = λ caller site receiver. receiver_site caller receiver;
      heap = λ context site. [];
    }

-- the receiver's site and the first of its context (the site of the object whose method makes it), and the
-- caller's context where there is no receiver
abbrev pub receiver_and_its_maker : List ℕ → Option Receiver → List ℕ
receiver_and_its_maker caller None = caller
receiver_and_its_maker caller (Some receiver) = receiver.site ∷ take 1 receiver.context

-- two sites for methods, one for objects (2-full-object-sensitive with a 1-context-sensitive heap)
abbrev pub two_object_sensitive : ContextPolicy
two_object_sensitive =
    record {
      enter = λ caller site receiver. receiver_and_its_maker caller receiver;
      heap = λ context site. take 1 context;
    }

-- a context that the policy gives to a method or an object: from the root by calls and objects made
pub data IsContext (policy : ContextPolicy) : List ℕ → Type 0 where
  starts : IsContext policy []
  calls : (caller : List ℕ) (site : ℕ) → IsContext policy caller
      → IsContext policy (policy.enter caller site None)
  calls_on : (caller context : List ℕ) (site made_at : ℕ) → IsContext policy caller → IsContext policy context
      → IsContext policy (policy.enter caller site (Some (receiver_at made_at context)))
  makes : (context : List ℕ) (site : ℕ) → IsContext policy context
      → IsContext policy (policy.heap context site)

-- no context has more than two sites where those that it is made from have not
pub record KeepsTwo (policy : ContextPolicy) : Type 0 where
  pub call : (caller : List ℕ) (site : ℕ) → length caller ≤ 2 → length (policy.enter caller site None) ≤ 2
  pub call_on : (caller context : List ℕ) (site made_at : ℕ) → length caller ≤ 2 → length context ≤ 2
      → length (policy.enter caller site (Some (receiver_at made_at context))) ≤ 2
  pub heap : (context : List ℕ) (site : ℕ) → length context ≤ 2 → length (policy.heap context site) ≤ 2
