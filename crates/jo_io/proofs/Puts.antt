-- What a sink was given by several puts.
use Rattle.std.proofs.Common.{ℕ, List, [], ◌++◌, Option, Some, None, refl, sym, ap, ◌∙◌, append_assoc}
use Rattle.std.proofs.lemmas.List.{append-nil}
use Rattle.jo_io.specs.Sink.{Extends, ExtendsByPrefix}

-- before the first put
pub Extends-nil : (given : Option (List ℕ)) → Extends given given []
Extends-nil None = refl
Extends-nil (Some bytes) = ap Some (sym (append-nil bytes))

-- one put after others
pub Extends-append : (old mid new : Option (List ℕ)) (bytes more : List ℕ) → Extends old mid bytes → Extends mid new more → Extends old new (bytes ++ more)
Extends-append None None new bytes more first second = second
Extends-append (Some given) (Some held) new bytes more first second = cc (append_assoc given bytes more)
Extends-append None (Some held) new bytes more first second = cc
Extends-append (Some given) None new bytes more first second = cc

-- a put that failed after others
pub ExtendsByPrefix-append : (old mid new : Option (List ℕ)) (bytes more : List ℕ) → Extends old mid bytes → ExtendsByPrefix mid new more → ExtendsByPrefix old new (bytes ++ more)
ExtendsByPrefix-append old mid new bytes more first part =
    (bytes ++ part.0, part.1, append_assoc bytes part.0 part.1 ∙ ap (λ rest. bytes ++ rest) part.2, Extends-append old mid new bytes part.0 first part.3)

-- what was given whole is a beginning of what was to be given
pub ExtendsByPrefix-from_whole : (old new : Option (List ℕ)) (bytes rest : List ℕ) → Extends old new bytes → ExtendsByPrefix old new (bytes ++ rest)
ExtendsByPrefix-from_whole old new bytes rest whole = (bytes, rest, refl, whole)

-- a beginning of the first bytes is one of them all
pub ExtendsByPrefix-more : (old new : Option (List ℕ)) (bytes more : List ℕ) → ExtendsByPrefix old new bytes → ExtendsByPrefix old new (bytes ++ more)
ExtendsByPrefix-more old new bytes more part =
    (part.0, part.1 ++ more, sym (append_assoc part.0 part.1 more) ∙ ap (λ front. front ++ more) part.2, part.3)
