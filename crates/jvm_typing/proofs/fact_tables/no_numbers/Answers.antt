use Rattle.std.proofs.Common.{◌≡◌, ℕ, List, [], length, ◌∙◌, ap, arith}
use Rattle.std.proofs.lemmas.List.{length-replicate}
use Rattle.jvm_typing.proofs.fact_tables.no_numbers.Goals as goal

pub returns : goal.returns
returns c =
    let all : c.loop.counter ≡ c.args.slots = omega arith in
    ap (λ (rows : List (List ℕ)). length rows) c.loop.invariant ∙ length-replicate {A = List ℕ} c.loop.counter [] ∙ all
