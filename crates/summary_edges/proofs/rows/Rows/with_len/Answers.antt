use Rattle.std.proofs.Common.{◌≡◌, ℕ, List, [], replicate, ◌∙◌, ap, arith}
use Rattle.summary_edges.proofs.rows.Rows.with_len.Goals as goal

pub returns : goal.returns
returns c =
    let all : c.loop.counter ≡ c.args.len = omega arith in
    c.loop.invariant ∙ ap (λ n. replicate {A = List ℕ} n []) all
