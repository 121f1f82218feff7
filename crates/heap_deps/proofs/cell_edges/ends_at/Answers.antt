use Rattle.heap_deps.proofs.cell_edges.ends_at.Goals as goal

pub returns : goal.returns
returns c from to =
    (λ p. ((c.in_ok-writers.ensures from).0 p.0, (c.in_ok-readers.ensures to).0 p.1), λ p. ((c.in_ok-writers.ensures from).1 p.0, (c.in_ok-readers.ensures to).1 p.1))
