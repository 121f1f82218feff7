-- Paths of a graph that is given by its relation of edges, over any type of nodes (standard).

-- a path of any length along the edges
pub data Path {N : Type 0} (E : N → N → Type 0) : N → N → Type 0 where
  stays : (a : N) → Path E a a
  goes : (a b c : N) → E a b → Path E b c → Path E a c
