-- Paths by parts.
use Rattle.jo_ids.specs.Path.{Path, stays, goes}

-- a path goes on by another
pub path_on : {N : Type 0} {E : N → N → Type 0} {a b c : N} → Path E a b → Path E b c → Path E a c
path_on (stays a) q = q
path_on (goes a b c edge p) q = goes a b _ edge (path_on p q)

-- a path of one edge
pub path_edge : {N : Type 0} {E : N → N → Type 0} {a b : N} → E a b → Path E a b
path_edge {a = a} {b = b} edge = goes a b b edge (stays b)

-- a path goes on by an edge
pub path_more : {N : Type 0} {E : N → N → Type 0} {a b c : N} → Path E a b → E b c → Path E a c
path_more p edge = path_on p (path_edge edge)

-- what an edge keeps a path keeps
pub kept_along : {N : Type 0} {E : N → N → Type 0} (P : N → Type 0) → ((a b : N) → E a b → P a → P b) → {a b : N} → Path E a b → P a → P b
kept_along P keeps (stays a) h = h
kept_along P keeps (goes a b c edge p) h = kept_along P keeps p (keeps a b edge h)

-- a path along edges that are edges of another graph, too
pub path_in : {N M : Type 0} {E : N → N → Type 0} {F : M → M → Type 0} (f : N → M) → ((a b : N) → E a b → F (f a) (f b)) → {a b : N} → Path E a b → Path F (f a) (f b)
path_in f edges (stays a) = stays (f a)
path_in f edges (goes a b c edge p) = goes (f a) (f b) (f c) (edges a b edge) (path_in f edges p)
