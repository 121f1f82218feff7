-- Lists of edges and tables of definitions as they grow.
use Rattle.std.proofs.Common.{◌≡◌, ◌==◌, ℕ, cond, Bool, true, false, ◌&&◌, List, [], ◌∷◌, ◌++◌, Contains, refl, sym, ap, subst, ◌∙◌, arith, append_assoc}
use Rattle.std.proofs.lemmas.List.{append-nil}
use Rattle.jo_prog.specs.declared.operations.Operation.{Operation}
use Rattle.dependence.specs.declared.flow.Place.{Place}
use Rattle.dep_nodes.specs.declared.kinds.EdgeKind.TheVariants.{Heap}
use Rattle.dep_nodes.specs.declared.graphs.Edge.{Edge}
use Rattle.plain_graph.specs.declared.sdg.Definitions.{Definitions}
use Rattle.plain_graph.specs.declared.sdg.SourceResult.{SourceResult}
use Rattle.dependence.specs.Flow.{writes_of}
use Rattle.dep_nodes.specs.Graphs.{edge}
use Rattle.plain_graph.specs.Building.{HasPlace, heap_edges}

-- the one place that an operation writes stands in the tables
pub written_place : (definitions : Definitions) (operation : Operation) (height : ℕ) (v : Place) → writes_of operation height ≡ v ∷ [] → ((w : Place) → Contains (writes_of operation height) w → HasPlace definitions w) → HasPlace definitions v
written_place definitions operation height v e all = all v (subst (λ l. Contains l v) (sym e) (0, omega arith, refl))

pub heap_edges-push : (rs : List SourceResult) (r : SourceResult) (source node : ℕ) → heap_edges (rs ++ r ∷ []) source node ≡ heap_edges rs source node ++ cond (r.source == source) (edge r.node Heap node ∷ edge node Heap r.node ∷ []) []
heap_edges-push [] r source node = append-nil _
heap_edges-push (x ∷ rs) r source node =
    ap (λ es. cond (x.source == source) (edge x.node Heap node ∷ edge node Heap x.node ∷ []) [] ++ es) (heap_edges-push rs r source node)
    ∙ sym (append_assoc (cond (x.source == source) (edge x.node Heap node ∷ edge node Heap x.node ∷ []) []) (heap_edges rs source node) (cond (r.source == source) (edge r.node Heap node ∷ edge node Heap r.node ∷ []) []))

pub and_true : (b : Bool) → (b && true) ≡ b
and_true true = refl
and_true false = refl

-- two edges more
pub append_two : (new mid old first done : List Edge) (x y : Edge) → new ≡ mid ++ y ∷ [] → mid ≡ old ++ x ∷ [] → old ≡ first ++ done → new ≡ first ++ (done ++ x ∷ y ∷ [])
append_two new mid old first done x y e f g =
    e ∙ ap (λ t. t ++ y ∷ []) (f ∙ ap (λ t. t ++ x ∷ []) g) ∙ append_assoc (first ++ done) (x ∷ []) (y ∷ []) ∙ append_assoc first done (x ∷ y ∷ [])
