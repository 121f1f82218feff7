-- A table of the spellings of nodes, built from the last node to the first.
use Rattle.std.proofs.Common.{◌≡◌, ◌∙◌, ℕ, ◌+◌, Bool, true, false, cond, List, [], ◌∷◌, length, drop, Option, option_map, slice_get, suc, zero, Some, None, refl, sym, ap, Vec, Global, arith}
use Rattle.std.specs.Str.{bytes_eq}
use Rattle.std.proofs.lemmas.List.{drop_all}
use Rattle.std.proofs.lemmas.Slice.Eq.{bytes_eq-Decides}
use Rattle.indexmap.specs.IndexMap.{insert_entry}
use Rattle.jo_prog.specs.declared.program.Program.{Program}
use Rattle.dep_nodes.specs.declared.graphs.NodeName.{NodeName}
use Rattle.dep_nodes.specs.declared.dependence_graph.GraphNode.{GraphNode}
use Rattle.chain_report.specs.declared.node_texts.NodeTexts.{NodeTexts}
use Rattle.chain_report.specs.NodeTexts.{is_spelling, number_at, number_by, first_spelled, AreTextsFrom}

either_way : (a b : Bool) → (a ≡ true → b ≡ true) → (b ≡ true → a ≡ true) → a ≡ b
either_way true true to back = refl
either_way true false to back = let e : false ≡ true = to refl in absurd (cc)
either_way false true to back = let e : false ≡ true = back refl in absurd (cc)
either_way false false to back = refl

turned : (xs ys : List ℕ) → bytes_eq xs ys ≡ bytes_eq ys xs
turned xs ys = either_way (bytes_eq xs ys) (bytes_eq ys xs)
    (λ h. (bytes_eq-Decides ys xs).1 (sym ((bytes_eq-Decides xs ys).0 h)))
    (λ h. (bytes_eq-Decides xs ys).1 (sym ((bytes_eq-Decides ys xs).0 h)))

-- ---- one name more

-- the value of a key that is there is replaced
replaced : (a b : Bool) (n x : ℕ) (more : Option ℕ) → a ≡ b → cond a (Some n) more ≡ cond b (Some n) (cond a (Some x) more)
replaced true true n x more e = refl
replaced true false n x more e = absurd (cc)
replaced false true n x more e = absurd (cc)
replaced false false n x more e = refl

-- two tests of which one fails may change places
passed : (a b : Bool) (n x : ℕ) (more : Option ℕ) → (a ≡ true → b ≡ true → ⊥) → cond a (Some x) (cond b (Some n) more) ≡ cond b (Some n) (cond a (Some x) more)
passed true true n x more apart = absurd (apart refl refl)
passed true false n x more apart = refl
passed false true n x more apart = refl
passed false false n x more apart = refl

abbrev pub inserted : List (Vec ℕ Global × ℕ) → Vec ℕ Global → ℕ → List (Vec ℕ Global × ℕ)
inserted entries key number = insert_entry (λ k other. bytes_eq k.items other.items) entries key number

one_more : (b : Bool) (entry : Vec ℕ Global × ℕ) (more : List (Vec ℕ Global × ℕ)) (key : Vec ℕ Global) (number : ℕ) (text : List ℕ)
    → bytes_eq key.items entry.0.items ≡ b
    → number_at (inserted more key number) text ≡ cond (bytes_eq key.items text) (Some number) (number_at more text)
    → number_at (cond b ((entry.0, number) ∷ more) (entry ∷ inserted more key number)) text
    ≡ cond (bytes_eq key.items text) (Some number) (cond (bytes_eq text entry.0.items) (Some entry.1) (number_at more text))
one_more true entry more key number text same rest =
    let is : key.items ≡ entry.0.items = (bytes_eq-Decides key.items entry.0.items).0 same in
    replaced (bytes_eq text entry.0.items) (bytes_eq key.items text) number entry.1 (number_at more text) (ap (λ (t : List ℕ). bytes_eq text t) (sym is) ∙ turned text key.items)
one_more false entry more key number text same rest =
    ap (λ (r : Option ℕ). cond (bytes_eq text entry.0.items) (Some entry.1) r) rest
    ∙ passed (bytes_eq text entry.0.items) (bytes_eq key.items text) number entry.1 (number_at more text) (λ this that.
    let both : key.items ≡ entry.0.items = (bytes_eq-Decides key.items text).0 that ∙ (bytes_eq-Decides text entry.0.items).0 this in
    let e : bytes_eq key.items entry.0.items ≡ true = (bytes_eq-Decides key.items entry.0.items).1 both in
    absurd (cc))

pub name_put : (entries : List (Vec ℕ Global × ℕ)) (key : Vec ℕ Global) (number : ℕ) (text : List ℕ)
    → number_at (inserted entries key number) text ≡ cond (bytes_eq key.items text) (Some number) (number_at entries text)
name_put [] key number text = ap (λ b. cond b (Some number) None) (turned text key.items)
name_put (entry ∷ more) key number text = one_more (bytes_eq key.items entry.0.items) entry more key number text refl (name_put more key number text)

-- ---- the nodes from one on

-- the node with that name, and those behind it
named_more : (nodes : List GraphNode) (k : ℕ) (name : NodeName) → option_map (λ (n : GraphNode). n.name) (slice_get nodes k) ≡ Some name
    → (node : GraphNode) × (node.name ≡ name) × (drop k nodes ≡ node ∷ drop (suc k) nodes)
named_more [] k name is = absurd (cc)
named_more (node ∷ nodes) zero name is = let e : node.name ≡ name = cc in (node, e, refl)
named_more (node ∷ nodes) (suc k) name is = named_more nodes k name is

pub no_texts : (program : Program) (nodes : List GraphNode) (texts : NodeTexts) → texts.numbers.entries ≡ [] → AreTextsFrom program (length nodes) (drop (length nodes) nodes) texts
no_texts program nodes texts empty = λ text. ap (λ (es : List (Vec ℕ Global × ℕ)). number_at es text) empty
    ∙ sym (ap (λ (ns : List GraphNode). first_spelled program (length nodes) ns text) (drop_all (length nodes) nodes (omega arith)))

pub one_text : (program : Program) (nodes : List GraphNode) (left : ℕ) (name : NodeName) (old new : NodeTexts)
    → option_map (λ (n : GraphNode). n.name) (slice_get nodes left) ≡ Some name
    → AreTextsFrom program (suc left) (drop (suc left) nodes) old
    → ((text : List ℕ) → number_by new text ≡ cond (is_spelling program name text) (Some left) (number_by old text))
    → AreTextsFrom program left (drop left nodes) new
one_text program nodes left name old new at are put = λ text.
    let (node, is, drops) = named_more nodes left name at in
    let e : suc left ≡ left + 1 = omega arith in
    put text ∙ ap (λ (m : NodeName). cond (is_spelling program m text) (Some left) (number_by old text)) (sym is)
    ∙ ap (λ (r : Option ℕ). cond (is_spelling program node.name text) (Some left) r) (are text ∙ ap (λ (n : ℕ). first_spelled program n (drop (suc left) nodes) text) e)
    ∙ sym (ap (λ (ns : List GraphNode). first_spelled program left ns text) drops)
