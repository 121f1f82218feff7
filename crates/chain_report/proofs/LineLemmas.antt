-- The first line that isn't there, where it was found.
use Rattle.std.proofs.Common.{◌≡◌, ◌∙◌, ℕ, ◌+◌, ◌<◌, List, ◌∷◌, length, drop, get_or, Option, Some, refl, sym, ap, subst, inr}
use Rattle.std.proofs.lemmas.List.{drop_more}
use Rattle.dep_nodes.specs.declared.dependence_graph.GraphNode.{GraphNode}
use Rattle.report_texts.specs.declared.lines.ReportLine.{ReportLine}
use Rattle.chain_report.specs.Verify.{IsFirstMissing, IsThere}

pub missing_here : (nodes : List GraphNode) (find : List ℕ → Option ℕ) (before : Option ℕ) (k : ℕ) (lines : List ReportLine) (line : ReportLine) → k < length lines → line ≡ get_or lines k line
    → (IsThere nodes find before line → ⊥) → IsFirstMissing nodes find before (k + 1) (drop k lines) (Some (k + 1))
missing_here nodes find before k lines line below at apart =
    let drops : drop k lines ≡ line ∷ drop (k + 1) lines = drop_more lines k line below ∙ ap (λ (x : ReportLine). x ∷ drop (k + 1) lines) (sym at) in
    subst (λ (ls : List ReportLine). IsFirstMissing nodes find before (k + 1) ls (Some (k + 1))) (sym drops) (inr (apart, refl))
