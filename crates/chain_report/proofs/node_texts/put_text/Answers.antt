use Rattle.std.proofs.Common.{◌≡◌, ◌∙◌, ◌++◌, ◌&&◌, ℕ, Bool, true, List, Some, cond, ap}
use Rattle.std.specs.Str.{bytes_eq}
use Rattle.dep_nodes.specs.Nodes.{node_named}
use Rattle.chain_report.specs.Nodes.{spelled_node}
use Rattle.chain_report.specs.NodeTexts.{has_spelling, number_at, number_by}
use Rattle.chain_report.proofs.TextTables.{name_put}
use Rattle.chain_report.proofs.node_texts.put_text.Goals as goal

pub returns-in-Ok : goal.returns-in-Ok
returns-in-Ok c =
    let spelling : List ℕ = spelled_node c.args.program.now (node_named c.args.name.now) in
    let key : c.push_node.new.out.items ≡ spelling = c.in_ok-push_node.ensures ∙ ap (λ (t : List ℕ). t ++ spelling) c.new-key.ensures.items in
    let spelled : true ≡ has_spelling c.args.name.now.kind = cc in
    λ text. ap (λ es. number_at es text) c.in-Ok.ensures.entries
    ∙ name_put c.args.texts.now.numbers.entries c.push_node.new.out c.args.number text
    ∙ ap (λ (k : List ℕ). cond (bytes_eq k text) (Some c.args.number) (number_by c.args.texts.now text)) key
    ∙ ap (λ (b : Bool). cond (b && bytes_eq spelling text) (Some c.args.number) (number_by c.args.texts.now text)) spelled
