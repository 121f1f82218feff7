-- Items of arrays.
use Rattle.std.proofs.Common.{◌≡◌, ℕ, List, Option, Some, None, option_map, Bor, ap, ◌∙◌}
use Rattle.std.specs.Slice.{IsItemAt}
use Rattle.toml.specs.Data.{get_item}
use Rattle.toml.specs.View.{view, items_view}
use Rattle.toml.specs.declared.value.Value.{Value}
use Rattle.toml.proofs.Views.{get_item_within, get_item_past}

pub item_lent : (vs : List Value) (i : ℕ) (r : Option (Bor Value)) → IsItemAt vs i r → option_map (λ x. view x.now) r ≡ get_item i (items_view vs)
item_lent vs i None h = get_item_past vs i h.3
item_lent vs i (Some x) h = ap (λ v. Some (view v)) h.1 ∙ get_item_within vs i x.now h.3.0
