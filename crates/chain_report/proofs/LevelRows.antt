-- The order of a policy's levels, by rows and by pairs.
use Rattle.std.proofs.Common.{◌≡◌, ℕ, Bool, true, false, List, refl, sym}
use Rattle.jo_order.specs.declared.Levels.{Levels}
use Rattle.jo_order.specs.Flowing.{flows, FlowsBy}
use Rattle.jo_prog.specs.Labels.{flows_by}
use Rattle.jo_prog.proofs.Flows.{along_from_flows, flows_from_along}

same_test : (a b : Bool) → (a ≡ true → b ≡ true) → (b ≡ true → a ≡ true) → a ≡ b
same_test true b f g = sym (f refl)
same_test false true f g = g refl
same_test false false f g = refl

pub same_flows : (pairs : List (ℕ × ℕ)) (order : Levels) → FlowsBy pairs order → (a b : ℕ) → flows order a b ≡ flows_by pairs a b
same_flows pairs order by a b =
    same_test (flows order a b) (flows_by pairs a b) (λ h. flows_from_along pairs ((by a b).0 h)) (λ h. (by a b).1 (along_from_flows pairs a b h))
