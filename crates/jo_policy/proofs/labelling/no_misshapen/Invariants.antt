use Rattle.std.proofs.Common.{◌≡◌, drop}
use Rattle.jo_policy.specs.Labelling.{first_misshapen}
use Rattle.jo_policy.proofs.labelling.no_misshapen.Given as goal

-- the methods before this one have their shapes
abbrev pub invariant-loop-item : goal.invariant-loop-item
invariant-loop-item l = first_misshapen l.program (drop l.item-index l.placed) ≡ first_misshapen l.program l.placed
