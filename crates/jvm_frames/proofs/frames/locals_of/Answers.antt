use Rattle.std.proofs.Common.{rules, ◌≡◌, ◌-◌, ◌++◌, ℕ, ap, length, take, map, replicate, Option, Some, None, arith}
use Rattle.std.proofs.lemmas.List.{length-map}
use Rattle.jvm_values.specs.declared.values.Value.{Value}
use Rattle.jvm_frames.proofs.LocalLemmas.{locals_set}
use Rattle.jvm_frames.proofs.frames.locals_of.Goals as goal

pub returns : goal.returns
returns c =
    let values = c.args.values.now in
    let count = c.args.count in
    let is : c.fill.new.locals.items ≡ take count (map (λ v. Some v) values) ++ replicate (count - length {A = Option Value} (map (λ v. Some v) values)) None = search rules in
    let left : count - length {A = Option Value} (map (λ v. Some v) values) ≡ count - length values = ap (λ (n : ℕ). count - n) (length-map values (λ v. Some v)) in
    rw is (locals_set count count (count - length {A = Option Value} (map (λ v. Some v) values)) values left (omega arith))
