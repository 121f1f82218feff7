use Rattle.std.proofs.Common.{rules, ◌≡◌, true, false, Contains}
use Rattle.typing_heights.specs.Moves.{other_height}
use Rattle.typing_heights.specs.Searches.{height_at}
use Rattle.jvm_typing.proofs.StopLemmas.{not_kept, step_kept}
use Rattle.jvm_typing.proofs.stops.keep.Goals as goal

pub returns-then-differs : goal.returns-then-differs
returns-then-differs c =
    let other : other_height (height_at c.args.heights.now c.args.step.to) c.args.step.height ≡ true = search rules in
    not_kept (Contains c.args.kept.now.items) c.args.heights.now c.args.step other

pub returns : goal.returns
returns c =
    let same : other_height (height_at c.args.heights.now c.args.step.to) c.args.step.height ≡ false = search rules in
    step_kept c.args.kept.now.items c.push.new.self.items c.args.heights.now c.args.step same (search rules)
