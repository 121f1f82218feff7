use Rattle.std.proofs.Common.{◌≡◌, ◌∙◌, ap, arith}
use Rattle.jo_prog.specs.Constants.{texts_of, distinct, string_constants}
use Rattle.resolved_insns.specs.Strings.{lent}
use Rattle.resolved_insns.proofs.strings.Strings.build.Goals as goal

pub returns : goal.returns
unfolding string_constants
returns c =
    let same : lent c.as_slice.result.now ≡ texts_of c.args.program.now = ap lent c.as_slice.ensures.value ∙ c.in_ok-texts.ensures in
    (c.in_ok-strings.ensures ∙ ap distinct same, omega arith)
