use Rattle.std.proofs.Common.{◌∙◌}
use Rattle.jo_policy.proofs.MethodEntries.{found}
use Rattle.jo_policy.proofs.spellings.place_at.Goals as goal

pub returns : goal.returns
returns c = c.copied.ensures ∙ c.get.ensures.value ∙ found c.args.index.now.places.entries c.args.spelling.now
