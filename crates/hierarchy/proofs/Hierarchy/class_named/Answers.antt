use Rattle.std.proofs.Common.{◌∙◌}
use Rattle.hierarchy.proofs.Hierarchy.class_named.Goals as goal

pub returns : goal.returns
returns c = c.class_with.ensures ∙ c.requires.names_kept c.args.name.now
