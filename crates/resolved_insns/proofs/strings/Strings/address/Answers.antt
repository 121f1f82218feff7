use Rattle.std.proofs.Common.{◌∙◌, ap}
use Rattle.jo_prog.specs.Constants.{place_of}
use Rattle.resolved_insns.proofs.StringLemmas.{place_is}
use Rattle.resolved_insns.proofs.strings.Strings.address.Goals as goal

pub returns-in-Some : goal.returns-in-Some
returns-in-Some c = c.in-Some.ensures.index ∙ place_is c.args.text.now c.args.self.now.texts.keys ∙ ap (place_of c.args.text.now) c.requires.0

pub returns-in-None : goal.returns-in-None
returns-in-None c = c.in-None.ensures.index ∙ place_is c.args.text.now c.args.self.now.texts.keys ∙ ap (place_of c.args.text.now) c.requires.0
