use Rattle.std.proofs.Common.{sym, subst, ◌∙◌}
use Rattle.jo_prog.specs.SiteOrder.{IsInOrder}
use Rattle.jo_prog.proofs.SiteLemmas.{in_order}
use Rattle.jo_prog.proofs.program.Program.site_of.Goals as goal

pub site_of-requires-clause-order : goal.site_of-requires-clause-order
site_of-requires-clause-order c = subst IsInOrder (sym (c.as_slice.ensures ∙ c.args.self.now.sites_are)) (in_order c.args.self.now.methods)
