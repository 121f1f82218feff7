use Rattle.heap_deps.proofs.StartLemmas.{site_told}
use Rattle.heap_deps.proofs.starts.has_site.Goals as goal

pub returns : goal.returns
returns c = site_told c.args.program.now c.args.method c.args.pc c.site_of.result c.is_some.result c.site_of.ensures c.is_some.ensures
