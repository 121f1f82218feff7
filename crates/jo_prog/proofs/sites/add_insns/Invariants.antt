use Rattle.std.proofs.Common.{◌≡◌, ◌++◌, drop}
use Rattle.jo_prog.specs.Sites.{sites_among}
use Rattle.jo_prog.proofs.sites.add_insns.Given as goal

abbrev pub invariant-loop-placed : goal.invariant-loop-placed
invariant-loop-placed l = l.sites ++ sites_among l.method (drop l.placed-index l.insns) ≡ l.initial.sites ++ sites_among l.method l.insns
