use Rattle.std.proofs.Common.{◌≡◌, ◌++◌, drop}
use Rattle.jo_prog.specs.Sites.{sites_behind, sites_of}
use Rattle.jo_prog.proofs.sites.sites_of.Given as goal

abbrev pub invariant-loop-number : goal.invariant-loop-number
invariant-loop-number l = l.sites ++ sites_behind l.number (drop l.number l.methods) ≡ sites_of l.methods
