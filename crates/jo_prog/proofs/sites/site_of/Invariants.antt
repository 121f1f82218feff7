use Rattle.std.proofs.Common.{◌≡◌, drop}
use Rattle.std.specs.List.{position_from}
use Rattle.jo_prog.specs.Sites.{is_site}
use Rattle.jo_prog.proofs.sites.site_of.Given as goal

abbrev pub invariant-loop-number : goal.invariant-loop-number
invariant-loop-number l = position_from (is_site l.method l.pc l.raised) l.number (drop l.number l.sites) ≡ position_from (is_site l.method l.pc l.raised) 0 l.sites
