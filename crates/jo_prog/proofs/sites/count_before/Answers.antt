use Rattle.std.proofs.Common.{rules}
use Rattle.std.proofs.lemmas.Fn.{always_returns_same}
use Rattle.jo_prog.specs.SiteOrder.{is_before}
use Rattle.jo_prog.proofs.sites.count_before.Goals as goal

pub returns-clause-point : goal.returns-clause-point
returns-clause-point c =
    c.partition_point.ensures.partitioned (is_before c.args.at c.args.place) (always_returns_same _ _ _ (λ a r f k. search rules)) (c.requires c.args.at c.args.place)
