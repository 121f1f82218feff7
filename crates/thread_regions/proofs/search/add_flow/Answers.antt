use Rattle.std.proofs.lemmas.Result.{on_ok_weaker}
use Rattle.thread_regions.specs.declared.search.Spot.TheVariants.{Node, AfterOf}
use Rattle.thread_regions.specs.Searches.{Just, FlowPart}
use Rattle.thread_regions.proofs.SpotLemmas.{adds_both}
use Rattle.thread_regions.proofs.search.add_flow.Goals as goal

pub returns : goal.returns
returns c =
    on_ok_weaker c.connect-2.result
    (λ second. adds_both c.args.search.now c.connect.new.search c.connect-2.new.search (Just (Node c.args.n) (Node c.args.to)) (Just (AfterOf c.args.n) (Node c.args.to)) (FlowPart c.args.n c.args.to)
    c.in_ok-connect.ensures second (λ a b. (λ h. h, λ h. h)))
    c.connect-2.ensures
