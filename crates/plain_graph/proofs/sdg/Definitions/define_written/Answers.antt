use Rattle.std.proofs.Common.{ap, ◌∙◌, sym}
use Rattle.std.proofs.Common.{◌∷◌, []}
use Rattle.dependence.specs.declared.flow.Place.TheVariants.{Local, Stack}
use Rattle.dependence.specs.Flow.{writes_of}
use Rattle.plain_graph.proofs.BuildingLemmas.{written_place}
use Rattle.plain_graph.proofs.sdg.Definitions.define_written.Goals as goal

pub define-requires : goal.define-requires
define-requires c = written_place c.args.self.now c.args.operation c.args.height (Stack c.args.height) (ap (λ o. writes_of o c.args.height) c.in-Constant.is) c.requires

pub define-requires-in-Load : goal.define-requires-in-Load
define-requires-in-Load c = written_place c.args.self.now c.args.operation c.args.height (Stack c.args.height) (ap (λ o. writes_of o c.args.height) c.in-Load.is) c.requires

pub define-requires-in-Store : goal.define-requires-in-Store
define-requires-in-Store c = written_place c.args.self.now c.args.operation c.args.height (Local c.in-Store.k) (ap (λ o. writes_of o c.args.height) c.in-Store.is) c.requires

pub define-requires-in-Add : goal.define-requires-in-Add
define-requires-in-Add c = written_place c.args.self.now c.args.operation c.args.height (Stack c.saturating_sub.result)
    (ap (λ o. writes_of o c.args.height) c.in-Add.is ∙ ap (λ h. Stack h ∷ []) (sym c.saturating_sub.ensures)) c.requires

pub define-requires-in-Subtract : goal.define-requires-in-Subtract
define-requires-in-Subtract c = written_place c.args.self.now c.args.operation c.args.height (Stack c.saturating_sub-in-Subtract.result)
    (ap (λ o. writes_of o c.args.height) c.in-Subtract.is ∙ ap (λ h. Stack h ∷ []) (sym c.saturating_sub-in-Subtract.ensures)) c.requires
