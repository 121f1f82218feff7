-- What is looked up of a method is that of its program (this project's own).
use Rattle.std.specs.Prelude.{◌<◌, ◌^◌, length}
use Rattle.jo_prog.specs.TypingPaths.{HasHeightAt}
use Rattle.hierarchy.specs.Hierarchies.{IsHierarchyOf}
use Rattle.dependence.specs.GraphsAsData.{IsWideGraph}
use Rattle.method_views.specs.declared.views.MethodView.{MethodView}
use Rattle.method_views.specs.Heights.{AreHeightsOf}
use Rattle.method_views.specs.UseTables.{IsUseTable}

pub record IsMethodView (view : MethodView) : Type 0 where
  pub kept : IsHierarchyOf view.program.now view.hierarchy.now
  pub short : length view.program.now.classes < 2 ^ 32
  pub few_sites : length view.program.now.sites < 2 ^ 32
  pub graph : IsWideGraph view.program.now view.method (HasHeightAt view.program.now view.method) view.wide.now
  pub heights : AreHeightsOf view.program.now view.method view.typed.now
  pub uses : IsUseTable view.wide.now view.uses.now
