-- What a run looks up is that of its program (this project's own).
use Rattle.std.specs.Prelude.{◌<◌, ◌^◌, length}
use Rattle.hierarchy.specs.Hierarchies.{IsHierarchyOf}
use Rattle.resolved_insns.specs.Strings.{AreStringsOf}
use Rattle.resolved_insns.specs.Tables.{AreInstructionsOf}
use Rattle.jvm_step.specs.declared.settings.Setting.{Setting}

pub record IsReady (setting : Setting) : Type 0 where
  pub kept : IsHierarchyOf setting.program.now setting.hierarchy.now
  pub short : length setting.program.now.classes < 2 ^ 32
  pub strings : AreStringsOf setting.program.now setting.strings.now
  pub instructions : AreInstructionsOf setting.program.now setting.instructions.now
