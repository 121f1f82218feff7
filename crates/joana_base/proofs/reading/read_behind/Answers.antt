use Rattle.std.proofs.Common.{◌+◌, List, length, ℕ, option_map, Err, subst}
use Rattle.std.specs.Prelude.{Vec}
use Rattle.std.specs.declared.alloc.Global.{Global}
use Rattle.joana_base.specs.Files.{listed}
use Rattle.joana_base.specs.Reading.{IsReadFrom, AfterReadsFrom, change_of}
use Rattle.joana_base.specs.declared.reading.FilesBehind.{FilesBehind}
use Rattle.joana_base.proofs.ReadFiles.{reads_on, paths_behind}
use Rattle.joana_base.proofs.reading.read_behind.Goals as goal

pub returns-in-Err-read_paths-clause-after : goal.returns-in-Err-read_paths-clause-after
returns-in-Err-read_paths-clause-after g c =
    let third = option_map (λ name. name.now) c.args.third in
    let held = g.F.Files.held c.args.files.now in
    let now = g.F.Files.held c.read_third.new.files in
    let mid = g.F.Files.faults c.read_third.new.files in
    let after = g.F.Files.faults c.read_paths.new.files in
    let failed = g.F.Files.failed c.read_paths.new.files in
    let From : ℕ → Type 0 = λ first. AfterReadsFrom {T = Vec (Vec ℕ Global) Global} first c.args.paths.now (Err c.in-Err-read_paths.stop) (change_of now mid after failed) in
    reads_on (Vec (Vec ℕ Global) Global) FilesBehind (IsReadFrom (2 + length (listed third)) c.args.paths.now) _ (paths_behind third c.args.paths.now)
    held now c.in-Err-read_paths.stop (g.F.Files.faults c.args.files.now) mid after failed c.in-Ok.ensures.after (subst From c.first_of_paths.ensures.value c.in-Err-read_paths.ensures.after)
