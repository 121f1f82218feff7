use Rattle.std.proofs.Common.{List, ℕ, ◌+◌, length, Err, refl, arith, subst}
use Rattle.std.specs.Prelude.{Vec}
use Rattle.std.specs.declared.alloc.Global.{Global}
use Rattle.joana_base.specs.Files.{IsToldAs}
use Rattle.joana_base.specs.Reading.{AfterRead, change_of}
use Rattle.std.proofs.lemmas.Option.{slice_get_read}
use Rattle.joana_base.proofs.ReadFiles.{path_read, paths_read, path_stops}
use Rattle.joana_base.proofs.reading.read_paths.Goals as goal

pub loop-place-init : goal.loop-place-init
loop-place-init g c =
    rw c.new-classes.ensures.items (record { quiet = refl; same = λ name. refl; read = λ rest each. each })

pub returns-in-Err-push-clause-after : goal.returns-in-Err-push-clause-after
returns-in-Err-push-clause-after g c = omega (arith, c.in-Ok.ensures.after, c.loop-place.invariant.quiet)

pub returns-in-Err-clause-after : goal.returns-in-Err-clause-after
returns-in-Err-clause-after g c =
    let at = slice_get_read c.args.paths.now (length c.args.paths.now) c.loop-place.place c.index-paths-place.result refl c.loop-place-test.true c.index-paths-place.is in
    let After : List ℕ → Type 0 = λ path.
    AfterRead {T = Vec ℕ Global} (c.loop-place.place + c.args.first) path (Err c.in-Err.stop)
    (change_of (g.F.Files.held c.loop-place.files) (g.F.Files.faults c.loop-place.files) (g.F.Files.faults c.read_path.new.files) (g.F.Files.failed c.read_path.new.files)) in
    path_stops (Vec ℕ Global) (Vec (Vec ℕ Global) Global) (g.F.Files.held c.args.files.now) (g.F.Files.held c.loop-place.files) c.args.first c.args.paths.now c.loop-place.place c.index-paths-place.result c.in-Err.stop (g.F.Files.faults c.args.files.now) (g.F.Files.faults c.loop-place.files) (g.F.Files.faults c.read_path.new.files)
    (g.F.Files.failed c.read_path.new.files) at c.loop-place.invariant.quiet (subst After c.as_slice.ensures c.in-Err.ensures.after)

pub loop-place-preserved : goal.loop-place-preserved
loop-place-preserved g c =
    let P : List ℕ → Type 0 = λ path. IsToldAs (g.F.Files.held c.loop-place.files) path c.in-Ok.bytes.items in
    rw c.in-Ok-push.ensures.items (path_read (g.F.Files.held c.args.files.now) (g.F.Files.held c.loop-place.files) (g.F.Files.held c.read_path.new.files) (g.F.Files.faults c.args.files.now)
    (g.F.Files.faults c.loop-place.files) (g.F.Files.faults c.read_path.new.files) c.args.paths.now c.loop-place.classes.items c.loop-place.place c.index-paths-place.result c.in-Ok.bytes
    c.loop-place-test.true c.index-paths-place.is c.loop-place.invariant c.in-Ok.ensures.after c.in-Ok.ensures.held (subst P c.as_slice.ensures c.in-Ok.ensures.read))

pub returns-clause-after : goal.returns-clause-after
returns-clause-after g c = c.loop-place.invariant.quiet

pub returns-clause-read : goal.returns-clause-read
returns-clause-read g c =
    paths_read (g.F.Files.held c.args.files.now) (g.F.Files.held c.loop-place.files) (g.F.Files.faults c.args.files.now) (g.F.Files.faults c.loop-place.files) c.args.paths.now c.loop-place.classes.items
    c.loop-place.place c.loop-place-test.false c.loop-place.invariant
