use Rattle.std.proofs.Common.{◌≡◌, length, take}
use Rattle.method_views.proofs.TableLemmas.{HasUses}
use Rattle.method_views.proofs.use_tables.UseTable.build.Given as goal

abbrev pub invariant-loop-u : goal.invariant-loop-u
invariant-loop-u l = (length l.rows.items ≡ length l.wide) × HasUses (take l.u-index l.uses) l.rows.items
