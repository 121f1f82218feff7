use Rattle.std.proofs.Common.{ℕ, ◌<◌, ◌-◌, true, length, map, replicate, set, Some, ap, sym, ◌∙◌, arith}
use Rattle.jo_prog.specs.Typing.{Int, Shape}
use Rattle.jo_prog.specs.IntShapes.{kind_of}
use Rattle.jo_prog.proofs.IntShapeLemmas.{stored-ints}
use Rattle.jo_prog.proofs.jvm_typing.IntShape.store.Goals as goal

pub returns : goal.returns
returns c =
    let s = c.args.self.now in
    let inside : c.args.local < length s.is_set.items = omega (arith, s.is_set.ok.0, c.from-local.ensures, c.len.ensures, c.if-local-len.false) in
    stored-ints c.args.local s.height s.is_set.items (omega (arith, c.if-self-eq0.false)) inside
    ∙ ap (λ (k : ℕ). let t : Shape = record { locals = map kind_of (set s.is_set.items k true); stack = replicate (s.height - 1) Int } in Some t) (sym c.from-local.ensures)
