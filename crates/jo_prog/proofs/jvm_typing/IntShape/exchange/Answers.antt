use Rattle.std.proofs.Common.{map}
use Rattle.jo_prog.specs.IntShapes.{kind_of}
use Rattle.jo_prog.proofs.IntShapeLemmas.{exchange-ints, exchange-short}
use Rattle.jo_prog.proofs.jvm_typing.IntShape.exchange.Goals as goal

pub returns-then-self-pops : goal.returns-then-self-pops
returns-then-self-pops c =
    let s = c.args.self.now in
    record { shape = exchange-short c.args.pops c.args.pushes s.height (map kind_of s.is_set.items) c.if-self-pops.true }

pub returns : goal.returns
returns c =
    let s = c.args.self.now in
    record { shape = exchange-ints c.args.pops c.args.pushes s.height (map kind_of s.is_set.items) c.if-self-pops.false }
