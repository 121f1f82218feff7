use Rattle.std.proofs.Common.{refl, sym, arith}
use Rattle.jo_prog.specs.Sites.{opcode_of}
use Rattle.instance_flows.specs.Raising.{ObjectRaises}
use Rattle.instance_flows.proofs.HeldLemmas.{site_is, none_more, none_all, some_here, bare_object}
use Rattle.instance_flows.proofs.ObjectLemmas.{never}
use Rattle.instance_flows.proofs.objects.some_object_raises.Goals as goal

pub object-site-requires : goal.object-site-requires
object-site-requires g c = c.held-held.ensures.there c.id-item.result (c.loop-id.id-index, c.loop-id-test.true, sym c.id-item.is)

pub returns-then-raises : goal.returns-then-raises
returns-then-raises g c =
    let key = c.object-site.result in
    let raises = (c.in_ok-raises.ensures (bare_object key.site) refl).0 c.if-raises.true in (
      λ _. some_here c.args.facts.now c.held-held.result.now (ObjectRaises c.args.program.now c.args.method c.args.pc (opcode_of c.args.insn)) c.args.instance c.args.method c.args.kind c.held-held.ensures.each
          c.loop-id.id-index c.id-item.result key c.loop-id-test.true c.id-item.is c.object-site.ensures raises,
      λ _. refl,
    )

pub loop-id-preserved : goal.loop-id-preserved
loop-id-preserved g c =
    let key = c.object-site.result in
    none_more c.args.facts.now c.held-held.result.now (ObjectRaises c.args.program.now c.args.method c.args.pc (opcode_of c.args.insn)) c.loop-id.id-index c.id-item.result c.loop-id-test.true c.id-item.is
    (λ o is raises. (let has = (c.in_ok-raises.ensures o (site_is c.args.facts.now.objects c.id-item.result key c.object-site.ensures o is)).1 raises in let lacks = c.if-raises.false in absurd (cc))) c.loop-id.invariant

pub returns : goal.returns
returns g c =
    never (none_all c.args.facts.now c.held-held.result.now (ObjectRaises c.args.program.now c.args.method c.args.pc (opcode_of c.args.insn)) c.args.instance c.args.method c.args.kind c.held-held.ensures.each
    c.loop-id.id-index (omega (arith, c.loop-id-test.false)) c.loop-id.invariant)
