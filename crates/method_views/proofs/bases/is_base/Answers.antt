use Rattle.std.proofs.Common.{rules, ◌≡◌, ◌↔◌, IsTrue, true, false, subst}
use Rattle.jo_prog.specs.TypingPaths.{HasHeightAt}
use Rattle.jo_prog.specs.Sites.{opcode_of}
use Rattle.dependence.specs.WideGraph.{is_call}
use Rattle.dependence.specs.FlowGraph.{base_depth}
use Rattle.method_views.specs.Bases.{IsBelowTop}
use Rattle.method_views.proofs.BaseLemmas.{below_is_base, least_is_base}
use Rattle.method_views.proofs.bases.is_base.Goals as goal

pub returns-then-within : goal.returns-then-within
returns-then-within c = λ program m graph heights at.
    let calls : is_call (opcode_of c.args.insn) ≡ true = search rules in
    least_is_base program m (HasHeightAt program m) c.args.typed.now heights c.args.wide.now graph c.args.u.now c.args.pc c.args.insn at calls c.reads.result.now c.reads.ensures.reads c.is_least.result c.is_least.ensures

pub returns : goal.returns
returns c = λ program m graph heights at.
    let plain : is_call (opcode_of c.args.insn) ≡ false = search rules in
    let depth : c.base_depth.result ≡ base_depth (opcode_of c.args.insn) = search rules in
    let told : IsTrue c.is_below.result ↔ IsBelowTop c.args.typed.now c.args.pc (base_depth (opcode_of c.args.insn)) c.args.u.now.place = subst (λ k. IsTrue c.is_below.result ↔ IsBelowTop c.args.typed.now c.args.pc k c.args.u.now.place) depth c.is_below.ensures in
    below_is_base program m (HasHeightAt program m) c.args.typed.now heights c.args.pc at.next c.args.insn c.args.u.now.place c.is_below.result at.stands plain told
