use Rattle.std.proofs.Common.{◌≡◌, true, false, sym, ◌∙◌, ap}
use Rattle.std.proofs.lemmas.Bool.{both_ways}
use Rattle.jo_prog.specs.Sites.{opcode_of}
use Rattle.jo_prog.specs.TypingPaths.{HasHeightAt}
use Rattle.dependence.specs.MayBeNull.{is_move}
use Rattle.dependence.specs.WideGraph.{is_call}
use Rattle.fact_rules.proofs.ValueLemmas.{move_arm, call_arm, return_arm, throw_arm, no_arm}
use Rattle.fact_rules.proofs.value_rules.taken_as.Goals as goal

pub returns-then-is_move : goal.returns-then-is_move
returns-then-is_move c =
    let view = c.args.view.now in
    let H = HasHeightAt view.program.now view.method in
    let moves : is_move (opcode_of c.args.insn) ≡ true = sym (ap is_move c.opcode_of-op.ensures) ∙ sym c.is_move.ensures ∙ c.if-is_move.true in
    move_arm view.program.now view.method H view.typed.now c.requires.view.heights view.wide.now c.requires.view.graph c.args.n c.args.pc c.args.insn c.requires.at c.args.place c.requires.read moves

pub returns-then-is_call : goal.returns-then-is_call
returns-then-is_call c =
    let view = c.args.view.now in
    let H = HasHeightAt view.program.now view.method in
    let calls : is_call (opcode_of c.args.insn) ≡ true = sym (ap is_call c.opcode_of-op.ensures) ∙ sym c.is_call.ensures ∙ c.if-is_call.true in
    call_arm view.program.now view.method H view.typed.now c.requires.view.heights view.wide.now c.requires.view.graph c.args.n c.args.pc c.args.insn c.requires.at c.args.place c.requires.read c.reads.result.now c.reads.ensures.reads
    calls c.argument_at.result c.argument_at.ensures

pub returns-then-takes_top : goal.returns-then-takes_top
returns-then-takes_top c =
    let view = c.args.view.now in
    let H = HasHeightAt view.program.now view.method in
    let top = c.takes_top.ensures.0 c.if-takes_top.true in
    return_arm view.program.now view.method H view.typed.now c.requires.view.heights view.wide.now c.requires.view.graph c.args.n c.args.pc c.args.insn c.requires.at c.args.place c.requires.read top.0 top.1

pub returns-then-takes_top-2 : goal.returns-then-takes_top-2
returns-then-takes_top-2 c =
    let view = c.args.view.now in
    let H = HasHeightAt view.program.now view.method in
    let top = c.takes_top-2.ensures.0 c.if-takes_top-2.true in
    throw_arm view.program.now view.method H view.typed.now c.requires.view.heights view.wide.now c.requires.view.graph c.args.n c.args.pc c.args.insn c.requires.at c.args.place c.requires.read top.0 top.1

pub returns : goal.returns
returns c =
    let view = c.args.view.now in
    let H = HasHeightAt view.program.now view.method in
    let no_move : is_move (opcode_of c.args.insn) ≡ false = sym (ap is_move c.opcode_of-op.ensures) ∙ sym c.is_move.ensures ∙ c.if-is_move.false in
    let no_call : is_call (opcode_of c.args.insn) ≡ false = sym (ap is_call c.opcode_of-op.ensures) ∙ sym c.is_call.ensures ∙ c.if-is_call.false in
    no_arm view.program.now view.method H view.typed.now c.requires.view.heights view.wide.now c.requires.view.graph c.args.n c.args.pc c.args.insn c.requires.at c.args.place c.requires.read no_move no_call
    (λ both. both_ways c.takes_top.result c.if-takes_top.false (c.takes_top.ensures.1 both)) (λ both. both_ways c.takes_top-2.result c.if-takes_top-2.false (c.takes_top-2.ensures.1 both))
