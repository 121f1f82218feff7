use Rattle.std.proofs.Common.{rules, ◌≡◌, true, false, Contains, sym, ◌∙◌}
use Rattle.jo_prog.specs.TypingPaths.{HasHeightAt}
use Rattle.object_types.proofs.MadeLemmas.{if_ok_more}
use Rattle.instance_flows.specs.BySite.{BySite}
use Rattle.instance_flows.proofs.NullLemmas.{kind_of, reaches_begins}
use Rattle.instance_flows.proofs.ObjectLemmas.{never}
use Rattle.instance_flows.proofs.UseLemmas.{use_at, stands_at, not_base, base_raises}
use Rattle.instance_flows.proofs.raising.use_raises.Goals as goal

pub returns-in_default : goal.returns-in_default
returns-in_default g c =
    let program = c.args.program.now in
    let m = c.args.method in
    never (λ raises. c.in_default.not-Some (raises.pc, raises.insn) (c.standing.ensures ∙ stands_at program m (HasHeightAt program m) c.args.wide.now c.requires.graph c.args.u.now c.node.result.now c.node.ensures raises.pc raises.insn raises.at))

pub returns-then-not-is_base : goal.returns-then-not-is_base
returns-then-not-is_base g c =
    let program = c.args.program.now in
    let m = c.args.method in
    let wide = c.args.wide.now in
    let u = c.args.u.now in
    let node = c.node.result.now in
    let other : c.is_base.result ≡ false = search rules in
    let at = use_at program m (HasHeightAt program m) wide c.requires.graph u c.requires.is_use node c.node.ensures c.in-Some.pc c.in-Some.insn (sym c.standing.ensures ∙ c.in-Some.is) in
    not_base program m (HasHeightAt program m) wide c.requires.graph u c.in-Some.pc c.in-Some.insn at (BySite c.args.facts.now c.args.instance) node c.node.ensures c.is_base.result other (c.is_base.ensures program m c.requires.graph c.requires.heights at)

pub value_raises-requires-clause-at : goal.value_raises-requires-clause-at
value_raises-requires-clause-at g c =
    use_at c.args.program.now c.args.method (HasHeightAt c.args.program.now c.args.method) c.args.wide.now c.requires.graph c.args.u.now c.requires.is_use c.node.result.now c.node.ensures c.in-Some.pc c.in-Some.insn (sym c.standing.ensures ∙ c.in-Some.is)

pub returns : goal.returns
returns g c =
    let program = c.args.program.now in
    let m = c.args.method in
    let wide = c.args.wide.now in
    let u = c.args.u.now in
    let node = c.node.result.now in
    let sure : c.is_base.result ≡ true = search rules in
    let at = use_at program m (HasHeightAt program m) wide c.requires.graph u c.requires.is_use node c.node.ensures c.in-Some.pc c.in-Some.insn (sym c.standing.ensures ∙ c.in-Some.is) in
    let begins = reaches_begins u.place u.from u.node c.requires.is_use.1 in
    let from = kind_of program m (HasHeightAt program m) wide c.requires.graph (λ row. Contains row.successors begins.0) u.from begins.1 in
    if_ok_more c.value_raises.result
    (λ raises told. base_raises program m (HasHeightAt program m) wide c.requires.graph u c.in-Some.pc c.in-Some.insn at (BySite c.args.facts.now c.args.instance) node c.node.ensures
    ((c.is_base.ensures program m c.requires.graph c.requires.heights at).0 sure) from.0 from.1 raises (told from.0 from.1))
    c.value_raises.ensures
