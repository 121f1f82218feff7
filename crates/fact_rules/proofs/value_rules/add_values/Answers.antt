use Rattle.std.proofs.Common.{sym, ◌∙◌}
use Rattle.std.proofs.lemmas.Result.{on_ok_weaker}
use Rattle.jo_prog.specs.TypingPaths.{HasHeightAt}
use Rattle.fact_sets.specs.Seen.{Known, Listed, instance_seen}
use Rattle.fact_rules.specs.Places.{instance_of}
use Rattle.fact_rules.specs.ValueSteps.{MakesAt, HandsOver, ValuesAt}
use Rattle.fact_rules.proofs.AddsLemmas.{adds_none, adds_more}
use Rattle.fact_rules.proofs.PlaceLemmas.{turned}
use Rattle.fact_rules.proofs.ValueLemmas.{nothing_stands, stands_there, node_gives}
use Rattle.fact_rules.proofs.value_rules.add_values.Goals as goal

pub returns-in_default : goal.returns-in_default
returns-in_default g c =
    let view = c.args.view.now in
    let H = HasHeightAt view.program.now view.method in
    let list = g.X.Contexts.list in
    let policy = g.X.Contexts.policy c.args.contexts.now in
    let facts = Known list c.args.facts.now in
    adds_none (Listed list c.args.following.now.items) (ValuesAt view.program.now policy facts H (instance_seen list (instance_of view.method c.args.context)) view.wide.now c.args.n)
    (nothing_stands view.program.now view.method H view.wide.now c.requires.view.graph policy facts (list c.args.context) c.args.n c.node.result.now c.node.ensures (sym c.standing.ensures ∙ c.in_default.is))

pub add_made-requires-clause-stands : goal.add_made-requires-clause-stands
add_made-requires-clause-stands g c =
    let view = c.args.view.now in
    let at = stands_there view.program.now view.method (HasHeightAt view.program.now view.method) view.wide.now c.requires.view.graph (g.X.Contexts.policy c.args.contexts.now) (Known g.X.Contexts.list c.args.facts.now) (g.X.Contexts.list c.args.context)
    c.args.n c.node.result.now c.node.ensures c.in-Some.pc c.in-Some.insn (sym c.standing.ensures ∙ c.in-Some.is)
    in
    (at.next, at.stands)

pub hand_over-requires-clause-at : goal.hand_over-requires-clause-at
hand_over-requires-clause-at g c =
    let view = c.args.view.now in
    stands_there view.program.now view.method (HasHeightAt view.program.now view.method) view.wide.now c.requires.view.graph (g.X.Contexts.policy c.args.contexts.now) (Known g.X.Contexts.list c.args.facts.now) (g.X.Contexts.list c.args.context)
    c.args.n c.node.result.now c.node.ensures c.in-Some.pc c.in-Some.insn (sym c.standing.ensures ∙ c.in-Some.is)

pub returns : goal.returns
returns g c =
    let view = c.args.view.now in
    let program = view.program.now in
    let H = HasHeightAt program view.method in
    let list = g.X.Contexts.list in
    let policy = g.X.Contexts.policy c.args.contexts.now in
    let facts = Known list c.args.facts.now in
    let i = instance_seen list (instance_of view.method c.args.context) in
    let pc = c.in-Some.pc in
    on_ok_weaker c.hand_over.result
    (λ adds. adds_more (Listed list c.args.following.now.items) (Listed list c.add_made.new.following.items) (Listed list c.hand_over.new.following.items) (MakesAt program policy i pc) (HandsOver program facts H i pc)
    (ValuesAt program policy facts H i view.wide.now c.args.n) c.in_ok-add_made.ensures (adds list g.met.X.Contexts.equal_lists)
    (λ f. turned (node_gives program view.method H view.wide.now c.requires.view.graph policy facts (list c.args.context) c.args.n c.node.result.now c.node.ensures pc c.in-Some.insn (sym c.standing.ensures ∙ c.in-Some.is) f)))
    c.hand_over.ensures
