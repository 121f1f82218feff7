use Rattle.std.proofs.Common.{rules, ◌≡◌, ◌<◌, ◌^◌, List, [], ◌∷◌, ◌++◌, length, sym, subst, arith}
use Rattle.jo_prog.specs.TypingPaths.{HasHeightAt}
use Rattle.dependence.specs.declared.flows.FlowRow.{FlowRow}
use Rattle.instance_flows.specs.BySite.{BySite}
use Rattle.instance_flows.specs.Keeping.{RaisesAt, AreKept}
use Rattle.instance_flows.proofs.NullLemmas.{kind_says}
use Rattle.instance_flows.proofs.KeepLemmas.{raises_at, kept_more, are_kept, kept_is_flow}
use Rattle.instance_flows.proofs.keeping.kept_of.Goals as goal

pub keeps_of-requires-clause-raises : goal.keeps_of-requires-clause-raises
keeps_of-requires-clause-raises g c =
    let program = c.args.program.now in
    let m = c.args.method in
    let facts = BySite c.args.facts.now c.args.instance in
    let node = c.node-node.result.now in
    subst (λ raises. RaisesAt program facts (HasHeightAt program m) m node.kind raises) (sym c.has.ensures)
    (raises_at program m facts (HasHeightAt program m) c.args.wide.now c.requires.graph c.args.raising.now c.requires.raising c.loop-n.n node.kind (kind_says c.args.wide.now c.loop-n.n node c.node-node.ensures))

pub loop-n-preserved : goal.loop-n-preserved
loop-n-preserved g c =
    let program = c.args.program.now in
    let m = c.args.method in
    let facts = BySite c.args.facts.now c.args.instance in
    let node = c.node-node.result.now in
    let row : FlowRow = record { node = node; successors = c.in_ok-kept_ends.field-0; reads = c.new.result; writes = c.new-in-loop-n.result } in
    let made : c.push.new.self.items ≡ c.loop-n.rows.items ++ row ∷ [] = search rules in
    kept_more program m facts (HasHeightAt program m) c.args.wide.now c.requires.graph c.loop-n.n c.in_ok-keeps.keeps node.kind row c.loop-n.rows.items c.push.new.self.items (kind_says c.args.wide.now c.loop-n.n node c.node-node.ensures)
    c.in_ok-keeps.ensures c.in_ok-kept_ends.ensures made c.loop-n.invariant

pub of-requires : goal.of-requires
of-requires g c =
    let program = c.args.program.now in
    let m = c.args.method in
    let wide = c.args.wide.now in
    let rows = c.loop-n.rows.items in
    let counted : c.loop-n.rows.len ≡ length rows = search rules in
    let few : length wide < 2 ^ 32 = search rules in
    let past : length wide ≡ c.loop-n.n = omega (arith, c.len-n-end.ensures, c.loop-n-test.false, c.loop-n.auto.n-end) in
    kept_is_flow program m (BySite c.args.facts.now c.args.instance) (HasHeightAt program m) wide c.requires.graph c.loop-n.n rows c.loop-n.rows.len past few counted c.loop-n.invariant

pub returns : goal.returns
returns g c =
    let program = c.args.program.now in
    let m = c.args.method in
    let wide = c.args.wide.now in
    let facts = BySite c.args.facts.now c.args.instance in
    let past : length wide ≡ c.loop-n.n = omega (arith, c.len-n-end.ensures, c.loop-n-test.false, c.loop-n.auto.n-end) in
    subst (λ (kept : List FlowRow). AreKept program facts (HasHeightAt program m) m wide kept) (sym c.of.ensures)
    (are_kept program m facts (HasHeightAt program m) wide c.requires.graph c.loop-n.n c.loop-n.rows.items past c.loop-n.invariant)
