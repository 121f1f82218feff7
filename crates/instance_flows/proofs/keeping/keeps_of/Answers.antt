use Rattle.std.proofs.Common.{sym, subst}
use Rattle.jo_prog.specs.TypingPaths.{HasHeightAt}
use Rattle.instance_flows.specs.BySite.{BySite}
use Rattle.instance_flows.specs.Keeping.{KeepsAt}
use Rattle.instance_flows.specs.declared.keeping.Keeps.TheVariants.{Ends, Ways}
use Rattle.instance_flows.proofs.KeepLemmas.{ends_kept, ways_kept}
use Rattle.instance_flows.proofs.keeping.keeps_of.Goals as goal

pub returns-in-RetKind : goal.returns-in-RetKind
returns-in-RetKind g c =
    let program = c.args.program.now in
    let m = c.args.method in
    let facts = BySite c.args.facts.now c.args.instance in
    subst (λ kind. KeepsAt program facts (HasHeightAt program m) m kind (Ends c.some_target_throws.result c.some_target_stalls.result)) (sym c.in-RetKind.is)
    (ends_kept program m facts (HasHeightAt program m) c.in-RetKind.pc c.some_target_throws.result c.some_target_stalls.result (c.some_target_throws.ensures m) (c.some_target_stalls.ensures m))

pub returns-in_ok-ways-in-Throw : goal.returns-in_ok-ways-in-Throw
returns-in_ok-ways-in-Throw g c =
    let program = c.args.program.now in
    let m = c.args.method in
    let facts = BySite c.args.facts.now c.args.instance in
    subst (λ kind. KeepsAt program facts (HasHeightAt program m) m kind (Ways c.in_ok-ways-in-Throw.ways)) (sym c.in-Throw.is)
    (ways_kept program m facts (HasHeightAt program m) c.in-Throw.pc c.in_ok-ways-in-Throw.ways c.in_ok-ways-in-Throw.ensures)
