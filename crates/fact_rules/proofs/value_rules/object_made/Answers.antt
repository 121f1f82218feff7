use Rattle.std.proofs.Common.{◌≡◌, true, false, Some, None, sym, ◌∙◌, ap}
use Rattle.std.proofs.lemmas.Bool.{both_ways}
use Rattle.jo_prog.specs.Operations.{within}
use Rattle.jo_prog.specs.Sites.{opcode_of, sites_of, site_of}
use Rattle.jo_prog.specs.TypingPaths.{HasHeightAt}
use Rattle.dependence.specs.FactRules.{makes_object}
use Rattle.fact_rules.proofs.ValueLemmas.{text_arm, none_arm, siteless_arm, site_arm}
use Rattle.fact_rules.proofs.value_rules.object_made.Goals as goal

pub returns-then-loads_text : goal.returns-then-loads_text
returns-then-loads_text g c =
    let program = c.args.view.now.program.now in
    let m = c.args.view.now.method in
    let stands = c.requires.stands in
    text_arm program m (HasHeightAt program m) c.args.pc stands.0 c.args.insn stands.1 (g.X.Contexts.policy c.args.contexts.now) (g.X.Contexts.list c.args.context) g.X.Contexts.list
    ((c.loads_text.ensures c.args.pc stands.0 stands.1).0 c.if-loads_text.true) (record { site = c.of.result; context = c.root.result }) c.of.ensures c.root.ensures

pub returns-then-not-within : goal.returns-then-not-within
returns-then-not-within g c =
    let program = c.args.view.now.program.now in
    let m = c.args.view.now.method in
    let stands = c.requires.stands in
    let no_object : makes_object (opcode_of c.args.insn) ≡ false = sym (ap (within 187 189) c.opcode_of.ensures) ∙ sym c.within.ensures ∙ c.if-not-within.true in
    none_arm program m (HasHeightAt program m) c.args.pc stands.0 c.args.insn stands.1 (g.X.Contexts.policy c.args.contexts.now) (g.X.Contexts.list c.args.context) g.X.Contexts.list
    (λ loads. both_ways c.loads_text.result c.if-loads_text.false ((c.loads_text.ensures c.args.pc stands.0 stands.1).1 loads)) no_object

pub returns-in-Some : goal.returns-in-Some
returns-in-Some g c =
    let program = c.args.view.now.program.now in
    let m = c.args.view.now.method in
    let stands = c.requires.stands in
    let makes_it : makes_object (opcode_of c.args.insn) ≡ true = sym (ap (within 187 189) c.opcode_of.ensures) ∙ sym c.within.ensures ∙ c.if-not-within.false in
    let site : site_of (sites_of program.methods) m c.args.pc None ≡ Some c.in-Some.site = sym (ap (λ sites. site_of sites m c.args.pc None) program.sites_are) ∙ sym c.in-Some.ensures in
    site_arm program m (HasHeightAt program m) c.args.pc stands.0 c.args.insn stands.1 (g.X.Contexts.policy c.args.contexts.now) (g.X.Contexts.list c.args.context) g.X.Contexts.list
    (λ loads. both_ways c.loads_text.result c.if-loads_text.false ((c.loads_text.ensures c.args.pc stands.0 stands.1).1 loads)) makes_it
    (record { site = c.in-Some.site; context = c.heap.result }) site c.heap.ensures

pub returns-in-None : goal.returns-in-None
returns-in-None g c =
    let program = c.args.view.now.program.now in
    let m = c.args.view.now.method in
    let stands = c.requires.stands in
    let site : site_of (sites_of program.methods) m c.args.pc None ≡ None = sym (ap (λ sites. site_of sites m c.args.pc None) program.sites_are) ∙ sym c.in-None.ensures in
    siteless_arm program m (HasHeightAt program m) c.args.pc stands.0 c.args.insn stands.1 (g.X.Contexts.policy c.args.contexts.now) (g.X.Contexts.list c.args.context) g.X.Contexts.list
    (λ loads. both_ways c.loads_text.result c.if-loads_text.false ((c.loads_text.ensures c.args.pc stands.0 stands.1).1 loads)) site
