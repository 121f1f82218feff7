use Rattle.std.proofs.Common.{◌≡◌, length, subst, arith}
use Rattle.fact_sets.specs.Seen.{Listed}
use Rattle.fact_rules.specs.Adds.{Adds, FromBelow}
use Rattle.fact_rules.specs.FirstRules.{FieldGives}
use Rattle.fact_rules.proofs.AddsLemmas.{below_none, below_step}
use Rattle.fact_rules.proofs.first_rules.add_fields.Goals as goal

pub loop-number-init : goal.loop-number-init
loop-number-init g c = below_none (Listed g.X.Contexts.list c.args.following.now.items) (FieldGives c.args.program.now)

pub loop-number-preserved : goal.loop-number-preserved
loop-number-preserved g c =
    let list = g.X.Contexts.list in
    below_step (Listed list c.args.following.now.items) (Listed list c.loop-number.following.items) (Listed list c.add_field.new.following.items) c.loop-number.number (FieldGives c.args.program.now)
    c.loop-number.invariant
    (subst (λ n. Adds (Listed list c.loop-number.following.items) (Listed list c.add_field.new.following.items) (FieldGives c.args.program.now n)) c.of.ensures c.in_ok-add_field.ensures)

pub returns : goal.returns
returns g c =
    let all : c.loop-number.number ≡ length c.args.program.now.fields = omega (arith, c.fields-number-end.ensures, c.loop-number-test.false) in
    subst (λ n. Adds (Listed g.X.Contexts.list c.args.following.now.items) (Listed g.X.Contexts.list c.loop-number.following.items) (FromBelow n (FieldGives c.args.program.now))) all c.loop-number.invariant
