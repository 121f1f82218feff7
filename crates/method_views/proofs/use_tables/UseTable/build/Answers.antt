use Rattle.std.proofs.Common.{◌<◌, get_or, sym, ◌∙◌, subst, arith}
use Rattle.dependence.specs.declared.flow.Place.TheVariants.{Local}
use Rattle.dependence.specs.declared.flows.Use.{Use}
use Rattle.method_views.proofs.TableLemmas.{same_item, use_inside, uses_more, uses_all}
use Rattle.method_views.proofs.use_tables.UseTable.build.Goals as goal

pub add_use-requires : goal.add_use-requires
add_use-requires c =
    let uses = c.args.uses.now in
    let i = c.loop-u.u-index in
    let none : Use = record { node = 0; place = Local 0; from = 0 } in
    let u : Use = get_or uses i none in
    subst (λ k. u.node < k) (sym c.loop-u.invariant.0) (use_inside c.args.wide.now u ((c.requires.each u).0 (i, c.loop-u-test.true, sym (same_item uses i none c.loop-u-test.true))))

pub loop-u-preserved : goal.loop-u-preserved
loop-u-preserved c =
    let uses = c.args.uses.now in
    let i = c.loop-u.u-index in
    let none : Use = record { node = 0; place = Local 0; from = 0 } in
    let u : Use = get_or uses i none in (
      c.add_use.ensures.same ∙ c.loop-u.invariant.0,
      uses_more uses i u c.loop-u.rows.items c.add_use.new.rows.items c.loop-u-test.true (same_item uses i none c.loop-u-test.true) c.loop-u.invariant.1 c.in_ok-add_use.ensures.ok,
    )

pub returns : goal.returns
returns c = uses_all c.args.wide.now c.args.uses.now c.loop-u.u-index c.loop-u.rows.items c.requires (omega (arith, c.loop-u-test.false)) c.loop-u.invariant.1
