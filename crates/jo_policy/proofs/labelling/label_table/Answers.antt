use Rattle.std.proofs.Common.{◌≡◌, ◌-◌, ◌<◌, cond, drop, length, Some, is_some, refl, sym, ◌∙◌, ap, subst, arith}
use Rattle.std.specs.Prelude.{slice_set}
use Rattle.std.proofs.lemmas.List.{take_at}
use Rattle.jo_prog.specs.Labels.{label_among}
use Rattle.jo_policy.specs.Labelling.{Item, table_at}
use Rattle.jo_policy.proofs.Tables.{IsEntered, entered_none, entered_more, table_of-length, item_before, below_at}
use Rattle.jo_policy.proofs.labelling.label_table.Goals as goal

pub loop-i-init : goal.loop-i-init
loop-i-init c = (omega arith, entered_none c.args.count c.args.placed.now (length c.args.placed.now) c.in_ok-labels.labels.items refl c.in_ok-labels.ensures)

pub loop-i-preserved : goal.loop-i-preserved
loop-i-preserved c =
    let item = c.index-placed-i.result in
    let some : 0 < c.loop-i.i = omega arith in
    let within = c.loop-i.invariant.0 in
    let next = item_before c.args.placed.now c.loop-i.i item some within c.index-placed-i.is in
    let low = below_at c.args.count c.args.placed.now (c.loop-i.i - 1) item c.requires (omega arith) c.index-placed-i.is in
    let had : c.enter-again.result ≡ is_some (table_at c.loop-i.labels.items item.0) = cc (c.as_mut_slice.ensures.value, c.enter-again.ensures.had) in
    let set : c.enter-again.new.labels ≡ slice_set c.loop-i.labels.items item.0 (Some item.1) = cc (c.as_mut_slice.ensures.value, c.enter-again.ensures.set) in
    let is : c.first_of-twice.result ≡ cond c.enter-again.result (Some item.0) c.loop-i.twice = cc c.first_of-twice.ensures in
    let whole = take_at c.enter-again.new.labels _ c.loop-i.labels.len (c.enter-again.auto.labels ∙ c.as_mut_slice.ensures.len) in (
      omega arith,
      subst (λ t. IsEntered c.args.count c.args.placed.now (c.loop-i.i - 1) t c.first_of-twice.result) (sym whole)
          (entered_more c.args.count c.args.placed.now c.loop-i.i (c.loop-i.i - 1) item c.loop-i.labels.items c.enter-again.new.labels c.loop-i.twice c.first_of-twice.result c.enter-again.result
          c.loop-i.invariant.1 next low had set is),
    )

pub enter-again-requires : goal.enter-again-requires
enter-again-requires c =
    let item = c.index-placed-i.result in
    let within = c.loop-i.invariant.0 in
    let low = below_at c.args.count c.args.placed.now (c.loop-i.i - 1) item c.requires (omega arith) c.index-placed-i.is in
    let len : length c.as_mut_slice.result.now ≡ c.args.count =
    ap length (c.as_mut_slice.ensures.value ∙ c.loop-i.invariant.1.labels) ∙ table_of-length (label_among (drop c.loop-i.i c.args.placed.now)) 0 c.args.count in
    let same = ap (λ (x : Item). x.0) c.index-placed-i.is in
    omega (arith, len, low, same)
