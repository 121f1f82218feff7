use Rattle.std.proofs.Common.{◌≡◌, take, take_all, arith}
use Rattle.jo_text.proofs.Mutf8Leads.{IsMutf8-nil}
use Rattle.jo_text.proofs.TextScan.{stops_at, stops_short, whole_text}
use Rattle.jo_text.specs.Mutf8.{IsMutf8}
use Rattle.jo_text.proofs.mutf8.stop_of.Goals as goal

pub returns-in-None : goal.returns-in-None
returns-in-None c =
    let h = c.loop-place.invariant in
    stops_at IsMutf8 c.args.bytes.now c.loop-place.place c.loop-place.awaited IsMutf8-nil h c.loop-place-test.true (c.in-None.ensures _ h)

pub returns-then-awaited-eq0 : goal.returns-then-awaited-eq0
returns-then-awaited-eq0 c =
    let all : take c.loop-place.place c.args.bytes.now ≡ c.args.bytes.now = take_all c.loop-place.place c.args.bytes.now (omega arith) in
    whole_text IsMutf8 c.args.bytes.now c.loop-place.awaited (rw all at c.loop-place.invariant) c.if-awaited-eq0.true IsMutf8-nil

pub returns-else-awaited-eq0 : goal.returns-else-awaited-eq0
returns-else-awaited-eq0 c =
    let all : take c.loop-place.place c.args.bytes.now ≡ c.args.bytes.now = take_all c.loop-place.place c.args.bytes.now (omega arith) in
    stops_short IsMutf8 c.args.bytes.now c.loop-place.awaited IsMutf8-nil (rw all at c.loop-place.invariant) c.if-awaited-eq0.false
