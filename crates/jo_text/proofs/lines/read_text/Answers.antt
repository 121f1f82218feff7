use Rattle.std.specs.Str.{IsValidUpTo}
use Rattle.jo_text.proofs.Utf8Stops.{stops_inside, stops_at_start, stops_at_end}
use Rattle.jo_text.proofs.lines.read_text.Goals as goal

pub returns-in-None : goal.returns-in-None
returns-in-None c = stops_at_end c.args.bytes.now _ c.in-Err.ensures.cases.1 (cc c.in-Err.ensures.fault)

pub returns-in-Some : goal.returns-in-Some
returns-in-Some c =
    let valid : IsValidUpTo c.args.bytes.now c.valid_up_to-start.result = rw c.valid_up_to-start.ensures c.in-Err.ensures.cases.1 in
    stops_inside c.args.bytes.now _ valid (cc) c.in-Some.len (cc c.in-Err.ensures.fault)

pub returns-in-Some-2 : goal.returns-in-Some-2
returns-in-Some-2 c =
    let valid : IsValidUpTo c.args.bytes.now c.valid_up_to-start.result = rw c.valid_up_to-start.ensures c.in-Err.ensures.cases.1 in
    stops_at_start c.args.bytes.now _ valid (cc)
