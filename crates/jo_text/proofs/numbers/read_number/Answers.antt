use Rattle.jo_text.specs.NumberScan.{IsPlain}
use Rattle.std.proofs.Common.{rules}
use Rattle.jo_text.proofs.NumberLaws.{number_plain, number_utf8, parsed}
use Rattle.jo_text.proofs.numbers.read_number.Goals as goal

pub returns-then-not-is_plain : goal.returns-then-not-is_plain
returns-then-not-is_plain c = λ number h.
    let plain = c.if-not-is_plain.ensures.1 (number_plain _ number h) in
    absurd (cc)

pub returns-in-Ok : goal.returns-in-Ok
returns-in-Ok c =
    let plain : IsPlain c.in-Ok.text.now = search rules in
    let p = parsed c.in-Ok.text.now c.parse.result plain c.parse.ensures.value.0 in
    search rules

pub returns-in-Err : goal.returns-in-Err
returns-in-Err c = λ number h. c.in-Err.ensures.cases.0 (number_utf8 _ number h)
