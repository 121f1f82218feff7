use Rattle.std.proofs.Common.{Some, None}
use Rattle.std.proofs.lemmas.Result.{err_from_is_err_and}
use Rattle.jo_text.proofs.DescriptorMethods.{method_refused}
use Rattle.jo_text.proofs.descriptors.read_method_desc.Goals as goal

pub returns-in_default-after_byte-clause-bad : goal.returns-in_default-after_byte-clause-bad
returns-in_default-after_byte-clause-bad c =
    λ _ d. method_refused c.args.bytes.now c.in-Some.rest.now c.in-Ok.rest.now c.in-Some.ensures (c.in-Ok.params, c.in-Ok.ensures.passed) c.in-Ok.ensures.all None c.in_default-after_byte.ensures tt d

pub returns-in_err-result-clause-bad : goal.returns-in_err-result-clause-bad
returns-in_err-result-clause-bad c =
    let p = err_from_is_err_and c.from_residual.result c.from_residual.ensures.1 in
    rw (p.1, p.2) (λ is_bad d.
    method_refused c.args.bytes.now c.in-Some.rest.now c.in-Ok.rest.now c.in-Some.ensures (c.in-Ok.params, c.in-Ok.ensures.passed) c.in-Ok.ensures.all (Some c.in-Some-after_byte.rest.now) c.in-Some-after_byte.ensures (c.in_err-result.ensures.bad is_bad) d)
