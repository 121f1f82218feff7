use Rattle.std.proofs.Common.{◌≡◌, ◌∙◌, sym, subst, true, false, Some}
use Rattle.jo_prog.specs.Calls.{receiver_class}
use Rattle.jo_prog.specs.Hierarchy.{resolve_method}
use Rattle.jo_policy.specs.Threads.{is_named_start}
use Rattle.jo_policy.proofs.StartLemmas.{no_start, start_named}
use Rattle.jo_policy.proofs.threads.member_may_start.Goals as goal

pub returns-then-not-is_named_start : goal.returns-then-not-is_named_start
returns-then-not-is_named_start c =
    let other : is_named_start c.args.member.now.name c.args.member.now.desc ≡ false = cc in
    sym (no_start c.args.program.now c.args.op c.args.current (receiver_class c.args.member.now.owner) c.args.member.now.name c.args.member.now.desc other)

pub may_start_by-requires-clause-start : goal.may_start_by-requires-clause-start
may_start_by-requires-clause-start c =
    let named : is_named_start c.args.member.now.name c.args.member.now.desc ≡ true = cc in
    let found : resolve_method c.args.program.now c.receiver_class-named.result c.as_slice.result.now c.as_slice-2.result.now ≡ Some c.in-Some.method = sym c.resolve-found.ensures ∙ c.in-Some.is in
    let of_name : resolve_method c.args.program.now c.receiver_class-named.result c.args.member.now.name c.as_slice-2.result.now ≡ Some c.in-Some.method =
    subst (λ t. resolve_method c.args.program.now c.receiver_class-named.result t c.as_slice-2.result.now ≡ Some c.in-Some.method) c.as_slice.ensures found in
    start_named c.args.program.now c.receiver_class-named.result c.in-Some.method c.args.member.now.name c.args.member.now.desc named
    (subst (λ t. resolve_method c.args.program.now c.receiver_class-named.result c.args.member.now.name t ≡ Some c.in-Some.method) c.as_slice-2.ensures of_name)
