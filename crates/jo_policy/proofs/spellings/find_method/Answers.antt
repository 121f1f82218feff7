use Rattle.std.proofs.Common.{◌≡◌, Some, None, sym, ap, ◌∙◌}
use Rattle.jo_prog.specs.Program.{method_at}
use Rattle.jo_policy.specs.FileMethods.{method_named}
use Rattle.jo_policy.proofs.MethodEntries.{no_missing}
use Rattle.jo_policy.proofs.spellings.find_method.Goals as goal

pub returns-in_err-method-clause-number : goal.returns-in_err-method-clause-number
returns-in_err-method-clause-number c =
    let named : method_named c.args.program.now c.args.text.now ≡ Some c.in_ok-number.number = sym (c.requires.finds c.args.text.now) ∙ sym c.in_ok-number.ensures in
    let missing : None ≡ method_at c.args.program.now c.in_ok-number.number = c.in_err-method.ensures ∙ ap (λ n. method_at c.args.program.now n) c.of.ensures in
    absurd (no_missing c.args.program.now c.args.text.now c.in_ok-number.number named missing)
