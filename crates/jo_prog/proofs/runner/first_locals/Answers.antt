use Rattle.std.proofs.Common.{rules, ◌≡◌, Bool, true, false, None, replicate, ap, sym, ◌∙◌}
use Rattle.jo_prog.specs.Constants.{arguments_address}
use Rattle.jo_prog.specs.Machine.{first_locals}
use Rattle.jo_prog.specs.Running.{locals_of}
use Rattle.jo_prog.proofs.RunningLemmas.{locals_of-unset, locals_of-arguments}
use Rattle.jo_prog.proofs.runner.first_locals.Goals as goal

pub returns-then-not-has_arguments : goal.returns-then-not-has_arguments
returns-then-not-has_arguments c = λ program.
    let unset : c.in_ok-locals.locals.items ≡ replicate c.args.count None = search rules in
    let is : c.args.has_arguments ≡ false = search rules in
    ap (locals_of program) unset ∙ locals_of-unset program c.args.count ∙ ap (λ (b : Bool). first_locals b c.args.count (arguments_address program)) (sym is)

pub returns : goal.returns
returns c = λ program.
    let unset : c.in_ok-locals.locals.items ≡ replicate c.args.count None = search rules in
    let is : c.args.has_arguments ≡ true = search rules in
    ap (locals_of program) c.set.ensures ∙ locals_of-arguments program c.args.count c.in_ok-locals.locals.items unset
    ∙ ap (λ (b : Bool). first_locals b c.args.count (arguments_address program)) (sym is)
