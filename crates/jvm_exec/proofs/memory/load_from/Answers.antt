use Rattle.std.proofs.Common.{rules, ◌≡◌, ◌∙◌, sym, ap, subst, option_map, w32, FitsSigned}
use Rattle.std.proofs.lemmas.Int.{to_z-of_z}
use Rattle.jo_prog.specs.Values.{Info, array}
use Rattle.jvm_values.specs.Values.{info_seen}
use Rattle.jvm_exec.specs.Outcomes.{outcome_of}
use Rattle.jvm_exec.specs.Forms.{info_in, element_from}
use Rattle.jvm_exec.proofs.memory.load_from.Goals as goal

pub returns-in-Array : goal.returns-in-Array
returns-in-Array c =
    let is : info_in c.args.heap.now c.args.address ≡ array c.in-Array.field-0.now c.in-Array.length = sym c.info-info.ensures ∙ ap info_seen c.in-Array.is in
    let fits : FitsSigned w32 c.args.index = search rules in
    let given = rw (to_z-of_z w32 c.args.index fits) at (c.element_from.ensures c.in-Array.field-0.now) in
    subst (λ (info : Info). option_map outcome_of c.element_from.result ≡ element_from c.args.heap.now c.args.address c.args.index info) (sym is) given
