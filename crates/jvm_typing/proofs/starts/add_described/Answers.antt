use Rattle.std.proofs.Common.{rules, ◌≡◌, ◌++◌, ℕ, List, map, sym, subst, append-nil}
use Rattle.jo_text.specs.Descriptors.{SpellsMethod, IsMethodDesc}
use Rattle.jo_prog.specs.Shapes.{kind_of_type}
use Rattle.typing_effects.specs.Kinds.{kind_in}
use Rattle.typing_heights.proofs.DescriptorReads.{method_is, method_isnt}
use Rattle.jvm_typing.proofs.starts.add_described.Goals as goal

pub returns-in_ok-add_params-in-Ok : goal.returns-in_ok-add_params-in-Ok
returns-in_ok-add_params-in-Ok c =
    let spells = subst (λ (b : List ℕ). SpellsMethod c.in-Ok.desc b) c.as_slice.ensures c.in-Ok.ensures.desc in
    let plain : map kind_in c.add_params.new.kinds.items ≡ map kind_in c.args.kinds.now.items ++ map (kind_of_type c.args.program.now) c.in-Ok.desc.params = search rules in
    rw (method_is c.in-Ok.desc c.args.method.now.desc spells) plain

pub returns-in-Err-Bad : goal.returns-in-Err-Bad
returns-in-Err-Bad c =
    let never = subst (λ (b : List ℕ). IsMethodDesc b → ⊥) c.as_slice.ensures (c.in-Err-Bad.ensures.bad c.in-Err-Bad.field-0-is) in
    rw (method_isnt c.args.method.now.desc never) (sym (append-nil (map kind_in c.args.kinds.now.items)))
