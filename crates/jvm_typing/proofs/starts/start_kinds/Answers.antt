use Rattle.std.proofs.Common.{rules, ◌≡◌, ◌∙◌, ◌++◌, List, ap, map, take, replicate}
use Rattle.jo_prog.specs.InsnTyping.{param_kinds}
use Rattle.jo_prog.specs.MethodTypes.{method_desc_in}
use Rattle.jo_prog.specs.Typing.{Kind, Unset}
use Rattle.typing_effects.specs.declared.kinds.Kind.{Kind as KindHere}
use Rattle.typing_effects.specs.Kinds.{kind_in}
use Rattle.jvm_typing.proofs.StartLemmas.{map_take}
use Rattle.jvm_typing.proofs.starts.start_kinds.Goals as goal

pub returns : goal.returns
returns c =
    let n = c.args.count in
    let cut : c.truncate.new.self.items ≡ take n c.add_unset.new.kinds.items = search rules in
    ap (λ (l : List KindHere). map kind_in l) cut
    ∙ map_take kind_in n c.add_unset.new.kinds.items
    ∙ ap (λ (l : List Kind). take n l)
    (c.in_ok-add_unset.ensures ∙ ap (λ (l : List Kind). l ++ replicate n Unset) (c.in_ok-add_described.ensures ∙ ap (λ (l : List Kind). l ++ param_kinds c.args.program.now (method_desc_in c.args.method.now.desc)) c.in_ok-kinds.ensures))
