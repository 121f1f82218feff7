use Rattle.std.proofs.Common.{◌≡◌, ◌++◌, ◌∷◌, [], true, map, take, length, Contains, refl, sym, subst, ap, ◌∙◌, below_more, rules}
use Rattle.std.proofs.lemmas.Option.{slice_get_read}
use Rattle.linker.specs.Linking.{this_name}
use Rattle.linker.specs.LinkFaults.{class_names, IsTwiceDefined}
use Rattle.program_faults.specs.FirstFaults.{IsFirst}
use Rattle.linker.proofs.NameLemmas.{twice_here, once_here, names_more, none_twice}
use Rattle.linker.proofs.names.names_of.Goals as goal

pub returns-then-has-clause-twice : goal.returns-then-has-clause-twice
returns-then-has-clause-twice c =
    let at = slice_get_read c.args.classes.now (length c.args.classes.now) c.loop-number.number c.index-classes-number.result refl c.loop-number-test.true c.index-classes-number.is in
    let found : Contains c.loop-number.names c.name_of-name.result.now = c.has.ensures.there.0 c.if-has.true in
    let there : Contains (map this_name (take c.loop-number.number c.args.classes.now)) (this_name c.index-classes-number.result) =
    subst (λ names. Contains names (this_name c.index-classes-number.result)) c.loop-number.invariant.names (subst (Contains c.loop-number.names) c.name_of-name.ensures found) in
    let first : IsFirst (IsTwiceDefined (class_names c.args.classes.now)) c.loop-number.number = record {
      here = twice_here c.args.classes.now c.loop-number.number c.index-classes-number.result at there;
      before = c.loop-number.invariant.once;
    } in
    let number : c.of.result ≡ c.loop-number.number = search rules in
    subst (IsFirst (IsTwiceDefined (class_names c.args.classes.now))) (sym number) first

pub loop-number-preserved : goal.loop-number-preserved
loop-number-preserved c =
    let at = slice_get_read c.args.classes.now (length c.args.classes.now) c.loop-number.number c.index-classes-number.result refl c.loop-number-test.true c.index-classes-number.is in
    let more = names_more c.args.classes.now c.loop-number.number c.index-classes-number.result at in
    let new : Contains (map this_name (take c.loop-number.number c.args.classes.now)) (this_name c.index-classes-number.result) → ⊥ = λ there.
    let found : c.has.result ≡ true = c.has.ensures.there.1
    (subst (Contains c.loop-number.names) (sym c.name_of-name.ensures) (subst (λ names. Contains names (this_name c.index-classes-number.result)) (sym c.loop-number.invariant.names) there)) in
    absurd (cc) in
    record {
      names = c.in_ok-add.ensures ∙ ap (λ names. names ++ c.name_of-name.result.now ∷ []) c.loop-number.invariant.names
          ∙ ap (λ name. map this_name (take c.loop-number.number c.args.classes.now) ++ name ∷ []) c.name_of-name.ensures ∙ more;
      once = below_more (λ j. IsTwiceDefined (class_names c.args.classes.now) j → ⊥) c.loop-number.number c.loop-number.invariant.once
          (once_here c.args.classes.now c.loop-number.number c.index-classes-number.result at new);
    }

pub returns-clause-once : goal.returns-clause-once
returns-clause-once c = none_twice c.args.classes.now c.loop-number.number c.loop-number.names c.loop-number-test.false c.loop-number.invariant.names c.loop-number.invariant.once
