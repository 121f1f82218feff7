use Rattle.std.proofs.Common.{rules, ◌≡◌, ◌∙◌, ◌+◌, ◌++◌, ◌∷◌, [], List, take, sym, ap, subst}
use Rattle.std.proofs.lemmas.List.{take_more}
use Rattle.jo_prog.specs.declared.program.Class.{Class}
use Rattle.hierarchy.specs.declared.own_members.OwnMembers.{OwnMembers}
use Rattle.hierarchy.specs.OwnMembers.{AreMembersOf, AreTables}
use Rattle.hierarchy.proofs.MemberTables.{zip_push}
use Rattle.hierarchy.proofs.own_members.tables_of.Goals as goal

pub loop-class-preserved : goal.loop-class-preserved
loop-class-preserved c =
    let i = c.loop-class.class-index in
    let class = c.class-item.result in
    let program = c.args.program.now in
    let all = c.args.classes.now in
    let own = c.in_ok-own.own in
    let more : take (i + 1) all ≡ take i all ++ class ∷ [] = take_more all i class c.loop-class-test.true ∙ ap (λ (y : Class). take i all ++ y ∷ []) (sym c.class-item.is) in
    let grown : c.push.new.self.items ≡ c.loop-class.tables.items ++ own ∷ [] = search rules in
    subst (λ (p : List Class). AreTables program p c.push.new.self.items) (sym more)
    (subst (λ (q : List OwnMembers). AreTables program (take i all ++ class ∷ []) q) (sym grown)
    (zip_push (AreMembersOf program) (take i all) c.loop-class.tables.items class own c.loop-class.invariant c.in_ok-own.ensures))
