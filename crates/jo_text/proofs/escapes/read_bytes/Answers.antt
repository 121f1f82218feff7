use Rattle.std.proofs.Common.{◌≡◌, ℕ, ◌<◌, ◌^◌, List, [], ◌∷◌, ◌++◌, subst, sym, arith, rules}
use Rattle.std.specs.List.{AllByRecursion}
use Rattle.std.proofs.lemmas.Grind.{common_steps}
use Rattle.jo_text.specs.EscapeScan.{escapes_in}
use Rattle.jo_text.proofs.EscapeLaws.{all_bytes, percent_escaped, spelling_rest, spelling_none}
use Rattle.jo_text.proofs.escapes.read_bytes.Goals as goal

pub loop-byte-preserved : goal.loop-byte-preserved
loop-byte-preserved c =
    let is : c.push.new.self.items ≡ c.loop-byte.name.items ++ c.in-Some.byte ∷ [] = search rules in
    record {
      read = grind (arith, common_steps);
      bytes = subst (λ (bytes : List ℕ). AllByRecursion (λ byte. byte < 2 ^ 8) bytes) (sym is) (all_bytes c.loop-byte.name.items c.in-Some.byte c.loop-byte.invariant.bytes c.in-Some.ensures.0);
      left = λ s. spelling_rest (escapes_in c.args.spelling) (percent_escaped c.args.spelling) _ _ _ c.in-Some.ensures (c.loop-byte.invariant.left s);
    }

pub returns-else-is_empty-clause-bad : goal.returns-else-is_empty-clause-bad
returns-else-is_empty-clause-bad c = λ bad name all e.
    let empty : c.loop-byte.rest.now ≡ [] = spelling_none (escapes_in c.args.spelling) _ c.in_default.ensures (c.loop-byte.invariant.left (name, (all, e))) in
    search rules
