use Rattle.std.proofs.Common.{rules}
use Rattle.std.specs.Bool.{Decides}
use Rattle.std.proofs.lemmas.Bool.Decides.{same_from_decides}
use Rattle.jo_text.specs.Mutf8.{IsMutf8}
use Rattle.jo_text.proofs.TestLaws.{mutf8_decided}
use Rattle.jo_text.proofs.mutf8.is_mutf8.Goals as goal

pub returns : goal.returns
returns c =
    let grammar : Decides c.is_none.result (IsMutf8 c.args.bytes.now) = search rules in
    record { grammar = grammar; test = same_from_decides _ _ grammar (mutf8_decided c.args.bytes.now) }
