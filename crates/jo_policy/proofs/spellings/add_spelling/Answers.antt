use Rattle.std.proofs.Common.{◌≡◌, false, map, is_some, ap, ◌∙◌}
use Rattle.jo_policy.specs.FileMethods.{entry_in, entry_of}
use Rattle.jo_policy.proofs.MethodEntries.{spelling_added}
use Rattle.jo_policy.proofs.spellings.add_spelling.Goals as goal

pub returns-in-Ok : goal.returns-in-Ok
returns-in-Ok c =
    let none : is_some (entry_of (map entry_in c.args.index.now.places.entries) c.args.spelling.items) ≡ false = cc c.as_slice.ensures.value in
    ap (map entry_in) c.in-Ok.ensures.entries ∙ spelling_added c.args.index.now.places.entries c.args.spelling c.args.place none
