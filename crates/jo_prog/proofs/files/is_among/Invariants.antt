use Rattle.std.proofs.Common.{◌≡◌, map, drop}
use Rattle.std.specs.List.{list_any}
use Rattle.std.specs.Str.{bytes_eq}
use Rattle.jo_prog.proofs.files.is_among.Given as goal

-- what is left decides
abbrev pub invariant-loop-name : goal.invariant-loop-name
invariant-loop-name l =
    list_any (λ name. bytes_eq name l.text) (map (λ name. name.now) (drop l.name-index l.names)) ≡ list_any (λ name. bytes_eq name l.text) (map (λ name. name.now) l.names)
