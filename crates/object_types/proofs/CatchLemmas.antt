-- What types fit, and which rows catch, by an object's own type.
use Rattle.std.specs.Prelude.{Bool, not}
use Rattle.std.proofs.Common.{◌≡◌, ◌↔◌, ◌⊎◌, inl, inr, true, false, ℕ, ◌+◌, ◌<◌, ◌≤◌, List, length, Option, Some, None, slice_get, refl, ap, sym, ◌∙◌, subst, arith}
use Rattle.std.proofs.lemmas.Option.{same_Some, slice_get_within}
use Rattle.std.proofs.lemmas.Bool.{cases_eq}
use Rattle.jo_prog.specs.declared.program.Program.{Program}
use Rattle.jo_prog.specs.declared.program.Code.{Code}
use Rattle.jo_prog.specs.declared.program.Row.{Row}
use Rattle.jo_prog.specs.declared.program.TypeRef.{TypeRef}
use Rattle.jo_prog.specs.Program.{code_at}
use Rattle.jo_prog.specs.Types.{type_fits}
use Rattle.dependence.specs.WideGraph.{rows_in, row_at}
use Rattle.dependence.specs.FlowGraph.{AnObject, type_of_object, Fits, FailsToFit, RowFits, CatchesFirst, PassesAll}
use Rattle.object_types.specs.Catching.{CatchesBy, NoneCatches, IsFirstOf}

-- ---- types

pub fits_by : (program : Program) (o : AnObject) (own named : TypeRef) (b : Bool) → b ≡ type_fits program own named → type_of_object program o ≡ Some own → (b ≡ true) ↔ Fits program o named
fits_by program o own named b is type_is = (
  λ yes. (own, type_is, sym is ∙ yes),
  λ has. let same : has.0 ≡ own = same_Some has.0 own (sym has.1 ∙ type_is) in is ∙ ap (λ t. type_fits program t named) (sym same) ∙ has.2,
)

pub fails_by : (program : Program) (o : AnObject) (own named : TypeRef) (b : Bool) → b ≡ not (type_fits program own named) → type_of_object program o ≡ Some own → (b ≡ true) ↔ FailsToFit program o named
fails_by program o own named b is type_is = (
  λ yes. (own, type_is, turned (type_fits program own named) (sym is ∙ yes)),
  λ has. let same : has.0 ≡ own = same_Some has.0 own (sym has.1 ∙ type_is) in is ∙ ap (λ t. not (type_fits program t named)) (sym same) ∙ ap not has.2,
)
  where
    turned : (t : Bool) → not t ≡ true → t ≡ false
    turned true e = absurd (cc)
    turned false e = refl

pub fits_none : (program : Program) (o : AnObject) (named : TypeRef) → type_of_object program o ≡ None → (false ≡ true) ↔ Fits program o named
fits_none program o named none = (λ e. absurd (cc), λ has. absurd (let a = has.1 in cc))

pub fails_none : (program : Program) (o : AnObject) (named : TypeRef) → type_of_object program o ≡ None → (false ≡ true) ↔ FailsToFit program o named
fails_none program o named none = (λ e. absurd (cc), λ has. absurd (let a = has.1 in cc))

-- ---- rows

pub not_covered : (program : Program) (row : Row) (pc : ℕ) (o : AnObject) (b : Bool) → b ≡ false → (b ≡ true) ↔ ((row.start ≤ pc) × (pc < row.end)) → (false ≡ true) ↔ CatchesBy program row pc o
not_covered program row pc o b is covers = (λ e. absurd (cc), λ catches. absurd (let e = covers.1 (catches.begins, catches.ends) in cc))

pub covered : (program : Program) (row : Row) (pc : ℕ) (o : AnObject) (b r : Bool) → b ≡ true → (b ≡ true) ↔ ((row.start ≤ pc) × (pc < row.end)) → (r ≡ true) ↔ RowFits program row.catches o → (r ≡ true) ↔ CatchesBy program row pc o
covered program row pc o b r is covers fits =
    (λ yes. record { begins = (covers.0 is).0; ends = (covers.0 is).1; fits = fits.0 yes }, λ catches. fits.1 catches.fits)

pub none_yet : (program : Program) (rows : List Row) (pc : ℕ) (o : AnObject) → NoneCatches program rows pc 0 o
none_yet program rows pc o k row below at catches = omega (arith, below)

pub none_more : (program : Program) (rows : List Row) (pc n : ℕ) (o : AnObject) (row : Row) → slice_get rows n ≡ Some row → (CatchesBy program row pc o → ⊥) → NoneCatches program rows pc n o → NoneCatches program rows pc (n + 1) o
none_more program rows pc n o row at lacks before k other below is catches = by_place (cases_eq k n)
  where
    by_place : (k ≡ n) ⊎ (k ≡ n → ⊥) → ⊥
    by_place (inl same) = lacks (subst (λ r. CatchesBy program r pc o) (same_Some other row (sym is ∙ ap (slice_get rows) same ∙ at)) catches)
    by_place (inr apart) = before k other (omega (arith, below, apart)) is catches

pub first_catches : (program : Program) (m pc k : ℕ) (code : Code) (o : AnObject) → code_at program m ≡ Some code → IsFirstOf program code.rows pc k o → CatchesFirst program m pc k o
first_catches program m pc k code o is first = record {
  catches = (first.row, row_is k first.row first.at, first.catches.begins, first.catches.ends, first.catches.fits);
  first = λ j below has. first.before j has.0 below (of_row j has.0 has.1) (record { begins = has.2; ends = has.3; fits = has.4 });
}
  where
    row_is : (j : ℕ) (row : Row) → slice_get code.rows j ≡ Some row → row_at program m j ≡ Some row
    row_is j row at = ap (λ (c : Option Code). rows_in c j) is ∙ at

    of_row : (j : ℕ) (row : Row) → row_at program m j ≡ Some row → slice_get code.rows j ≡ Some row
    of_row j row at = sym (ap (λ (c : Option Code). rows_in c j) is) ∙ at

pub passes_rows : (program : Program) (m pc : ℕ) (code : Code) (o : AnObject) → code_at program m ≡ Some code → NoneCatches program code.rows pc (length code.rows) o → PassesAll program m pc o
passes_rows program m pc code o is none k has =
    let at : slice_get code.rows k ≡ Some has.0 = sym (ap (λ (c : Option Code). rows_in c k) is) ∙ has.1 in
    none k has.0 (slice_get_within code.rows k has.0 at) at (record { begins = has.2; ends = has.3; fits = has.4 })

pub passes_none : (program : Program) (m pc : ℕ) (o : AnObject) → code_at program m ≡ None → PassesAll program m pc o
passes_none program m pc o is k has = absurd (let none : row_at program m k ≡ None = ap (λ (c : Option Code). rows_in c k) is in let some = has.1 in cc)

pub none_all : (program : Program) (rows : List Row) (pc n : ℕ) (o : AnObject) → length rows ≤ n → NoneCatches program rows pc n o → NoneCatches program rows pc (length rows) o
none_all program rows pc n o all none k row below at catches = none k row (omega (arith, all, below)) at catches
