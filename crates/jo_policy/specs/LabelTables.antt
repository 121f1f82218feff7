-- Labels by their methods in memory. Private functions compute these; the definition cites `Labelling` alone.
use Rattle.std.specs.Prelude.{◌≡◌, ℕ}
use Rattle.jo_policy.specs.declared.labelling.ByMethod.{ByMethod}
use Rattle.jo_policy.specs.Labelling.{first_twice, table_of}

-- the table has the label of each method below a count, and the first method with two
pub record IsByMethod (count : ℕ) (table : ByMethod) : Type 0 where
  pub labels : table.labels.items ≡ table_of count table.placed
  pub twice : table.twice ≡ first_twice table.placed
