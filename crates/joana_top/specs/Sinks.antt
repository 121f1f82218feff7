-- What a sink took.
use Rattle.std.specs.Prelude.{◌≡◌, ◌⊎◌, ℕ, List, Option}
use Rattle.jo_io.specs.Counts.{Rose}
use Rattle.jo_io.specs.Sink.{Extends, ExtendsByPrefix}

-- what a sink has taken, and how often the outside has failed, before a run and after it
pub record SinkChange : Type 0 where
  pub given_before : Option (List ℕ)
  pub given_after : Option (List ℕ)
  pub faults_before : ℕ
  pub faults_after : ℕ

abbrev pub sink_change : {S : Type 0} → (S → Option (List ℕ)) → (S → ℕ) → S → S → SinkChange
sink_change given faults old new = record {
  given_before = given old;
  given_after = given new;
  faults_before = faults old;
  faults_after = faults new;
}

-- it took all of a text, and no put failed
pub record TookAll (sink : SinkChange) (text : List ℕ) : Type 0 where
  pub given : Extends sink.given_before sink.given_after text
  pub faults : sink.faults_after ≡ sink.faults_before

-- the put of a text failed after a part of it
pub record TookPart (sink : SinkChange) (text : List ℕ) : Type 0 where
  pub given : ExtendsByPrefix sink.given_before sink.given_after text
  pub faults : Rose sink.faults_before sink.faults_after

-- nothing was put
pub record TookNothing (sink : SinkChange) : Type 0 where
  pub given : sink.given_after ≡ sink.given_before
  pub faults : sink.faults_after ≡ sink.faults_before

-- a text was put, whether or not the put failed
abbrev pub TookAllOrPart : SinkChange → List ℕ → Type 0
TookAllOrPart sink text = TookAll sink text ⊎ TookPart sink text
