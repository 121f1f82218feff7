-- The end of the process (this project's own).
use Rattle.std.specs.Prelude.{◌≡◌, ℕ}
use Rattle.joana_base.specs.declared.status.Status.{Status}
use Rattle.joana_base.specs.Status.{code_of}

-- the code of a status
abbrev pub IsStatusCode : ℕ → Type 0
IsStatusCode code = (status : Status) × (code ≡ code_of status)
