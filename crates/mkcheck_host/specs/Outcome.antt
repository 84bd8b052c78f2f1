-- The outcome of a run.
use Rattle.std.specs.Prelude.{ℕ, List}
use Rattle.mkcheck_host.specs.declared.outcome.Outcome.{Outcome}

-- What goes to standard output and to standard error, and the exit status.
pub record Written : Type 0 where
  pub out : List ℕ
  pub err : List ℕ
  pub status : ℕ

-- What an `Outcome` of the code stands for.
abbrev pub written : Outcome → Written
written outcome =
    record { out = outcome.out.items; err = outcome.err.items; status = outcome.status }
