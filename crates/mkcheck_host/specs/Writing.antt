-- How a text is written.
use Rattle.std.specs.Prelude.{ℕ, ◌+◌, ◌-◌, ◌^◌, min}

-- One more failed write, up to the greatest value that is counted.
abbrev pub next_failure : ℕ → ℕ
next_failure failures = min (failures + 1) (2 ^ 64 - 1)
