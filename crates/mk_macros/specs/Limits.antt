-- Limits of expansion.
use Rattle.std.specs.Prelude.{ℕ}

-- How many levels references may nest.
abbrev pub max_levels : ℕ
max_levels = 256

-- The most references that are evaluated in one expansion.
abbrev pub max_references : ℕ
max_references = 65536

-- The most bytes of a macro's text, and of an expanded text.
abbrev pub max_value : ℕ
max_value = 1048576
