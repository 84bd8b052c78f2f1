-- Reads that can't have a finding.
use Rattle.std.specs.Prelude.{ℕ, ◌==◌, ◌&&◌, Bool, not, List, filter, length}
use Rattle.mk_subject.specs.FileInfo.{FileInfo}

-- Whether the file is given, can't be edited, and no recipe writes it.
abbrev pub is_settled : FileInfo → Bool
is_settled k = k.given && (not k.editable && length k.writers == 0)

-- The files that aren't settled, in their order.
abbrev pub unsettled : (List ℕ → FileInfo) → List (List ℕ) → List (List ℕ)
unsettled known_of files = filter (λ f. not (is_settled (known_of f))) files
