-- The findings of a build.
use Rattle.std.specs.Prelude.{◌≡◌, ℕ, List, [], ◌∷◌, ◌++◌, ◌⊎◌, if◌then◌else◌}
use Rattle.std.specs.List.{flat_map}
use Rattle.mk_lines.specs.Names.{has_name}
use Rattle.mk_subject.specs.Subject.{Subject, reads_of, writes_of}
use Rattle.mk_find.specs.declared.finding.Finding.{Finding}
use Rattle.mk_find.specs.Candidates.{Candidate, stale, by_node, static_candidates, race_candidates, stale_candidates}
use Rattle.mk_find.specs.Listing.{Lists}
use Rattle.mk_find.specs.Listed.{Adds}

-- These are the static findings (1 to 9, 12) if there are any; else the races (10) followed by the
-- stale reads (11).
abbrev pub AreFindings : Subject → List Finding → Type 0
AreFindings x found =
    ((¬ (found ≡ [])) × Adds x (static_candidates x) [] found) ⊎
    (Lists x (static_candidates x) [] × Adds x (race_candidates x ++ stale_candidates x) [] found)

-- The candidate for a stale read, if the recipe t doesn't write the file.
abbrev pub hidden_read : Subject → ℕ → List ℕ → List Candidate
hidden_read x t f = if has_name (writes_of x t) f then [] else stale t f ∷ []

-- The candidates for stale reads by t of files that it doesn't write.
abbrev pub hidden_reads : Subject → ℕ → List Candidate
hidden_reads x t = flat_map (hidden_read x t) (reads_of x t)

-- What static findings hide: the races (10), and the stale reads (11) of files that the reader
-- doesn't write.
abbrev pub AreHidden : Subject → List Finding → Type 0
AreHidden x found = Adds x (race_candidates x ++ by_node x (hidden_reads x)) [] found

-- There is no static finding (1 to 9, 12) and no race (10).
abbrev pub NothingFound : Subject → Type 0
NothingFound x = Lists x (static_candidates x) [] × Lists x (race_candidates x) []
