-- The lines to add to the makefile that mend a group.
use Rattle.std.specs.Prelude.{ℕ, List, [], ◌∷◌, ◌++◌, codes}
use Rattle.std.specs.List.{flat_map}
use Rattle.mk_repair.specs.Lines.{Line, lines_between, line_text, line_with}
use Rattle.mk_claims.specs.declared.topic.Kind.{Kind}
use Rattle.mk_claims.specs.declared.topic.Kind.TheVariants.{NoTarget, OutputRace, OutputStale, OutputRaceAndStale, UnreachedRead}

-- The lines that mend a group of this kind: its targets become phony; or each gets, as
-- prerequisites, the recipe that writes the files or the files themselves.
abbrev pub lines_of : Kind → (first : List ℕ) → (who what : List (List ℕ)) → List Line
lines_of NoTarget first who what = lines_between (codes ".PHONY" ∷ []) who
lines_of OutputRace first who what = lines_between who (first ∷ [])
lines_of OutputStale first who what = lines_between who (first ∷ [])
lines_of OutputRaceAndStale first who what = lines_between who (first ∷ [])
lines_of UnreachedRead first who what = lines_between who (first ∷ [])
lines_of kind first who what = lines_between who what

-- A line to add, from the texts of its targets and its prerequisites.
abbrev pub added_with : (targets prerequisites : List ℕ) → List ℕ
added_with targets prerequisites = codes "  add: " ++ line_with targets prerequisites

-- The line to add.
abbrev pub added_line : Line → List ℕ
added_line line = codes "  add: " ++ line_text line

-- The lines to add, each on a line of its own.
abbrev pub added_lines : List Line → List ℕ
added_lines lines = flat_map added_line lines
