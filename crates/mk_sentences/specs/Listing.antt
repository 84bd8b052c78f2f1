-- All names of a list of which a sentence leaves some out.
use Rattle.std.specs.Prelude.{ℕ, List, [], ◌++◌, codes, length, map, nat_lt, if◌then◌else◌}
use Rattle.std.specs.List.{flat_map}
use Rattle.mk_repair.specs.Lines.{pieces, spaced}
use Rattle.mk_claims.specs.declared.topic.Kind.{Kind}
use Rattle.mk_claims.specs.declared.topic.Kind.TheVariants.{TwoWriters}

-- What the names that a group of this kind is about are: files that two recipes write, else
-- targets.
abbrev pub who_are : Kind → List ℕ
who_are TwoWriters = codes "files"
who_are kind = codes "targets"

-- A line that says what these names are, and the names.
abbrev pub listed_line : (what names : List ℕ) → List ℕ
listed_line what names = codes "  " ++ (what ++ (codes ": " ++ (names ++ codes "\n")))

-- All of the names, after what they are, if a sentence leaves some of them out. They are cut into
-- pieces as lines to add are, each on a line of its own.
abbrev pub left_out : (what : List ℕ) → List (List ℕ) → List ℕ
left_out what names =
    if nat_lt (length names) 3 then [] else flat_map (listed_line what) (map spaced (pieces names))
