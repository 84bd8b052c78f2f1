-- Claims that mending others doesn't touch.
use Rattle.std.specs.Prelude.{ℕ, Bool, true, false, List, [], map, not, filter, ◌||◌, ◌&&◌, if◌then◌else◌}
use Rattle.mk_lines.specs.Names.{has_name}
use Rattle.mk_claims.specs.Claims.{Claim}
use Rattle.mk_claims.specs.declared.topic.Kind.{Kind}
use Rattle.mk_claims.specs.declared.topic.Kind.TheVariants.{NoRecord, NoTarget, TwoWriters, GivenWritten, OwnRead, UnknownRead, UnrecordedRead, UnreachedRead, Loose, OwnPrerequisite, Stale, OutputStale}

-- Of the two names of a claim of this kind, the file that mending it may change; empty if there is
-- none.
abbrev pub file_about_of : Kind → (who what : List ℕ) → List ℕ
file_about_of NoRecord who what = who
file_about_of NoTarget who what = who
file_about_of TwoWriters who what = who
file_about_of Loose who what = who
file_about_of OwnPrerequisite who what = who
file_about_of GivenWritten who what = what
file_about_of OwnRead who what = what
file_about_of UnknownRead who what = what
file_about_of UnrecordedRead who what = what
file_about_of UnreachedRead who what = what
file_about_of kind who what = []

-- The file that mending the claim may change.
abbrev pub file_about : Claim → List ℕ
file_about c = file_about_of c.topic.kind c.who c.what

-- Of a claim of this kind, the target that its line makes phony; empty if there is none.
abbrev pub phony_by_of : Kind → (has_line : Bool) → (who : List ℕ) → List ℕ
phony_by_of NoTarget has_line who = if has_line then who else []
phony_by_of kind has_line who = []

-- The target that the line for the claim makes phony.
abbrev pub phony_by : Claim → List ℕ
phony_by c = phony_by_of c.topic.kind c.topic.has_line c.who

-- Claims of this kind are about stale reads.
abbrev pub is_stale : Kind → Bool
is_stale Stale = true
is_stale OutputStale = true
is_stale kind = false

-- Mending the first claims may change the file of the other one, or makes its recipe phony, which
-- then never leaves anything old.
abbrev pub is_touched : (claims : List Claim) → Claim → Bool
is_touched claims c =
    has_name (map file_about claims) c.what ||
    (is_stale c.topic.kind && has_name (map phony_by claims) c.who)

-- Those of the second claims that mending the first ones doesn't touch.
abbrev pub untouched : (claims hidden : List Claim) → List Claim
untouched claims hidden = filter (λ c. not (is_touched claims c)) hidden
