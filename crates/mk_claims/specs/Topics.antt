-- What groups of findings are about.
use Rattle.std.specs.Prelude.{ℕ, ◌==◌, Bool, ◌&&◌, not, List, codes, if◌then◌else◌}
use Rattle.std.specs.Str.{bytes_eq}
use Rattle.mk_claims.specs.declared.topic.Kind.{Kind}
use Rattle.mk_claims.specs.declared.topic.Kind.TheVariants.{NoRecord, OtherCommands, VaryingCommands, NoTarget, TwoWriters, GivenWritten, OwnRead, UnknownRead, UnrecordedRead, UnreachedRead, Loose, OwnPrerequisite, Race, OutputRace, Stale, OutputStale, RaceAndStale, OutputRaceAndStale, Selection}
use Rattle.mk_claims.specs.declared.topic.Topic as borrowed

-- What the findings of a group have in common: their kind; whether a line of the makefile mends
-- them; up to two names; and the names along the cycle that a line would close, if it would.
pub record Topic : Type 0 where
  pub kind : Kind
  pub has_line : Bool
  pub first : List ℕ
  pub second : List ℕ
  pub cycle : List ℕ

-- The topic that a borrowed topic stands for.
abbrev pub topic_view : borrowed.Topic → Topic
topic_view t = record {
  kind = t.kind;
  has_line = t.has_line;
  first = t.first.now;
  second = t.second.now;
  cycle = t.cycle.now;
}

-- The place of a kind among all kinds.
abbrev pub kind_number : Kind → ℕ
kind_number NoRecord = 1
kind_number OtherCommands = 2
kind_number VaryingCommands = 3
kind_number NoTarget = 4
kind_number TwoWriters = 5
kind_number GivenWritten = 6
kind_number OwnRead = 7
kind_number UnknownRead = 8
kind_number Loose = 9
kind_number Race = 10
kind_number OutputRace = 11
kind_number Stale = 12
kind_number OutputStale = 13
kind_number Selection = 14
kind_number UnreachedRead = 15
kind_number OwnPrerequisite = 16
kind_number RaceAndStale = 17
kind_number OutputRaceAndStale = 18
kind_number UnrecordedRead = 19

-- Whether two Booleans are equal.
abbrev pub same_bool : Bool → Bool → Bool
same_bool b c = if b then c else not c

-- Whether two topics are equal.
abbrev pub topic_eq : Topic → Topic → Bool
topic_eq t u =
    (kind_number t.kind == kind_number u.kind) && (same_bool t.has_line u.has_line &&
    (bytes_eq t.first u.first && (bytes_eq t.second u.second && bytes_eq t.cycle u.cycle)))

-- The word that is printed for findings of a kind.
abbrev pub kind_word : Kind → List ℕ
kind_word NoRecord = codes "record"
kind_word OtherCommands = codes "commands"
kind_word VaryingCommands = codes "varying"
kind_word NoTarget = codes "target"
kind_word TwoWriters = codes "writers"
kind_word GivenWritten = codes "given"
kind_word OwnRead = codes "own"
kind_word UnknownRead = codes "unknown"
kind_word UnrecordedRead = codes "unknown"
kind_word UnreachedRead = codes "unknown"
kind_word Loose = codes "loose"
kind_word OwnPrerequisite = codes "loose"
kind_word Race = codes "race"
kind_word OutputRace = codes "race"
kind_word Stale = codes "stale"
kind_word OutputStale = codes "stale"
kind_word RaceAndStale = codes "race, stale"
kind_word OutputRaceAndStale = codes "race, stale"
kind_word Selection = codes "selection"
