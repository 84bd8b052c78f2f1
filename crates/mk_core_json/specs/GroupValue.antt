-- The JSON value of a group of findings.
use Rattle.std.specs.Prelude.{ℕ, List, [], ◌∷◌, codes, if◌then◌else◌}
use Rattle.std.specs.List.{flat_map}
use Rattle.std.specs.Option.{option_map}
use Rattle.serde_json.specs.Data.{Data, null, string}
use Rattle.mk_cert_text.specs.Writing.{names_value}
use Rattle.mk_json.specs.Kinds.{object_of}
use Rattle.mk_read.specs.Reading.{Makefile}
use Rattle.mk_repair.specs.Lines.{line_text}
use Rattle.mk_sentences.specs.Adding.{lines_of}
use Rattle.mk_sentences.specs.Advice.{advice}
use Rattle.mk_claims.specs.Grouping.{Group}
use Rattle.mk_sentences.specs.Places.{rule_shown}
use Rattle.mk_sentences.specs.Sentences.{sentence}
use Rattle.mk_sentences.specs.Text.{shown_name}
use Rattle.mk_claims.specs.Topics.{kind_word}
use Rattle.mk_claims.specs.declared.topic.Kind.{Kind}
use Rattle.mk_claims.specs.declared.topic.Kind.TheVariants.{NoRecord, OtherCommands, VaryingCommands, NoTarget, TwoWriters, Loose, OwnPrerequisite, UnreachedRead, OutputRace, OutputStale, RaceAndStale, OutputRaceAndStale}
use Rattle.mk_core_json.specs.AnswerValue.{place_value}

-- The targets that a group is about: the two recipes that write the files, else its names.
abbrev pub targets_of : Kind → (first second : List ℕ) → (who : List (List ℕ)) → List (List ℕ)
targets_of TwoWriters first second who = first ∷ second ∷ []
targets_of kind first second who = who

-- The files that a group is about. A loose name is the name of a file.
abbrev pub files_of : Kind → (who what : List (List ℕ)) → List (List ℕ)
files_of TwoWriters who what = who
files_of Loose who what = who
files_of OwnPrerequisite who what = who
files_of NoRecord who what = []
files_of OtherCommands who what = []
files_of VaryingCommands who what = []
files_of NoTarget who what = []
files_of kind who what = what

-- The recipes that write the files of a group, where its sentence names them.
abbrev pub writers_of : Kind → (first second : List ℕ) → (what : List (List ℕ)) → List (List ℕ)
writers_of TwoWriters first second what = first ∷ second ∷ []
writers_of Loose first second what = what
writers_of OwnPrerequisite first second what = what
writers_of UnreachedRead first second what = first ∷ []
writers_of OutputRace first second what = first ∷ []
writers_of OutputStale first second what = first ∷ []
writers_of OutputRaceAndStale first second what = first ∷ []
writers_of kind first second what = []

-- The word of a kind; of a race together with a stale read that of the race.
abbrev pub first_word : Kind → List ℕ
first_word RaceAndStale = codes "race"
first_word OutputRaceAndStale = codes "race"
first_word kind = kind_word kind

-- The other words of a kind.
abbrev pub also_of : Kind → List (List ℕ)
also_of RaceAndStale = codes "stale" ∷ []
also_of OutputRaceAndStale = codes "stale" ∷ []
also_of kind = []

-- The text of the lines to add to the end of the makefile, or null where no line mends the group.
abbrev pub added_value : Group → Data
added_value g =
    if g.topic.has_line
    then string (flat_map line_text (lines_of g.topic.kind g.topic.first g.who g.what)) else null

-- What to do about a group that no line mends, else null.
abbrev pub to_do_value : Group → Data
to_do_value g = if g.topic.has_line then null else string (advice g.topic g.who g.what)

-- The JSON object of a group: the lines to add or what to do, its files, the words of its kind, the
-- rule line at which it is shown, its sentence, its targets, and the recipes that write the files.
abbrev pub group_value : Makefile → Group → Data
group_value m g =
    object_of ((codes "add", added_value g) ∷
    (codes "also", names_value (also_of g.topic.kind)) ∷
    (codes "do", to_do_value g) ∷
    (codes "files", names_value (files_of g.topic.kind g.who g.what)) ∷
    (codes "kind", string (first_word g.topic.kind)) ∷ (
      codes "place",
      place_value (option_map (λ rule. rule.place) (rule_shown m (shown_name g.topic g.who))),
    ) ∷
    (codes "sentence", string (sentence g.topic g.who g.what)) ∷ (
      codes "targets",
      names_value (targets_of g.topic.kind g.topic.first g.topic.second g.who),
    ) ∷ (
      codes "writers",
      names_value (writers_of g.topic.kind g.topic.first g.topic.second g.what),
    ) ∷ [])
