-- The sentence of a group: who, what, and what follows for the user.
use Rattle.std.specs.Prelude.{ℕ, List, ◌++◌, codes}
use Rattle.mk_claims.specs.Topics.{Topic}
use Rattle.mk_sentences.specs.Phrases.{by, shown}
use Rattle.mk_claims.specs.declared.topic.Kind.{Kind}
use Rattle.mk_claims.specs.declared.topic.Kind.TheVariants.{NoRecord, OtherCommands, VaryingCommands, NoTarget, TwoWriters, GivenWritten, OwnRead, UnknownRead, UnrecordedRead, UnreachedRead, Loose, OwnPrerequisite, Race, OutputRace, Stale, OutputStale, RaceAndStale, OutputRaceAndStale, Selection}

-- These recipes have no record.
abbrev pub no_record : List (List ℕ) → List ℕ
no_record who =
    shown who ++
    by who (codes " has no record, so nothing is known of what its recipe reads and writes")
    (codes " have no record, so nothing is known of what their recipes read and write")

-- These recipes were recorded with other commands.
abbrev pub other_commands : List (List ℕ) → List ℕ
other_commands who =
    shown who ++
    by who
    (codes " was recorded with other commands than it has with these goals and macros, " ++
    codes "which may read other files")
    (codes " were recorded with other commands than they have with these goals and macros, " ++
    codes "which may read other files")

-- The commands of these recipes use `$?`.
abbrev pub varying_commands : List (List ℕ) → List ℕ
varying_commands who =
    codes "the commands of " ++ (shown who ++
    by who (codes " use $?, so what it holds may depend on what was out of date")
    (codes " use $?, so what they hold may depend on what was out of date"))

-- These recipes don't write their targets.
abbrev pub no_target : List (List ℕ) → List ℕ
no_target who =
    shown who ++ (by who (codes " isn't phony, but its recipe doesn't write it: ")
    (codes " aren't phony, but their recipes don't write them: ") ++
    by who (codes "as long as there is no such file, each make runs the recipe again")
    (codes "as long as there are no such files, each make runs the recipes again"))

-- Both recipes write these files.
abbrev pub two_writers : (first second : List ℕ) → List (List ℕ) → List ℕ
two_writers first second who =
    codes "the recipes of " ++ (first ++ (codes " and " ++ (second ++ (codes " both write " ++
    (shown who ++ codes ": what is left depends on which of them ran last")))))

-- The beginning of a sentence on recipes.
unfoldable pub recipes_of : List (List ℕ) → List ℕ
recipes_of who = by who (codes "the recipe of ") (codes "the recipes of ") ++ shown who

-- These recipes write files from which a make starts.
abbrev pub given_written : (who what : List (List ℕ)) → List ℕ
given_written who what =
    recipes_of who ++ (by who (codes " writes ") (codes " write ") ++ (shown what ++
    (codes ", which each make takes as given " ++
    (codes "(a source, a makefile, or a name of -include or .PHONY): " ++
    codes "the next make starts from something else"))))

-- These recipes read files that they write themselves.
abbrev pub own_read : (who what : List (List ℕ)) → List ℕ
own_read who what =
    recipes_of who ++ (by who (codes " reads ") (codes " read ") ++ (shown what ++
    (by who (codes ", which it also writes: what it leaves")
    (codes ", which they also write: what they leave") ++
    codes " may depend on what was there before")))

-- These recipes read files of unknown origin.
abbrev pub unknown_read : (who what : List (List ℕ)) → List ℕ
unknown_read who what =
    recipes_of who ++ (by who (codes " reads ") (codes " read ") ++ (shown what ++
    by what
    (codes ", which is neither a source nor written by a recipe: nothing says when it changes")
    (codes ", which are neither sources nor written by recipes: nothing says when they change")))

-- These recipes read files whose recipes have no record.
abbrev pub unrecorded_read : (who what : List (List ℕ)) → List ℕ
unrecorded_read who what =
    recipes_of who ++ (by who (codes " reads ") (codes " read ") ++ (shown what ++
    by what
    (codes ", whose recipe has no record, so nothing is known of what it writes")
    (codes ", whose recipes have no records, so nothing is known of what they write")))

-- These recipes read these files.
unfoldable pub reads : (who what : List (List ℕ)) → List ℕ
reads who what = shown who ++ (by who (codes " reads ") (codes " read ") ++ shown what)

-- These recipes read these files, which the recipe of `maker` makes, and the goals don't reach it.
abbrev pub unreached_read : (maker : List ℕ) → (who what : List (List ℕ)) → List ℕ
unreached_read maker who what =
    reads who what ++ (codes ", which the recipe of " ++ (maker ++ (codes " makes, but " ++
    (by who (codes "doesn't depend on ") (codes "don't depend on ") ++ (maker ++
    codes ", so these goals don't run that recipe")))))

-- These names don't wait for the recipes that write their files.
abbrev pub loose : (who what : List (List ℕ)) → List ℕ
loose who what =
    shown who ++ (by who (codes " has no recipe and doesn't depend on ")
    (codes " have no recipes and don't depend on ") ++ (shown what ++
    (by what (codes ", whose recipe writes ") (codes ", whose recipes write ") ++
    by who (codes "it: make may take it as done while it is being written")
    (codes "them: make may take them as done while they are being written"))))

-- These recipes may begin before these files are written.
abbrev pub race : (who what : List (List ℕ)) → List ℕ
race who what =
    reads who what ++
    (by who (codes ", but doesn't wait for ") (codes ", but don't wait for ") ++
    by what (codes "it: with several jobs it may be missing, old or half-written then")
    (codes "them: with several jobs one may be missing, old or half-written then"))

-- These recipes may begin before the recipe of `writer` has written these files.
abbrev pub output_race : (writer : List ℕ) → (who what : List (List ℕ)) → List ℕ
output_race writer who what =
    reads who what ++ (codes ", which the recipe of " ++ (writer ++ (codes " writes, but " ++
    (by who (codes "doesn't wait for ") (codes "don't wait for ") ++ (writer ++
    by what (codes ": with several jobs it may be missing, old or half-written then")
    (codes ": with several jobs one may be missing, old or half-written then"))))))

-- The end of a sentence on recipes that don't run again.
unfoldable pub stays_old : List (List ℕ) → List ℕ
stays_old who = by who (shown who) (codes "they") ++ by who (codes " stays old") (codes " stay old")

-- These recipes don't run again when these files change.
abbrev pub stale : (who what : List (List ℕ)) → List ℕ
stale who what =
    reads who what ++
    (by who (codes ", but doesn't depend on ") (codes ", but don't depend on ") ++
    (by what (codes "it: when it changes, ") (codes "them: when one changes, ") ++ stays_old who))

-- These recipes don't run again when these files change, which the recipe of `writer` writes.
abbrev pub output_stale : (writer : List ℕ) → (who what : List (List ℕ)) → List ℕ
output_stale writer who what =
    reads who what ++ (codes ", which the recipe of " ++ (writer ++ (codes " writes, but " ++
    (by who (codes "doesn't depend on ") (codes "don't depend on ") ++ (writer ++
    (by what (codes ": when it changes, ") (codes ": when one changes, ") ++ stays_old who))))))

-- What follows where recipes may begin before files are written, and don't run again when these
-- change.
unfoldable pub both_effects : (who what : List (List ℕ)) → List ℕ
both_effects who what =
    by what
    (codes "with several jobs it may be missing, old or half-written then, " ++
    codes "and when it changes, ")
    (codes "with several jobs one may be missing, old or half-written then, " ++
    codes "and when one changes, ") ++ stays_old who

-- These recipes may begin before these files are written, and don't run again when these change.
abbrev pub race_and_stale : (who what : List (List ℕ)) → List ℕ
race_and_stale who what =
    reads who what ++ (by who (codes ", but doesn't depend on ") (codes ", but don't depend on ") ++
    (by what (codes "it: ") (codes "them: ") ++ both_effects who what))

-- These recipes may begin before the recipe of `writer` has written these files, and don't run
-- again when these change.
abbrev pub output_race_and_stale : (writer : List ℕ) → (who what : List (List ℕ)) → List ℕ
output_race_and_stale writer who what =
    reads who what ++ (codes ", which the recipe of " ++ (writer ++ (codes " writes, but " ++
    (by who (codes "doesn't depend on ") (codes "don't depend on ") ++ (writer ++
    (codes ": " ++ both_effects who what))))))

-- An inference rule makes the name from another file once recipes have run.
abbrev pub selection : (name chosen : List ℕ) → List ℕ
selection name chosen =
    codes "once recipes have run, an inference rule makes " ++ (name ++ (codes " from " ++
    (chosen ++ codes ", but not before: the second make differs from the first")))

-- The sentence of a group of this kind with these names of its topic.
abbrev pub sentence_of : Kind → (first second : List ℕ) → (who what : List (List ℕ)) → List ℕ
sentence_of NoRecord first second who what = no_record who
sentence_of OtherCommands first second who what = other_commands who
sentence_of VaryingCommands first second who what = varying_commands who
sentence_of NoTarget first second who what = no_target who
sentence_of TwoWriters first second who what = two_writers first second who
sentence_of GivenWritten first second who what = given_written who what
sentence_of OwnRead first second who what = own_read who what
sentence_of UnknownRead first second who what = unknown_read who what
sentence_of UnrecordedRead first second who what = unrecorded_read who what
sentence_of UnreachedRead first second who what = unreached_read first who what
sentence_of Loose first second who what = loose who what
sentence_of OwnPrerequisite first second who what = loose who what
sentence_of Race first second who what = race who what
sentence_of OutputRace first second who what = output_race first who what
sentence_of Stale first second who what = stale who what
sentence_of OutputStale first second who what = output_stale first who what
sentence_of RaceAndStale first second who what = race_and_stale who what
sentence_of OutputRaceAndStale first second who what = output_race_and_stale first who what
sentence_of Selection first second who what = selection first second

-- The sentence of a group.
abbrev pub sentence : Topic → (who what : List (List ℕ)) → List ℕ
sentence topic who what = sentence_of topic.kind topic.first topic.second who what
