-- What to do about a group that no line of the makefile mends.
use Rattle.std.specs.Prelude.{ℕ, List, [], ◌++◌, codes, if◌then◌else◌}
use Rattle.std.specs.Str.{bytes_eq}
use Rattle.mk_lines.specs.Names.{has_name}
use Rattle.mk_claims.specs.Topics.{Topic}
use Rattle.mk_sentences.specs.Phrases.{by, shown}
use Rattle.mk_claims.specs.declared.topic.Kind.{Kind}
use Rattle.mk_claims.specs.declared.topic.Kind.TheVariants.{NoRecord, OtherCommands, VaryingCommands, NoTarget, TwoWriters, GivenWritten, OwnRead, UnknownRead, UnrecordedRead, UnreachedRead, Loose, OwnPrerequisite, Race, OutputRace, Stale, OutputStale, RaceAndStale, OutputRaceAndStale, Selection}

-- Files whose names a makefile can't hold.
abbrev pub rename : List (List ℕ) → List ℕ
rename what =
    by what (codes "rename the file: a makefile can't hold its name")
    (codes "rename the files: a makefile can't hold their names")

-- One recipe that makes all that the other one makes.
abbrev pub keep_first : (first second : List ℕ) → List ℕ
keep_first first second =
    codes "; if the recipe of " ++ (first ++ (codes " makes all that the recipe of " ++ (second ++
    (codes " makes, write `" ++ (second ++ (codes ": " ++ (first ++
    (codes " ;` in place of the rule of " ++ second))))))))

-- Two recipes that write the same files.
abbrev pub keep_one : (first second : List ℕ) → (who : List (List ℕ)) → List ℕ
keep_one first second who =
    codes "let each recipe write files of its own, and check a target such as clean by itself" ++
    (if has_name who second then keep_first first second else [])

-- A file from which each make starts.
abbrev pub write_another : List (List ℕ) → List ℕ
write_another what =
    by what
    (codes "let the recipe write another file, or take this one out of the sources, -include " ++
    (codes "and .PHONY; if it is a dependency file, as cc -MMD writes it, let mkcheck-import " ++
    codes "read the build"))
    (codes "let the recipe write other files, or take these out of the sources, -include " ++
    (codes "and .PHONY; if they are dependency files, as cc -MMD writes them, " ++
    codes "let mkcheck-import read the build"))

-- A file that the recipe which writes it has as a prerequisite.
abbrev pub split_writer : (who what : List (List ℕ)) → List ℕ
split_writer who what =
    codes "give " ++ (shown who ++
    (by who (codes " a rule of its own, or take it out of the prerequisites of ")
    (codes " rules of their own, or take them out of the prerequisites of ") ++
    (shown what ++ codes ": to depend on that would close a cycle")))

-- A line that would close this cycle.
abbrev pub open_cycle : List ℕ → List ℕ
open_cycle cycle =
    codes "with a line for this each of these names would need the next one:" ++ (cycle ++
    codes "; split one of these recipes in two, or take a prerequisite away")

-- A file of unknown origin.
abbrev pub take_in : List (List ℕ) → List ℕ
take_in what =
    by what
    (codes "take it into the project and record again, or record with --fixed if it never changes")
    (codes "take them into the project and record again, " ++
    codes "or record with --fixed if they never change")

-- A file that two targets may make which the goals don't reach.
abbrev pub choose_maker : (first second : List ℕ) → List (List ℕ) → List ℕ
choose_maker first second what =
    codes "the recipes of " ++ (first ++ (codes " and " ++ (second ++
    (by what (codes " were recorded to write it") (codes " were recorded to write them") ++
    codes ", and these goals reach neither: write the one that is meant as a prerequisite"))))

-- A file of unknown origin, by the second of two targets that may make it.
abbrev pub find_maker : (first second : List ℕ) → List (List ℕ) → List ℕ
find_maker first second what =
    if bytes_eq second [] then take_in what else choose_maker first second what

-- A name that an inference rule makes from another file.
abbrev pub write_rule : (name chosen : List ℕ) → List ℕ
write_rule name chosen =
    codes "write a rule with commands for " ++ (name ++ (codes ", or make " ++ (chosen ++
    codes " a target of the recipe that writes it")))

-- Recipes whose records are missing or have other commands.
abbrev pub record_again : List ℕ
record_again = codes "record again, with the goals and macros that are checked"

-- What to do about a group of this kind with these names of its topic.
abbrev pub advice_of : Kind → (first second : List ℕ) → (who what : List (List ℕ)) → List ℕ
advice_of NoRecord first second who what = record_again
advice_of OtherCommands first second who what = record_again
advice_of VaryingCommands first second who what =
    codes "write $^ in place of $?, and make the whole file anew in each run"
advice_of NoTarget first second who what =
    by who
    (codes "let the recipe write its target, and record again; if another recipe writes it, " ++
    (codes "write that recipe's target as a prerequisite, and `;` in place of the commands; " ++
    (codes "if it is a folder, take it out of the prerequisites, " ++
    codes "and write mkdir -p in the recipes that need it")))
    (codes "let the recipes write their targets, and record again; if other recipes write them, " ++
    (codes "write those recipes' targets as prerequisites, and `;` in place of the commands; " ++
    (codes "if they are folders, take them out of the prerequisites, " ++
    codes "and write mkdir -p in the recipes that need them")))
advice_of TwoWriters first second who what = keep_one first second who
advice_of GivenWritten first second who what = write_another what
advice_of OwnRead first second who what =
    codes "split the recipe in two, or make each file anew from other files alone"
advice_of UnknownRead first second who what = find_maker first second what
advice_of UnrecordedRead first second who what = record_again
advice_of UnreachedRead first second who what = rename what
advice_of Loose first second who what = rename what
advice_of OwnPrerequisite first second who what = split_writer who what
advice_of Race first second who what = rename what
advice_of OutputRace first second who what = rename what
advice_of Stale first second who what = rename what
advice_of OutputStale first second who what = rename what
advice_of RaceAndStale first second who what = rename what
advice_of OutputRaceAndStale first second who what = rename what
advice_of Selection first second who what = write_rule first second

-- What to do about a group.
abbrev pub advice : Topic → (who what : List (List ℕ)) → List ℕ
advice topic who what =
    if bytes_eq topic.cycle [] then advice_of topic.kind topic.first topic.second who what
    else open_cycle topic.cycle
