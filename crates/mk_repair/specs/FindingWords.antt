-- The words that findings give.
use Rattle.std.specs.Prelude.{ℕ, Bool, not, ◌&&◌, ◌||◌, List, [], ◌∷◌, map, Option, None, Some, option_and_then, option_map, if◌then◌else◌}
use Rattle.std.specs.List.{flat_map}
use Rattle.mk_lines.specs.Names.{has_name, number_of}
use Rattle.mk_graph.specs.declared.node.Node.{Node}
use Rattle.mk_graph.specs.Graph.{prerequisites}
use Rattle.mk_read.specs.Names.{is_make_name}
use Rattle.mk_read.specs.Rules.{is_commanded}
use Rattle.mk_subject.specs.FileInfo.{all_names}
use Rattle.mk_subject.specs.Subject.{Subject, name_of}
use Rattle.mk_find.specs.declared.finding.Finding.{Finding}
use Rattle.mk_find.specs.declared.finding.Finding.TheVariants.{NoRecord, OtherCommands, VaryingCommands, NoTarget, TwoWriters, GivenWritten, OwnRead, UnknownRead, Loose, Race, Stale, Selection}
use Rattle.mk_repair.specs.Word.{Word, needs, phony, with_word}
use Rattle.mk_repair.specs.Makers.{makers_of, only_maker}
use Rattle.mk_repair.specs.Provider.{provider}

-- The names of a node's direct prerequisites where it has a recipe and isn't phony; else none.
abbrev pub needed_by : Subject → Node → List (List ℕ)
needed_by x node =
    if node.recipe && not node.phony
    then map (name_of x) (flat_map (λ group. group) node.groups) else []

-- The names of all direct prerequisites of recipes that aren't phony.
abbrev pub needed : Subject → List (List ℕ)
needed x = flat_map (needed_by x) x.graph.nodes

-- Whether the target stays what it is: a recipe that isn't phony needs it, which every make would
-- run then; or its commands are those of an inference rule, which a phony target hasn't.
abbrev pub stays_a_file : Subject → List ℕ → Bool
stays_a_file x target =
    has_name (needed x) target || not (is_commanded x.makefile.rules target)

-- The writer has the name as a direct prerequisite.
abbrev pub needs_directly : Subject → (writer name : List ℕ) → Bool
needs_directly x writer name =
    has_name (map (name_of x) (prerequisites x.graph (number_of (all_names x) writer))) name

-- The word for a finding, whatever its names are.
abbrev pub word_for : Subject → Finding → Option Word
word_for x (NoTarget target) = if stays_a_file x target then None else Some (phony target)
word_for x (Loose target writer) =
    if needs_directly x writer target then None else Some (needs target writer)
word_for x (Race recipe writer file) = option_map (needs recipe) (provider x file)
word_for x (Stale recipe file) = option_map (needs recipe) (provider x file)
word_for x (UnknownRead recipe file) = option_map (needs recipe) (only_maker (makers_of x file))
word_for x (NoRecord recipe) = None
word_for x (OtherCommands recipe) = None
word_for x (VaryingCommands recipe) = None
word_for x (TwoWriters first second file) = None
word_for x (GivenWritten recipe file) = None
word_for x (OwnRead recipe file) = None
word_for x (Selection name chosen) = None

-- Whether a makefile can hold the names of a word.
abbrev pub can_be_written : Word → Bool
can_be_written (needs target prerequisite) = is_make_name target && is_make_name prerequisite
can_be_written (phony target) = is_make_name target

-- The word where a makefile can hold its names; else none.
abbrev pub if_written : Word → Option Word
if_written word = if can_be_written word then Some word else None

-- The word that a finding gives, if it gives one.
abbrev pub word_of : Subject → Finding → Option Word
word_of x finding = option_and_then if_written (word_for x finding)

-- These words and those of the findings, each once; none if a finding gives no word.
abbrev pub with_words_of : Subject → List Word → List Finding → Option (List Word)
with_words_of x words [] = Some words
with_words_of x words (finding ∷ findings) =
    option_and_then (λ word. with_words_of x (with_word words word) findings) (word_of x finding)

-- The words of the findings, each once, in the order of the findings; none if a finding gives no
-- word.
abbrev pub words_of : Subject → List Finding → Option (List Word)
words_of x findings = with_words_of x [] findings
