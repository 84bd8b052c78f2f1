-- Why a finding stops a repair, and the lines for the findings that don't.
use Rattle.std.specs.Prelude.{◌≡◌, ℕ, List, [], ◌++◌, codes, find, fold, Option, None, Some, is_some, if◌then◌else◌}
use Rattle.std.specs.Option.{is_none, option_map_or}
use Rattle.std.specs.String.{string_bytes}
use Rattle.mk_subject.specs.Subject.{Subject}
use Rattle.mk_find.specs.Text.{text}
use Rattle.mk_find.specs.declared.finding.Finding.{Finding}
use Rattle.mk_find.specs.declared.finding.Finding.TheVariants.{NoRecord, OtherCommands, VaryingCommands, NoTarget, TwoWriters, GivenWritten, OwnRead, UnknownRead, Loose, Race, Stale, Selection}
use Rattle.mk_repair.specs.declared.obstacle.Obstacle.{Obstacle}
use Rattle.mk_repair.specs.FindingWords.{word_for, word_of}
use Rattle.mk_repair.specs.Lines.{lines_text}
use Rattle.mk_repair.specs.Word.{Word, with_word}

-- Why no line mends a finding of this kind.
abbrev pub cause : Finding → List ℕ
cause (NoRecord recipe) = codes "nothing says what its recipe reads"
cause (OtherCommands recipe) = codes "it was recorded with other commands"
cause (VaryingCommands recipe) = codes "its commands differ from make to make"
cause (NoTarget recipe) = codes "its recipe doesn't write it, and it can't be phony"
cause (TwoWriters first second file) = codes "two recipes write one file"
cause (GivenWritten recipe file) = codes "a recipe writes what the build starts from"
cause (OwnRead recipe file) = codes "a recipe reads what it writes"
cause (UnknownRead recipe file) = codes "no target alone is known to make the file"
cause (Loose name writer) = codes "the recipe that writes it needs it"
cause (Race recipe writer file) = codes "nothing is known to make the file"
cause (Stale recipe file) = codes "nothing is known to make the file"
cause (Selection name chosen) = codes "another inference rule applies later"

-- Why a finding gives no word: a makefile can't hold the names of its word, or it has none.
abbrev pub reason : Subject → Finding → List ℕ
reason x finding =
    if is_some (word_for x finding) then codes "a makefile can't hold its names" else cause finding

-- That no line mends the finding, and why.
abbrev pub why_no_word : Subject → Finding → List ℕ
why_no_word x finding =
    codes "no line mends `no " ++ (text finding ++ (codes "`: " ++ reason x finding))

-- The first of the findings that gives no word.
abbrev pub first_wordless : Subject → List Finding → Option Finding
first_wordless x findings = find (λ finding. is_none (word_of x finding)) findings

-- Why the first finding without a word has none; empty where each finding gives one.
abbrev pub why_stuck : Subject → Option Finding → List ℕ
why_stuck x None = []
why_stuck x (Some finding) = why_no_word x finding

-- The words, and that of the finding, if it gives one.
abbrev pub with_word_of : Subject → List Word → Finding → List Word
with_word_of x words finding = option_map_or (with_word words) (word_of x finding) words

-- The words of those findings that give one, each once, in the order of the findings.
abbrev pub words_of_some : Subject → List Finding → List Word
words_of_some x findings = fold (with_word_of x) [] findings

-- Why the first finding without a word has none, and the lines of the words of the others.
pub record IsObstacle (x : Subject) (findings : List Finding) (o : Obstacle) : Type 0 where
  pub is_why : string_bytes o.why ≡ why_stuck x (first_wordless x findings)
  pub is_lines : string_bytes o.lines ≡ lines_text (words_of_some x findings)
