-- Plans: the commands of the lines of a text.
use Rattle.std.specs.Prelude.{ℕ, ◌==◌, ◌^◌, Bool, true, false, ◌&&◌, ◌||◌, not, List, [], ◌∷◌, codes, length, nat_lt, nat_le, Option, None, Some, option_map, option_and_then, is_none, Result, Ok, Err, find, if◌then◌else◌}
use Rattle.std.specs.List.{slice_split, list_all, filter_map, enumerate_from}
use Rattle.std.specs.Map.{lookup}
use Rattle.std.specs.Str.{bytes_eq, is_utf8}
use Rattle.std.specs.Char.{is_ascii_digit}
use Rattle.std.specs.Str.Parse.{digits_value}
use Rattle.mk_lines.specs.Bytes.{is_byte, trimmed}
use Rattle.mk_lines.specs.Words.{words}
use Rattle.mk_world_plan.specs.declared.keyword.Keyword.{Keyword}
use Rattle.mk_world_plan.specs.declared.keyword.Keyword.TheVariants as word
use Rattle.mk_world.specs.declared.plan.PlanCommand.{PlanCommand}
use Rattle.mk_world.specs.declared.plan.PlanCommand.TheVariants.{Make, Stop, Begin, Look, Put, Done, Break, Finish, Run, Pass, End, Edit}
use Rattle.mk_world.specs.declared.plan.PlanLine.{PlanLine}
use Rattle.mk_world.specs.declared.plan.PlanFault.{PlanFault}
use Rattle.mk_world.specs.declared.plan.PlanFault.TheVariants.{Line}

-- The piece as a line, or no line if it is empty.
abbrev pub line_unless_empty : List ℕ → List (List ℕ)
line_unless_empty [] = []
line_unless_empty (b ∷ piece) = (b ∷ piece) ∷ []

-- The pieces without the last one, if that one is empty.
abbrev pub without_empty_last : List (List ℕ) → List (List ℕ)
without_empty_last [] = []
without_empty_last (piece ∷ []) = line_unless_empty piece
without_empty_last (piece ∷ next ∷ pieces) = piece ∷ without_empty_last (next ∷ pieces)

-- The lines of a plan: the text cut at newlines. A newline at the end of the text doesn't begin
-- another line.
abbrev pub lines_of : List ℕ → List (List ℕ)
lines_of text = without_empty_last (slice_split (is_byte 10) text)

-- Whether the line, without its leading blanks, is empty or begins with `#`.
abbrev pub is_empty_or_comment : List ℕ → Bool
is_empty_or_comment [] = true
is_empty_or_comment (b ∷ rest) = b == 35

-- Whether the line is skipped: it has only blanks, or its first byte that isn't a blank is `#`.
abbrev pub is_passed_over : List ℕ → Bool
is_passed_over line = is_empty_or_comment (trimmed line)

-- Whether the word is a number: one or more digits with a value below 2^64.
abbrev pub is_number : List ℕ → Bool
is_number word =
    list_all is_ascii_digit word &&
    (nat_lt 0 (length word) && nat_lt (digits_value 10 word) (2 ^ 64))

-- The value of a word, if it is a number.
abbrev pub parse_number : List ℕ → Option ℕ
parse_number word = if is_number word then Some (digits_value 10 word) else None

-- The most lines of a plan.
abbrev pub max_lines : ℕ
max_lines = 65536

-- The most jobs of a make.
abbrev pub max_jobs : ℕ
max_jobs = 4096

-- The number of jobs, if it is from 1 to 4,096.
abbrev pub jobs_among : ℕ → Option ℕ
jobs_among jobs = if nat_le 1 jobs && nat_le jobs max_jobs then Some jobs else None

-- The number of jobs that a word gives, if it is from 1 to 4,096.
abbrev pub parse_jobs : List ℕ → Option ℕ
parse_jobs word = option_and_then jobs_among (parse_number word)

-- The optional content after the names: nothing, or one number; otherwise the words are malformed.
abbrev pub parse_content : List (List ℕ) → Option (Option ℕ)
parse_content [] = Some None
parse_content (word ∷ []) = option_map (λ n. Some n) (parse_number word)
parse_content words = None

-- The word, if there is exactly one.
abbrev pub single_word : List (List ℕ) → Option (List ℕ)
single_word (word ∷ []) = Some word
single_word words = None

-- The command of `make N G..`.
abbrev pub parse_make : List (List ℕ) → Option PlanCommand
parse_make [] = None
parse_make (jobs ∷ goals) = option_map (λ n. Make n goals) (parse_jobs jobs)

-- The command of `look T F`.
abbrev pub parse_look : List (List ℕ) → Option PlanCommand
parse_look (t ∷ f ∷ []) = Some (Look t f)
parse_look words = None

-- The command of `put T F` or `put T F N`.
abbrev pub parse_put : List (List ℕ) → Option PlanCommand
parse_put (t ∷ f ∷ rest) = option_map (λ c. Put t f c) (parse_content rest)
parse_put words = None

-- The command of `edit F` or `edit F N`.
abbrev pub parse_edit : List (List ℕ) → Option PlanCommand
parse_edit (f ∷ rest) = option_map (λ c. Edit f c) (parse_content rest)
parse_edit words = None

-- Whether the target is removed, by the words after it: nothing, or `removed`; otherwise the words
-- are malformed.
abbrev pub parse_removed : List (List ℕ) → Option Bool
parse_removed [] = Some false
parse_removed (word ∷ []) = if bytes_eq word (codes "removed") then Some true else None
parse_removed words = None

-- The command of `break T` or `break T removed`.
abbrev pub parse_break : List (List ℕ) → Option PlanCommand
parse_break [] = None
parse_break (t ∷ rest) = option_map (λ removed. Break t removed) (parse_removed rest)

-- The command of a keyword without further words.
abbrev pub alone : PlanCommand → List (List ℕ) → Option PlanCommand
alone order [] = Some order
alone order (word ∷ words) = None

-- The command with this keyword and the words after it, if they are well formed.
abbrev pub parse_arguments : Keyword → List (List ℕ) → Option PlanCommand
parse_arguments word.Make words = parse_make words
parse_arguments word.Stop words = alone Stop words
parse_arguments word.Begin words = option_map (λ t. Begin t) (single_word words)
parse_arguments word.Look words = parse_look words
parse_arguments word.Put words = parse_put words
parse_arguments word.Done words = option_map (λ t. Done t) (single_word words)
parse_arguments word.Break words = parse_break words
parse_arguments word.Finish words = option_map (λ t. Finish t) (single_word words)
parse_arguments word.Run words = option_map (λ t. Run t) (single_word words)
parse_arguments word.Pass words = option_map (λ t. Pass t) (single_word words)
parse_arguments word.End words = alone End words
parse_arguments word.Edit words = parse_edit words

-- The first words of plan lines, with their keywords.
abbrev pub keywords : List (List ℕ × Keyword)
keywords =
    (codes "make", word.Make) ∷ (codes "stop", word.Stop) ∷ (codes "begin", word.Begin) ∷
    (codes "look", word.Look) ∷ (codes "put", word.Put) ∷ (codes "done", word.Done) ∷
    (codes "break", word.Break) ∷ (codes "finish", word.Finish) ∷ (codes "run", word.Run) ∷ (codes "pass", word.Pass) ∷
    (codes "end", word.End) ∷ (codes "edit", word.Edit) ∷ []

-- The keyword that a word is, if it is one.
abbrev pub keyword_of : List ℕ → Option Keyword
keyword_of word = lookup (bytes_eq word) keywords

-- The command of these words, if they are well formed.
abbrev pub parse_words : List (List ℕ) → Option PlanCommand
parse_words [] = None
parse_words (first ∷ rest) = option_and_then (λ k. parse_arguments k rest) (keyword_of first)

-- The command of a line, if its words are UTF-8 and well formed.
abbrev pub parse_line : List ℕ → Option PlanCommand
parse_line line = if list_all is_utf8 (words line) then parse_words (words line) else None

-- Whether a numbered line is bad: its number is above 65,536, or it is malformed.
abbrev pub is_bad : ℕ × List ℕ → Bool
is_bad e = nat_lt max_lines e.0 || (not (is_passed_over e.1) && is_none (parse_line e.1))

-- The plan line of a numbered line, if it has a command.
abbrev pub planned : ℕ × List ℕ → Option PlanLine
planned e =
    if is_passed_over e.1
    then None
    else option_map (λ o. record { number = e.0; order = o }) (parse_line e.1)

-- The lines with their numbers, counted from 1.
abbrev pub numbered_lines : List ℕ → List (ℕ × List ℕ)
numbered_lines text = enumerate_from 1 (lines_of text)

-- The value, or the fault of the bad line, if there is one.
abbrev pub unless_bad : {A : Type 0} → Option (ℕ × List ℕ) → A → Result A PlanFault
unless_bad (Some e) x = Err (Line e.0)
unless_bad None x = Ok x

-- The result of reading one numbered line.
abbrev pub line_read : ℕ × List ℕ → Result (Option PlanLine) PlanFault
line_read e = if is_bad e then Err (Line e.0) else Ok (planned e)

-- The plan that a text contains, or the number of its first bad line.
abbrev pub plan_of : List ℕ → Result (List PlanLine) PlanFault
plan_of text = unless_bad (find is_bad (numbered_lines text))
    (filter_map planned (numbered_lines text))
