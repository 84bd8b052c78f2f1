-- What the command line makes of words that are no options.
use Rattle.std.proofs.Common.{◌≡◌, ◌∙◌, ◌<◌, ◌≤◌, ◌^◌, Bool, true, false, List, [], ◌∷◌, ◌++◌, length, codes, refl, sym, ap, ap₂, append_assoc, arith, Option, Some, None, nat_lt, ◌==◌, append-nil, le-ltb, is_some}
use Rattle.std.specs.Prelude.{fold}
use Rattle.std.specs.List.{list_any}
use Rattle.std.specs.Str.{bytes_eq}
use Rattle.clap.specs.Lexer.{long_of, short_of}
use Rattle.clap.specs.Walk.{Held, Names, Row, Text, Walk, positional, finished, nothing_held, rows_after, settled, walk, walk_from, walked}
use Rattle.clap.specs.Simple.{Shape, built, entered, names_of, new_shape}
use Rattle.clap.specs.Faults.{check_fault, defaults_fault, entered_fault, level_fault, settle_fault, turn_fault, walk_fault}
use Rattle.clap.specs.Kinds.{Kinds, or_else, values_kinds}
use Rattle.clap.specs.declared.builder.value_parser.ValueParser.TheVariants as vp
use Rattle.clap.specs.declared.builder.value_parser.Reading.TheVariants.{AsWritten}
use Rattle.clap.specs.declared.parser.matches.ValueSource.TheVariants.{CommandLine}
use Rattle.clap.proofs.OnLiterals.{clap_on_literals}
use Rattle.clap.proofs.WalkLemmas.{walk_stopped}
use Rattle.std.specs.Prelude.{slice_index_or}
use Rattle.std.proofs.lemmas.Bool.{or_parts}
use Rattle.mk_command.specs.CommandLine.{HasNoOption, command_line, graph_words, is_option}
use Rattle.mk_core.specs.declared.request.Request.{Request}
use Rattle.mk_command.specs.Invocation.{invocation_of, asked_with, asking, faults_of, form_by, requested}
use Rattle.mk_command.specs.declared.invocation.Form.TheVariants.{Lines}
use Rattle.mk_command.specs.declared.invocation.Invocation.{Invocation}
use Rattle.mk_command.specs.declared.invocation.Invocation.TheVariants.{Graph}

-- a word that is no option is no flag and not `--`
record IsPlain (word : Text) : Type 0 where
  dashes : bytes_eq word (45 ∷ 45 ∷ []) ≡ false
  long : long_of word ≡ None
  short : short_of word ≡ None

plain_word : (word : Text) → is_option word ≡ false → IsPlain word
plain_word [] h = record { dashes = refl; long = refl; short = refl }
plain_word (b ∷ []) h = go (b == 45) refl
  where
    go : (t : Bool) → (b == 45) ≡ t → IsPlain (b ∷ [])
    go true e = record { dashes = rw e refl; long = rw e refl; short = rw e refl }
    go false e = record { dashes = rw e refl; long = rw e refl; short = rw e refl }
plain_word (b ∷ x ∷ rest) h = record { dashes = rw h refl; long = rw h refl; short = rw h refl }

-- `graph`, as it is built
abbrev graph_shape : Shape
graph_shape = slice_index_or (built command_line).subs 0 (new_shape [])

-- these words were given to `WORD..`
abbrev given : List Row → List Text → Held
given rows seen = record { rows = rows; pending = Some (codes "words", seen); skip = 0 }

abbrev at : List Row → List Text → Walk
at rows seen = record { held = given rows seen; waiting = positional; position = 1; is_trailing = false; stopped = None }

-- the parse of the words after `graph`, before the first one
abbrev start : Walk
start = walk_from nothing_held

first_word : (word : Text) → IsPlain word → walked graph_shape.rules [] start word ≡ at [] (word ∷ [])
unfolding walked
first_word word p = rw (p.dashes, p.long, p.short) refl

next_word : (rows : List Row) (seen : List Text) (word : Text) → IsPlain word → walked graph_shape.rules [] (at rows seen) word ≡ at rows (seen ++ word ∷ [])
unfolding walked
next_word rows seen word p = rw (p.dashes, p.long, p.short) refl

first_turn : (word : Text) → IsPlain word → turn_fault graph_shape [] start word ≡ []
first_turn word p = rw (p.dashes, p.long, p.short) refl

next_turn : (rows : List Row) (seen : List Text) (word : Text) → IsPlain word → turn_fault graph_shape [] (at rows seen) word ≡ []
next_turn rows seen word p = rw (p.dashes, p.long, p.short) refl

-- no word is an option
abbrev AreWords : List Text → Type 0
AreWords words = list_any is_option words ≡ false

walk_on : (rows : List Row) (seen words : List Text) → AreWords words → fold (walked graph_shape.rules []) (at rows seen) words ≡ at rows (seen ++ words)
walk_on rows seen [] h = ap (at rows) (sym (append-nil seen))
walk_on rows seen (word ∷ words) h =
    let parts = or_parts (is_option word) (list_any is_option words) h in
    ap (λ (s : Walk). fold (walked graph_shape.rules []) s words) (next_word rows seen word (plain_word word parts.0))
    ∙ (walk_on rows (seen ++ word ∷ []) words parts.1 ∙ ap (at rows) (append_assoc seen (word ∷ []) words))

fault_on : (rows : List Row) (seen words : List Text) → AreWords words → walk_fault graph_shape [] (at rows seen) words ≡ []
unfolding walk_fault
fault_on rows seen [] h = refl
fault_on rows seen (word ∷ words) h =
    let parts = or_parts (is_option word) (list_any is_option words) h in
    ap (λ (k : Kinds). or_else k (walk_fault graph_shape [] (walked graph_shape.rules [] (at rows seen) word) words)) (next_turn rows seen word (plain_word word parts.0))
    ∙ (ap (λ (s : Walk). walk_fault graph_shape [] s words) (next_word rows seen word (plain_word word parts.0)) ∙ fault_on rows (seen ++ word ∷ []) words parts.1)

values_pass : (words : List Text) → values_kinds false vp.String words ≡ []
values_pass [] = refl
values_pass (word ∷ words) = values_pass words

-- the words that were given are in number, and each is taken
settle_given : (rows : List Row) (word : Text) (words : List Text) → length (word ∷ words) ≤ 18446744073709551615
    → settle_fault graph_shape.rules graph_shape.args_override_self (given rows (word ∷ words)) ≡ []
settle_given rows word words h =
    let few : nat_lt (length (word ∷ words)) 0 ≡ false = le-ltb _ _ (omega arith) in
    let many : nat_lt 18446744073709551615 (length (word ∷ words)) ≡ false = le-ltb _ _ h in
    rw (few, many) (values_pass words)

-- ---- the level of `graph`

abbrev level_from : Walk → Kinds → Kinds
level_from w kinds =
    or_else kinds
    (or_else (settle_fault graph_shape.rules graph_shape.args_override_self w.held)
    (or_else (defaults_fault (settled graph_shape.rules w.held).rows graph_shape.rules)
    (check_fault graph_shape (finished graph_shape.rules w.held) false)))

fault_of_given : (rows : List Row) (word : Text) (words : List Text) → length (word ∷ words) ≤ 18446744073709551615
    → or_else (settle_fault graph_shape.rules graph_shape.args_override_self (given rows (word ∷ words))) [] ≡ []
fault_of_given rows word words h = ap (λ (k : Kinds). or_else k []) (settle_given rows word words h)

-- what stands before the words of `WORD..`, which are no options, and is no fault
record Begins (s : Walk) (rows : List Row) : Type 0 where
  walks : (word : Text) → IsPlain word → walked graph_shape.rules [] s word ≡ at rows (word ∷ [])
  turns : (word : Text) → IsPlain word → turn_fault graph_shape [] s word ≡ []
  ends : (word : Text) (words : List Text) → level_from (at rows (word ∷ words)) [] ≡ or_else (settle_fault graph_shape.rules graph_shape.args_override_self (given rows (word ∷ words))) []

module _ (s : Walk) (rows : List Row) (b : Begins s rows) where
  walk_all : (word : Text) (words : List Text) → AreWords (word ∷ words) → fold (walked graph_shape.rules []) s (word ∷ words) ≡ at rows (word ∷ words)
  walk_all word words h =
      let parts = or_parts (is_option word) (list_any is_option words) h in
      ap (λ (t : Walk). fold (walked graph_shape.rules []) t words) (b.walks word (plain_word word parts.0)) ∙ walk_on rows (word ∷ []) words parts.1

  fault_all : (word : Text) (words : List Text) → AreWords (word ∷ words) → walk_fault graph_shape [] s (word ∷ words) ≡ []
  unfolding walk_fault
  fault_all word words h =
      let parts = or_parts (is_option word) (list_any is_option words) h in
      ap (λ (k : Kinds). or_else k (walk_fault graph_shape [] (walked graph_shape.rules [] s word) words)) (b.turns word (plain_word word parts.0))
      ∙ (ap (λ (t : Walk). walk_fault graph_shape [] t words) (b.walks word (plain_word word parts.0)) ∙ fault_on rows (word ∷ []) words parts.1)

  level_all : (word : Text) (words : List Text) → AreWords (word ∷ words) → length (word ∷ words) ≤ 18446744073709551615
      → level_from (fold (walked graph_shape.rules []) s (word ∷ words)) (walk_fault graph_shape [] s (word ∷ words)) ≡ []
  level_all word words h fits =
      ap₂ level_from (walk_all word words h) (fault_all word words h) ∙ (b.ends word words ∙ fault_of_given rows word words fits)

start_begins : Begins start []
unfolding defaults_fault
start_begins = record {
  walks = first_word;
  turns = first_turn;
  ends = λ word words. refl;
}

-- the words that `graph` is given are no fault
level_of_graph : (words : List Text) → AreWords words → length words ≤ 18446744073709551615 → level_fault graph_shape [] nothing_held words false [] ≡ []
unfolding clap_on_literals
level_of_graph [] h fits = refl
level_of_graph (word ∷ words) h fits = level_all start [] start_begins word words h fits

-- ---- the level of the program

abbrev top_shape : Shape
top_shape = (built command_line).top

abbrev names : Names
names = names_of (built command_line)

abbrev stopped_at : List Text → Walk
stopped_at rest = record start { stopped = Some (codes "graph", rest) }

walk_of_top : (rest : List Text) → walk top_shape.rules names nothing_held (codes "graph" ∷ rest) ≡ stopped_at rest
unfolding clap_on_literals
walk_of_top rest = sym (walk_stopped top_shape.rules names start (codes "graph") [] rest)

fault_stopped : (seen rest : List Text) → walk_fault top_shape names (stopped_at seen) rest ≡ []
unfolding clap_on_literals
fault_stopped seen [] = refl
fault_stopped seen (word ∷ rest) = fault_stopped (seen ++ word ∷ []) rest

fault_of_top : (rest : List Text) → walk_fault top_shape names start (codes "graph" ∷ rest) ≡ []
unfolding clap_on_literals
fault_of_top rest = fault_stopped [] rest

abbrev top_from : Walk → Kinds → Kinds
top_from w kinds =
    or_else kinds
    (or_else (entered_fault (built command_line) w.stopped)
    (or_else (settle_fault top_shape.rules top_shape.args_override_self w.held)
    (or_else (defaults_fault (settled top_shape.rules w.held).rows top_shape.rules)
    (check_fault top_shape (finished top_shape.rules w.held) (is_some (entered (built command_line) w.stopped))))))

top_stopped : (rest : List Text) → top_from (stopped_at rest) [] ≡ or_else (level_fault graph_shape [] nothing_held rest false []) []
unfolding defaults_fault
top_stopped rest = refl

-- `graph` is taken with words of which its level finds no fault
graph_taken : (rest : List Text) → level_fault graph_shape [] nothing_held rest false [] ≡ [] → faults_of (codes "graph" ∷ rest) ≡ []
graph_taken rest h =
    ap₂ top_from (walk_of_top rest) (fault_of_top rest) ∙ (top_stopped rest ∙ ap (λ (k : Kinds). or_else k []) h)

-- words that are no options are taken
words_taken : (words : List Text) → AreWords words → length words ≤ 18446744073709551615 → faults_of (codes "graph" ∷ words) ≡ []
words_taken words h fits = graph_taken words (level_of_graph words h fits)

-- what they ask
abbrev graph_by : List Row → Invocation
graph_by rows = Graph (requested rows) (form_by rows)

asked_rest : (rest : List Text) → invocation_of (codes "graph" ∷ rest) ≡ graph_by (rows_after graph_shape.rules [] rest)
asked_rest rest = ap (λ (w : Walk). asked_with (entered (built command_line) w.stopped)) (walk_of_top rest)

words_asked : (words : List Text) → AreWords words → invocation_of (codes "graph" ∷ words) ≡ Graph (asking None words) Lines
words_asked [] h = asked_rest []
words_asked (word ∷ words) h = asked_rest (word ∷ words) ∙ ap (λ (w : Walk). graph_by (finished graph_shape.rules w.held)) (walk_all start [] start_begins word words h)

-- ---- the same behind `-f NAME`

abbrev named : Text → Walk
named name = record start { held = record { rows = []; pending = Some (codes "makefile", name ∷ []); skip = 0 } }

abbrev makefile_row : Text → Row
makefile_row name = record { id = codes "makefile"; values = name ∷ []; count = None; source = Some CommandLine; reading = AsWritten }

name_walk : (name : Text) → IsPlain name → walked graph_shape.rules [] (walked graph_shape.rules [] start (codes "-f")) name ≡ named name
unfolding clap_on_literals
name_walk name p = rw (p.dashes, p.long, p.short) refl

name_turn : (name : Text) → IsPlain name → turn_fault graph_shape [] (walked graph_shape.rules [] start (codes "-f")) name ≡ []
unfolding clap_on_literals
name_turn name p = rw (p.dashes, p.long, p.short) refl

named_begins : (name : Text) → Begins (named name) (makefile_row name ∷ [])
unfolding walked defaults_fault
named_begins name = record {
  walks = λ word p. rw (p.dashes, p.long, p.short) refl;
  turns = λ word p. rw (p.dashes, p.long, p.short) refl;
  ends = λ word words. refl;
}

walk_named : (name : Text) (words : List Text) → IsPlain name
    → walk graph_shape.rules [] nothing_held (codes "-f" ∷ name ∷ words) ≡ fold (walked graph_shape.rules []) (named name) words
walk_named name words p = ap (λ (w : Walk). fold (walked graph_shape.rules []) w words) (name_walk name p)

fault_named : (name : Text) (words : List Text) → IsPlain name
    → walk_fault graph_shape [] start (codes "-f" ∷ name ∷ words) ≡ walk_fault graph_shape [] (named name) words
unfolding clap_on_literals
fault_named name words p =
    ap (λ (k : Kinds). or_else k (walk_fault graph_shape [] (walked graph_shape.rules [] (walked graph_shape.rules [] start (codes "-f")) name) words)) (name_turn name p)
    ∙ ap (λ (w : Walk). walk_fault graph_shape [] w words) (name_walk name p)

level_named : (name : Text) (words : List Text) → AreWords words → length words ≤ 18446744073709551615
    → level_from (fold (walked graph_shape.rules []) (named name) words) (walk_fault graph_shape [] (named name) words) ≡ []
unfolding clap_on_literals
level_named name [] h fits = refl
level_named name (word ∷ words) h fits = level_all (named name) (makefile_row name ∷ []) (named_begins name) word words h fits

-- a makefile that is named, and words that are no options, are taken
named_taken : (name : Text) (words : List Text) → is_option name ≡ false → AreWords words → length words ≤ 18446744073709551615
    → faults_of (codes "graph" ∷ codes "-f" ∷ name ∷ words) ≡ []
named_taken name words plain h fits =
    let p = plain_word name plain in
    graph_taken (codes "-f" ∷ name ∷ words) (ap₂ level_from (walk_named name words p) (fault_named name words p) ∙ level_named name words h fits)

rows_named : (name : Text) (words : List Text) → AreWords words → graph_by (finished graph_shape.rules (fold (walked graph_shape.rules []) (named name) words).held) ≡ Graph (asking (Some name) words) Lines
rows_named name [] h = refl
rows_named name (word ∷ words) h = ap (λ (w : Walk). graph_by (finished graph_shape.rules w.held)) (walk_all (named name) (makefile_row name ∷ []) (named_begins name) word words h)

named_asked : (name : Text) (words : List Text) → is_option name ≡ false → AreWords words
    → invocation_of (codes "graph" ∷ codes "-f" ∷ name ∷ words) ≡ Graph (asking (Some name) words) Lines
named_asked name words plain h =
    asked_rest (codes "-f" ∷ name ∷ words) ∙ (ap (λ (w : Walk). graph_by (finished graph_shape.rules w.held)) (walk_named name words (plain_word name plain)) ∙ rows_named name words h)

-- ---- both

pub plain_taken : (makefile : Option Text) (words : List Text) → HasNoOption makefile words → length words < 2 ^ 64 → faults_of (graph_words makefile words) ≡ []
plain_taken None words plain fits = words_taken words plain.words (omega arith)
plain_taken (Some name) words plain fits = named_taken name words plain.name plain.words (omega arith)

pub plain_asked : (makefile : Option Text) (words : List Text) → HasNoOption makefile words → invocation_of (graph_words makefile words) ≡ Graph (asking makefile words) Lines
plain_asked None words plain = words_asked words plain.words
plain_asked (Some name) words plain = named_asked name words plain.name plain.words
