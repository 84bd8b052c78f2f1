-- Readers whose texts differ only in comment lines and line numbers give the same result, but for
-- places.
use Rattle.std.proofs.Common.{◌≡◌, ℕ, zero, suc, ◌+◌, Bool, true, false, not, cond, List, [], ◌∷◌, ◌++◌, codes, length, map, filter, Option, None, Some, Result, Ok, Err, refl, sym, ap, ◌∙◌, inl, inr}
use Rattle.std.specs.Prelude.{nat_le}
use Rattle.std.proofs.lemmas.Bool.{cases_Bool, true≢false, and_parts, not-true}
use Rattle.mk_lines.specs.Comments.{uncomment}
use Rattle.mk_lines.specs.Lines.{Line, logical_lines}
use Rattle.mk_lines.specs.declared.fault.LineFault.{LineFault}
use Rattle.mk_read.specs.declared.fault.KindFault.{KindFault}
use Rattle.mk_read.specs.declared.fault.Place.{Place}
use Rattle.mk_read.specs.declared.fault.ReadFault.{ReadFault}
use Rattle.mk_read.specs.declared.fault.ReadFault.TheVariants.{IncludeMissing, NoMakefile, Line as InLine}
use Rattle.mk_read.specs.Kinds.{Kind, IncludeLine, Comment, Include, Assignment, Rule, kind_of}
use Rattle.mk_read.specs.Names.{names_in, is_empty}
use Rattle.mk_read.specs.PlaceLaws.{nowhere, unplaced, unplaced_fault, unnumbered_fault, but_places, unnumbered, is_comment_line, is_include_kind, is_include_line, lines_said, text_said, CommentsAndNumbersChangeOnlyPlaces}
use Rattle.mk_read.specs.Reading.{Reader, Deeper, Text, Makefile, makefile, makefile_of, counts, named, is_number, fails, found, one_file, files, include, plain_line, with_line, with_lines, reading, default_text, after_default, with_operands, text_or, own_text, from_named}
use Rattle.mk_read.specs.State.{RuleRead, State, nothing_read, rules_of, parted}
use Rattle.mk_read.specs.Steps.{◌>>=◌, in_file}
use Rattle.mk_read_laws.proofs.Unplaced.{same, stripped, stripped_rules, stripped_parted, placed_names_in, unnamed, line_stripped}
use Rattle.mk_read_laws.proofs.Parting.{comment_kept}
use Rattle.mk_read_laws.proofs.InPlace.{filter_stripped}

-- ---- results

-- two steps that are the same but for places, with what follows them
step_both : {A B C D : Type 0} (view : A → B) (next : C → D) (r s : Result A ReadFault) (f g : A → Result C ReadFault)
    → but_places view r ≡ but_places view s → ((x y : A) → view x ≡ view y → but_places next (f x) ≡ but_places next (g y)) → but_places next (r >>= f) ≡ but_places next (s >>= g)
step_both view next (Ok x) (Ok y) f g e h = h x y cc
step_both view next (Ok x) (Err fault) f g e h = absurd cc
step_both view next (Err fault) (Ok y) f g e h = absurd cc
step_both view next (Err fault) (Err other) f g e h = let is : unplaced_fault fault ≡ unplaced_fault other = cc in ap (λ (why : ReadFault). Err why) is

step_same : {A C D : Type 0} (next : C → D) (r s : Result A ReadFault) (f g : A → Result C ReadFault)
    → but_places same r ≡ but_places same s → ((x : A) → but_places next (f x) ≡ but_places next (g x)) → but_places next (r >>= f) ≡ but_places next (s >>= g)
step_same next r s f g e h = step_both same next r s f g e (λ x y is. h x ∙ ap (λ z. but_places next (g z)) is)

if_both : {A B : Type 0} (view : A → B) (b c : Bool) (r r' s s' : Result A ReadFault) → b ≡ c → but_places view r ≡ but_places view s → but_places view r' ≡ but_places view s' → but_places view (cond b r r') ≡ but_places view (cond c s s')
if_both view b c r r' s s' is e e' = at b e e' ∙ ap (λ d. but_places view (cond d s s')) is
  where
    at : (b : Bool) → but_places view r ≡ but_places view s → but_places view r' ≡ but_places view s' → but_places view (cond b r r') ≡ but_places view (cond b s s')
    at true e e' = e
    at false e e' = e'

-- ---- states

-- the state without places
abbrev pub bare : State → State
bare state = stripped same state

abbrev pub Alike : State → State → Type 0
Alike a b = bare a ≡ bare b

abbrev pub AlikeResults : Result State ReadFault → Result State ReadFault → Type 0
AlikeResults r s = but_places bare r ≡ but_places bare s

parted_alike : (a b : State) → Alike a b → Alike (parted a) (parted b)
parted_alike a b e = stripped_parted same a ∙ (ap parted e ∙ sym (stripped_parted same b))

names_alike : (p q : Place) (a b : State) (text : List ℕ) → Alike a b → but_places same (names_in p a.table text) ≡ but_places same (names_in q b.table text)
names_alike p q a b text e = placed_names_in p a.table text ∙ (ap (λ (s : State). names_in nowhere s.table text) e ∙ sym (placed_names_in q b.table text))

-- texts with the same lines, read from states that are the same but for places
abbrev pub Agree : (List ℕ → List ℕ → State → Result State ReadFault) → (List ℕ → List ℕ → State → Result State ReadFault) → Type 0
Agree read other = (name bytes others : List ℕ) (a b : State) → lines_said (logical_lines bytes) ≡ lines_said (logical_lines others) → Alike a b → AlikeResults (read name bytes a) (other name others b)

abbrev pub AgreeDeeper : Deeper → Deeper → Type 0
AgreeDeeper None None = Unit {0}
AgreeDeeper (Some read) (Some other) = Agree read other
AgreeDeeper None (Some other) = ⊥
AgreeDeeper (Some read) None = ⊥

pub include_is : (kind : Result Kind KindFault) → is_include_kind kind ≡ true → (line : IncludeLine) × (kind ≡ Ok (Include line))
include_is (Ok (Include line)) is = (line, refl)
include_is (Ok Comment) is = absurd (true≢false (sym is))
include_is (Ok (Assignment line)) is = absurd (true≢false (sym is))
include_is (Ok (Rule line)) is = absurd (true≢false (sym is))
include_is (Err fault) is = absurd (true≢false (sym is))

-- the lines that aren't comments alone
abbrev told : List Line → List Line
told lines = filter (λ (line : Line). not (is_comment_line line)) lines

module _ (reader other : Reader) (failing : reader.failing ≡ other.failing) (texts : (name : List ℕ) → text_said (reader.text name) ≡ text_said (other.text name)) where
  fails_alike : (a b : State) → Alike a b → fails reader a ≡ fails other b
  fails_alike a b e = ap (λ (s : State). is_number reader.failing (suc (length s.texts + length s.missing))) e ∙ ap (λ (o : Option ℕ). is_number o (suc (length b.texts + length b.missing))) failing

  module _ (read reads : List ℕ → List ℕ → State → Result State ReadFault) (agree : Agree read reads) (p q : Place) (optional : Bool) where
    found_alike : (name : List ℕ) (t u : Option (List ℕ)) (a b : State) → text_said t ≡ text_said u → Alike a b → AlikeResults (found read p optional a name t) (found reads q optional b name u)
    found_alike name None None a b is e = if_both bare optional optional
        (Ok (record a { missing = a.missing ++ name ∷ [] })) (Err (IncludeMissing p name))
        (Ok (record b { missing = b.missing ++ name ∷ [] })) (Err (IncludeMissing q name)) refl
        (ap (λ (s : State). Ok (record s { missing = s.missing ++ name ∷ [] })) e) refl
    found_alike name None (Some others) a b is e = absurd cc
    found_alike name (Some bytes) None a b is e = absurd cc
    found_alike name (Some bytes) (Some others) a b is e =
        let one : lines_said (logical_lines bytes) ≡ lines_said (logical_lines others) = cc in
        step_both bare bare (read name bytes (record a { texts = a.texts ++ name ∷ [] })) (reads name others (record b { texts = b.texts ++ name ∷ [] })) _ _
        (agree name bytes others _ _ one (ap (λ (s : State). record s { texts = s.texts ++ name ∷ [] }) e)) (λ x y h. ap (λ (s : State). Ok s) (parted_alike x y h))

    one_alike : (name : List ℕ) (a b : State) → Alike a b → AlikeResults (one_file reader read p optional a name) (one_file other reads q optional b name)
    unfolding one_file
    one_alike name a b e =
        if_both bare (nat_le 1024 (length a.texts)) (nat_le 1024 (length b.texts)) _ _ _ _ (ap (λ (s : State). nat_le 1024 (length s.texts)) e) refl
        (if_both bare (fails reader a) (fails other b) _ _ _ _ (fails_alike a b e) refl (found_alike name (reader.text name) (other.text name) a b (texts name) e))

    files_alike : (names : List (List ℕ)) (a b : State) → Alike a b → AlikeResults (files reader read p optional names a) (files other reads q optional names b)
    unfolding files
    files_alike [] a b e = ap (λ (s : State). Ok s) e
    files_alike (name ∷ names) a b e = step_both bare bare (one_file reader read p optional a name) (one_file other reads q optional b name) _ _ (one_alike name a b e) (λ x y h. files_alike names x y h)

  include_alike : (deeper deepers : Deeper) → AgreeDeeper deeper deepers → (p q : Place) (a b : State) (line : IncludeLine) → Alike a b → AlikeResults (include reader deeper p a line) (include other deepers q b line)
  include_alike None None agree p q a b line e = refl
  include_alike None (Some reads) agree p q a b line e = absurd agree
  include_alike (Some read) None agree p q a b line e = absurd agree
  include_alike (Some read) (Some reads) agree p q a b line e =
      step_same bare (names_in p a.table line.names) (names_in q b.table line.names) _ _ (names_alike p q a b line.names e)
      (λ names. if_both bare (is_empty names) (is_empty names) _ _ _ _ refl refl (files_alike read reads agree p q line.optional names (parted a) (parted b) (parted_alike a b e)))

  module _ (deeper deepers : Deeper) (agree : AgreeDeeper deeper deepers) (text : Text) where
    include_line_alike : (line : Line) (include : IncludeLine) (a : State) → line.command ≡ false → kind_of (uncomment line.text) ≡ Ok (Include include)
        → with_line reader deeper text a line ≡ plain_line reader deeper text.default (record { file = text.file; line = line.first }) a (Include include)
    unfolding with_line
    include_line_alike line include a plain kind = rw (plain, kind) refl

    include_line_other : (line : Line) (include : IncludeLine) (b : State) → line.command ≡ false → kind_of (uncomment line.text) ≡ Ok (Include include)
        → with_line other deepers text b line ≡ plain_line other deepers text.default (record { file = text.file; line = line.first }) b (Include include)
    unfolding with_line
    include_line_other line include b plain kind = rw (plain, kind) refl

    line_alike : (line like : Line) (a b : State) → unnumbered line ≡ unnumbered like → Alike a b → AlikeResults (with_line reader deeper text a line) (with_line other deepers text b like)
    line_alike line like a b is e =
        elim (cases_Bool (is_include_line line)) [
          | inl t ↦
              let parts = and_parts (not line.command) (is_include_kind (kind_of (uncomment line.text))) t in
              let found = include_is (kind_of (uncomment line.text)) parts.1 in
              let plain : line.command ≡ false = not-true line.command parts.0 in
              ap (but_places bare) (include_line_alike line found.0 a plain found.1)
              ∙ (include_alike deeper deepers agree _ _ a b found.0 e
              ∙ sym (ap (but_places bare) (include_line_other like found.0 b (ap (λ (l : Line). l.command) (sym is) ∙ plain) (ap (λ (l : Line). kind_of (uncomment l.text)) (sym is) ∙ found.1))))
          | inr f ↦
              line_stripped same reader reader deeper None text a line f
              ∙ (ap (λ (s : State). with_line reader None (unnamed text) s (unnumbered line)) e
              ∙ (ap (with_line reader None (unnamed text) (bare b)) is
              ∙ sym (line_stripped same other reader deepers None text b like (ap is_include_line (sym is) ∙ f))))
        ]

    told_alike : (lines others : List Line) (a b : State) → map unnumbered lines ≡ map unnumbered others → Alike a b → AlikeResults (with_lines reader deeper text lines a) (with_lines other deepers text others b)
    unfolding with_lines
    told_alike [] [] a b is e = ap (λ (s : State). Ok s) e
    told_alike [] (like ∷ others) a b is e = absurd cc
    told_alike (line ∷ lines) [] a b is e = absurd cc
    told_alike (line ∷ lines) (like ∷ others) a b is e =
        let first : unnumbered line ≡ unnumbered like = cc in
        let rest : map unnumbered lines ≡ map unnumbered others = cc in
        step_both bare bare (with_line reader deeper text a line) (with_line other deepers text b like) _ _ (line_alike line like a b first e) (λ x y h. told_alike lines others x y rest h)

  -- comments aside
  only_told : (any : Reader) (deeper : Deeper) (text : Text) (lines : List Line) (a : State) → with_lines any deeper text lines a ≡ with_lines any deeper text (told lines) a
  unfolding with_lines
  only_told any deeper text [] a = refl
  only_told any deeper text (line ∷ lines) a =
      elim (cases_Bool (is_comment_line line)) [
        | inl t ↦ ap (λ (r : Result State ReadFault). r >>= with_lines any deeper text lines) (comment_kept any deeper text a line t) ∙ rw t (only_told any deeper text lines a)
        | inr f ↦ rw f (after (with_line any deeper text a line) (λ b. only_told any deeper text lines b))
      ]
    where
      after : (r : Result State ReadFault) → ((b : State) → with_lines any deeper text lines b ≡ with_lines any deeper text (told lines) b) → (r >>= with_lines any deeper text lines) ≡ (r >>= with_lines any deeper text (told lines))
      after (Ok b) h = h b
      after (Err fault) h = refl

  pub lines_alike : (deeper deepers : Deeper) → AgreeDeeper deeper deepers → (text : Text) (r s : Result (List Line) LineFault) (a b : State) → lines_said r ≡ lines_said s → Alike a b
      → AlikeResults (in_file text.file r >>= λ lines. with_lines reader deeper text lines a) (in_file text.file s >>= λ lines. with_lines other deepers text lines b)
  lines_alike deeper deepers agree text (Ok lines) (Ok others) a b is e =
      let one : map unnumbered (told lines) ≡ map unnumbered (told others) = cc in
      ap (but_places bare) (only_told reader deeper text lines a) ∙ (told_alike deeper deepers agree text (told lines) (told others) a b one e ∙ sym (ap (but_places bare) (only_told other deepers text others b)))
  lines_alike deeper deepers agree text (Ok lines) (Err why) a b is e = absurd cc
  lines_alike deeper deepers agree text (Err why) (Ok others) a b is e = absurd cc
  lines_alike deeper deepers agree text (Err why) (Err like) a b is e = let one : unnumbered_fault why ≡ unnumbered_fault like = cc in ap (λ (f : LineFault). Err (InLine text.file f)) one

  pub reading_alike : (levels : ℕ) → Agree (reading levels reader) (reading levels other)
  unfolding reading
  reading_alike zero name bytes others a b is e = lines_alike None None tt (record { file = name; default = false }) (logical_lines bytes) (logical_lines others) a b is e
  reading_alike (suc levels) name bytes others a b is e =
      lines_alike (Some (reading levels reader)) (Some (reading levels other)) (reading_alike levels) (record { file = name; default = false }) (logical_lines bytes) (logical_lines others) a b is e

  default_alike : (defaults : Bool) → AlikeResults (after_default reader defaults) (after_default other defaults)
  unfolding after_default
  default_alike true = lines_alike None None tt (record { file = codes "(default)"; default = true }) (logical_lines default_text) (logical_lines default_text) nothing_read nothing_read refl refl
  default_alike false = refl

  text_or_alike : (name : List ℕ) (t u : Option (List ℕ)) (a b : State) (r s : Result State ReadFault) → text_said t ≡ text_said u → Alike a b → AlikeResults r s → AlikeResults (text_or reader a name r t) (text_or other b name s u)
  text_or_alike name None None a b r s is e h = h
  text_or_alike name None (Some others) a b r s is e h = absurd cc
  text_or_alike name (Some bytes) None a b r s is e h = absurd cc
  text_or_alike name (Some bytes) (Some others) a b r s is e h =
      let one : lines_said (logical_lines bytes) ≡ lines_said (logical_lines others) = cc in
      reading_alike 16 name bytes others (record (parted a) { texts = name ∷ [] }) (record (parted b) { texts = name ∷ [] }) one (ap (λ (s : State). record s { texts = name ∷ [] }) (parted_alike a b e))

  own_alike : (name : List ℕ) (a b : State) (r s : Result State ReadFault) → Alike a b → AlikeResults r s → AlikeResults (own_text reader a name r) (own_text other b name s)
  unfolding own_text
  own_alike name a b r s e h = if_both bare (fails reader a) (fails other b) _ _ _ _ (fails_alike a b e) refl (text_or_alike name (reader.text name) (other.text name) a b r s (texts name) e h)

  named_alike : (a b : State) (file : Option (List ℕ)) → Alike a b → AlikeResults (from_named reader a file) (from_named other b file)
  unfolding from_named
  named_alike a b (Some name) e = own_alike name a b (Err (NoMakefile (Some name))) (Err (NoMakefile (Some name))) e refl
  named_alike a b None e =
      let c : State = record a { missing = codes "makefile" ∷ [] } in
      let d : State = record b { missing = codes "makefile" ∷ [] } in
      own_alike (codes "makefile") a b _ _ e (own_alike (codes "Makefile") c d (Err (NoMakefile None)) (Err (NoMakefile None)) (ap (λ (s : State). record s { missing = codes "makefile" ∷ [] }) e) refl)

  -- what is said of a state is what is said of it without places
  said_bare : (state : State) → unplaced (makefile_of state) ≡ makefile_of (bare state)
  said_bare state = ap (λ (rules : List RuleRead). record (makefile_of state) { rules = rules }) (filter_stripped state.suffixes (rules_of state.read) ∙ ap (filter (counts state.suffixes)) (stripped_rules state.read))

  makefile_alike : (file : Option (List ℕ)) (defaults : Bool) (operands : List (List ℕ)) → but_places unplaced (makefile reader file defaults operands) ≡ but_places unplaced (makefile other file defaults operands)
  unfolding makefile
  makefile_alike file defaults operands =
      step_same unplaced (named file) (named file) _ _ refl (λ chosen.
      step_both bare unplaced (after_default reader defaults) (after_default other defaults) _ _ (default_alike defaults) (λ a b e.
      step_same unplaced (with_operands 1 operands a.table) (with_operands 1 operands b.table) _ _ (ap (λ (s : State). but_places same (with_operands 1 operands s.table)) e) (λ table.
      step_both bare unplaced (from_named reader (record a { table = table }) chosen) (from_named other (record b { table = table }) chosen) _ _ (named_alike (record a { table = table }) (record b { table = table }) chosen (ap (λ (s : State). record s { table = table }) e)) (λ x y h.
      ap (λ (m : Makefile). Ok m) (said_bare x ∙ (ap makefile_of h ∙ sym (said_bare y)))))))

pub comments_and_numbers_change_only_places : CommentsAndNumbersChangeOnlyPlaces
comments_and_numbers_change_only_places reader other file defaults operands failing texts = makefile_alike reader other failing texts file defaults operands
