-- An include line may be replaced by the lines of its files.
use Rattle.std.proofs.Common.{◌≡◌, ◌<◌, ◌≤◌, ℕ, zero, suc, ◌+◌, Bool, true, false, not, cond, List, [], ◌∷◌, ◌++◌, length, Option, None, Some, Result, Ok, Err, refl, sym, ap, subst, ◌∙◌, inl, inr, append_assoc, arith, length-append}
use Rattle.std.specs.Prelude.{nat_le}
use Rattle.std.proofs.lemmas.Bool.{cases_Bool, and_parts, cond-true, cond-false, not-true, leb-false, lt-leb}
use Rattle.mk_lines.specs.Comments.{uncomment}
use Rattle.mk_lines.specs.Lines.{Line, logical_lines}
use Rattle.mk_lines.specs.declared.fault.LineFault.{LineFault}
use Rattle.mk_read.specs.declared.fault.Place.{Place}
use Rattle.mk_read.specs.declared.fault.ReadFault.{ReadFault}
use Rattle.mk_read.specs.declared.fault.ReadFault.TheVariants.{IncludeMissing, IncludeEmpty, TooManyFiles, ReadFailed}
use Rattle.mk_read.specs.Kinds.{IncludeLine, Include, kind_of}
use Rattle.mk_read.specs.Names.{names_in, is_empty}
use Rattle.mk_read.specs.PlaceLaws.{nowhere, unplaced, but_places, unnumbered, is_comment_line, is_include_kind, is_include_line, begins_without_command, said, FileHolds, FilesHold, IncludesLines, IncludeLinesStandForTheirLines}
use Rattle.mk_read.specs.Reading.{Reader, Deeper, Text, Makefile, makefile_of, is_number, fails, found, one_file, files, include, with_line, with_lines, reading}
use Rattle.mk_read.specs.State.{State, parted}
use Rattle.mk_read.specs.Steps.{◌>>=◌, in_file}
use Rattle.mk_read_laws.proofs.Unplaced.{same, stripped, stripped_parted, placed_names_in, unnamed, line_stripped}
use Rattle.mk_read_laws.proofs.Parting.{blind_lines, with_both}
use Rattle.mk_read_laws.proofs.InPlace.{forgotten, said_stripped, made, made_blind}
use Rattle.mk_read_laws.proofs.SameLines.{include_is}
use Rattle.mk_read_laws.proofs.OneLine.{bind_ok}

-- the state without places and texts
abbrev pub bare : State → State
bare state = stripped forgotten state

-- The second state is the first but for places and the names of texts, of which it has no more.
pub record Like (a b : State) : Type 0 where
  pub is : bare a ≡ bare b
  pub fewer : length b.texts ≤ length a.texts

-- where the first is read, so is the second
abbrev pub Follows : Result State ReadFault → Result State ReadFault → Type 0
Follows r s = (x : State) → r ≡ Ok x → (y : State) × (s ≡ Ok y) × Like x y

follows_step : (r s : Result State ReadFault) (f g : State → Result State ReadFault) → Follows r s → ((x y : State) → Like x y → Follows (f x) (g y)) → Follows (r >>= f) (s >>= g)
follows_step r s f g first then z e =
    let left = bind_ok r f z e in
    let right = first left.0 left.1 in
    let last = then left.0 right.0 right.2 z left.2 in
    (last.0, ap (λ t. t >>= g) right.1 ∙ last.1, last.2)

follows_ok : (a b : State) → Like a b → Follows (Ok a) (Ok b)
follows_ok a b like x e = let one : a ≡ x = cc in (b, refl, subst (λ s. Like s b) one like)

parted_like : (a b : State) → Like a b → Like (parted a) (parted b)
parted_like a b like = record { is = stripped_parted forgotten a ∙ (ap parted like.is ∙ sym (stripped_parted forgotten b)); fewer = like.fewer }

-- a result without places is that of a state
from_bare : (r s : Result State ReadFault) (x : State) → but_places bare r ≡ but_places bare s → r ≡ Ok x → (y : State) × (s ≡ Ok y) × (bare x ≡ bare y)
from_bare (Ok z) (Ok y) x e is = let one : z ≡ x = cc in (y, refl, subst (λ s. bare s ≡ bare y) one cc)
from_bare (Ok z) (Err fault) x e is = absurd cc
from_bare (Err fault) s x e is = absurd cc

-- names that are the same but for the place of a fault
names_like : (p q : Place) (a b : State) (text : List ℕ) (names : List (List ℕ)) → bare a ≡ bare b → names_in p a.table text ≡ Ok names → names_in q b.table text ≡ Ok names
names_like p q a b text names e is =
    let one : but_places same (names_in q b.table text) ≡ but_places same (Ok names) = placed_names_in q b.table text ∙ (sym (ap (λ (s : State). names_in nowhere s.table text) e) ∙ (sym (placed_names_in p a.table text) ∙ ap (but_places same) is)) in
    at (names_in q b.table text) one
  where
    at : (r : Result (List (List ℕ)) ReadFault) → but_places same r ≡ Ok names → r ≡ Ok names
    at (Ok others) e = e
    at (Err fault) e = absurd cc

-- how include lines are read with this many levels below
abbrev deep : Reader → ℕ → Deeper
deep reader zero = None
deep reader (suc levels) = Some (reading levels reader)

module _ (reader : Reader) (never : reader.failing ≡ None) where
  pub works : (state : State) → fails reader state ≡ false
  works state = ap (λ (o : Option ℕ). is_number o (suc (length state.texts + length state.missing))) never

  -- a line that isn't an include line keeps the texts
  texts_kept : (deeper : Deeper) (text : Text) (a x : State) (line : Line) → is_include_line line ≡ false → with_line reader deeper text a line ≡ Ok x → x.texts ≡ a.texts
  texts_kept deeper text a x line none e =
      let put : List (List ℕ) → List (List ℕ) = λ texts. a.texts in
      let one : but_places (stripped same) (with_line reader deeper text a line) ≡ but_places (stripped put) (with_line reader deeper text a line) =
      line_stripped same reader reader deeper None text a line none ∙ sym (line_stripped put reader reader deeper None text a line none) in
      let two : Ok (stripped same x) ≡ Ok (stripped put x) = sym (ap (but_places (stripped same)) e) ∙ (one ∙ ap (but_places (stripped put)) e) in
      let three : stripped same x ≡ stripped put x = cc in
      ap (λ (s : State). s.texts) three

  plain_like : (deeper deepers : Deeper) (text other : Text) (a b : State) (line : Line) → text.default ≡ other.default → is_include_line line ≡ false → Like a b → Follows (with_line reader deeper text a line) (with_line reader deepers other b line)
  plain_like deeper deepers text other a b line default none like x e =
      let both : but_places bare (with_line reader deeper text a line) ≡ but_places bare (with_line reader deepers other b line) =
      line_stripped forgotten reader reader deeper None text a line none
      ∙ (ap (λ (s : State). with_line reader None (unnamed text) s (unnumbered line)) like.is
      ∙ (ap (λ d. with_line reader None (record { file = []; default = d }) (bare b) (unnumbered line)) default
      ∙ sym (line_stripped forgotten reader reader deepers None other b line none))) in
      let found = from_bare (with_line reader deeper text a line) (with_line reader deepers other b line) x both e in
      let left : x.texts ≡ a.texts = texts_kept deeper text a x line none e in
      let right : found.0.texts ≡ b.texts = texts_kept deepers other b found.0 line none found.1 in
      (found.0, found.1, record { is = found.2; fewer = subst (λ n. length found.0.texts ≤ n) (sym (ap length left)) (subst (λ n. n ≤ length a.texts) (sym (ap length right)) like.fewer) })

  module _ (read reads : List ℕ → List ℕ → State → Result State ReadFault) (agree : (name bytes : List ℕ) (a b : State) → Like a b → Follows (read name bytes a) (reads name bytes b)) (p q : Place) (optional : Bool) where
    found_like : (name : List ℕ) (text : Option (List ℕ)) (a b : State) → Like a b → Follows (found read p optional a name text) (found reads q optional b name text)
    found_like name None a b like = at optional
      where
        at : (o : Bool) → Follows (cond o (Ok (record a { missing = a.missing ++ name ∷ [] })) (Err (IncludeMissing p name))) (cond o (Ok (record b { missing = b.missing ++ name ∷ [] })) (Err (IncludeMissing q name)))
        at true = follows_ok _ _ (record { is = ap (λ (s : State). record s { missing = s.missing ++ name ∷ [] }) like.is; fewer = like.fewer })
        at false = λ x e. absurd cc
    found_like name (Some bytes) a b like =
        let c : State = record a { texts = a.texts ++ name ∷ [] } in
        let d : State = record b { texts = b.texts ++ name ∷ [] } in
        follows_step (read name bytes c) (reads name bytes d) _ _ (agree name bytes c d (record { is = like.is; fewer = omega (arith, length-append a.texts (name ∷ []), length-append b.texts (name ∷ []), like.fewer) })) (λ x y h. follows_ok (parted x) (parted y) (parted_like x y h))

    one_like : (name : List ℕ) (a b : State) → Like a b → Follows (one_file reader read p optional a name) (one_file reader reads q optional b name)
    unfolding one_file
    one_like name a b like x e =
        elim (cases_Bool (nat_le 1024 (length a.texts))) [
          | inl full ↦ let no : Err (TooManyFiles p) ≡ Ok x = sym (cond-true (nat_le 1024 (length a.texts)) (Err (TooManyFiles p)) (cond (fails reader a) (Err (ReadFailed (Some p) name)) (found read p optional a name (reader.text name))) full) ∙ e in absurd cc
          | inr room ↦
              let few : length a.texts < 1024 = leb-false 1024 (length a.texts) room in
              let fewer : length b.texts < 1024 = omega (arith, few, like.fewer) in
              let left : found read p optional a name (reader.text name)
              ≡ Ok x = sym (cond-false (fails reader a) (Err (ReadFailed (Some p) name))
              (found read p optional a name (reader.text name)) (works a))
              ∙ (sym (cond-false (nat_le 1024 (length a.texts)) (Err (TooManyFiles p))
              (cond (fails reader a) (Err (ReadFailed (Some p) name))
              (found read p optional a name (reader.text name))) room) ∙ e) in
              let right = found_like name (reader.text name) a b like x left in (
                right.0,
                cond-false (nat_le 1024 (length b.texts)) (Err (TooManyFiles q))
                    (cond (fails reader b) (Err (ReadFailed (Some q) name))
                    (found reads q optional b name (reader.text name))) (lt-leb 1024 (length b.texts) fewer)
                    ∙ (cond-false (fails reader b) (Err (ReadFailed (Some q) name))
                    (found reads q optional b name (reader.text name)) (works b) ∙ right.1),
                right.2,
              )
        ]

    files_like : (names : List (List ℕ)) (a b : State) → Like a b → Follows (files reader read p optional names a) (files reader reads q optional names b)
    unfolding files
    files_like [] a b like = follows_ok a b like
    files_like (name ∷ names) a b like = follows_step (one_file reader read p optional a name) (one_file reader reads q optional b name) _ _ (one_like name a b like) (λ x y h. files_like names x y h)

  -- how a text is read, one level up
  abbrev pub AgreeDeeper : Deeper → Deeper → Type 0
  AgreeDeeper None other = Unit {0}
  AgreeDeeper (Some read) None = ⊥
  AgreeDeeper (Some read) (Some reads) = (name bytes : List ℕ) (a b : State) → Like a b → Follows (read name bytes a) (reads name bytes b)

  include_like : (deeper deepers : Deeper) → AgreeDeeper deeper deepers → (p q : Place) (a b : State) (line : IncludeLine) → Like a b → Follows (include reader deeper p a line) (include reader deepers q b line)
  include_like None other agree p q a b line like x e = absurd cc
  include_like (Some read) None agree p q a b line like x e = absurd agree
  include_like (Some read) (Some reads) agree p q a b line like x e =
      let names = bind_ok (names_in p a.table line.names) _ x e in
      let others : names_in q b.table line.names ≡ Ok names.0 = names_like p q a b line.names names.0 like.is names.1 in
      let last = at names.0 (is_empty names.0) names.2 in
      (last.0, ap (λ (r : Result (List (List ℕ)) ReadFault). r >>= λ all. cond (is_empty all) (Err (IncludeEmpty q)) (files reader reads q line.optional all (parted b))) others ∙ last.1, last.2)
    where
      at : (all : List (List ℕ)) (empty : Bool) → cond empty (Err (IncludeEmpty p)) (files reader read p line.optional all (parted a)) ≡ Ok x
          → (y : State) × (cond empty (Err (IncludeEmpty q)) (files reader reads q line.optional all (parted b)) ≡ Ok y) × Like x y
      at all true e = absurd cc
      at all false e = files_like read reads agree p q line.optional all (parted a) (parted b) (parted_like a b like) x e

  -- an include line by its kind
  include_line : (deeper : Deeper) (text : Text) (line : Line) (names : IncludeLine) (a : State) → line.command ≡ false → kind_of (uncomment line.text) ≡ Ok (Include names)
      → with_line reader deeper text a line ≡ include reader deeper (record { file = text.file; line = line.first }) a names
  unfolding with_line
  include_line deeper text line names a plain kind = rw (plain, kind) refl

  module _ (deeper deepers : Deeper) (agree : AgreeDeeper deeper deepers) (text other : Text) (default : text.default ≡ other.default) where
    line_like : (line : Line) (a b : State) → Like a b → Follows (with_line reader deeper text a line) (with_line reader deepers other b line)
    line_like line a b like x e =
        elim (cases_Bool (is_include_line line)) [
          | inl t ↦
              let parts = and_parts (not line.command) (is_include_kind (kind_of (uncomment line.text))) t in
              let names = include_is (kind_of (uncomment line.text)) parts.1 in
              let plain : line.command ≡ false = not-true line.command parts.0 in
              let right = include_like deeper deepers agree _ (record { file = other.file; line = line.first }) a b names.0 like x (sym (include_line deeper text line names.0 a plain names.1) ∙ e) in
              (right.0, include_line deepers other line names.0 b plain names.1 ∙ right.1, right.2)
          | inr f ↦ plain_like deeper deepers text other a b line default f like x e
        ]

    pub lines_like : (lines : List Line) (a b : State) → Like a b → Follows (with_lines reader deeper text lines a) (with_lines reader deepers other lines b)
    unfolding with_lines
    lines_like [] a b like = follows_ok a b like
    lines_like (line ∷ lines) a b like = follows_step (with_line reader deeper text a line) (with_line reader deepers other b line) _ _ (line_like line a b like) (λ x y h. lines_like lines x y h)

  -- a text whose lines these are
  text_like : (deeper deepers : Deeper) → AgreeDeeper deeper deepers → (name : List ℕ) (r : Result (List Line) LineFault) (a b : State) → Like a b
      → Follows (in_file name r >>= λ lines. with_lines reader deeper (record { file = name; default = false }) lines a) (in_file name r >>= λ lines. with_lines reader deepers (record { file = name; default = false }) lines b)
  text_like deeper deepers agree name (Ok lines) a b like = lines_like deeper deepers agree (record { file = name; default = false }) (record { file = name; default = false }) refl lines a b like
  text_like deeper deepers agree name (Err why) a b like = λ x e. absurd cc

  -- with no fewer levels below
  pub reading_like : (levels more : ℕ) → levels ≤ more → (name bytes : List ℕ) (a b : State) → Like a b → Follows (reading levels reader name bytes a) (reading more reader name bytes b)
  unfolding reading
  reading_like zero zero le name bytes a b like = text_like None None tt name (logical_lines bytes) a b like
  reading_like zero (suc more) le name bytes a b like = text_like None (Some (reading more reader)) tt name (logical_lines bytes) a b like
  reading_like (suc levels) zero le name bytes a b like = absurd (omega arith)
  reading_like (suc levels) (suc more) le name bytes a b like = text_like (Some (reading levels reader)) (Some (reading more reader)) (reading_like levels more (omega arith)) name (logical_lines bytes) a b like

  -- the lines of a file, read in their place
  file_like : (levels : ℕ) (text : Text) → text.default ≡ false → (name : List ℕ) (own : List Line) (holds : FileHolds reader name own) (a b : State) → Like a b
      → Follows (reading levels reader name holds.bytes a) (with_lines reader (Some (reading levels reader)) text own b)
  unfolding reading
  file_like zero text default name own holds a b like =
      subst (λ (r : Result (List Line) LineFault). Follows (in_file name r >>= λ lines. with_lines reader None (record { file = name; default = false }) lines a) (with_lines reader (Some (reading zero reader)) text own b)) (sym holds.good)
      (lines_like None (Some (reading zero reader)) tt (record { file = name; default = false }) text (sym default) own a b like)
  file_like (suc levels) text default name own holds a b like =
      subst (λ (r : Result (List Line) LineFault). Follows (in_file name r >>= λ lines. with_lines reader (Some (reading levels reader)) (record { file = name; default = false }) lines a) (with_lines reader (Some (reading (suc levels) reader)) text own b)) (sym holds.good)
      (lines_like (Some (reading levels reader)) (Some (reading (suc levels) reader)) (reading_like levels (suc levels) (omega arith)) (record { file = name; default = false }) text (sym default) own a b like)

  -- the lines of an included file, and then parted, read in their place
  in_place : (levels : ℕ) (text : Text) → text.default ≡ false → (name : List ℕ) (own : List Line) → FileHolds reader name own → (place : Place) (optional : Bool) (a b x : State) → Like a b
      → one_file reader (reading levels reader) place optional a name ≡ Ok x → (y : State) × (with_lines reader (Some (reading levels reader)) text own b ≡ Ok y) × Like x (parted y)
  unfolding one_file
  in_place levels text default name own holds place optional a b x like e =
      let read = reading levels reader in
      let c : State = record a { texts = a.texts ++ name ∷ [] } in
      elim (cases_Bool (nat_le 1024 (length a.texts))) [
        | inl full ↦ let no : Err (TooManyFiles place) ≡ Ok x = sym (cond-true (nat_le 1024 (length a.texts)) (Err (TooManyFiles place)) (cond (fails reader a) (Err (ReadFailed (Some place) name)) (found read place optional a name (reader.text name))) full) ∙ e in absurd cc
        | inr room ↦
            let here : found read place optional a name (reader.text name)
            ≡ Ok x = sym (cond-false (fails reader a) (Err (ReadFailed (Some place) name))
            (found read place optional a name (reader.text name)) (works a))
            ∙ (sym (cond-false (nat_le 1024 (length a.texts)) (Err (TooManyFiles place))
            (cond (fails reader a) (Err (ReadFailed (Some place) name))
            (found read place optional a name (reader.text name))) room) ∙ e) in
            let there : (read name holds.bytes c >>= λ after. Ok (parted after)) ≡ Ok x = sym (ap (found read place optional a name) holds.there) ∙ here in
            let parts = bind_ok (read name holds.bytes c) (λ after. Ok (parted after)) x there in
            let right = file_like levels text default name own holds c b (record { is = like.is; fewer = omega (arith, length-append a.texts (name ∷ []), like.fewer) }) parts.0 parts.1 in
            let one : parted parts.0 ≡ x = cc in
            (right.0, right.1, subst (λ s. Like s (parted right.0)) one (parted_like parts.0 right.0 right.2))
      ]

  -- lines that begin so
  both_begin : (lines after : List Line) → begins_without_command lines ≡ true → begins_without_command after ≡ true → begins_without_command (lines ++ after) ≡ true
  unfolding begins_without_command
  both_begin [] after first second = second
  both_begin (line ∷ lines) after first second = at (is_comment_line line) first (both_begin lines after)
    where
      at : (b : Bool) → cond b (begins_without_command lines) (not line.command) ≡ true → (begins_without_command lines ≡ true → begins_without_command after ≡ true → begins_without_command (lines ++ after) ≡ true) → cond b (begins_without_command (lines ++ after)) (not line.command) ≡ true
      at true first more = more first second
      at false first more = first

  files_begin : (names : List (List ℕ)) (lines : List Line) → FilesHold reader names lines → begins_without_command lines ≡ true
  unfolding begins_without_command
  files_begin [] lines hold = ap begins_without_command hold
  files_begin (name ∷ names) lines hold = ap begins_without_command hold.3 ∙ both_begin hold.0 hold.1 hold.2.beginning (files_begin names hold.1 hold.4)

  pub like_said : (a b : State) → bare a ≡ bare b → said b ≡ said a
  like_said a b is = said_stripped b ∙ (sym (ap makefile_of is) ∙ sym (said_stripped a))

  module _ (levels : ℕ) (text : Text) (default : text.default ≡ false) (after : List Line) (begins : begins_without_command after ≡ true) where
    abbrev on : List Line → State → Result State ReadFault
    on = with_lines reader (Some (reading levels reader)) text

    -- what is read of a state that is parted is read of the state
    unparted : (lines : List Line) (state x : State) → begins_without_command lines ≡ true → on lines (parted state) ≡ Ok x → (y : State) × (on lines state ≡ Ok y) × (said y ≡ said x)
    unparted lines state x begins e =
        let one : (on lines state >>= made) ≡ Ok (makefile_of x) = sym (blind_lines reader (Some (reading levels reader)) text made made_blind lines state begins) ∙ ap (λ (r : Result State ReadFault). r >>= made) e in
        let found = bind_ok (on lines state) made (makefile_of x) one in
        let last : makefile_of found.0 ≡ makefile_of x = cc in
        (found.0, found.1, ap (λ (m : Makefile). record (unplaced m) { texts = [] }) last)

    -- lines one after another
    one_by_one : (lines own rest : List Line) (a b x : State) → lines ≡ own ++ rest → on own a ≡ Ok b → on (rest ++ after) b ≡ Ok x → on (lines ++ after) a ≡ Ok x
    one_by_one lines own rest a b x is first second =
        ap (λ (l : List Line). on l a) (ap (λ (l : List Line). l ++ after) is ∙ append_assoc own rest after) ∙ (with_both reader (Some (reading levels reader)) text own (rest ++ after) a ∙ (ap (λ (r : Result State ReadFault). r >>= on (rest ++ after)) first ∙ second))

    all_in_place : (names : List (List ℕ)) (lines : List Line) → FilesHold reader names lines → (place : Place) (optional : Bool) (a b x : State) → Like a b
        → (files reader (reading levels reader) place optional names a >>= on after) ≡ Ok x → (y : State) × (on (lines ++ after) b ≡ Ok y) × (said y ≡ said x)
    unfolding files
    all_in_place [] lines hold place optional a b x like e =
        let right = lines_like (Some (reading levels reader)) (Some (reading levels reader)) (reading_like levels levels (omega arith)) text text refl after a b like x e in
        (right.0, ap (λ (l : List Line). on (l ++ after) b) hold ∙ right.1, like_said x right.0 right.2.is)
    all_in_place (name ∷ names) lines hold place optional a b x like e =
        let read = reading levels reader in
        let outer = bind_ok (one_file reader read place optional a name >>= files reader read place optional names) (on after) x e in
        let inner = bind_ok (one_file reader read place optional a name) (files reader read place optional names) outer.0 outer.1 in
        let first = in_place levels text default name hold.0 hold.2 place optional a b inner.0 like inner.1 in
        let rest = all_in_place names hold.1 hold.4 place optional inner.0 (parted first.0) x first.2 (ap (λ (r : Result State ReadFault). r >>= on after) inner.2 ∙ outer.2) in
        let last = unparted (hold.1 ++ after) first.0 rest.0 (both_begin hold.1 after (files_begin names hold.1 hold.4) begins) rest.1 in
        (last.0, one_by_one lines hold.0 hold.1 b first.0 last.0 hold.3 first.1 last.1, last.2 ∙ rest.2)

    stands : (lines : List Line) (line : Line) (state x : State) → IncludesLines reader text line lines state → (with_line reader (Some (reading levels reader)) text state line >>= on after) ≡ Ok x
        → (y : State) × (on (lines ++ after) state ≡ Ok y) × (said y ≡ said x)
    stands lines line state x includes e =
        let place : Place = record { file = text.file; line = line.first } in
        let read = reading levels reader in
        let optional = includes.include.optional in
        let is : with_line reader (Some read) text state line ≡ cond (is_empty includes.names) (Err (IncludeEmpty place)) (files reader read place optional includes.names (parted state)) =
        include_line (Some read) text line includes.include state includes.plain includes.kind
        ∙ ap (λ (r : Result (List (List ℕ)) ReadFault). r >>= λ all. cond (is_empty all) (Err (IncludeEmpty place)) (files reader read place optional all (parted state))) includes.expands in
        let opened = not_empty place optional (is_empty includes.names) (sym (ap (λ (r : Result State ReadFault). r >>= on after) is) ∙ e) in
        let found = all_in_place includes.names lines includes.files place optional (parted state) (parted state) x (record { is = refl; fewer = omega arith }) opened in
        let last = unparted (lines ++ after) state found.0 (both_begin lines after (files_begin includes.names lines includes.files) begins) found.1 in
        (last.0, last.1, last.2 ∙ found.2)
      where
        not_empty : (place : Place) (optional empty : Bool) → (cond empty (Err (IncludeEmpty place)) (files reader (reading levels reader) place optional includes.names (parted state)) >>= on after) ≡ Ok x
            → (files reader (reading levels reader) place optional includes.names (parted state) >>= on after) ≡ Ok x
        not_empty place optional true e = absurd cc
        not_empty place optional false e = e

pub include_lines_stand_for_their_lines : IncludeLinesStandForTheirLines
unfolding with_lines
include_lines_stand_for_their_lines reader levels text before lines after line start read never default includes begins e =
    let deeper : Deeper = Some (reading levels reader) in
    let parts = bind_ok (with_lines reader deeper text before start) (with_lines reader deeper text (line ∷ after)) read (sym (with_both reader deeper text before (line ∷ after) start) ∙ e) in
    let found = stands reader never levels text default after begins lines line parts.0 read (includes parts.0 parts.1) parts.2 in
    (found.0, ap (λ (l : List Line). with_lines reader deeper text l start) (append_assoc before lines after) ∙ (with_both reader deeper text before (lines ++ after) start ∙ (ap (λ (r : Result State ReadFault). r >>= with_lines reader deeper text (lines ++ after)) parts.1 ∙ found.1)), found.2)
