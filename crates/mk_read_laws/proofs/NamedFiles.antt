-- What is read depends only on the files that are looked up.
use Rattle.std.proofs.Common.{◌≡◌, ◌<◌, ◌≤◌, ℕ, zero, suc, ◌+◌, Bool, true, false, not, cond, List, [], ◌∷◌, ◌++◌, codes, length, Option, None, Some, Result, Ok, Err, refl, sym, ap, subst, ◌∙◌, arith, length-append}
use Rattle.std.specs.Prelude.{nat_le, ◌||◌, ◌==◌, All}
use Rattle.std.specs.List.{list_any, list_all}
use Rattle.std.specs.Option.{option_map}
use Rattle.std.proofs.Math.ListN.{get_or-append}
use Rattle.std.proofs.Math.Seq.{get_or-append_seam}
use Rattle.std.proofs.lemmas.Bool.{cond-false, ne_eqb}
use Rattle.std.proofs.lemmas.List.Elements.{All-nil}
use Rattle.mk_lines.specs.Comments.{uncomment}
use Rattle.mk_lines.specs.Lines.{Line, logical_lines}
use Rattle.mk_macros.specs.Definitions.{defined, without_blanks}
use Rattle.mk_macros.specs.Expansion.{expansion}
use Rattle.mk_macros.specs.Table.{Macro}
use Rattle.mk_read.specs.declared.fault.Place.{Place}
use Rattle.mk_read.specs.declared.fault.ReadFault.{ReadFault}
use Rattle.mk_read.specs.declared.fault.ReadFault.TheVariants.{IncludeMissing, IncludeEmpty, TooManyFiles, ReadFailed, NoMakefile}
use Rattle.mk_read.specs.declared.special.Special.{Special}
use Rattle.mk_read.specs.declared.special.Special.TheVariants.{Suffixes, Phony, NotParallel, Wordless, Unread}
use Rattle.mk_read.specs.DefaultLaws.{default_state}
use Rattle.mk_read.specs.Following.{Later}
use Rattle.mk_read.specs.Kinds.{Kind, IncludeLine, AssignmentLine, RuleLine, Comment, Include, Assignment, Rule, kind_of}
use Rattle.mk_read.specs.Names.{names_in, has_name, is_empty}
use Rattle.mk_read.specs.Reading.{Reader, Deeper, Text, Makefile, makefile, makefile_of, named, is_number, reads, fails, found, one_file, files, include, plain_line, with_line, with_lines, reading, after_default, with_operands, text_or, own_text, from_named}
use Rattle.mk_read.specs.Rules.{has_some, command_line, assignment, special_words, special_rule, new_rule, commands_behind, by_special, by_names, rule}
use Rattle.mk_read.specs.Special.{is_suffix, is_unknown_special, special_among}
use Rattle.mk_read.specs.State.{RuleRead, SpecialTarget, State, nothing_read, owned, parted}
use Rattle.mk_read.specs.Steps.{◌>>=◌, in_file, at_place, of_kind}
use Rattle.mk_read.proofs.DefaultText.{default_text_says_this}
use Rattle.mk_read_laws.specs.NamedFiles.{OnlyNamedFilesCount}
use Rattle.mk_read_laws.proofs.Kept.{Holds, holds_step, holds_if}
use Rattle.mk_read_laws.proofs.OneLine.{bind_ok, parts_of}

-- ---- lists and numbers

-- what holds of each element of an appended list holds of each of the first list
all_left : {X : Type 0} (P : X → Type 0) (xs ys : List X) → All P (xs ++ ys) → All P xs
all_left P xs ys all = λ k d low. subst P (get_or-append xs ys d k low) (all k d (omega (arith, length-append xs ys)))

-- and of the last element
all_last : {X : Type 0} (P : X → Type 0) (xs : List X) (x : X) → All P (xs ++ x ∷ []) → P x
all_last P xs x all = subst P (get_or-append_seam xs x [] x) (all (length xs) x (omega (arith, length-append xs (x ∷ []))))

-- a read that fails later fails after fewer reads too
later_than : (n m : ℕ) (failing : Option ℕ) → n ≤ m → Later m failing → Later n failing
later_than n m None less later = tt
later_than n m (Some k) less later = omega (arith, less, later)

-- a read that comes before the failing one succeeds
not_this : (n : ℕ) (failing : Option ℕ) → Later n failing → is_number failing n ≡ false
not_this n None later = refl
not_this n (Some k) later = ne_eqb k n (λ same. let less : n < k = later in omega arith)

-- ---- lines that read no file keep the names of the files that were looked up

module _ (texts missing : List (List ℕ)) where
  abbrev Stay : State → Type 0
  Stay state = (state.texts ≡ texts) × (state.missing ≡ missing)

  by_assignment : (place : Place) (state : State) (line : AssignmentLine) → Stay state → Holds Stay (assignment place state line)
  unfolding assignment
  by_assignment place state line stay =
      holds_step Stay (at_place place (expansion state.table None line.name)) _ (λ name. holds_step Stay (at_place place (defined state.table (without_blanks name.text) line.op line.value)) _ (λ table. stay))

  by_words : (place : Place) (state : State) (words : List (List ℕ)) (special : Special) → Stay state → Holds Stay (special_words place state words special)
  by_words place state words Suffixes stay = holds_if Stay (list_all is_suffix words) _ _ stay tt
  by_words place state words Phony stay = stay
  by_words place state words NotParallel stay = holds_if Stay (is_empty words) _ _ stay tt
  by_words place state words Wordless stay = holds_if Stay (is_empty words) _ _ stay tt
  by_words place state words Unread stay = stay

  by_special_rule : (place : Place) (state : State) (targets words : List (List ℕ)) (commands : Bool) (special : Special) → Stay state → Holds Stay (special_rule place state targets words commands special)
  unfolding special_rule
  by_special_rule place state targets words commands special stay =
      holds_if Stay (not (length targets == 1) || (commands || has_name words (codes ".WAIT"))) _ _ tt (by_words place (record state { read = owned SpecialTarget state.read }) words special stay)

  module _ (default : Bool) (place : Place) (state : State) (stay : Stay state) where
    by_specials : (targets words : List (List ℕ)) (command : Option (List ℕ)) (special : Option Special) → Holds Stay (by_special default place state targets words command special)
    by_specials targets words command (Some special) = by_special_rule place state targets words (has_some command) special stay
    by_specials targets words command None =
        let made : RuleRead = record { targets = targets; words = words; commands = option_map (commands_behind place) command; place = place; default = default } in
        holds_step Stay (new_rule made state.read) _ (λ read. stay)

    by_all_names : (targets : List (List ℕ)) (command : Option (List ℕ)) (words : List (List ℕ)) → Holds Stay (by_names default place state targets command words)
    unfolding by_names
    by_all_names targets command words = holds_if Stay (list_any is_unknown_special targets) _ _ tt (by_specials targets words command (special_among targets))

    by_rule : (line : RuleLine) → Holds Stay (rule default place state line)
    unfolding rule
    by_rule line =
        holds_step Stay (names_in place state.table line.targets) _
        (λ targets. holds_if Stay (is_empty targets) _ _ stay
        (holds_step Stay (names_in place state.table line.words) _
        (λ words. by_all_names targets line.command words)))

-- ---- two readers

module _ (one other : Reader) where
  -- both have the same text, or none
  abbrev Same : List ℕ → Type 0
  Same name = one.text name ≡ other.text name

  -- The readers agree on the files that were looked up, and none of these reads fails.
  record Fits (state : State) : Type 0 where
    on_texts : All Same state.texts
    on_missing : All Same state.missing
    later : Later (reads state) other.failing

  -- Where the first reader leads to a state that fits, so does the second one, and it fitted before.
  abbrev Follows : State → Result State ReadFault → Result State ReadFault → Type 0
  Follows before r s = (x : State) → r ≡ Ok x → Fits x → Fits before × (s ≡ Ok x)

  follows_then : (before : State) (r s : Result State ReadFault) (f g : State → Result State ReadFault) → Follows before r s → ((y : State) → Follows y (f y) (g y)) → Follows before (r >>= f) (s >>= g)
  follows_then before r s f g first then x e fits =
      let left = bind_ok r f x e in
      let right = then left.0 x left.2 fits in
      let start = first left.0 left.1 right.0 in
      (start.0, ap (λ t. t >>= g) start.1 ∙ right.1)

  -- a step that reads no file
  follows_step : {A : Type 0} (before : State) (r : Result A ReadFault) (f g : A → Result State ReadFault) → ((y : A) → Follows before (f y) (g y)) → Follows before (r >>= f) (r >>= g)
  follows_step before (Ok y) f g then = then y
  follows_step before (Err fault) f g then = λ x e. absurd cc

  follows_if : (before : State) (b : Bool) (r r' s s' : Result State ReadFault) → Follows before r s → Follows before r' s' → Follows before (cond b r r') (cond b s s')
  follows_if before true r r' s s' first second = first
  follows_if before false r r' s s' first second = second

  follows_fault : (before : State) (fault : ReadFault) (s : Result State ReadFault) → Follows before (Err fault) s
  follows_fault before fault s = λ x e. absurd cc

  follows_ok : (before : State) → Follows before (Ok before) (Ok before)
  follows_ok before x e fits = let is : before ≡ x = cc in (subst Fits (sym is) fits, e)

  -- a state with the same names
  fits_stay : (before x : State) → Stay before.texts before.missing x → Fits x → Fits before
  fits_stay before x stay fits =
      record {
        on_texts = subst (All Same) stay.0 fits.on_texts;
        on_missing = subst (All Same) stay.1 fits.on_missing;
        later = later_than (reads before) (reads x) other.failing (let t = ap length stay.0 in let m = ap length stay.1 in omega arith) fits.later;
      }

  follows_same : (before : State) (r : Result State ReadFault) → Holds (Stay before.texts before.missing) r → Follows before r r
  follows_same before r stays x e fits = (fits_stay before x (subst (Holds (Stay before.texts before.missing)) e stays) fits, e)

  follows_parted : (before : State) (r s : Result State ReadFault) → Follows (parted before) r s → Follows before r s
  follows_parted before r s follows x e fits = let then = follows x e fits in (fits_stay before (parted before) (refl, refl) then.0, then.1)

  -- the state fitted before the file was looked up, and the readers agree on it
  record Looked (before : State) (name : List ℕ) : Type 0 where
    fitted : Fits before
    same : Same name
    works : fails other before ≡ false

  looked_at_text : (before : State) (name : List ℕ) → Fits (record before { texts = before.texts ++ name ∷ [] }) → Looked before name
  looked_at_text before name fits =
      let more = length-append before.texts (name ∷ []) in
      record {
        fitted = record {
          on_texts = all_left Same before.texts (name ∷ []) fits.on_texts;
          on_missing = fits.on_missing;
          later = later_than (reads before) (length (before.texts ++ name ∷ []) + length before.missing) other.failing (omega arith) fits.later;
        };
        same = all_last Same before.texts name fits.on_texts;
        works = not_this (suc (reads before)) other.failing (later_than (suc (reads before)) (length (before.texts ++ name ∷ []) + length before.missing) other.failing (omega arith) fits.later);
      }

  looked_at_missing : (before : State) (name : List ℕ) → Fits (record before { missing = before.missing ++ name ∷ [] }) → Looked before name
  looked_at_missing before name fits =
      let more = length-append before.missing (name ∷ []) in
      record {
        fitted = record {
          on_texts = fits.on_texts;
          on_missing = all_left Same before.missing (name ∷ []) fits.on_missing;
          later = later_than (reads before) (length before.texts + length (before.missing ++ name ∷ [])) other.failing (omega arith) fits.later;
        };
        same = all_last Same before.missing name fits.on_missing;
        works = not_this (suc (reads before)) other.failing (later_than (suc (reads before)) (length before.texts + length (before.missing ++ name ∷ [])) other.failing (omega arith) fits.later);
      }

  -- how the text of an included file is read, by both readers
  abbrev Agree : (List ℕ → List ℕ → State → Result State ReadFault) → (List ℕ → List ℕ → State → Result State ReadFault) → Type 0
  Agree read like = (name bytes : List ℕ) (before : State) → Follows before (read name bytes before) (like name bytes before)

  abbrev AgreeDeeper : Deeper → Deeper → Type 0
  AgreeDeeper None None = Unit {0}
  AgreeDeeper None (Some like) = ⊥
  AgreeDeeper (Some read) None = ⊥
  AgreeDeeper (Some read) (Some like) = Agree read like

  module _ (read like : List ℕ → List ℕ → State → Result State ReadFault) (agree : Agree read like) (place : Place) (optional : Bool) where
    found_both : (before : State) (name : List ℕ) (text : Option (List ℕ)) (x : State) → found read place optional before name text ≡ Ok x → Fits x → Looked before name × (found like place optional before name text ≡ Ok x)
    found_both before name None x e fits = at optional e
      where
        at : (o : Bool) → cond o (Ok (record before { missing = before.missing ++ name ∷ [] })) (Err (IncludeMissing place name)) ≡ Ok x
            → Looked before name × (cond o (Ok (record before { missing = before.missing ++ name ∷ [] })) (Err (IncludeMissing place name)) ≡ Ok x)
        at true e = let is : record before { missing = before.missing ++ name ∷ [] } ≡ x = cc in (looked_at_missing before name (subst Fits (sym is) fits), e)
        at false e = absurd cc
    found_both before name (Some bytes) x e fits =
        let opened : State = record before { texts = before.texts ++ name ∷ [] } in
        let both = follows_then opened (read name bytes opened) (like name bytes opened) (λ after. Ok (parted after)) (λ after. Ok (parted after)) (agree name bytes opened) (λ after. follows_parted after (Ok (parted after)) (Ok (parted after)) (follows_ok (parted after))) x e fits in
        (looked_at_text before name both.0, both.1)

    one_both : (name : List ℕ) (before : State) → Follows before (one_file one read place optional before name) (one_file other like place optional before name)
    unfolding one_file
    one_both name before =
        follows_if before (nat_le 1024 (length before.texts)) _ _ _ _ (follows_fault before (TooManyFiles place) _) (λ x e fits. at (fails one before) x e fits)
      where
        at : (b : Bool) (x : State) → cond b (Err (ReadFailed (Some place) name)) (found read place optional before name (one.text name)) ≡ Ok x → Fits x
            → Fits before × (cond (fails other before) (Err (ReadFailed (Some place) name)) (found like place optional before name (other.text name)) ≡ Ok x)
        at true x e fits = absurd cc
        at false x e fits =
            let both = found_both before name (one.text name) x e fits in (
              both.0.fitted,
              cond-false (fails other before) (Err (ReadFailed (Some place) name)) (found like place optional before name (other.text name)) both.0.works
                  ∙ (ap (found like place optional before name) (sym both.0.same) ∙ both.1),
            )

    files_both : (names : List (List ℕ)) (before : State) → Follows before (files one read place optional names before) (files other like place optional names before)
    unfolding files
    files_both [] before = follows_ok before
    files_both (name ∷ names) before = follows_then before (one_file one read place optional before name) (one_file other like place optional before name) _ _ (one_both name before) (files_both names)

  include_both : (deeper deepers : Deeper) → AgreeDeeper deeper deepers → (place : Place) (before : State) (line : IncludeLine) → Follows before (include one deeper place before line) (include other deepers place before line)
  include_both None None agree place before line = λ x e. absurd cc
  include_both None (Some like) agree place before line = absurd agree
  include_both (Some read) None agree place before line = absurd agree
  include_both (Some read) (Some like) agree place before line =
      follows_step before (names_in place before.table line.names) _ _
      (λ names. follows_if before (is_empty names) _ _ _ _ (follows_fault before (IncludeEmpty place) _)
      (follows_parted before _ _ (files_both read like agree place line.optional names (parted before))))

  module _ (deeper deepers : Deeper) (agree : AgreeDeeper deeper deepers) (text : Text) where
    plain_both : (place : Place) (before : State) (kind : Kind) → Follows before (plain_line one deeper text.default place before kind) (plain_line other deepers text.default place before kind)
    plain_both place before Comment = follows_ok before
    plain_both place before (Include line) = include_both deeper deepers agree place before line
    plain_both place before (Assignment line) = follows_same before (assignment place before line) (by_assignment before.texts before.missing place before line (refl, refl))
    plain_both place before (Rule line) = follows_same before (rule text.default place before line) (by_rule before.texts before.missing text.default place before (refl, refl) line)

    line_both : (line : Line) (before : State) → Follows before (with_line one deeper text before line) (with_line other deepers text before line)
    unfolding with_line
    line_both line before =
        let place : Place = record { file = text.file; line = line.first } in
        follows_if before line.command _ _ _ _
        (follows_step before (command_line place line.text before.read.earlier before.read.owner) _ _ (λ read. follows_same before (Ok (record before { read = read })) (refl, refl)))
        (follows_step before (of_kind place (kind_of (uncomment line.text))) _ _ (plain_both place before))

    lines_both : (lines : List Line) (before : State) → Follows before (with_lines one deeper text lines before) (with_lines other deepers text lines before)
    unfolding with_lines
    lines_both [] before = follows_ok before
    lines_both (line ∷ lines) before = follows_then before (with_line one deeper text before line) (with_line other deepers text before line) _ _ (line_both line before) (lines_both lines)

  reading_both : (levels : ℕ) → Agree (reading levels one) (reading levels other)
  unfolding reading
  reading_both zero name bytes before =
      follows_step before (in_file name (logical_lines bytes)) _ _ (λ lines. lines_both None None tt (record { file = name; default = false }) lines before)
  reading_both (suc levels) name bytes before =
      follows_step before (in_file name (logical_lines bytes)) _ _ (λ lines. lines_both (Some (reading levels one)) (Some (reading levels other)) (reading_both levels) (record { file = name; default = false }) lines before)

  -- ---- the makefile's own text

  -- the readers agree on the files that were looked up before, and this read and those before don't fail
  record Ready (state : State) : Type 0 where
    on_missing : All Same state.missing
    later : Later (suc (reads state)) other.failing

  -- where the first reader leads to a state from a file or else from another one, so does the second
  own_both : (state : State) (name : List ℕ) (r s : Result State ReadFault) (x : State) → state.texts ≡ [] → (r ≡ Ok x → Ready state × Same name × (s ≡ Ok x)) → own_text one state name r ≡ Ok x → Fits x → Ready state × (own_text other state name s ≡ Ok x)
  unfolding own_text
  own_both state name r s x none else e fits = at (fails one state) e
    where
      works : Ready state → fails other state ≡ false
      works ready = not_this (suc (reads state)) other.failing ready.later

      opened : State
      opened = record (parted state) { texts = name ∷ [] }

      there : (text : Option (List ℕ)) → one.text name ≡ text → text_or one state name r text ≡ Ok x → Ready state × (cond (fails other state) (Err (ReadFailed None name)) (text_or other state name s (other.text name)) ≡ Ok x)
      there None is e =
          let found = else e in
          (found.0, cond-false (fails other state) (Err (ReadFailed None name)) (text_or other state name s (other.text name)) (works found.0) ∙ (ap (text_or other state name s) (sym found.1 ∙ is) ∙ found.2))
      there (Some bytes) is e =
          let both = reading_both 16 name bytes opened x e fits in
          let few = ap length none in
          let ready : Ready state = record { on_missing = both.0.on_missing; later = later_than (suc (reads state)) (reads opened) other.failing (omega arith) both.0.later } in
          (ready, cond-false (fails other state) (Err (ReadFailed None name)) (text_or other state name s (other.text name)) (works ready) ∙ (ap (text_or other state name s) (sym (all_last Same [] name both.0.on_texts) ∙ is) ∙ both.1))

      at : (b : Bool) → cond b (Err (ReadFailed None name)) (text_or one state name r (one.text name)) ≡ Ok x → Ready state × (cond (fails other state) (Err (ReadFailed None name)) (text_or other state name s (other.text name)) ≡ Ok x)
      at true e = absurd cc
      at false e = there (one.text name) refl e

  named_both : (state : State) (file : Option (List ℕ)) (x : State) → state.texts ≡ [] → state.missing ≡ [] → from_named one state file ≡ Ok x → Fits x → from_named other state file ≡ Ok x
  unfolding from_named
  named_both state (Some name) x none no_missing e fits =
      (own_both state name (Err (NoMakefile (Some name))) (Err (NoMakefile (Some name))) x none (λ e. absurd cc) e fits).1
  named_both state None x none no_missing e fits =
      let next : State = record state { missing = codes "makefile" ∷ [] } in
      let last : Result State ReadFault = Err (NoMakefile None) in
      (own_both state (codes "makefile") (own_text one next (codes "Makefile") last) (own_text other next (codes "Makefile") last) x none (λ e.
      let found = own_both next (codes "Makefile") last last x none (λ e. absurd cc) e fits in
      let few = ap length no_missing in (
        record { on_missing = subst (All Same) (sym no_missing) (All-nil Same); later = later_than (suc (reads state)) (suc (reads next)) other.failing (omega arith) found.0.later },
        all_last Same [] (codes "makefile") found.0.on_missing,
        found.1,
      )) e fits).1

-- ---- whole makefiles

-- before the makefile's own text no file was looked up, and the reader doesn't count
record Begins (other : Reader) (defaults : Bool) (start : State) : Type 0 where
  starts : after_default other defaults ≡ Ok start
  no_texts : start.texts ≡ []
  no_missing : start.missing ≡ []

begins_plain : (one other : Reader) (start : State) → after_default one false ≡ Ok start → Begins other false start
unfolding after_default
begins_plain one other start e =
    let is : nothing_read ≡ start = cc in
    record { starts = e; no_texts = ap (λ (s : State). s.texts) (sym is); no_missing = ap (λ (s : State). s.missing) (sym is) }

begins : (one other : Reader) (defaults : Bool) (start : State) → after_default one defaults ≡ Ok start → Begins other defaults start
begins one other true start e =
    let same : Ok default_state ≡ Ok start = sym (default_text_says_this one) ∙ e in
    let is : default_state ≡ start = cc in
    record { starts = default_text_says_this other ∙ same; no_texts = ap (λ (s : State). s.texts) (sym is); no_missing = ap (λ (s : State). s.missing) (sym is) }
begins one other false start e = begins_plain one other start e

-- a makefile from its parts
made_of : (reader : Reader) (file chosen : Option (List ℕ)) (defaults : Bool) (operands : List (List ℕ)) (start : State) (table : List Macro) (state : State) → named file ≡ Ok chosen → after_default reader defaults ≡ Ok start
    → with_operands 1 operands start.table ≡ Ok table → from_named reader (record start { table = table }) chosen ≡ Ok state → makefile reader file defaults operands ≡ Ok (makefile_of state)
unfolding makefile
made_of reader file chosen defaults operands start table state name starts fixed reads =
    ap (λ (r : Result (Option (List ℕ)) ReadFault). r >>= λ file. after_default reader defaults >>= λ start. with_operands 1 operands start.table >>= λ table. from_named reader (record start { table = table }) file >>= λ state. Ok (makefile_of state)) name
    ∙ (ap (λ (r : Result State ReadFault). r >>= λ start. with_operands 1 operands start.table >>= λ table. from_named reader (record start { table = table }) chosen >>= λ state. Ok (makefile_of state)) starts
    ∙ (ap (λ (r : Result (List Macro) ReadFault). r >>= λ table. from_named reader (record start { table = table }) chosen >>= λ state. Ok (makefile_of state)) fixed
    ∙ ap (λ (r : Result State ReadFault). r >>= λ state. Ok (makefile_of state)) reads))

pub only_named_files_count : OnlyNamedFilesCount
only_named_files_count one other name defaults operands m e on_texts on_missing later =
    let parts = parts_of one name defaults operands m e in
    let start = begins one other defaults parts.start parts.starts in
    let fits : Fits one other parts.state = record {
      on_texts = subst (λ (m : Makefile). All (Same one other) m.texts) (sym parts.is) on_texts;
      on_missing = subst (λ (m : Makefile). All (Same one other) m.passed_over) (sym parts.is) on_missing;
      later = subst (λ (m : Makefile). Later (length m.texts + length m.passed_over) other.failing) (sym parts.is) later;
    } in
    made_of other name parts.chosen defaults operands parts.start parts.table parts.state parts.named_as start.starts parts.fixed
    (named_both one other (record parts.start { table = parts.table }) parts.chosen parts.state start.no_texts start.no_missing parts.reads fits)
    ∙ ap (λ (m : Makefile). Ok m) parts.is
