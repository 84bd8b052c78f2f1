-- What a line does, step by step.
use Rattle.std.proofs.Common.{◌≡◌, ℕ, zero, suc, ◌-◌, Bool, true, false, cond, List, length, None, Some, Result, Ok, Err, inl, inr, refl, sym, ap, subst, ◌∙◌, arith}
use Rattle.std.specs.Prelude.{◌⊎◌, IfErr, nat_le}
use Rattle.std.proofs.Math.Dec.{eqb-suc-zero}
use Rattle.mk_read.specs.Names.{is_empty, names_in}
use Rattle.mk_lines.specs.Comments.{uncomment}
use Rattle.mk_lines.specs.Lines.{Line, logical_lines}
use Rattle.mk_read.specs.declared.fault.Place.{Place}
use Rattle.mk_read.specs.declared.fault.ReadFault.{ReadFault}
use Rattle.mk_read.specs.declared.fault.ReadFault.TheVariants.{Memory, ReadFailed, IncludeEmpty}
use Rattle.mk_read.specs.Files.{IfFits, Keeps, Told, text_at}
use Rattle.mk_read.specs.Following.{reader_of, Follows, IsOfText, below}
use Rattle.mk_read.specs.Kinds.{AssignmentLine, IncludeLine, RuleLine, Kind, Assignment, Rule, kind_of}
use Rattle.mk_read.specs.Reading.{Reader, Text, reads, files, include, one_file, plain_line, reading, with_line, with_lines, with_text}
use Rattle.mk_read.specs.Rules.{assignment, rule}
use Rattle.mk_read.specs.State.{State, parted}
use Rattle.mk_read.specs.Steps.{◌>>=◌, Gives, Fails, in_file, of_kind}
use Rattle.mk_read_parse.specs.Views.{IsTooMany, behind_commands, found_after, include_names, not_found, read_below, text_more}
use Rattle.mk_read_parse.proofs.Histories.{ends, no_reads, steps, stops, text_fault}
use Rattle.mk_read_parse.proofs.OneFile.{is_found, is_missing, read_fails, too_many}
use Rattle.mk_read_parse.proofs.SameReads.{assignment_keeps, command_keeps, rule_keeps, same_reads}
use Rattle.mk_read_parse.proofs.Stepping.{then_ok, then_fails}

-- out of memory
pub memory_follows : (told : Told) (whole : Reader → Result State ReadFault) (old : State) → Follows told whole old (Err Memory)
memory_follows told whole old = inl refl

-- what is read after a text
module _ (levels : ℕ) (text : Text) (bytes : List ℕ) (old : State) where
  abbrev whole_text : Reader → Result State ReadFault
  whole_text reader = with_text reader (below levels reader) text bytes old

  pub lines_fail : (o : Told → Type 0) (fault : ReadFault) → Fails fault (in_file text.file (logical_lines bytes)) → IsOfText fault → IfFits o (λ told. Follows told (λ reader. with_text reader (below levels reader) text bytes old) old (Err fault))
  lines_fail o fault fails own = λ told e. text_fault told whole_text old fault (then_fails (in_file text.file (logical_lines bytes)) (λ lines. with_lines (reader_of told None) (below levels (reader_of told None)) text lines old) fault fails) own

  pub lines_read : (o : Told → Type 0) (lines : List Line) (r : Result State ReadFault) → in_file text.file (logical_lines bytes) ≡ Ok lines → IfFits o (λ told. Follows told (λ reader. with_lines reader (below levels reader) text lines old) old r)
      → IfFits o (λ told. Follows told (λ reader. with_text reader (below levels reader) text bytes old) old r)
  lines_read o lines r is went = λ told e. ends told whole_text (λ reader. with_lines reader (below levels reader) text lines old) old old r
      (omega arith, λ failing later. ap (λ (s : Result (List Line) ReadFault). s >>= λ ls. with_lines (reader_of told failing) (below levels (reader_of told failing)) text ls old) is) (went told e)

-- what is read after a line
module _ (levels : ℕ) (text : Text) (old : State) (line : Line) where
  abbrev place_of : Place
  place_of = record { file = text.file; line = line.first }

  at_command : (reader : Reader) → line.command ≡ true → with_line reader (below levels reader) text old line ≡ behind_commands place_of line.text old
  unfolding with_line
  at_command reader c = rw c refl

  at_plain : (reader : Reader) → line.command ≡ false → with_line reader (below levels reader) text old line ≡ (of_kind place_of (kind_of (uncomment line.text)) >>= plain_line reader (below levels reader) text.default place_of old)
  unfolding with_line
  at_plain reader c = rw c refl

  pub command_read : (o : Told → Type 0) (r : Result State ReadFault) → line.command ≡ true → Gives (λ (s : State). s) r (behind_commands (record { file = text.file; line = line.first }) line.text old) → IfErr r IsOfText
      → IfFits o (λ told. Follows told (λ reader. with_line reader (below levels reader) text old line) old r)
  command_read o r c gives own = λ told e. ends told (λ reader. with_line reader (below levels reader) text old line) (λ reader. behind_commands place_of line.text old) old old r
      (omega arith, λ failing later. at_command (reader_of told failing) c) (no_reads told (behind_commands place_of line.text old) old r gives own (λ new h. same_reads old new (behind_commands place_of line.text old) (command_keeps place_of line.text old) h))

  pub kind_fails : (o : Told → Type 0) (fault : ReadFault) → line.command ≡ false
      → Fails fault (of_kind (record { file = text.file; line = line.first }) (kind_of (uncomment line.text)))
      → IsOfText fault → IfFits o (λ told. Follows told (λ reader. with_line reader (below levels reader) text
      old line) old (Err fault))
  kind_fails o fault c fails own = λ told e. text_fault told (λ reader. with_line reader (below levels reader) text old line) old fault
      (subst (λ (d : Result State ReadFault). Fails fault d) (sym (at_plain (reader_of told None) c)) (then_fails (of_kind place_of (kind_of (uncomment line.text))) (plain_line (reader_of told None) (below levels (reader_of told None)) text.default place_of old) fault fails)) own

  pub kind_read : (o : Told → Type 0) (kind : Kind) (r : Result State ReadFault) → line.command ≡ false → of_kind (record { file = text.file; line = line.first }) (kind_of (uncomment line.text)) ≡ Ok kind
      → IfFits o (λ told. Follows told (λ reader. plain_line reader (below levels reader) text.default (record { file = text.file; line = line.first }) old kind) old r) → IfFits o (λ told. Follows told (λ reader. with_line reader (below levels reader) text old line) old r)
  kind_read o kind r c is went = λ told e. ends told (λ reader. with_line reader (below levels reader) text old line) (λ reader. plain_line reader (below levels reader) text.default place_of old kind) old old r
      (omega arith, λ failing later. at_plain (reader_of told failing) c ∙ then_ok (of_kind place_of (kind_of (uncomment line.text))) (plain_line (reader_of told failing) (below levels (reader_of told failing)) text.default place_of old) kind is)
      (went told e)

-- assignments and rule lines
module _ (levels : ℕ) (default : Bool) (place : Place) (old : State) where
  pub assignment_read : (o : Told → Type 0) (line : AssignmentLine) (r : Result State ReadFault) → Gives (λ (s : State). s) r (assignment place old line) → IfErr r IsOfText → IfFits o (λ told. Follows told (λ reader. plain_line reader (below levels reader) default place old (Assignment line)) old r)
  assignment_read o line r gives own = λ told e. no_reads told (assignment place old line) old r gives own (λ new h. same_reads old new (assignment place old line) (assignment_keeps place old line) h)

  pub rule_read : (o : Told → Type 0) (line : RuleLine) (r : Result State ReadFault) → Gives (λ (s : State). s) r (rule default place old line) → IfErr r IsOfText → IfFits o (λ told. Follows told (λ reader. plain_line reader (below levels reader) default place old (Rule line)) old r)
  rule_read o line r gives own = λ told e. no_reads told (rule default place old line) old r gives own (λ new h. same_reads old new (rule default place old line) (rule_keeps default place old line) h)

-- include lines
module _ (place : Place) (old : State) (line : IncludeLine) where
  named_at : (less : ℕ) (reader : Reader) (r : Result (List (List ℕ)) ReadFault) → (r >>= λ names. cond (is_empty names) (Err (IncludeEmpty place)) (files reader (read_below less reader) place line.optional names (parted old)))
      ≡ ((r >>= λ names. cond (is_empty names) (Err (IncludeEmpty place)) (Ok names)) >>= λ names. files reader (read_below less reader) place line.optional names (parted old))
  named_at less reader (Err fault) = refl
  named_at less reader (Ok names) = at (is_empty names)
    where
      at : (b : Bool) → cond b (Err (IncludeEmpty place)) (files reader (read_below less reader) place line.optional names (parted old)) ≡ (cond b (Err (IncludeEmpty place)) (Ok names) >>= λ ns. files reader (read_below less reader) place line.optional ns (parted old))
      at true = refl
      at false = refl

  at_include : (levels : ℕ) (reader : Reader) → include reader (below levels reader) place old line ≡ (include_names levels place old.table line.names >>= λ names. files reader (read_below (levels - 1) reader) place line.optional names (parted old))
  at_include zero reader = refl
  at_include (suc less) reader =
      let one : suc less - 1 ≡ less = omega arith in
      rw (eqb-suc-zero less, one) (named_at less reader (names_in place old.table line.names))

  pub include_fails : (levels : ℕ) (o : Told → Type 0) (fault : ReadFault) → Fails fault (include_names levels place old.table line.names) → IsOfText fault → IfFits o (λ told. Follows told (λ reader. include reader (below levels reader) place old line) old (Err fault))
  include_fails levels o fault fails own = λ told e. text_fault told (λ reader. include reader (below levels reader) place old line) old fault
      (subst (λ (d : Result State ReadFault). Fails fault d) (sym (at_include levels (reader_of told None)))
      (then_fails (include_names levels place old.table line.names)
      (λ names. files (reader_of told None) (read_below (levels - 1) (reader_of told None)) place
      line.optional names (parted old)) fault fails)) own

  pub include_read : (levels : ℕ) (o : Told → Type 0) (names : List (List ℕ)) (r : Result State ReadFault) → include_names levels place old.table line.names ≡ Ok names
      → IfFits o (λ told. Follows told (λ reader. files reader (read_below (levels - 1) reader) place line.optional names (parted old)) (parted old) r) → IfFits o (λ told. Follows told (λ reader. include reader (below levels reader) place old line) old r)
  include_read levels o names r is went = λ told e. ends told (λ reader. include reader (below levels reader) place old line) (λ reader. files reader (read_below (levels - 1) reader) place line.optional names (parted old)) old (parted old) r
      (omega arith, λ failing later. at_include levels (reader_of told failing) ∙ then_ok (include_names levels place old.table line.names) (λ ns. files (reader_of told failing) (read_below (levels - 1) (reader_of told failing)) place line.optional ns (parted old)) names is)
      (went told e)

-- a file that an include line names
module _ (levels : ℕ) (place : Place) (optional : Bool) (old : State) (name : List ℕ) where
  abbrev whole_file : Reader → Result State ReadFault
  whole_file reader = one_file reader (read_below levels reader) place optional old name

  pub file_full : (o : Told → Type 0) (fault : ReadFault) → nat_le 1024 (length old.texts) ≡ true → IsTooMany place fault → IsOfText fault → IfFits o (λ told. Follows told (λ reader. one_file reader (read_below levels reader) place optional old name) old (Err fault))
  file_full o fault full (inl memory) own = λ told e. text_fault told whole_file old fault (inl memory) own
  file_full o fault full (inr is) own = λ told e. text_fault told whole_file old fault (inr (too_many told (λ reader. read_below levels reader) place optional old name (reader_of told None) full ∙ ap (λ (f : ReadFault). Err f) (sym is))) own

  pub file_unread : (o : Told → Type 0) (fault : ReadFault) → nat_le 1024 (length old.texts) ≡ false → (fault ≡ Memory) ⊎ (fault ≡ ReadFailed (Some place) name) → IfFits o (λ told. Follows told (λ reader. one_file reader (read_below levels reader) place optional old name) old (Err fault))
  file_unread o fault room (inl is) = λ told e. subst (λ (f : ReadFault). Follows told whole_file old (Err f)) (sym is) (memory_follows told whole_file old)
  file_unread o fault room (inr is) = λ told e. subst (λ (f : ReadFault). Follows told whole_file old (Err f)) (sym is) (suc (reads old), omega arith, read_fails told (λ reader. read_below levels reader) place optional old name room)

  pub file_found : (o o' : Told → Type 0) (text : List ℕ) (r : Result State ReadFault) → nat_le 1024 (length old.texts) ≡ false → Keeps o o' → IfFits o (λ told. Some text ≡ text_at told name)
      → IfFits o' (λ told. Follows told (λ reader. found_after (read_below levels reader) name text (text_more old name)) (text_more old name) r) → IfFits o' (λ told. Follows told (λ reader. one_file reader (read_below levels reader) place optional old name) old r)
  file_found o o' text r room keeps is went = λ told e. is_found told (λ reader. read_below levels reader) place optional old name room text (sym (is told (keeps told e))) r
      (went told e)

  pub file_missing : (o : Told → Type 0) (r : Result State ReadFault) → nat_le 1024 (length old.texts) ≡ false → IfFits o (λ told. None ≡ text_at told name) → Gives (λ (s : State). s) r (not_found place optional old name) → IfErr r IsOfText
      → IfFits o (λ told. Follows told (λ reader. one_file reader (read_below levels reader) place optional old name) old r)
  file_missing o r room is gives own = λ told e. is_missing told (λ reader. read_below levels reader) place optional old name room (sym (is told e)) r gives own

-- the text of such a file
module _ (levels : ℕ) (name text : List ℕ) (old : State) where
  abbrev its_text : Text
  its_text = record { file = name; default = false }

  pub reading_is : (n : ℕ) (reader : Reader) → reading n reader name text old ≡ with_text reader (below n reader) its_text text old
  unfolding reading
  reading_is zero reader = refl
  reading_is (suc n) reader = refl

  pub found_fails : (o : Told → Type 0) (fault : ReadFault) → IfFits o (λ told. Follows told (λ reader. with_text reader (below levels reader) (record { file = name; default = false }) text old) old (Err fault))
      → IfFits o (λ told. Follows told (λ reader. found_after (read_below levels reader) name text old) old (Err fault))
  found_fails o fault went = λ told e. stops told (λ reader. found_after (read_below levels reader) name text old) (λ reader. with_text reader (below levels reader) its_text text old) (λ reader after. Ok (parted after)) old old fault
      (omega arith, λ failing later. ap (λ (r : Result State ReadFault). r >>= λ after. Ok (parted after)) (reading_is levels (reader_of told failing)))
      (went told e)

  pub found_read : (o : Told → Type 0) (mid : State) → IfFits o (λ told. Follows told (λ reader. with_text reader (below levels reader) (record { file = name; default = false }) text old) old (Ok mid))
      → IfFits o (λ told. Follows told (λ reader. found_after (read_below levels reader) name text old) old (Ok (parted mid)))
  found_read o mid went = λ told e. ends told (λ reader. found_after (read_below levels reader) name text old) (λ reader. Ok (parted mid)) old mid (Ok (parted mid))
      (steps told (λ reader. found_after (read_below levels reader) name text old) (λ reader. with_text reader (below levels reader) its_text text old) (λ reader after. Ok (parted after)) old old mid
      (omega arith, λ failing later. ap (λ (r : Result State ReadFault). r >>= λ after. Ok (parted after)) (reading_is levels (reader_of told failing)))
      (went told e))
      (omega arith, λ failing later. refl)
