-- Lines `include NAME`.
use Rattle.std.proofs.Common.{◌≡◌, ◌≤◌, ℕ, Bool, true, false, not, cond, List, [], ◌∷◌, ◌++◌, codes, length, None, Result, Ok, Err, refl, sym, ap, ◌∙◌, arith, append-nil}
use Rattle.std.specs.Prelude.{◌&&◌, ◌==◌, nat_le, nat_lt, filter}
use Rattle.std.specs.List.{list_any, list_all, slice_split, onto_first}
use Rattle.std.specs.Str.{is_utf8}
use Rattle.std.proofs.lemmas.Bool.{and_parts, or_parts, or_from, both_ways, not-true, cond-true, cond-false, leb-true, ltb-true, eqb-true, ne_eqb, false_from_ne_true}
use Rattle.std.proofs.lemmas.List.Splits.{slice_split-cons_no}
use Rattle.mk_read.proofs.RuleBytes.{is_bracket-not_reserved, is_reserved-differ}
use Rattle.mk_lines.specs.Bytes.{is_byte, is_blank}
use Rattle.mk_lines.specs.Comments.{uncomment}
use Rattle.mk_lines.specs.Laws.{NothingToUncomment}
use Rattle.mk_lines.specs.Paths.{is_visible, is_plain_path, are_components, has_path_shape}
use Rattle.mk_lines.specs.Words.{is_word, words}
use Rattle.mk_macros.specs.declared.fault.MacroFault.{MacroFault}
use Rattle.mk_macros.specs.Expansion.{Expanded, expansion}
use Rattle.mk_macros.specs.Laws.{PlainTextsStay}
use Rattle.mk_macros.specs.Table.{Macro}
use Rattle.mk_read.specs.declared.fault.Place.{Place}
use Rattle.mk_read.specs.declared.fault.ReadFault.{ReadFault}
use Rattle.mk_read.specs.declared.fault.ReadFault.TheVariants.{ArchiveMember, BadName}
use Rattle.mk_read.specs.IncludeLaws.{SpelledLinesIncludeTheirFile}
use Rattle.mk_read.specs.Kinds.{Comment, Include, include_line, by_word, kind_of}
use Rattle.mk_read.specs.Names.{is_reserved, is_make_name, is_bracket, name_of, names_of, names_in}
use Rattle.mk_read.specs.Steps.{◌>>=◌, at_place}

-- what no byte of a make name is
abbrev Lacks : (ℕ → Bool) → List ℕ → Type 0
Lacks test name = list_any test name ≡ false

-- a test that only reserved bytes pass
lacks : (test : ℕ → Bool) → ((b : ℕ) → is_reserved b ≡ false → test b ≡ false) → (name : List ℕ) → Lacks is_reserved name → Lacks test name
lacks test least [] none = refl
lacks test least (b ∷ name) none =
    let parts = or_parts (is_reserved b) (list_any is_reserved name) none in
    or_from (test b) (list_any test name) (least b parts.0) (lacks test least name parts.1)

-- a visible byte is no blank
visible : (b : ℕ) → is_visible b ≡ true → is_blank b ≡ false
visible b seen = or_from (b == 32) (b == 9) (at 32 refl) (at 9 refl)
  where
    at : (c : ℕ) → is_visible c ≡ false → (b == c) ≡ false
    at c unseen = false_from_ne_true (b == c) (λ t. both_ways (is_visible b) (ap is_visible (eqb-true b c t) ∙ unseen) seen)

one_part : (name : List ℕ) → list_all is_visible name ≡ true → slice_split is_blank name ≡ name ∷ []
one_part [] seen = refl
one_part (b ∷ name) seen =
    let parts = and_parts (is_visible b) (list_all is_visible name) seen in
    slice_split-cons_no is_blank b name (visible b parts.0) ∙ ap (onto_first b) (one_part name parts.1)

-- a make name
record IsMakeName (name : List ℕ) : Type 0 where
  some : length name ≡ 0 → ⊥
  short : length name ≤ 4096
  seen : list_all is_visible name ≡ true
  clean : Lacks is_reserved name

make_name : (name : List ℕ) → is_make_name name ≡ true → IsMakeName name
unfolding is_make_name is_plain_path
make_name name is =
    let both = and_parts (is_plain_path name) (not (list_any is_reserved name)) is in
    let shape = (and_parts (has_path_shape name) (is_utf8 name) both.0).0 in
    let one = and_parts (nat_lt 0 (length name)) (nat_le (length name) 4096 && (list_all is_visible name && are_components (slice_split (is_byte 47) name))) shape in
    let two = and_parts (nat_le (length name) 4096) (list_all is_visible name && are_components (slice_split (is_byte 47) name)) one.1 in
    let three = and_parts (list_all is_visible name) (are_components (slice_split (is_byte 47) name)) two.1 in
    record { some = λ e. omega (arith, ltb-true 0 (length name) one.0, e); short = leb-true (length name) 4096 two.0; seen = three.0; clean = not-true (list_any is_reserved name) both.1 }

not_nothing : (text : List ℕ) → (length text ≡ 0 → ⊥) → (length text == 0) ≡ false
not_nothing text some = ne_eqb (length text) 0 some

kind_is : (name : List ℕ) → kind_of (codes "include " ++ name) ≡ Ok (Include (record { optional = false; names = name }))
unfolding kind_of
kind_is name =
    let whole = codes "include " ++ name in
    cond-false (length whole == 0) (Ok Comment) (by_word whole (include_line whole)) (not_nothing whole (λ e. omega (arith, e)))

-- the name is all that the line names
names_are : PlainTextsStay → (place : Place) (table : List Macro) (name : List ℕ) → IsMakeName name → is_make_name name ≡ true → names_in place table name ≡ Ok (name ∷ [])
unfolding names_of name_of
names_are stay place table name good is =
    let no_dollar : Lacks (is_byte 36) name = lacks (is_byte 36) (λ b none. is_reserved-differ b 36 refl none) name good.clean in
    let stays : expansion table None name ≡ Ok (record { text = name; references = 0; varying = false }) = stay 256 _ [] 0 name no_dollar (omega (arith, good.short)) in
    let parts : words name ≡ name ∷ [] = ap (filter is_word) (one_part name good.seen) ∙ cond-true (is_word name) (name ∷ []) [] (ap not (not_nothing name good.some)) in
    let no_bracket : list_any is_bracket name ≡ false = lacks is_bracket is_bracket-not_reserved name good.clean in
    let one : name_of place name ≡ Ok name = cond-false (list_any is_bracket name) (Err (ArchiveMember place name)) (cond (is_make_name name) (Ok name) (Err (BadName place name))) no_bracket ∙ cond-true (is_make_name name) (Ok name) (Err (BadName place name)) is in
    ap (λ (r : Result Expanded MacroFault). at_place place r >>= λ (found : Expanded). names_of place (words found.text)) stays
    ∙ (ap (names_of place) parts ∙ ap (λ (r : Result (List ℕ) ReadFault). r >>= λ first. Ok (first ∷ [])) one)

pub spelled_lines_include_their_file : NothingToUncomment → PlainTextsStay → SpelledLinesIncludeTheirFile
spelled_lines_include_their_file nothing stay reader text line name lines state plain spelled is holds =
    let good = make_name name is in
    let no_hash : Lacks (is_byte 35) name = lacks (is_byte 35) (λ b none. is_reserved-differ b 35 refl none) name good.clean in
    record {
      include = record { optional = false; names = name };
      plain = plain;
      kind = ap (λ t. kind_of (uncomment t)) spelled ∙ (ap kind_of (nothing (codes "include " ++ name) no_hash) ∙ kind_is name);
      names = name ∷ [];
      expands = names_are stay (record { file = text.file; line = line.first }) state.table name good is;
      files = (lines, [], holds, sym (append-nil lines), refl);
    }
