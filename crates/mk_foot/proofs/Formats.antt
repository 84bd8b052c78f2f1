-- The two formats agree.
use Rattle.std.proofs.Common.{◌≡◌, ℕ, true, List, [], ◌∷◌, map, Some, None, Result, Ok, Err, refl, sym, ap, ◌∙◌}
use Rattle.std.specs.List.{list_all}
use Rattle.std.proofs.lemmas.Slice.Eq.{bytes_eq-Decides}
use Rattle.serde_json.specs.Data.{Data, string}
use Rattle.serde_json.specs.Find.{as_str}
use Rattle.mk_json.proofs.Arrays.{elements-items_of}
use Rattle.mk_json.specs.Kinds as json
use Rattle.mk_lines.specs.Paths.{is_plain_path}
use Rattle.mk_foot.specs.declared.fault.FootFault.{FootFault}
use Rattle.mk_foot.specs.declared.key.Key.TheVariants as keys
use Rattle.mk_foot.specs.declared.format.Format.TheVariants.{One, Two}
use Rattle.mk_foot.specs.Book.{Book}
use Rattle.mk_foot.specs.Parts.{RawRecord, FootprintFile}
use Rattle.mk_foot.specs.Steps.{◌>>=◌, each, test_each}
use Rattle.mk_foot.specs.Names.{same_names}
use Rattle.mk_foot.specs.Fields.{texts_of, text_at, texts_at, elements_at, members_at, format_in}
use Rattle.mk_foot.specs.FootprintFile.{entry_in, shared_in, group_in, lists_in, first_format, second_format, footprints_in}
use Rattle.mk_foot.specs.Checks.{group_is_plain, names_are_plain, check_all, group_for}
use Rattle.mk_foot.specs.Reading.{book_in, book_of}
use Rattle.mk_foot.specs.Laws.{Values, plain_record, bare_record, plain_file, grouped_file, one_group, FormatsAgree}

-- a record reads as the same in both formats
same_entry : (v : Values) → entry_in One (plain_record v) ≡ entry_in Two (bare_record v)
unfolding entry_in shared_in text_at texts_at elements_at json.has_only json.texts_of json.each_some each
same_entry v = refl

same_entries : (vs : List Values) → each (entry_in One) (map plain_record vs) ≡ each (entry_in Two) (map bare_record vs)
unfolding each
same_entries [] = refl
same_entries (v ∷ vs) = ap2 (λ (e : Result RawRecord FootFault) (es : Result (List RawRecord) FootFault). e >>= λ y. es >>= λ ys. Ok (y ∷ ys)) (same_entry v) (same_entries vs)
  where
    ap2 : {A B C : Type 0} (f : A → B → C) {a b : A} {c d : B} → a ≡ b → c ≡ d → f a c ≡ f b d
    ap2 {A} {B} f {a} {b} {c} {d} e k = ap (λ (x : A). f x c) e ∙ ap (f b) k

-- names as JSON texts
texts_back : (names : List (List ℕ)) → json.each_some as_str (map string names) ≡ Some names
unfolding json.each_some
texts_back [] = refl
texts_back (name ∷ names) = rw (texts_back names) refl

same_self : (names : List (List ℕ)) → same_names names names ≡ true
same_self [] = refl
same_self (name ∷ names) = rw ((bytes_eq-Decides name name).1 refl) (same_self names)

-- the group, of these records
group_reads : (goals : List (List ℕ)) (vs : List Values) → group_in (one_group goals vs) ≡ (each (entry_in Two) (map bare_record vs) >>= λ es. Ok (record { goals = Some goals; records = es }))
unfolding group_in texts_at json.texts_of elements_at json.has_only
group_reads goals vs = rw (elements-items_of, texts_back, elements-items_of) refl

abbrev plain_parts : List (List ℕ) → List (List ℕ) → List RawRecord → FootprintFile
plain_parts fixed sources es = record { fixed = fixed; sources = sources; lists = []; groups = (record { goals = None; records = es }) ∷ [] }

abbrev grouped_parts : List (List ℕ) → List (List ℕ) → List (List ℕ) → List RawRecord → FootprintFile
grouped_parts goals fixed sources es = record { fixed = fixed; sources = sources; lists = []; groups = (record { goals = Some goals; records = es }) ∷ [] }

-- what is made of the parts
abbrev finish : List (List ℕ) → FootprintFile → Result Book FootFault
finish goals file = check_all file >>= λ _. group_for goals file.groups >>= λ group. Ok (book_of file group)

same_tests : (goals fixed sources : List (List ℕ)) (es : List RawRecord) → list_all is_plain_path goals ≡ true → check_all (plain_parts fixed sources es) ≡ check_all (grouped_parts goals fixed sources es)
unfolding check_all names_are_plain group_is_plain test_each
same_tests goals fixed sources es plain = rw plain refl

same_finish : (goals fixed sources : List (List ℕ)) (es : List RawRecord) → list_all is_plain_path goals ≡ true → finish goals (plain_parts fixed sources es) ≡ finish goals (grouped_parts goals fixed sources es)
same_finish goals fixed sources es plain = rw (same_tests goals fixed sources es plain, same_self goals) refl

-- the parts of both files
plain_reads : (fixed sources : Data) (vs : List Values) → footprints_in (plain_file fixed sources vs) ≡ (texts_of keys.Fixed fixed >>= λ f. texts_of keys.Sources sources >>= λ s. each (entry_in One) (map plain_record vs) >>= λ es. Ok (plain_parts f s es))
unfolding footprints_in format_in first_format texts_at elements_at json.has_only
plain_reads fixed sources vs = rw elements-items_of refl

grouped_reads : (goals : List (List ℕ)) (fixed sources : Data) (vs : List Values)
    → footprints_in (grouped_file goals fixed sources vs)
    ≡ (texts_of keys.Fixed fixed >>= λ f. texts_of keys.Sources sources >>= λ s.
    (group_in (one_group goals vs) >>= λ g. Ok (g ∷ [])) >>= λ gs. Ok
    (record { fixed = f; sources = s; lists = []; groups = gs }))
unfolding footprints_in format_in second_format texts_at elements_at members_at lists_in json.has_only each
grouped_reads goals fixed sources vs = refl

-- whatever the parts are
same_after : (goals : List (List ℕ)) (fixed sources : Result (List (List ℕ)) FootFault) (entries : Result (List RawRecord) FootFault) → list_all is_plain_path goals ≡ true
    → ((fixed >>= λ f. sources >>= λ s. entries >>= λ es. Ok (plain_parts f s es)) >>= finish goals)
    ≡ ((fixed >>= λ f. sources >>= λ s. ((entries >>= λ es. Ok (record { goals = Some goals; records = es })) >>= λ g. Ok (g ∷ [])) >>= λ gs. Ok (record { fixed = f; sources = s; lists = []; groups = gs })) >>= finish goals)
same_after goals (Err e) sources entries plain = refl
same_after goals (Ok f) (Err e) entries plain = refl
same_after goals (Ok f) (Ok s) (Err e) plain = refl
same_after goals (Ok f) (Ok s) (Ok es) plain = same_finish goals f s es plain

pub formats_agree : FormatsAgree
unfolding book_in
formats_agree goals fixed sources vs plain =
    ap (λ (r : Result FootprintFile FootFault). r >>= finish goals) (plain_reads fixed sources vs)
    ∙ (same_after goals (texts_of keys.Fixed fixed) (texts_of keys.Sources sources) (each (entry_in One) (map plain_record vs)) plain
    ∙ sym (ap (λ (r : Result FootprintFile FootFault). r >>= finish goals) (grouped_reads goals fixed sources vs ∙ rw (group_reads goals vs, ← same_entries vs) refl)))
