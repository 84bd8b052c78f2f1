-- The text of a certificate is read as its value.
use Rattle.std.proofs.Common.{◌≡◌, ℕ, ◌≤◌, Bool, true, false, List, [], ◌∷◌, ◌++◌, map, codes, decimal, IsUtf8, Option, Some, refl, sym, ap, ◌∙◌, arith, append-nil}
use Rattle.std.specs.Fmt.{digits}
use Rattle.std.specs.Prelude.{option_and_then}
use Rattle.std.specs.List.{list_all, flat_map}
use Rattle.std.specs.Str.{is_utf8}
use Rattle.std.proofs.lemmas.Bool.{and_parts}
use Rattle.std.proofs.lemmas.Str.{IsUtf8-append, IsUtf8-nil, IsUtf8-from_is_utf8, is_utf8-from_IsUtf8}
use Rattle.json.specs.Json as json
use Rattle.json.specs.Lex.{tokens}
use Rattle.json.specs.Token.{Token}
use Rattle.json.specs.Tree as tree
use Rattle.json.specs.Tree.{json_tokens, HasNumbers, ItemsHaveNumbers}
use Rattle.json.proofs.Printed.Decimals.{IsNumber-decimal}
use Rattle.json.proofs.Printed.Tokens.{tokens-print}
use Rattle.json.proofs.Printed.Trees.{value-json_tokens, ArePrintable-json_tokens}
use Rattle.json.proofs.Printed.Utf8.{IsUtf8-are_ascii, IsUtf8-quoted}
use Rattle.mk_lines.specs.Paths.{is_plain_path}
use Rattle.serde_json.specs.Data.{Data, number, unsigned, string, array, object, Items, item, Members, no_members, member}
use Rattle.serde_json.specs.Read.{read, max_depth, of_json, of_items}
use Rattle.serde_json.specs.View.{items_of}
use Rattle.serde_json.specs.Written.{outline, items_outline, comma_if, compact_text, items_text, members_text}
use Rattle.serde_json.proofs.OnLiterals.{serde_json_on_literals}
use Rattle.serde_json.proofs.Texts.{print-outline}
use Rattle.mk_json.specs.Reading.{json_of}
use Rattle.mk_cert_text.specs.declared.certificate.Finish.{Finish}
use Rattle.mk_cert_text.specs.declared.certificate.Finish.TheVariants.{Written, Source, Always}
use Rattle.mk_cert_text.specs.Certificate.{Way, Certificate}
use Rattle.mk_cert_text.specs.Laws.{names_of_way, names_of, TextIsReadBack}
use Rattle.mk_cert_text.specs.Reading.{certificate_from}
use Rattle.mk_cert_text.specs.Words.{finish_word}
use Rattle.mk_cert_text.specs.Writing.{names_value, way_value, value_of}
use Rattle.mk_cert_text.proofs.ValueBack.{all_parts, value_is_read_back}

-- the value of the whole text
abbrev whole : Option (json.Json × List Token) → Option Data
whole o = option_and_then of_json (option_and_then (λ p. json.if_last p.0 p.1) o)

-- a value that is written as it is read
text_back : (d : Data) → HasNumbers (outline d) → tree.depth (outline d) ≤ max_depth → of_json (outline d) ≡ Some d → read (compact_text d) ≡ Some d
text_back d numbers shallow back =
    let same : tokens (compact_text d) ≡ json_tokens (outline d) = ap tokens (sym (print-outline d)) ∙ tokens-print (json_tokens (outline d)) (ArePrintable-json_tokens (outline d) numbers) in
    ap whole (ap (json.value max_depth) (same ∙ sym (append-nil (json_tokens (outline d)))) ∙ value-json_tokens (outline d) max_depth [] shallow) ∙ back

-- its numbers
names_numbers : (names : List (List ℕ)) → ItemsHaveNumbers (items_outline (items_of (map string names)))
names_numbers [] = tt
names_numbers (name ∷ names) = (tt, names_numbers names)

pub ways_numbers : (ways : List Way) → ItemsHaveNumbers (items_outline (items_of (map way_value ways)))
ways_numbers [] = tt
ways_numbers (way ∷ ways) = ((tt, (tt, (names_numbers way.path, (tt, tt)))), ways_numbers ways)

-- its depth
names_depth : (names : List (List ℕ)) → tree.items_depth (items_outline (items_of (map string names))) ≤ 0
names_depth [] = omega arith
names_depth (name ∷ names) = omega (arith, names_depth names)

ways_depth : (ways : List Way) → tree.items_depth (items_outline (items_of (map way_value ways))) ≤ 2
ways_depth [] = omega arith
ways_depth (way ∷ ways) = omega (arith, names_depth way.path, ways_depth ways)

-- its data
names_data : (names : List (List ℕ)) → of_items (items_outline (items_of (map string names))) ≡ Some (items_of (map string names))
names_data [] = refl
names_data (name ∷ names) = rw (names_data names) refl

way_data : (way : Way) → of_json (outline (way_value way)) ≡ Some (way_value way)
way_data way = rw (names_data way.path) refl

ways_data : (ways : List Way) → of_items (items_outline (items_of (map way_value ways))) ≡ Some (items_of (map way_value ways))
ways_data [] = refl
ways_data (way ∷ ways) = rw (way_data way, ways_data ways) refl

one_data : of_json (outline (number (unsigned 1))) ≡ Some (number (unsigned 1))
unfolding serde_json_on_literals digits
one_data = refl

certificate_data : (c : Certificate) → of_json (outline (value_of c)) ≡ Some (value_of c)
certificate_data c = rw (one_data, names_data c.goals, ways_data c.ways) refl

value_back : (c : Certificate) → read (compact_text (value_of c)) ≡ Some (value_of c)
value_back c =
    text_back (value_of c) (IsNumber-decimal 1 (omega arith), (names_numbers c.goals, (ways_numbers c.ways, tt)))
    (omega (arith, names_depth c.goals, ways_depth c.ways)) (certificate_data c)

-- ---- it is UTF-8

plain_utf8 : (name : List ℕ) → is_plain_path name ≡ true → IsUtf8 name
unfolding is_plain_path
plain_utf8 name plain = IsUtf8-from_is_utf8 name (and_parts _ _ plain).1

comma_utf8 : (later : Bool) → IsUtf8 (comma_if later)
comma_utf8 true = IsUtf8-are_ascii (44 ∷ []) refl
comma_utf8 false = IsUtf8-nil

item_utf8 : (later : Bool) (d : Data) (ds : Items) → IsUtf8 (compact_text d) → IsUtf8 (items_text true ds) → IsUtf8 (items_text later (item d ds))
item_utf8 later d ds text rest = IsUtf8-append (comma_if later) (compact_text d ++ items_text true ds) (comma_utf8 later) (IsUtf8-append (compact_text d) (items_text true ds) text rest)

array_utf8 : (ds : Items) → IsUtf8 (items_text false ds) → IsUtf8 (compact_text (array ds))
array_utf8 ds text = IsUtf8-append (91 ∷ []) (items_text false ds) (IsUtf8-are_ascii (91 ∷ []) refl) text

member_utf8 : (later : Bool) (key : List ℕ) (d : Data) (ms : Members) → IsUtf8 key → IsUtf8 (compact_text d) → IsUtf8 (members_text true ms) → IsUtf8 (members_text later (member key d ms))
member_utf8 later key d ms name text rest =
    let value = IsUtf8-append (58 ∷ []) (compact_text d ++ members_text true ms) (IsUtf8-are_ascii (58 ∷ []) refl) (IsUtf8-append (compact_text d) (members_text true ms) text rest) in
    IsUtf8-append (comma_if later) _ (comma_utf8 later) (IsUtf8-append _ _ (IsUtf8-quoted key name) value)

object_utf8 : (ms : Members) → IsUtf8 (members_text false ms) → IsUtf8 (compact_text (object ms))
object_utf8 ms text = IsUtf8-append (123 ∷ []) (members_text false ms) (IsUtf8-are_ascii (123 ∷ []) refl) text

none_utf8 : IsUtf8 (members_text true no_members)
none_utf8 = IsUtf8-are_ascii (125 ∷ []) refl

names_utf8 : (later : Bool) (names : List (List ℕ)) → list_all is_plain_path names ≡ true → IsUtf8 (items_text later (items_of (map string names)))
names_utf8 later [] plain = IsUtf8-are_ascii (93 ∷ []) refl
names_utf8 later (name ∷ names) plain =
    let p = and_parts (is_plain_path name) (list_all is_plain_path names) plain in
    item_utf8 later (string name) (items_of (map string names)) (IsUtf8-quoted name (plain_utf8 name p.0)) (names_utf8 true names p.1)

word_utf8 : (finish : Finish) → IsUtf8 (finish_word finish)
word_utf8 Written = IsUtf8-are_ascii (codes "written") refl
word_utf8 Source = IsUtf8-are_ascii (codes "source") refl
word_utf8 Always = IsUtf8-are_ascii (codes "always") refl

way_utf8 : (way : Way) → list_all is_plain_path (names_of_way way) ≡ true → IsUtf8 (compact_text (way_value way))
way_utf8 way plain =
    let recipe = and_parts (is_plain_path way.recipe) (list_all is_plain_path (way.file ∷ way.path)) plain in
    let file = and_parts (is_plain_path way.file) (list_all is_plain_path way.path) recipe.1 in
    let last = member (codes "recipe") (string way.recipe) no_members in
    let third = member (codes "path") (names_value way.path) last in
    let second = member (codes "file") (string way.file) third in
    object_utf8 (member (codes "end") (string (finish_word way.finish)) second)
    (member_utf8 false (codes "end") (string (finish_word way.finish)) second (IsUtf8-are_ascii (codes "end") refl) (IsUtf8-quoted (finish_word way.finish) (word_utf8 way.finish))
    (member_utf8 true (codes "file") (string way.file) third (IsUtf8-are_ascii (codes "file") refl) (IsUtf8-quoted way.file (plain_utf8 way.file file.0))
    (member_utf8 true (codes "path") (names_value way.path) last (IsUtf8-are_ascii (codes "path") refl) (array_utf8 (items_of (map string way.path)) (names_utf8 false way.path file.1))
    (member_utf8 true (codes "recipe") (string way.recipe) no_members (IsUtf8-are_ascii (codes "recipe") refl) (IsUtf8-quoted way.recipe (plain_utf8 way.recipe recipe.0)) none_utf8))))

ways_utf8 : (later : Bool) (ways : List Way) → list_all is_plain_path (flat_map names_of_way ways) ≡ true → IsUtf8 (items_text later (items_of (map way_value ways)))
ways_utf8 later [] plain = IsUtf8-are_ascii (93 ∷ []) refl
ways_utf8 later (way ∷ ways) plain =
    let p = all_parts is_plain_path (names_of_way way) (flat_map names_of_way ways) plain in
    item_utf8 later (way_value way) (items_of (map way_value ways)) (way_utf8 way p.0) (ways_utf8 true ways p.1)

one_utf8 : IsUtf8 (decimal 1)
unfolding digits
one_utf8 = IsUtf8-are_ascii (decimal 1) refl

certificate_utf8 : (c : Certificate) → list_all is_plain_path (names_of c) ≡ true → IsUtf8 (compact_text (value_of c))
certificate_utf8 c plain =
    let p = all_parts is_plain_path c.goals (flat_map names_of_way c.ways) plain in
    let last = member (codes "ways") (array (items_of (map way_value c.ways))) no_members in
    let second = member (codes "goals") (names_value c.goals) last in
    object_utf8 (member (codes "format") (number (unsigned 1)) second)
    (member_utf8 false (codes "format") (number (unsigned 1)) second (IsUtf8-are_ascii (codes "format") refl) one_utf8
    (member_utf8 true (codes "goals") (names_value c.goals) last (IsUtf8-are_ascii (codes "goals") refl) (array_utf8 (items_of (map string c.goals)) (names_utf8 false c.goals p.0))
    (member_utf8 true (codes "ways") (array (items_of (map way_value c.ways))) no_members (IsUtf8-are_ascii (codes "ways") refl) (array_utf8 (items_of (map way_value c.ways)) (ways_utf8 false c.ways p.1)) none_utf8)))

json_back : (c : Certificate) → list_all is_plain_path (names_of c) ≡ true → json_of (compact_text (value_of c)) ≡ Some (value_of c)
json_back c plain =
    let utf8 : is_utf8 (compact_text (value_of c)) ≡ true = is_utf8-from_IsUtf8 (compact_text (value_of c)) (certificate_utf8 c plain) in
    rw utf8 (value_back c)

pub text_is_read_back : TextIsReadBack
unfolding certificate_from
text_is_read_back c plain = rw (json_back c plain) (value_is_read_back c plain)
