-- What stands before a reader of tokens, a turn at a time.
use Rattle.std.proofs.Common.{◌≡◌, ℕ, zero, suc, ◌-◌, ◌<◌, List, [], ◌∷◌, ◌++◌, length, Option, Some, None, option_map, true≢false, refl, sym, ap, ◌∙◌, arith}
use Rattle.std.specs.Prelude.{⊤, Bool, Result, Ok, Err, IsErr}
use Rattle.json.specs.Token.{Token}
use Rattle.json.specs.Json as json
use Rattle.json.specs.Json.{parse_map, after_end_array, read_key}
use Rattle.json.specs.Lex.{tokens}
use Rattle.json.specs.declared.reader.Invalid.{Invalid}
use Rattle.json.proofs.Grammar.{left, value_is, value-begin_array, value-begin_object, skip_value-shorter, read_key-shorter}
use Rattle.serde_json.specs.Data.{Num, Data, null, boolean, number, string, array, object, Items, no_items, item, Members, no_members, put}
use Rattle.serde_json.specs.Read.{of_json, converted, number_of}
use Rattle.serde_json.specs.View.{items_of}
use Rattle.mk_json.proofs.Converted.{converted_some, converted-array, converted-object, item_read, item_refused, items_over, member_read, member_refused, key_refused, members_over, mapped, whole_read, whole_and_more, whole_refused}
use Rattle.mk_json.specs.Laws.{ItemsAreReadInOrder, MembersAreReadInOrder, WholeText}
use Rattle.mk_json.specs.Tokens.{next_value, next_items, next_members, Reads, ReadsItems, ReadsMembers, EntersArray, EntersObject, items_before, ItemsRead, MembersRead}

-- a value takes at least one token
pub shorter : (depth : ℕ) (ts r : List Token) (d : Data) → next_value depth ts ≡ Some (d, r) → length r < length ts
shorter depth ts r d e =
    let j = converted_some of_json (json.value depth ts) d r e in
    skip_value-shorter depth ts r (ap left j.1)

-- ---- the values of an array

before_none : (ds : List Data) → items_before ds no_items ≡ items_of ds
before_none [] = refl
before_none (d ∷ ds) = ap (item d) (before_none ds)

before_more : (ds : List Data) (d : Data) (rest : Items) → items_before ds (item d rest) ≡ items_before (ds ++ d ∷ []) rest
before_more [] d rest = refl
before_more (x ∷ ds) d rest = ap (item x) (before_more ds d rest)

one_more : (ds : List Data) (d : Data) (r : Option (Items × List Token)) → parse_map (items_before ds) (parse_map (item d) r) ≡ parse_map (items_before (ds ++ d ∷ [])) r
one_more ds d None = refl
one_more ds d (Some p) = ap (λ (es : Items). Some (es, p.1)) (before_more ds d p.0)

none_before : (r : Option (Items × List Token)) → r ≡ parse_map (items_before []) r
none_before None = refl
none_before (Some p) = refl

pub items_begin : (depth : ℕ) (ts : List Token) → ItemsRead depth ts [] ts
items_begin depth ts = (length ts, omega arith, none_before (next_items depth ts))

pub items_next : (depth : ℕ) (old : List Token) (ds : List Data) (ts r : List Token) (d : Data) → ItemsRead depth old ds ts → after_end_array ts ≡ None → next_value depth ts ≡ Some (d, r)
    → ItemsRead depth old (ds ++ d ∷ []) r
items_next depth old ds ts r d so_far going e =
    let n = so_far.0 in
    let less = shorter depth ts r d e in
    let turn = item_read (json.value depth) n ts r d (omega (arith, so_far.1)) going e in
    (n - 1, omega (arith, so_far.1), so_far.2 ∙ ap (parse_map (items_before ds)) turn ∙ one_more ds d _)

pub items_end : (depth : ℕ) (old : List Token) (ds : List Data) (ts r : List Token) → ItemsRead depth old ds ts → after_end_array ts ≡ Some r → next_items depth old ≡ Some (items_of ds, r)
items_end depth old ds ts r so_far closed =
    so_far.2 ∙ ap (parse_map (items_before ds)) (items_over (json.value depth) so_far.0 ts r so_far.1 closed) ∙ ap (λ (es : Items). Some (es, r)) (before_none ds)

pub items_fail : (depth : ℕ) (old : List Token) (ds : List Data) (ts : List Token) → ItemsRead depth old ds ts → after_end_array ts ≡ None → next_value depth ts ≡ None → next_items depth old ≡ None
items_fail depth old ds ts so_far going none =
    so_far.2 ∙ ap (parse_map (items_before ds)) (item_refused (json.value depth) so_far.0 ts going none)

-- ---- the members of an object

pub members_begin : (depth : ℕ) (ts : List Token) → MembersRead depth ts no_members ts
members_begin depth ts = (length ts, omega arith, refl)

pub members_next : (depth : ℕ) (old : List Token) (ms : Members) (k : List ℕ) (d : Data) (ts s r : List Token) → MembersRead depth old ms ts → read_key ts ≡ Some (Some k, s) → next_value depth s ≡ Some (d, r)
    → MembersRead depth old (put k d ms) r
members_next depth old ms k d ts s r so_far named e =
    let n = so_far.0 in
    let less = read_key-shorter ts (Some k) s named in
    let lesser = shorter depth s r d e in
    (n - 1, omega (arith, so_far.1), so_far.2 ∙ member_read (json.value depth) ms n k ts s r d (omega (arith, so_far.1)) named e)

pub members_end : (depth : ℕ) (old : List Token) (ms : Members) (ts r : List Token) → MembersRead depth old ms ts → read_key ts ≡ Some (None, r) → next_members depth old ≡ Some (ms, r)
members_end depth old ms ts r so_far closed = so_far.2 ∙ members_over (json.value depth) ms so_far.0 ts r so_far.1 closed

pub members_fail : (depth : ℕ) (old : List Token) (ms : Members) (k : List ℕ) (ts s : List Token) → MembersRead depth old ms ts → read_key ts ≡ Some (Some k, s) → next_value depth s ≡ None → next_members depth old ≡ None
members_fail depth old ms k ts s so_far named none = so_far.2 ∙ member_refused (json.value depth) ms so_far.0 k ts s named none

pub key_fails : (depth : ℕ) (old : List Token) (ms : Members) (ts : List Token) → MembersRead depth old ms ts → read_key ts ≡ None → next_members depth old ≡ None
key_fails depth old ms ts so_far none = so_far.2 ∙ key_refused (json.value depth) ms so_far.0 ts none

-- ---- a value by its first token

pub array_begun : (depth : ℕ) (ts : List Token) → 0 < depth → next_value depth (Token.begin_array ∷ ts) ≡ parse_map array (next_items (depth - 1) ts)
array_begun depth ts some = ap (converted of_json) (value-begin_array depth ts some) ∙ converted-array (json.items (json.value (depth - 1)) (length ts) ts)

pub object_begun : (depth : ℕ) (ts : List Token) → 0 < depth → next_value depth (Token.begin_object ∷ ts) ≡ parse_map object (next_members (depth - 1) ts)
object_begun depth ts some = ap (converted of_json) (value-begin_object depth ts some) ∙ converted-object (json.members (json.value (depth - 1)) (length ts) ts)

pub not_deeper_array : (ts : List Token) → next_value 0 (Token.begin_array ∷ ts) ≡ None
not_deeper_array ts = ap (converted of_json) (value_is 0 (Token.begin_array ∷ ts))

pub not_deeper_object : (ts : List Token) → next_value 0 (Token.begin_object ∷ ts) ≡ None
not_deeper_object ts = ap (converted of_json) (value_is 0 (Token.begin_object ∷ ts))

pub string_first : (depth : ℕ) (s : List ℕ) (ts : List Token) → next_value depth (Token.string s ∷ ts) ≡ Some (string s, ts)
string_first depth s ts = ap (converted of_json) (value_is depth (Token.string s ∷ ts))

pub boolean_first : (depth : ℕ) (b : Bool) (ts : List Token) → next_value depth (Token.boolean b ∷ ts) ≡ Some (boolean b, ts)
boolean_first depth b ts = ap (converted of_json) (value_is depth (Token.boolean b ∷ ts))

pub null_first : (depth : ℕ) (ts : List Token) → next_value depth (Token.null ∷ ts) ≡ Some (null, ts)
null_first depth ts = ap (converted of_json) (value_is depth (Token.null ∷ ts))

number_before : (ts : List Token) (o : Option Num) → option_map {U = Data × List Token} (λ (b : Data). (b, ts)) (option_map number o) ≡ option_map (λ (n : Num). (number n, ts)) o
number_before ts None = refl
number_before ts (Some n) = refl

pub number_first : (depth : ℕ) (s : List ℕ) (ts : List Token) → next_value depth (Token.number s ∷ ts) ≡ option_map (λ (n : Num). (number n, ts)) (number_of s)
number_first depth s ts = ap (converted of_json) (value_is depth (Token.number s ∷ ts)) ∙ number_before ts (number_of s)

-- tokens that begin no value
pub no_value_first : (depth : ℕ) (ts : List Token) →
    (next_value depth [] ≡ None) × (next_value depth (Token.end_object ∷ ts) ≡ None) × (next_value depth (Token.end_array ∷ ts) ≡ None)
    × ((s : List ℕ) → next_value depth (Token.key s ∷ ts) ≡ None) × (next_value depth (Token.bad ∷ ts) ≡ None)
no_value_first depth ts = (
  ap (converted of_json) (value_is depth []),
  ap (converted of_json) (value_is depth (Token.end_object ∷ ts)),
  ap (converted of_json) (value_is depth (Token.end_array ∷ ts)),
  (λ s. ap (converted of_json) (value_is depth (Token.key s ∷ ts))),
  ap (converted of_json) (value_is depth (Token.bad ∷ ts)),
)

-- ---- a refusal

pub refused : {A : Type 0} (Told : A → Data → Type 0) (depth : ℕ) (old new : List Token) (r : Result A Invalid) → IsErr r → next_value depth old ≡ None → Reads Told depth old r new
refused Told depth old new (Ok x) e none = absurd (true≢false (sym e))
refused Told depth old new (Err x) e none = none

pub refused_items : {A : Type 0} (Told : A → List Data → Type 0) (depth : ℕ) (old new : List Token) (r : Result A Invalid) → IsErr r → next_items depth old ≡ None → ReadsItems Told depth old r new
refused_items Told depth old new (Ok x) e none = absurd (true≢false (sym e))
refused_items Told depth old new (Err x) e none = none

pub refused_members : {A : Type 0} (Told : A → Members → Type 0) (depth : ℕ) (old new : List Token) (r : Result A Invalid) → IsErr r → next_members depth old ≡ None → ReadsMembers Told depth old r new
refused_members Told depth old new (Ok x) e none = absurd (true≢false (sym e))
refused_members Told depth old new (Err x) e none = none

pub refused_array : (depth : ℕ) (old new : List Token) (r : Result Bool Invalid) → IsErr r → next_value depth old ≡ None → EntersArray depth old r new
refused_array depth old new (Ok x) e none = absurd (true≢false (sym e))
refused_array depth old new (Err x) e none = none

pub refused_object : (depth : ℕ) (old new : List Token) (r : Result Bool Invalid) → IsErr r → next_value depth old ≡ None → EntersObject depth old r new
refused_object depth old new (Ok x) e none = absurd (true≢false (sym e))
refused_object depth old new (Err x) e none = none

-- ---- an array or an object by what stands in it

pub array_read : {A : Type 0} (depth : ℕ) (ts new : List Token) (r : Result A Invalid) → 0 < depth → ReadsItems (λ (x : A) (ds : List Data). ⊤) (depth - 1) ts r new → Reads (λ (x : A) (d : Data). ⊤) depth (Token.begin_array ∷ ts) r new
array_read depth ts new (Ok x) some found = (array (items_of found.0), array_begun depth ts some ∙ ap (parse_map array) found.1, tt)
array_read depth ts new (Err x) some none = array_begun depth ts some ∙ ap (parse_map array) none

pub object_read : {A : Type 0} (depth : ℕ) (ts new : List Token) (r : Result A Invalid) → 0 < depth → ReadsMembers (λ (x : A) (ms : Members). ⊤) (depth - 1) ts r new → Reads (λ (x : A) (d : Data). ⊤) depth (Token.begin_object ∷ ts) r new
object_read depth ts new (Ok x) some found = (object found.0, object_begun depth ts some ∙ ap (parse_map object) found.1, tt)
object_read depth ts new (Err x) some none = object_begun depth ts some ∙ ap (parse_map object) none

-- ---- of which kind a value is

abbrev pub IsBegunBy : Token → Data → Type 0
IsBegunBy Token.begin_object d = (ms : Members) × (d ≡ object ms)
IsBegunBy Token.end_object d = ⊥
IsBegunBy Token.begin_array d = (ds : Items) × (d ≡ array ds)
IsBegunBy Token.end_array d = ⊥
IsBegunBy (Token.key s) d = ⊥
IsBegunBy (Token.string s) d = d ≡ string s
IsBegunBy (Token.number s) d = (n : Num) × (d ≡ number n)
IsBegunBy (Token.boolean b) d = d ≡ boolean b
IsBegunBy Token.null d = d ≡ null
IsBegunBy Token.bad d = ⊥

abbrev first : Data → Option (Data × List Token) → Data
first d None = d
first d (Some p) = p.0

same_value : (x d : Data) (ts r : List Token) (o : Option (Data × List Token)) → o ≡ Some (x, ts) → o ≡ Some (d, r) → d ≡ x
same_value x d ts r o e f = ap (first x) (sym f) ∙ ap (first x) e

is_number : (o : Option Num) (d : Data) (ts r : List Token) → option_map {U = Data × List Token} (λ (n : Num). (number n, ts)) o ≡ Some (d, r) → (n : Num) × (d ≡ number n)
is_number None d ts r e = absurd (cc)
is_number (Some n) d ts r e = (n, ap (first (number n)) (sym e))

none_there : {P : Type 0} (x : Option (Data × List Token)) (p : Data × List Token) → x ≡ None → x ≡ Some p → P
none_there x p none some = absurd (cc)

begun_array : (depth : ℕ) (ts r : List Token) (d : Data) → next_value depth (Token.begin_array ∷ ts) ≡ Some (d, r) → (ds : Items) × (d ≡ array ds)
begun_array zero ts r d e = none_there _ _ (not_deeper_array ts) e
begun_array (suc depth) ts r d e = mapped array (next_items (suc depth - 1) ts) d r (sym (array_begun (suc depth) ts (omega arith)) ∙ e)

begun_object : (depth : ℕ) (ts r : List Token) (d : Data) → next_value depth (Token.begin_object ∷ ts) ≡ Some (d, r) → (ms : Members) × (d ≡ object ms)
begun_object zero ts r d e = none_there _ _ (not_deeper_object ts) e
begun_object (suc depth) ts r d e = mapped object (next_members (suc depth - 1) ts) d r (sym (object_begun (suc depth) ts (omega arith)) ∙ e)

pub begun : (depth : ℕ) (t : Token) (ts r : List Token) (d : Data) → next_value depth (t ∷ ts) ≡ Some (d, r) → IsBegunBy t d
begun depth Token.begin_object ts r d e = begun_object depth ts r d e
begun depth Token.end_object ts r d e = none_there _ _ (no_value_first depth ts).1 e
begun depth Token.begin_array ts r d e = begun_array depth ts r d e
begun depth Token.end_array ts r d e = none_there _ _ (no_value_first depth ts).2 e
begun depth (Token.key s) ts r d e = none_there _ _ ((no_value_first depth ts).3 s) e
begun depth (Token.string s) ts r d e = same_value (string s) d ts r _ (string_first depth s ts) e
begun depth (Token.number s) ts r d e = is_number (number_of s) d ts r (sym (number_first depth s ts) ∙ e)
begun depth (Token.boolean b) ts r d e = same_value (boolean b) d ts r _ (boolean_first depth b ts) e
begun depth Token.null ts r d e = same_value null d ts r _ (null_first depth ts) e
begun depth Token.bad ts r d e = none_there _ _ (no_value_first depth ts).4 e

-- ---- laws

pub items_are_read_in_order : ItemsAreReadInOrder
items_are_read_in_order = record {
  begins = items_begin;
  goes_on = items_next;
  fails = items_fail;
  ends = items_end;
}

pub members_are_read_in_order : MembersAreReadInOrder
members_are_read_in_order = record {
  begins = members_begin;
  goes_on = members_next;
  has_no_key = key_fails;
  fails = members_fail;
  ends = members_end;
}

pub whole_text : WholeText
whole_text = record {
  whole = λ text value e. whole_read (json.value 127 (tokens text)) value e;
  more = λ text value token rest e. whole_and_more (json.value 127 (tokens text)) value token rest e;
  none = λ text e. whole_refused (json.value 127 (tokens text)) e;
}
