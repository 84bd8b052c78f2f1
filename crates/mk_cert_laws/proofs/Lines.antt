-- A newline behind the text of a certificate changes nothing.
use Rattle.std.proofs.Common.{◌≡◌, ◌∙◌, ℕ, Bool, true, false, cond, ◌&&◌, List, [], ◌∷◌, ◌++◌, map, Option, None, Result, Ok, Err, refl, sym, ap, ap₂, arith, append_assoc, append-nil}
use Rattle.std.specs.Prelude.{ok_or, option_and_then}
use Rattle.std.specs.Str.{is_utf8}
use Rattle.std.proofs.lemmas.Bool.{cond-true}
use Rattle.std.proofs.lemmas.Str.{IsUtf8-append, IsUtf8-from_is_utf8, is_utf8-from_IsUtf8}
use Rattle.json.specs.Json as json
use Rattle.json.specs.Lex.{Lexeme, token, comma, colon, string_token, lex, between, fresh, punctuate, tokens}
use Rattle.json.specs.Print.{escape, quoted, token_text, begins, ends, print_from, print, IsPrintable, ArePrintable}
use Rattle.json.specs.Token.{Token, begin_object, end_object, begin_array, end_array, key, string, number, boolean, null, bad}
use Rattle.json.specs.Tree.{json_tokens, HasNumbers, ItemsHaveNumbers}
use Rattle.json.specs.Word.{ends_word, word}
use Rattle.json.proofs.Printed.Decimals.{IsNumber-decimal}
use Rattle.json.proofs.Printed.Numbers.{lex-number, in_word-ended}
use Rattle.json.proofs.Printed.Strings.{content-escape, lex-escape}
use Rattle.json.proofs.Printed.Trees.{ArePrintable-json_tokens}
use Rattle.json.proofs.Printed.Utf8.{IsUtf8-are_ascii}
use Rattle.serde_json.specs.Data as value
use Rattle.serde_json.specs.Data.{Data}
use Rattle.serde_json.specs.Read.{read, max_depth, of_json}
use Rattle.serde_json.specs.View.{items_of}
use Rattle.serde_json.specs.Written.{outline, items_outline, compact_text}
use Rattle.serde_json.proofs.Texts.{print-outline}
use Rattle.mk_cert_text.proofs.TextBack.{ways_numbers}
use Rattle.mk_json.specs.Reading.{json_of}
use Rattle.mk_cert_text.specs.declared.fault.CertTextFault.{CertTextFault}
use Rattle.mk_cert_text.specs.declared.fault.CertTextFault.TheVariants.{NotJson}
use Rattle.mk_cert_text.specs.Certificate.{Certificate}
use Rattle.mk_cert_text.specs.Laws.{TextIsReadBack}
use Rattle.mk_cert_text.specs.Reading.{certificate_in, certificate_from}
use Rattle.mk_cert_text.specs.Steps.{◌>>=◌}
use Rattle.mk_cert_text.specs.Writing.{value_of}
use Rattle.mk_cert_laws.specs.Laws.{LineIsReadBack}

-- ---- tokens, and what stands behind them

abbrev token_lexemes : Token → List Lexeme
token_lexemes begin_object = token begin_object ∷ []
token_lexemes end_object = token end_object ∷ []
token_lexemes begin_array = token begin_array ∷ []
token_lexemes end_array = token end_array ∷ []
token_lexemes (key s) = token (string s) ∷ colon ∷ []
token_lexemes (string s) = token (string s) ∷ []
token_lexemes (number s) = token (number s) ∷ []
token_lexemes (boolean b) = token (boolean b) ∷ []
token_lexemes null = token null ∷ []
token_lexemes bad = []

lex-quoted : (s r : List ℕ) → lex between (quoted s ++ r) ≡ token (string s) ∷ lex between r
unfolding lex
lex-quoted s r =
    let e = append_assoc (escape s) (34 ∷ []) r in
    ap (λ l. lex between (34 ∷ l)) e ∙ ap₂ (λ o l. token (string_token o) ∷ l) (content-escape s r) (lex-escape s r)

lex-token_text : (t : Token) (r : List ℕ) → IsPrintable t → (ends t ≡ true → ends_word r ≡ true) → lex between (token_text t ++ r) ≡ token_lexemes t ++ lex between r
unfolding lex word
lex-token_text begin_object r h ended = refl
lex-token_text end_object r h ended = refl
lex-token_text begin_array r h ended = refl
lex-token_text end_array r h ended = refl
lex-token_text (key s) r h ended = ap (lex between) (append_assoc (quoted s) (58 ∷ []) r) ∙ lex-quoted s (58 ∷ r)
lex-token_text (string s) r h ended = lex-quoted s r
lex-token_text (number s) r h ended = lex-number s r h (ended refl)
lex-token_text (boolean true) r h ended = ap₂ (λ b l. token (cond b (boolean true) bad) ∷ l) (ended refl) (in_word-ended r (ended refl))
lex-token_text (boolean false) r h ended = ap₂ (λ b l. token (cond b (boolean false) bad) ∷ l) (ended refl) (in_word-ended r (ended refl))
lex-token_text null r h ended = ap₂ (λ b l. token (cond b null bad) ∷ l) (ended refl) (in_word-ended r (ended refl))
lex-token_text bad r h ended = absurd h

lex-separator : (b : Bool) (r : List ℕ) → lex between (cond b (44 ∷ []) [] ++ r) ≡ cond b (comma ∷ []) [] ++ lex between r
unfolding lex
lex-separator true r = refl
lex-separator false r = refl

-- a value has an end, with a newline behind what follows and without
value_ends : (ts : List Token) (r : List ℕ) → ends_word r ≡ true → ends_word (print_from true ts ++ r) ≡ true
unfolding print_from
value_ends [] r e = e
value_ends (begin_object ∷ ts) r e = refl
value_ends (end_object ∷ ts) r e = refl
value_ends (begin_array ∷ ts) r e = refl
value_ends (end_array ∷ ts) r e = refl
value_ends (key s ∷ ts) r e = refl
value_ends (string s ∷ ts) r e = refl
value_ends (number s ∷ ts) r e = refl
value_ends (boolean b ∷ ts) r e = refl
value_ends (null ∷ ts) r e = refl
value_ends (bad ∷ ts) r e = refl

lex-before : (c : Bool) (t : Token) (ts : List Token) (r : List ℕ) → IsPrintable t → ends_word r ≡ true
    → lex between (print_from c (t ∷ ts) ++ r) ≡ cond (c && begins t) (comma ∷ []) [] ++ (token_lexemes t ++ lex between (print_from (ends t) ts ++ r))
unfolding print_from
lex-before c t ts r h e =
    let rest = print_from (ends t) ts in
    ap (lex between) (append_assoc (cond (c && begins t) (44 ∷ []) []) (token_text t ++ rest) r ∙ ap (λ l. cond (c && begins t) (44 ∷ []) [] ++ l) (append_assoc (token_text t) rest r))
    ∙ (lex-separator (c && begins t) (token_text t ++ (rest ++ r))
    ∙ ap (λ l. cond (c && begins t) (comma ∷ []) [] ++ l) (lex-token_text t (rest ++ r) h (λ ended. ap (λ b. ends_word (print_from b ts ++ r)) ended ∙ value_ends ts r e)))

lex-line : (c : Bool) (ts : List Token) → ArePrintable ts → lex between (print_from c ts ++ 10 ∷ []) ≡ lex between (print_from c ts ++ [])
unfolding lex print_from ArePrintable
lex-line c [] h = refl
lex-line c (t ∷ ts) h =
    lex-before c t ts (10 ∷ []) h.0 refl
    ∙ (ap (λ l. cond (c && begins t) (comma ∷ []) [] ++ (token_lexemes t ++ l)) (lex-line (ends t) ts h.1) ∙ sym (lex-before c t ts [] h.0 refl))

tokens-line : (ts : List Token) → ArePrintable ts → tokens (print ts ++ 10 ∷ []) ≡ tokens (print ts)
tokens-line ts h = ap (punctuate fresh) (lex-line false ts h) ∙ ap tokens (append-nil (print ts))

-- ---- a value

abbrev whole : Option (json.Json × List Token) → Option Data
whole o = option_and_then of_json (option_and_then (λ p. json.if_last p.0 p.1) o)

read-line : (d : Data) → HasNumbers (outline d) → read (compact_text d ++ 10 ∷ []) ≡ read (compact_text d)
read-line d numbers =
    let ts = json_tokens (outline d) in
    let text : List ℕ → List Token = λ (l : List ℕ). tokens (l ++ 10 ∷ []) in
    ap (λ (l : List Token). whole (json.value max_depth l))
    (ap text (sym (print-outline d)) ∙ (tokens-line ts (ArePrintable-json_tokens (outline d) numbers) ∙ ap tokens (print-outline d)))

names_numbers : (names : List (List ℕ)) → ItemsHaveNumbers (items_outline (items_of (map value.string names)))
names_numbers [] = tt
names_numbers (name ∷ names) = (tt, names_numbers names)

numbers : (c : Certificate) → HasNumbers (outline (value_of c))
numbers c = (IsNumber-decimal 1 (omega arith), (names_numbers c.goals, (ways_numbers c.ways, tt)))

-- ---- a certificate

abbrev read_as : Option Data → Result Certificate CertTextFault
read_as o = ok_or o NotJson >>= certificate_in

is_text : (bytes : List ℕ) (c : Certificate) → certificate_from bytes ≡ Ok c → is_utf8 bytes ≡ true
unfolding certificate_from
is_text bytes c e = by (is_utf8 bytes) refl
  where
    by : (b : Bool) → is_utf8 bytes ≡ b → is_utf8 bytes ≡ true
    by true is = is
    by false not_text =
        let none : certificate_from bytes ≡ Err NotJson = ap (λ (b : Bool). read_as (cond b (read bytes) None)) not_text in
        let never = sym none ∙ e in absurd cc

pub line_is_read_back : TextIsReadBack → LineIsReadBack
unfolding certificate_from
line_is_read_back back c plain =
    let text = compact_text (value_of c) in
    let utf8 = is_text text c (back c plain) in
    let line_utf8 : is_utf8 (text ++ 10 ∷ []) ≡ true = is_utf8-from_IsUtf8 (text ++ 10 ∷ []) (IsUtf8-append text (10 ∷ []) (IsUtf8-from_is_utf8 text utf8) (IsUtf8-are_ascii (10 ∷ []) refl)) in
    let json : json_of (text ++ 10 ∷ []) ≡ json_of text = cond-true (is_utf8 (text ++ 10 ∷ [])) (read (text ++ 10 ∷ [])) None line_utf8 ∙ (read-line (value_of c) (numbers c) ∙ sym (cond-true (is_utf8 text) (read text) None utf8)) in
    ap read_as json ∙ back c plain
