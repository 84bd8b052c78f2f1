-- The text of a no by its parts.
use Rattle.std.proofs.Common.{◌≡◌, ◌∙◌, ℕ, Bool, true, false, List, ◌∷◌, ◌++◌, codes, ap, sym, refl, append_assoc, drop, take, length}
use Rattle.std.specs.Prelude.{◌||◌, if◌then◌else◌}
use Rattle.std.specs.Option.{option_map}
use Rattle.std.specs.Fmt.{digits}
use Rattle.serde_json.specs.Data.{Data, null, string}
use Rattle.serde_json.specs.View.{items_of}
use Rattle.serde_json.specs.Written.{comma_if, compact_text, has_float, items_text}
use Rattle.serde_json.proofs.OnLiterals.{serde_json_on_literals}
use Rattle.mk_find.specs.declared.finding.Finding.{Finding}
use Rattle.mk_cert_text.proofs.WrittenTexts.{names_have_no_float}
use Rattle.mk_read.specs.Reading.{Makefile}
use Rattle.mk_claims.specs.Claims.{Claim}
use Rattle.mk_sentences.specs.Counts.{counts_of}
use Rattle.mk_claims.specs.Grouping.{Group, groups}
use Rattle.mk_claims.specs.Joining.{joined}
use Rattle.mk_sentences.specs.Places.{rule_shown}
use Rattle.mk_sentences.specs.Text.{shown_name}
use Rattle.mk_core_json.specs.FindingValue.{finding_values}
use Rattle.mk_core_json.specs.GroupValue.{also_of, files_of, group_value, targets_of, writers_of}
use Rattle.mk_core_json.specs.NoValue.{counts_value, found_text, group_numbers, groups_values, no_value}
use Rattle.mk_core_json.proofs.AnswerTexts.{place_has_no_float}

-- one more value is written
pub items_step : (later : Bool) (value : Data) (values before : List Data) (out comma new all : List ℕ) → comma ≡ out ++ comma_if later → new ≡ comma ++ compact_text value → before ≡ value ∷ values
    → out ++ items_text later (items_of before) ≡ all → new ++ items_text true (items_of values) ≡ all
items_step later value values before out comma new all e f g inv =
    let rest = items_text true (items_of values) in
    ap (λ l. l ++ rest) (f ∙ ap (λ l. l ++ compact_text value) e)
    ∙ (append_assoc (out ++ comma_if later) (compact_text value) rest
    ∙ (append_assoc out (comma_if later) (compact_text value ++ rest)
    ∙ (sym (ap (λ vs. out ++ items_text later (items_of vs)) g) ∙ inv)))

-- no group has a float
line_has_no_float : (test : Bool) (text : List ℕ) → has_float (if test then string text else null) ≡ false
line_has_no_float true text = refl
line_has_no_float false text = refl

deed_has_no_float : (test : Bool) (text : List ℕ) → has_float (if test then null else string text) ≡ false
deed_has_no_float true text = refl
deed_has_no_float false text = refl

none_has : (a e b c p d w : Bool) → a ≡ false → e ≡ false → b ≡ false → c ≡ false → p ≡ false → d ≡ false → w ≡ false → (a || (e || (b || (c || (false || (p || (false || (d || (w || false))))))))) ≡ false
none_has a e b c p d w h i j k l m n = rw (h, i, j, k, l, m, n) refl

pub group_has_no_float : (m : Makefile) (g : Group) → has_float (group_value m g) ≡ false
group_has_no_float m g =
    none_has _ _ _ _ _ _ _ (line_has_no_float g.topic.has_line _) (names_have_no_float (also_of g.topic.kind))
    (deed_has_no_float g.topic.has_line _) (names_have_no_float (files_of g.topic.kind g.who g.what))
    (place_has_no_float (option_map (λ rule. rule.place) (rule_shown m (shown_name g.topic g.who))))
    (names_have_no_float (targets_of g.topic.kind g.topic.first g.topic.second g.who))
    (names_have_no_float (writers_of g.topic.kind g.topic.first g.topic.second g.what))

-- the whole text, part by part
all_parts : (m : Makefile) (found : List Finding) (claims : List Claim) → compact_text (no_value m found claims)
    ≡ codes "{\"answer\":\"no\",\"counts\":" ++ (compact_text (counts_value (counts_of (take (length found) claims) (groups (joined (take (length found) claims)))))
    ++ (codes ",\"findings\":[" ++ (items_text false (items_of (finding_values 1 found (group_numbers (take (length found) claims))))
    ++ (codes ",\"format\":1,\"groups\":[" ++ (items_text false (items_of (groups_values m (groups (joined (take (length found) claims)))))
    ++ (codes ",\"later\":[" ++ (items_text false (items_of (groups_values m (groups (joined (drop (length found) claims))))) ++ codes "}")))))))
unfolding serde_json_on_literals digits
all_parts m found claims = refl

regroup_found : (a b c d e f g : List ℕ) → a ++ ((b ++ (c ++ (d ++ (e ++ f)))) ++ g) ≡ a ++ (b ++ (c ++ (d ++ (e ++ (f ++ g)))))
regroup_found a b c d e f g = simp append_assoc

-- the whole text: what is found, and what that hides
no_parts : (m : Makefile) (found : List Finding) (claims : List Claim) → compact_text (no_value m found claims)
    ≡ codes "{\"answer\":\"no\",\"counts\":" ++ (found_text m found (take (length found) claims)
    ++ (codes ",\"later\":[" ++ (items_text false (items_of (groups_values m (groups (joined (drop (length found) claims))))) ++ codes "}")))
no_parts m found claims =
    let now = take (length found) claims in
    let rest = codes ",\"later\":[" ++ (items_text false (items_of (groups_values m (groups (joined (drop (length found) claims))))) ++ codes "}") in
    all_parts m found claims
    ∙ sym (regroup_found (codes "{\"answer\":\"no\",\"counts\":") (compact_text (counts_value (counts_of now (groups (joined now))))) (codes ",\"findings\":[")
    (items_text false (items_of (finding_values 1 found (group_numbers now)))) (codes ",\"format\":1,\"groups\":[") (items_text false (items_of (groups_values m (groups (joined now))))) rest)

regroup_no : (a b c d e : List ℕ) → (((a ++ b) ++ c) ++ d) ++ e ≡ a ++ (b ++ (c ++ (d ++ e)))
regroup_no a b c d e = simp append_assoc

pub no_joined : (m : Makefile) (found : List Finding) (claims : List Claim) (a b c d e : List ℕ) → a ≡ codes "{\"answer\":\"no\",\"counts\":" → b ≡ a ++ found_text m found (take (length found) claims)
    → c ≡ b ++ codes ",\"later\":[" → d ≡ c ++ items_text false (items_of (groups_values m (groups (joined (drop (length found) claims))))) → e ≡ d ++ codes "}" → e ≡ compact_text (no_value m found claims)
no_joined m found claims a b c d e p q r s t =
    let begin = codes "{\"answer\":\"no\",\"counts\":" in
    let told = found_text m found (take (length found) claims) in
    let key = codes ",\"later\":[" in
    let last = items_text false (items_of (groups_values m (groups (joined (drop (length found) claims))))) in
    let end : List ℕ = codes "}" in
    let so_far : e ≡ (((begin ++ told) ++ key) ++ last) ++ end =
    t ∙ ap (λ (l : List ℕ). l ++ end) (s ∙ ap (λ (l : List ℕ). l ++ last) (r ∙ ap (λ (l : List ℕ). l ++ key) (q ∙ ap (λ (l : List ℕ). l ++ told) p))) in
    so_far ∙ (regroup_no begin told key last end ∙ sym (no_parts m found claims))

-- five pieces are appended
regroup_five : (o a b c d e : List ℕ) → ((((o ++ a) ++ b) ++ c) ++ d) ++ e ≡ o ++ (a ++ (b ++ (c ++ (d ++ e))))
regroup_five o a b c d e = simp append_assoc

pub five_parts : (o a b c d e f g h i j : List ℕ) → f ≡ o ++ a → g ≡ f ++ b → h ≡ g ++ c → i ≡ h ++ d → j ≡ i ++ e → j ≡ o ++ (a ++ (b ++ (c ++ (d ++ e))))
five_parts o a b c d e f g h i j p q r s t =
    t ∙ (ap (λ (l : List ℕ). l ++ e) (s ∙ ap (λ (l : List ℕ). l ++ d) (r ∙ ap (λ (l : List ℕ). l ++ c) (q ∙ ap (λ (l : List ℕ). l ++ b) p))) ∙ regroup_five o a b c d e)
