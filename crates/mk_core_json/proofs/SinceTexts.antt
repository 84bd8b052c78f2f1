-- The texts of the answers of `since` by their parts.
use Rattle.std.proofs.Common.{◌≡◌, ◌∙◌, ℕ, List, ◌++◌, Bool, false, codes, map, refl, sym, ap, append_assoc}
use Rattle.std.specs.Prelude.{◌||◌}
use Rattle.std.specs.Fmt.{digits}
use Rattle.serde_json.specs.Data.{string}
use Rattle.serde_json.specs.View.{items_of}
use Rattle.serde_json.specs.Written.{compact_text, has_float, items_text}
use Rattle.serde_json.proofs.OnLiterals.{serde_json_on_literals}
use Rattle.mk_cert_text.specs.Writing.{names_value}
use Rattle.mk_cert_text.proofs.WrittenTexts.{names_have_no_float}
use Rattle.mk_find.specs.Text.{text}
use Rattle.mk_find.specs.declared.finding.Finding.{Finding}
use Rattle.mk_core_sentences.specs.RefusedLine.{in_file, place_of}
use Rattle.mk_core_text.specs.declared.fault.Fault.{Fault}
use Rattle.mk_read_files.specs.declared.cause.Cause.{Cause}
use Rattle.mk_core_json.specs.AnswerValue.{old_refusal_value}
use Rattle.mk_core_json.specs.FaultWords.{fault_argument, fault_names, fault_word}
use Rattle.mk_core_json.specs.FindingValue.{kind_of, names_of}
use Rattle.mk_core_json.specs.SinceValues.{named_value, told_value, told_values}
use Rattle.mk_core_json.proofs.AnswerTexts.{argument_has_no_float, place_has_no_float, word_has_no_float}

-- the names have no float
pub named_has_no_float : (files : List (List ℕ)) → has_float (named_value files) ≡ false
named_has_no_float files = rw (names_have_no_float files) refl

-- nor has a refusal
pub old_refusal_has_no_float : (fault : Fault) (cause : Cause) → has_float (old_refusal_value fault cause) ≡ false
old_refusal_has_no_float fault cause =
    none_has _ _ _ _ (argument_has_no_float (fault_argument fault)) (names_have_no_float (fault_names fault))
    (place_has_no_float (in_file (place_of fault))) (word_has_no_float (fault_word fault))
  where
    none_has : (a n p w : Bool) → a ≡ false → n ≡ false → p ≡ false → w ≡ false → (a || (false || (false || (false || (n || (false || (p || (false || (false || (false || (w || false))))))))))) ≡ false
    none_has a n p w e f g h = rw (e, f, g, h) refl

-- a finding
told_parts : (found : Finding) → compact_text (told_value found)
    ≡ codes "{\"kind\":" ++ (compact_text (string (kind_of found)) ++ (codes ",\"names\":" ++ (compact_text (names_value (names_of found)) ++ (codes ",\"text\":" ++ (compact_text (string (codes "no " ++ text found)) ++ codes "}")))))
unfolding serde_json_on_literals digits
told_parts found = refl

regroup_told : (out a b c d e f g : List ℕ) → ((((((out ++ a) ++ b) ++ c) ++ d) ++ e) ++ f) ++ g ≡ out ++ (a ++ (b ++ (c ++ (d ++ (e ++ (f ++ g))))))
regroup_told out a b c d e f g = simp append_assoc

pub told_joined : (found : Finding) (out a b c d e f all : List ℕ) → a ≡ out ++ codes "{\"kind\":" → b ≡ a ++ compact_text (string (kind_of found)) → c ≡ b ++ codes ",\"names\":"
    → d ≡ c ++ compact_text (names_value (names_of found)) → e ≡ d ++ codes ",\"text\":" → f ≡ e ++ compact_text (string (codes "no " ++ text found)) → all ≡ f ++ codes "}"
    → all ≡ out ++ compact_text (told_value found)
told_joined found out a b c d e f all p q r s t u v =
    let kind = compact_text (string (kind_of found)) in
    let names = compact_text (names_value (names_of found)) in
    let line = compact_text (string (codes "no " ++ text found)) in
    let first : List ℕ = codes "{\"kind\":" in
    let second : List ℕ = codes ",\"names\":" in
    let third : List ℕ = codes ",\"text\":" in
    let end : List ℕ = codes "}" in
    let so_far : all ≡ ((((((out ++ first) ++ kind) ++ second) ++ names) ++ third) ++ line) ++ end =
    v ∙ ap (λ (l : List ℕ). l ++ end) (u ∙ ap (λ (l : List ℕ). l ++ line) (t ∙ ap (λ (l : List ℕ). l ++ third) (s ∙ ap (λ (l : List ℕ). l ++ names) (r ∙ ap (λ (l : List ℕ). l ++ second) (q ∙ ap (λ (l : List ℕ). l ++ kind) p))))) in
    so_far ∙ (regroup_told out first kind second names third line end ∙ ap (λ (l : List ℕ). out ++ l) (sym (told_parts found)))

-- the findings of a build
all_parts : (build : List ℕ) (found : List Finding) → compact_text (told_values build found)
    ≡ codes "{\"answer\":\"no\",\"build\":" ++ (compact_text (string build) ++ (codes ",\"findings\":[" ++ (items_text false (items_of (map told_value found)) ++ codes ",\"format\":1}")))
unfolding serde_json_on_literals digits
all_parts build found = refl

regroup_all : (a b c d e : List ℕ) → (((a ++ b) ++ c) ++ d) ++ e ≡ a ++ (b ++ (c ++ (d ++ e)))
regroup_all a b c d e = simp append_assoc

pub all_joined : (build : List ℕ) (found : List Finding) (a b c d all : List ℕ) → a ≡ codes "{\"answer\":\"no\",\"build\":" → b ≡ a ++ compact_text (string build) → c ≡ b ++ codes ",\"findings\":["
    → d ≡ c ++ items_text false (items_of (map told_value found)) → all ≡ d ++ codes ",\"format\":1}" → all ≡ compact_text (told_values build found)
all_joined build found a b c d all p q r s t =
    let first : List ℕ = codes "{\"answer\":\"no\",\"build\":" in
    let name = compact_text (string build) in
    let second : List ℕ = codes ",\"findings\":[" in
    let items = items_text false (items_of (map told_value found)) in
    let end : List ℕ = codes ",\"format\":1}" in
    let so_far : all ≡ (((first ++ name) ++ second) ++ items) ++ end =
    t ∙ ap (λ (l : List ℕ). l ++ end) (s ∙ ap (λ (l : List ℕ). l ++ items) (r ∙ ap (λ (l : List ℕ). l ++ second) (q ∙ ap (λ (l : List ℕ). l ++ name) p))) in
    so_far ∙ (regroup_all first name second items end ∙ sym (all_parts build found))
