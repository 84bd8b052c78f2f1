-- The texts of answers by their parts.
use Rattle.std.proofs.Common.{◌≡◌, ℕ, List, [], ◌∷◌, ◌++◌, false, codes, refl, sym, ap, ◌∙◌, append_assoc}
use Rattle.std.specs.Prelude.{◌||◌, Bool, Option, None, Some}
use Rattle.std.specs.Fmt.{decimal, digits}
use Rattle.serde_json.specs.Written.{compact_text, has_float}
use Rattle.serde_json.proofs.OnLiterals.{serde_json_on_literals}
use Rattle.mk_cert_text.specs.Certificate.{Certificate}
use Rattle.mk_cert_text.specs.Writing.{value_of}
use Rattle.mk_cert_text.proofs.WrittenTexts.{names_have_no_float}
use Rattle.mk_read.specs.declared.fault.Place.{Place}
use Rattle.mk_core_sentences.specs.RefusedLine.{in_file, place_of}
use Rattle.mk_core_text.specs.declared.fault.Fault.{Fault}
use Rattle.mk_read_files.specs.declared.cause.Cause.{Cause}
use Rattle.mk_core_json.specs.FaultWords.{argument_value, fault_argument, fault_names, fault_word, word_value}
use Rattle.mk_core_json.specs.AnswerValue.{line_value, place_value, refusal_value, yes_value}
use Rattle.mk_core_json.specs.OtherValues.{part_value, unmended_value}

-- the answer yes
yes_parts : (c : Certificate) (recipes reads : ℕ) → compact_text (yes_value c recipes reads)
    ≡ codes "{\"answer\":\"yes\",\"certificate\":" ++ (compact_text (value_of c) ++ (codes ",\"format\":1,\"reads\":" ++ (decimal reads ++ (codes ",\"recipes\":" ++ (decimal recipes ++ codes "}")))))
unfolding serde_json_on_literals digits
yes_parts c recipes reads = refl

pub append-regroup_seven : (a b c d e f g : List ℕ) → (((((a ++ b) ++ c) ++ d) ++ e) ++ f) ++ g ≡ a ++ (b ++ (c ++ (d ++ (e ++ (f ++ g)))))
append-regroup_seven a b c d e f g = simp append_assoc

pub yes_joined : (c : Certificate) (recipes reads : ℕ) (s t u v w x y : List ℕ) → s ≡ codes "{\"answer\":\"yes\",\"certificate\":" → t ≡ s ++ compact_text (value_of c) → u ≡ t ++ codes ",\"format\":1,\"reads\":"
    → v ≡ u ++ decimal reads → w ≡ v ++ codes ",\"recipes\":" → x ≡ w ++ decimal recipes → y ≡ x ++ codes "}" → y ≡ compact_text (yes_value c recipes reads)
yes_joined c recipes reads s t u v w x y e f g h i j k =
    let begin = codes "{\"answer\":\"yes\",\"certificate\":" in
    let written = compact_text (value_of c) in
    let middle = codes ",\"format\":1,\"reads\":" in
    let key = codes ",\"recipes\":" in
    let end : List ℕ = codes "}" in
    let so_far : y ≡ (((((begin ++ written) ++ middle) ++ decimal reads) ++ key) ++ decimal recipes) ++ end =
    k ∙ ap (λ (l : List ℕ). l ++ end) (j ∙ ap (λ (l : List ℕ). l ++ decimal recipes) (i ∙ ap (λ (l : List ℕ). l ++ key) (h ∙ ap (λ (l : List ℕ). l ++ decimal reads) (g ∙ ap (λ (l : List ℕ). l ++ middle) (f ∙ ap (λ (l : List ℕ). l ++ written) e))))) in
    so_far ∙ (append-regroup_seven begin written middle (decimal reads) key (decimal recipes) end ∙ sym (yes_parts c recipes reads))

-- no refusal has a float
pub place_has_no_float : (place : Option Place) → has_float (place_value place) ≡ false
place_has_no_float None = refl
place_has_no_float (Some place) = refl

line_has_no_float : (line : List ℕ) → has_float (line_value line) ≡ false
line_has_no_float [] = refl
line_has_no_float (b ∷ line) = refl

pub word_has_no_float : (word : Option (List ℕ)) → has_float (word_value word) ≡ false
word_has_no_float None = refl
word_has_no_float (Some word) = refl

pub argument_has_no_float : (argument : Option (List ℕ × ℕ)) → has_float (argument_value argument) ≡ false
argument_has_no_float None = refl
argument_has_no_float (Some (kind, place)) = refl

none_has : (a n p l w : Bool) → a ≡ false → n ≡ false → p ≡ false → l ≡ false → w ≡ false → (a || (false || (false || (n || (false || (p || (false || (l || (false || (w || false)))))))))) ≡ false
none_has a n p l w e f g h i = rw (e, f, g, h, i) refl

pub refusal_has_no_float : (fault : Fault) (cause : Cause) (line : List ℕ) → has_float (refusal_value fault cause line) ≡ false
refusal_has_no_float fault cause line =
    none_has _ _ _ _ _ (argument_has_no_float (fault_argument fault)) (names_have_no_float (fault_names fault))
    (place_has_no_float (in_file (place_of fault))) (line_has_no_float line) (word_has_no_float (fault_word fault))

-- nor has the answer of a repair that mends nothing
part_has_no_float : (part : List ℕ) → has_float (part_value part) ≡ false
part_has_no_float [] = refl
part_has_no_float (byte ∷ rest) = refl

pub unmended_has_no_float : (reason part : List ℕ) → has_float (unmended_value reason part) ≡ false
unmended_has_no_float reason part = rw (part_has_no_float part) refl
