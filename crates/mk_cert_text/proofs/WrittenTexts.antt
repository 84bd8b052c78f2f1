-- The text of a certificate by its parts.
use Rattle.std.proofs.Common.{◌≡◌, ℕ, List, [], ◌∷◌, ◌++◌, false, map, codes, refl, sym, ap, ◌∙◌, append_assoc}
use Rattle.std.specs.Fmt.{digits}
use Rattle.serde_json.specs.Data.{string}
use Rattle.serde_json.specs.View.{items_of}
use Rattle.serde_json.specs.Written.{compact_text, has_float, items_have_float, items_text}
use Rattle.serde_json.proofs.OnLiterals.{serde_json_on_literals}
use Rattle.mk_cert_text.specs.Certificate.{Way, Certificate}
use Rattle.mk_cert_text.specs.Writing.{names_value, way_value, value_of}

texts_have_no_float : (names : List (List ℕ)) → items_have_float (items_of (map string names)) ≡ false
texts_have_no_float [] = refl
texts_have_no_float (name ∷ names) = texts_have_no_float names

-- no value that is written has a float
pub names_have_no_float : (names : List (List ℕ)) → has_float (names_value names) ≡ false
names_have_no_float names = texts_have_no_float names

pub way_has_no_float : (way : Way) → has_float (way_value way) ≡ false
way_has_no_float way = rw texts_have_no_float refl

regroup : (a b c d e : List ℕ) → (((a ++ b) ++ c) ++ d) ++ e ≡ a ++ (b ++ (c ++ (d ++ e)))
regroup a b c d e = simp append_assoc

-- the whole text
pub text_of_parts : (c : Certificate) →
    compact_text (value_of c) ≡ codes "{\"format\":1,\"goals\":" ++ (compact_text (names_value c.goals) ++ (codes ",\"ways\":[" ++ (items_text false (items_of (map way_value c.ways)) ++ codes "}")))
unfolding serde_json_on_literals digits
text_of_parts c = refl

-- the parts, one behind another
pub parts_joined : (c : Certificate) (first second third fourth fifth : List ℕ) → first ≡ codes "{\"format\":1,\"goals\":" → second ≡ first ++ compact_text (names_value c.goals) → third ≡ second ++ codes ",\"ways\":["
    → fourth ≡ third ++ items_text false (items_of (map way_value c.ways)) → fifth ≡ fourth ++ codes "}" → fifth ≡ compact_text (value_of c)
parts_joined c first second third fourth fifth e f g h i =
    let goals = compact_text (names_value c.goals) in
    let ways = items_text false (items_of (map way_value c.ways)) in
    let begin = codes "{\"format\":1,\"goals\":" in
    let middle = codes ",\"ways\":[" in
    let end : List ℕ = codes "}" in
    let so_far : fifth ≡ (((begin ++ goals) ++ middle) ++ ways) ++ end = i ∙ ap (λ (x : List ℕ). x ++ end) (h ∙ ap (λ (x : List ℕ). x ++ ways) (g ∙ ap (λ (x : List ℕ). x ++ middle) (f ∙ ap (λ (x : List ℕ). x ++ goals) e))) in
    so_far ∙ (regroup begin goals middle ways end ∙ sym (text_of_parts c))
