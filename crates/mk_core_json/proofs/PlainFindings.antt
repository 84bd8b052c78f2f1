-- The text of a finding whose names stand in it as they are.
use Rattle.std.proofs.Common.{◌≡◌, ◌∙◌, ℕ, true, false, List, [], ◌∷◌, ◌++◌, codes, map, refl, sym, ap, append_assoc, append-nil}
use Rattle.std.specs.Fmt.{decimal}
use Rattle.std.specs.List.{list_all}
use Rattle.std.specs.Cmp.Derive.{both_true}
use Rattle.std.proofs.lemmas.Bool.{and_parts}
use Rattle.std.proofs.lemmas.List.Folds.{list_all-append}
use Rattle.json.specs.Print.{quoted}
use Rattle.serde_json.specs.Data.{string}
use Rattle.serde_json.specs.View.{items_of}
use Rattle.serde_json.specs.Written.{compact_text, items_text}
use Rattle.mk_cert_text.specs.Writing.{names_value}
use Rattle.mk_find.specs.Text.{pair, text}
use Rattle.mk_find.specs.declared.finding.Finding.{Finding}
use Rattle.mk_find.specs.declared.finding.Finding.TheVariants.{NoRecord, OtherCommands, VaryingCommands, NoTarget, TwoWriters, GivenWritten, OwnRead, UnknownRead, Loose, Race, Stale, Selection}
use Rattle.mk_core_json.specs.FindingValue.{finding_value, key_text, kind_of, line_text, names_of}
use Rattle.mk_core_json.specs.PlainText.{is_plain, put_between}
use Rattle.mk_core_json.proofs.FindingTexts.{all_parts}
use Rattle.mk_core_json.proofs.PlainTexts.{text_stays}

-- a plain text in quotes
quoted_stays : (name : List ℕ) → list_all is_plain name ≡ true → quoted name ≡ 34 ∷ (name ++ 34 ∷ [])
quoted_stays name p = ap (λ (l : List ℕ). 34 ∷ (l ++ 34 ∷ [])) (text_stays name p)

-- names behind others in a list
further_names : (names : List (List ℕ)) → list_all (list_all is_plain) names ≡ true
    → 34 ∷ items_text true (items_of (map string names)) ≡ put_between (34 ∷ 44 ∷ 34 ∷ []) true names ++ 34 ∷ 93 ∷ []
further_names [] p = refl
further_names (name ∷ names) p =
    let parts = and_parts (list_all is_plain name) (list_all (list_all is_plain) names) p in
    let rest = items_text true (items_of (map string names)) in
    let more = put_between (34 ∷ 44 ∷ 34 ∷ []) true names in
    ap (λ (l : List ℕ). 34 ∷ 44 ∷ (l ++ rest)) (quoted_stays name parts.0)
    ∙ (ap (λ (l : List ℕ). 34 ∷ 44 ∷ 34 ∷ l) (append_assoc name (34 ∷ []) rest ∙ ap (λ (l : List ℕ). name ++ l) (further_names names parts.1))
    ∙ sym (ap (λ (l : List ℕ). 34 ∷ 44 ∷ 34 ∷ l) (append_assoc name more (34 ∷ 93 ∷ []))))

-- the list of one name or more
all_names : (name : List ℕ) (names : List (List ℕ)) → list_all (list_all is_plain) (name ∷ names) ≡ true
    → compact_text (names_value (name ∷ names)) ≡ 91 ∷ 34 ∷ (put_between (34 ∷ 44 ∷ 34 ∷ []) false (name ∷ names) ++ 34 ∷ 93 ∷ [])
all_names name names p =
    let parts = and_parts (list_all is_plain name) (list_all (list_all is_plain) names) p in
    let rest = items_text true (items_of (map string names)) in
    let more = put_between (34 ∷ 44 ∷ 34 ∷ []) true names in
    ap (λ (l : List ℕ). 91 ∷ (l ++ rest)) (quoted_stays name parts.0)
    ∙ (ap (λ (l : List ℕ). 91 ∷ 34 ∷ l) (append_assoc name (34 ∷ []) rest ∙ ap (λ (l : List ℕ). name ++ l) (further_names names parts.1))
    ∙ sym (ap (λ (l : List ℕ). 91 ∷ 34 ∷ l) (append_assoc name more (34 ∷ 93 ∷ []))))

names_joined : (found : Finding) → list_all (list_all is_plain) (names_of found) ≡ true
    → compact_text (names_value (names_of found)) ≡ 91 ∷ 34 ∷ (put_between (34 ∷ 44 ∷ 34 ∷ []) false (names_of found) ++ 34 ∷ 93 ∷ [])
names_joined (NoRecord recipe) p = all_names recipe [] p
names_joined (OtherCommands recipe) p = all_names recipe [] p
names_joined (VaryingCommands recipe) p = all_names recipe [] p
names_joined (NoTarget recipe) p = all_names recipe [] p
names_joined (TwoWriters first second file) p = all_names first (second ∷ file ∷ []) p
names_joined (GivenWritten recipe file) p = all_names recipe (file ∷ []) p
names_joined (OwnRead recipe file) p = all_names recipe (file ∷ []) p
names_joined (UnknownRead recipe file) p = all_names recipe (file ∷ []) p
names_joined (Loose name writer) p = all_names name (writer ∷ []) p
names_joined (Race recipe writer file) p = all_names recipe (writer ∷ file ∷ []) p
names_joined (Stale recipe file) p = all_names recipe (file ∷ []) p
names_joined (Selection name chosen) p = all_names name (chosen ∷ []) p

-- the names in the line of a finding
abbrev told : List (List ℕ) → List ℕ
told names = put_between (32 ∷ []) false names

one_told : (front name : List ℕ) → front ++ name ≡ front ++ told (name ∷ [])
one_told front name = ap (λ (l : List ℕ). front ++ l) (sym (append-nil name))

pair_told : (name other : List ℕ) → pair name other ≡ name ++ 32 ∷ other
pair_told name other = append_assoc name (32 ∷ []) other

two_told : (front name other : List ℕ) → front ++ pair name other ≡ front ++ told (name ∷ other ∷ [])
two_told front name other = ap (λ (l : List ℕ). front ++ l) (pair_told name other ∙ ap (λ (l : List ℕ). name ++ 32 ∷ l) (sym (append-nil other)))

three_told : (front name other third : List ℕ) → front ++ pair name (pair other third) ≡ front ++ told (name ∷ other ∷ third ∷ [])
three_told front name other third =
    ap (λ (l : List ℕ). front ++ l)
    (pair_told name (pair other third)
    ∙ ap (λ (l : List ℕ). name ++ 32 ∷ l) (pair_told other third ∙ ap (λ (l : List ℕ). other ++ 32 ∷ l) (sym (append-nil third))))

text_joined : (found : Finding) → text found ≡ (kind_of found ++ codes " ") ++ told (names_of found)
text_joined (NoRecord recipe) = one_told (codes "record ") recipe
text_joined (OtherCommands recipe) = one_told (codes "commands ") recipe
text_joined (VaryingCommands recipe) = one_told (codes "varying ") recipe
text_joined (NoTarget recipe) = one_told (codes "target ") recipe
text_joined (TwoWriters first second file) = three_told (codes "writers ") first second file
text_joined (GivenWritten recipe file) = two_told (codes "given ") recipe file
text_joined (OwnRead recipe file) = two_told (codes "own ") recipe file
text_joined (UnknownRead recipe file) = two_told (codes "unknown ") recipe file
text_joined (Loose name writer) = two_told (codes "loose ") name writer
text_joined (Race recipe writer file) = three_told (codes "race ") recipe writer file
text_joined (Stale recipe file) = two_told (codes "stale ") recipe file
text_joined (Selection name chosen) = two_told (codes "selection ") name chosen

-- it is plain too
plain_both : (a b : List ℕ) → list_all is_plain a ≡ true → list_all is_plain b ≡ true → list_all is_plain (a ++ b) ≡ true
plain_both a b p q = list_all-append is_plain a b ∙ both_true p q

plain_told : (later : List (List ℕ)) → list_all (list_all is_plain) later ≡ true → list_all is_plain (put_between (32 ∷ []) true later) ≡ true
plain_told [] p = refl
plain_told (name ∷ names) p =
    let parts = and_parts (list_all is_plain name) (list_all (list_all is_plain) names) p in
    plain_both name (put_between (32 ∷ []) true names) parts.0 (plain_told names parts.1)

plain_line : (names : List (List ℕ)) → list_all (list_all is_plain) names ≡ true → list_all is_plain (told names) ≡ true
plain_line [] p = refl
plain_line (name ∷ names) p =
    let parts = and_parts (list_all is_plain name) (list_all (list_all is_plain) names) p in
    plain_both name (put_between (32 ∷ []) true names) parts.0 (plain_told names parts.1)

plain_kind : (found : Finding) → list_all is_plain (kind_of found) ≡ true
plain_kind (NoRecord recipe) = refl
plain_kind (OtherCommands recipe) = refl
plain_kind (VaryingCommands recipe) = refl
plain_kind (NoTarget recipe) = refl
plain_kind (TwoWriters first second file) = refl
plain_kind (GivenWritten recipe file) = refl
plain_kind (OwnRead recipe file) = refl
plain_kind (UnknownRead recipe file) = refl
plain_kind (Loose name writer) = refl
plain_kind (Race recipe writer file) = refl
plain_kind (Stale recipe file) = refl
plain_kind (Selection name chosen) = refl

-- the line of a finding
line_joined : (found : Finding) → list_all (list_all is_plain) (names_of found) ≡ true
    → compact_text (string (codes "no " ++ text found)) ≡ 34 ∷ ((codes "no " ++ ((kind_of found ++ codes " ") ++ told (names_of found))) ++ 34 ∷ [])
line_joined found p =
    let kind = plain_both (kind_of found) (codes " ") (plain_kind found) refl in
    ap (λ (l : List ℕ). quoted (codes "no " ++ l)) (text_joined found)
    ∙ quoted_stays (codes "no " ++ ((kind_of found ++ codes " ") ++ told (names_of found)))
    (plain_both (codes "no ") ((kind_of found ++ codes " ") ++ told (names_of found)) refl (plain_both (kind_of found ++ codes " ") (told (names_of found)) kind (plain_line (names_of found) p)))

-- parts that are appended in turn
regroup_plain : (out a b c d e f g h i j k l m : List ℕ) → ((((((out ++ (a ++ b)) ++ (c ++ (d ++ e))) ++ f) ++ (g ++ h)) ++ (i ++ (j ++ k))) ++ l) ++ m
    ≡ out ++ (a ++ (b ++ (c ++ (d ++ (e ++ (f ++ (g ++ (h ++ (i ++ (j ++ (k ++ (l ++ m))))))))))))
regroup_plain out a b c d e f g h i j k l m = simp append_assoc

-- the text of a finding, part by part
plain_parts : (number group : ℕ) (found : Finding) → list_all (list_all is_plain) (names_of found) ≡ true → compact_text (finding_value number group found)
    ≡ codes "{\"group\":" ++ (decimal group ++ (codes ",\"kind\":\"" ++ (kind_of found ++ (codes "\",\"names\":[\"" ++ (put_between (34 ∷ 44 ∷ 34 ∷ []) false (names_of found)
    ++ (codes "\"],\"number\":" ++ (decimal number ++ (codes ",\"text\":\"no " ++ (kind_of found ++ (codes " " ++ (told (names_of found) ++ codes "\"}")))))))))))
plain_parts number group found p =
    let kind = kind_of found in
    let names = put_between (34 ∷ 44 ∷ 34 ∷ []) false (names_of found) in
    let line = told (names_of found) in
    let last : List ℕ = codes "}" in
    let rest_line : List ℕ = codes ",\"text\":" ++ (compact_text (string (codes "no " ++ text found)) ++ last) in
    let line_is : rest_line ≡ codes ",\"text\":\"no " ++ (kind ++ (codes " " ++ (line ++ codes "\"}"))) =
    ap (λ (l : List ℕ). codes ",\"text\":" ++ (l ++ last)) (line_joined found p) ∙ regroup_line kind line in
    let rest_names : List ℕ = codes ",\"names\":" ++ (compact_text (names_value (names_of found)) ++ (codes ",\"number\":" ++ (decimal number ++ rest_line))) in
    let names_are : rest_names ≡ codes ",\"names\":[\"" ++ (names ++ (codes "\"],\"number\":" ++ (decimal number ++ rest_line))) =
    ap (λ (l : List ℕ). codes ",\"names\":" ++ (l ++ (codes ",\"number\":" ++ (decimal number ++ rest_line)))) (names_joined found p)
    ∙ ap (λ (l : List ℕ). codes ",\"names\":[\"" ++ l) (append_assoc names (34 ∷ 93 ∷ []) (codes ",\"number\":" ++ (decimal number ++ rest_line))) in
    let rest_kind : List ℕ = codes ",\"kind\":" ++ (compact_text (string kind) ++ rest_names) in
    let kind_is : rest_kind ≡ codes ",\"kind\":\"" ++ (kind ++ 34 ∷ rest_names) =
    ap (λ (l : List ℕ). codes ",\"kind\":" ++ (l ++ rest_names)) (quoted_stays kind (plain_kind found))
    ∙ ap (λ (l : List ℕ). codes ",\"kind\":\"" ++ l) (append_assoc kind (34 ∷ []) rest_names) in
    all_parts number group found
    ∙ ap (λ (l : List ℕ). codes "{\"group\":" ++ (decimal group ++ l))
    (kind_is
    ∙ ap (λ (l : List ℕ). codes ",\"kind\":\"" ++ (kind ++ 34 ∷ l))
    (names_are ∙ ap (λ (l : List ℕ). codes ",\"names\":[\"" ++ (names ++ (codes "\"],\"number\":" ++ (decimal number ++ l)))) line_is))
  where
    regroup_line : (kind line : List ℕ) → codes ",\"text\":" ++ ((34 ∷ ((codes "no " ++ ((kind ++ codes " ") ++ line)) ++ 34 ∷ [])) ++ codes "}")
        ≡ codes ",\"text\":\"no " ++ (kind ++ (codes " " ++ (line ++ codes "\"}")))
    regroup_line kind line =
        ap (λ (l : List ℕ). codes ",\"text\":\"no " ++ l) (regroup_end kind (codes " ") line (codes "\"") (codes "}"))
      where
        regroup_end : (a b c d e : List ℕ) → (((a ++ b) ++ c) ++ d) ++ e ≡ a ++ (b ++ (c ++ (d ++ e)))
        regroup_end a b c d e = simp append_assoc

-- a number behind a text
pub number_joined : (out text begun all : List ℕ) (number : ℕ) → begun ≡ out ++ text → all ≡ begun ++ decimal number → all ≡ out ++ (text ++ decimal number)
number_joined out text begun all number p q = q ∙ (ap (λ (l : List ℕ). l ++ decimal number) p ∙ append_assoc out text (decimal number))

pub plain_joined : (number group : ℕ) (found : Finding) (names : List (List ℕ)) (out a b c d e f all : List ℕ) → names ≡ names_of found → list_all (list_all is_plain) names ≡ true
    → a ≡ out ++ (codes "{\"group\":" ++ decimal group) → b ≡ a ++ key_text (kind_of found) → c ≡ b ++ put_between (codes "\",\"") false names
    → d ≡ c ++ (codes "\"],\"number\":" ++ decimal number) → e ≡ d ++ line_text (kind_of found) → f ≡ e ++ put_between (codes " ") false names → all ≡ f ++ codes "\"}"
    → all ≡ out ++ compact_text (finding_value number group found)
plain_joined number group found names out a b c d e f all same p q r s t u v w =
    let plain : list_all (list_all is_plain) (names_of found) ≡ true = ap (λ ns. list_all (list_all is_plain) ns) (sym same) ∙ p in
    let first : List ℕ = codes "{\"group\":" in
    let key : List ℕ = codes ",\"kind\":\"" in
    let opened : List ℕ = codes "\",\"names\":[\"" in
    let listed : List ℕ = put_between (codes "\",\"") false (names_of found) in
    let closed : List ℕ = codes "\"],\"number\":" in
    let begun : List ℕ = codes ",\"text\":\"no " in
    let blank : List ℕ = codes " " in
    let line : List ℕ = put_between (codes " ") false (names_of found) in
    let end : List ℕ = codes "\"}" in
    let kind = kind_of found in
    let listed_is : c ≡ b ++ listed = s ∙ ap (λ ns. b ++ put_between (codes "\",\"") false ns) same in
    let line_is : f ≡ e ++ line = v ∙ ap (λ ns. e ++ put_between (codes " ") false ns) same in
    let so_far : all ≡ ((((((out ++ (first ++ decimal group)) ++ (key ++ (kind ++ opened))) ++ listed) ++ (closed ++ decimal number)) ++ (begun ++ (kind ++ blank))) ++ line) ++ end =
    w ∙ ap (λ (l : List ℕ). l ++ end) (line_is ∙ ap (λ (l : List ℕ). l ++ line) (u ∙ ap (λ (l : List ℕ). l ++ (begun ++ (kind ++ blank))) (t ∙ ap (λ (l : List ℕ). l ++ (closed ++ decimal number)) (listed_is ∙ ap (λ (l : List ℕ). l ++ listed) (r ∙ ap (λ (l : List ℕ). l ++ (key ++ (kind ++ opened))) q))))) in
    so_far
    ∙ (regroup_plain out first (decimal group) key kind opened listed closed (decimal number) begun kind blank line end
    ∙ ap (λ (l : List ℕ). out ++ l) (sym (plain_parts number group found plain)))
