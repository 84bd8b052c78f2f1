-- The text of a finding by its parts.
use Rattle.std.proofs.Common.{◌≡◌, ◌∙◌, ℕ, List, ◌++◌, codes, refl, sym, ap, append_assoc}
use Rattle.std.specs.Fmt.{decimal, digits}
use Rattle.serde_json.specs.Data.{string}
use Rattle.serde_json.specs.Written.{compact_text}
use Rattle.serde_json.proofs.OnLiterals.{serde_json_on_literals}
use Rattle.mk_cert_text.specs.Writing.{names_value}
use Rattle.mk_find.specs.Text.{text}
use Rattle.mk_find.specs.declared.finding.Finding.{Finding}
use Rattle.mk_core_json.specs.FindingValue.{finding_value, head_text, kind_of, names_of}

-- part by part
pub all_parts : (number group : ℕ) (found : Finding) → compact_text (finding_value number group found)
    ≡ codes "{\"group\":" ++ (decimal group ++ (codes ",\"kind\":" ++ (compact_text (string (kind_of found)) ++ (codes ",\"names\":" ++ (compact_text (names_value (names_of found))
    ++ (codes ",\"number\":" ++ (decimal number ++ (codes ",\"text\":" ++ (compact_text (string (codes "no " ++ text found)) ++ codes "}")))))))))
unfolding serde_json_on_literals digits
all_parts number group found = refl

-- parts that are appended in turn
regroup_finding : (out a b c d e f g h i j k : List ℕ) → (((out ++ (a ++ (b ++ (c ++ (d ++ e))))) ++ f) ++ (g ++ (h ++ i))) ++ (j ++ k) ≡ out ++ (a ++ (b ++ (c ++ (d ++ (e ++ (f ++ (g ++ (h ++ (i ++ (j ++ k))))))))))
regroup_finding out a b c d e f g h i j k = simp append_assoc

pub finding_joined : (number group : ℕ) (found : Finding) (out head named numbered told all : List ℕ) → head ≡ out ++ head_text group (kind_of found) → named ≡ head ++ compact_text (names_value (names_of found))
    → numbered ≡ named ++ (codes ",\"number\":" ++ (decimal number ++ codes ",\"text\":")) → told ≡ numbered ++ compact_text (string (codes "no " ++ text found)) → all ≡ told ++ codes "}"
    → all ≡ out ++ compact_text (finding_value number group found)
finding_joined number group found out head named numbered told all p q r s t =
    let last = compact_text (string (codes "no " ++ text found)) in
    let names = compact_text (names_value (names_of found)) in
    let middle = codes ",\"number\":" ++ (decimal number ++ codes ",\"text\":") in
    let end : List ℕ = codes "}" in
    let so_far : all ≡ (((out ++ head_text group (kind_of found)) ++ names) ++ middle) ++ (last ++ end) =
    t ∙ (ap (λ (l : List ℕ). l ++ end) (s ∙ ap (λ (l : List ℕ). l ++ last) (r ∙ ap (λ (l : List ℕ). l ++ middle) (q ∙ ap (λ (l : List ℕ). l ++ names) p)))
    ∙ append_assoc (((out ++ head_text group (kind_of found)) ++ names) ++ middle) last end) in
    so_far
    ∙ (regroup_finding out (codes "{\"group\":") (decimal group) (codes ",\"kind\":") (compact_text (string (kind_of found))) (codes ",\"names\":") names (codes ",\"number\":") (decimal number) (codes ",\"text\":") last end
    ∙ ap (λ (l : List ℕ). out ++ l) (sym (all_parts number group found)))

-- the text up to the names
regroup_head : (out a b c d e : List ℕ) → ((out ++ (a ++ (b ++ c))) ++ d) ++ e ≡ out ++ (a ++ (b ++ (c ++ (d ++ e))))
regroup_head out a b c d e = simp append_assoc

pub head_joined : (group : ℕ) (kind out begun told all : List ℕ) → begun ≡ out ++ (codes "{\"group\":" ++ (decimal group ++ codes ",\"kind\":")) → told ≡ begun ++ compact_text (string kind) → all ≡ told ++ codes ",\"names\":"
    → all ≡ out ++ head_text group kind
head_joined group kind out begun told all p q r =
    let word = compact_text (string kind) in
    let key : List ℕ = codes ",\"names\":" in
    r ∙ (ap (λ (l : List ℕ). l ++ key) (q ∙ ap (λ (l : List ℕ). l ++ word) p) ∙ regroup_head out (codes "{\"group\":") (decimal group) (codes ",\"kind\":") word key)
