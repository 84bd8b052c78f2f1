-- Names that two suffixes make.
use Rattle.std.proofs.Common.{◌≡◌, ℕ, false, ◌||◌, ◌&&◌, List, [], ◌∷◌, ◌++◌, length, refl, sym, ap, ◌∙◌, append-nil}
use Rattle.std.specs.Prelude.{◌==◌}
use Rattle.std.specs.List.{list_any}
use Rattle.std.specs.Str.{bytes_eq}
use Rattle.std.proofs.Math.Dec.{eqb-suc-zero}
use Rattle.std.proofs.lemmas.Bool.{false_from_ne_true}
use Rattle.std.proofs.lemmas.Slice.Eq.{bytes_eq-Decides}
use Rattle.mk_read.specs.Names.{has_name}
use Rattle.mk_read_parse.specs.Views.{is_joined}
use Rattle.mk_read_parse.proofs.OneFile.{eq_self}

same_behind : (front xs ys : List ℕ) → bytes_eq (front ++ xs) (front ++ ys) ≡ bytes_eq xs ys
same_behind [] xs ys = refl
same_behind (b ∷ front) xs ys = ap (λ t. t && bytes_eq (front ++ xs) (front ++ ys)) (eq_self b) ∙ same_behind front xs ys

empty_alone : (xs : List ℕ) → bytes_eq xs [] ≡ (length xs == 0)
empty_alone [] = refl
empty_alone (x ∷ xs) = sym (eqb-suc-zero (length xs))

any_behind : (front rest : List ℕ) (suffixes : List (List ℕ)) → list_any (λ other. bytes_eq (front ++ rest) (front ++ other)) suffixes ≡ has_name suffixes rest
any_behind front rest [] = refl
any_behind front rest (other ∷ suffixes) = ap (λ b. b || list_any (λ o. bytes_eq (front ++ rest) (front ++ o)) suffixes) (same_behind front rest other) ∙ ap (λ b. bytes_eq rest other || b) (any_behind front rest suffixes)

-- a name with the suffix in front
pub with_front_suffix : (suffixes : List (List ℕ)) (name suffix rest : List ℕ) → name ≡ suffix ++ rest → is_joined suffixes name suffix ≡ ((length rest == 0) || has_name suffixes rest)
with_front_suffix suffixes name suffix rest e =
    ap (λ n. is_joined suffixes n suffix) e ∙ (ap (λ b. b || list_any (λ other. bytes_eq (suffix ++ rest) (suffix ++ other)) suffixes) (ap (bytes_eq (suffix ++ rest)) (sym (append-nil suffix)) ∙ (same_behind suffix rest [] ∙ empty_alone rest))
    ∙ ap (λ b. (length rest == 0) || b) (any_behind suffix rest suffixes))

none_equal : (name front : List ℕ) (suffixes : List (List ℕ)) → ((rest : List ℕ) → ¬ (name ≡ front ++ rest)) → list_any (λ other. bytes_eq name (front ++ other)) suffixes ≡ false
none_equal name front [] h = refl
none_equal name front (other ∷ suffixes) h =
    ap (λ b. b || list_any (λ o. bytes_eq name (front ++ o)) suffixes) (false_from_ne_true _ (λ t. h other ((bytes_eq-Decides name (front ++ other)).0 t))) ∙ none_equal name front suffixes h

-- one without
pub without_front_suffix : (suffixes : List (List ℕ)) (name suffix : List ℕ) → ((rest : List ℕ) → ¬ (name ≡ suffix ++ rest)) → is_joined suffixes name suffix ≡ false
without_front_suffix suffixes name suffix h =
    ap (λ b. b || list_any (λ other. bytes_eq name (suffix ++ other)) suffixes) (false_from_ne_true _ (λ t. h [] ((bytes_eq-Decides name suffix).0 t ∙ sym (append-nil suffix)))) ∙ none_equal name suffix suffixes h
