-- Names that are kept once.
use Rattle.std.proofs.Common.{◌≡◌, ℕ, ◌+◌, ◌<◌, not, cond, List, [], ◌∷◌, ◌++◌, length, get_or, drop, refl, sym, ap, ◌∙◌}
use Rattle.std.specs.Prelude.{filter}
use Rattle.std.specs.Borrow.{Bor}
use Rattle.std.proofs.lemmas.List.{drop_more}
use Rattle.mk_lemmas.proofs.Texts.{texts}
use Rattle.mk_lines.proofs.Once.{and_new, and_new-one}
use Rattle.mk_read.specs.Names.{has_name, once}

-- the next of the names goes into the set
pub next_into : (set new : List (List ℕ)) (names : List (Bor (List ℕ))) (i : ℕ) (d : Bor (List ℕ)) (whole : List (List ℕ)) → new ≡ cond (has_name set (get_or names i d).now) set (set ++ (get_or names i d).now ∷ [])
    → and_new set (texts (drop i names)) ≡ whole → i < length names → and_new new (texts (drop (i + 1) names)) ≡ whole
next_into set new names i d whole e so_far lt =
    ap (λ s. and_new s (texts (drop (i + 1) names))) e ∙ (sym (ap (λ ns. and_new set (texts ns)) (drop_more names i d lt) ∙ and_new-one set (get_or names i d).now (texts (drop (i + 1) names)) _ refl) ∙ so_far)

-- with an empty set all are new
pub none_there : (names : List (List ℕ)) → and_new [] names ≡ once names
none_there names = all_kept (once names)
  where
    all_kept : (xs : List (List ℕ)) → filter (λ name. not (has_name [] name)) xs ≡ xs
    all_kept [] = refl
    all_kept (x ∷ xs) = ap (λ ys. x ∷ ys) (all_kept xs)
