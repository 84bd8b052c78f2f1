-- Sets of names that are parts of a text.
use Rattle.std.proofs.Common.{◌≡◌, ℕ, ◌+◌, ◌<◌, length, List, get_or, drop, sym, ap, ◌∙◌}
use Rattle.std.specs.Prelude.{fold}
use Rattle.std.specs.Borrow.{Bor}
use Rattle.std.proofs.lemmas.List.{drop_more}
use Rattle.mk_lemmas.proofs.Texts.{texts}
use Rattle.mk_foot.specs.Names.{with_name}

-- one more of the names goes in
pub one_in : (old new : List (List ℕ)) (names : List (Bor (List ℕ))) (i : ℕ) (d : Bor (List ℕ)) (whole : List (List ℕ)) → new ≡ with_name old (get_or names i d).now
    → fold with_name old (texts (drop i names)) ≡ whole → i < length names → fold with_name new (texts (drop (i + 1) names)) ≡ whole
one_in old new names i d whole e so_far lt = ap (λ set. fold with_name set (texts (drop (i + 1) names))) e ∙ (sym (ap (λ ns. fold with_name old (texts ns)) (drop_more names i d lt)) ∙ so_far)
