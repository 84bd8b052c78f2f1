-- Which names stand among others, when names are added.
use Rattle.std.proofs.Common.{◌≡◌, ℕ, ◌||◌, cond, List, [], ◌∷◌, ◌++◌, ◌+◌, ◌<◌, map, length, get_or, take, refl, sym, ap, ◌∙◌}
use Rattle.std.specs.Str.{bytes_eq}
use Rattle.std.proofs.lemmas.List.{take_more, map_push}
use mathlib.Core.Bool.{or_assoc}
use Rattle.mk_lines.proofs.NameTests.{has_name-insert, has_name-push}
use Rattle.mk_read.specs.Names.{has_name}

-- one of the names more was added
pub one_added : {A : Type 0} (view : A → List ℕ) (all set new : List (List ℕ)) (names : List A) (i : ℕ) (d : A) (name other : List ℕ) → new ≡ cond (has_name all name) all (all ++ name ∷ []) → name ≡ view (get_or names i d)
    → has_name all other ≡ (has_name set other || has_name (map view (take i names)) other) → i < length names → has_name new other ≡ (has_name set other || has_name (map view (take (i + 1) names)) other)
one_added view all set new names i d name other e is so_far lt =
    let more : map view (take (i + 1) names) ≡ map view (take i names) ++ name ∷ [] =
    ap (map view) (take_more names i d lt) ∙ (map_push view (take i names) (get_or names i d) ∙ ap (λ n. map view (take i names) ++ n ∷ []) (sym is)) in
    ap (λ ns. has_name ns other) e ∙ (has_name-insert all name other (has_name all name) refl
    ∙ (ap (λ b. b || bytes_eq other name) so_far ∙ (or_assoc (has_name set other) (has_name (map view (take i names)) other) (bytes_eq other name)
    ∙ ap (λ b. has_name set other || b) (sym (ap (λ ns. has_name ns other) more ∙ has_name-push (map view (take i names)) name other)))))
