-- The first of a list that passes, and what it gives.
use Rattle.std.proofs.Common.{◌≡◌, ℕ, ◌+◌, ◌<◌, Bool, true, false, ◌&&◌, ◌++◌, cond, List, Option, Some, None, map, length, get_or, drop, refl, sym, ap, ◌∙◌}
use Rattle.std.specs.Prelude.{find}
use Rattle.std.specs.Option.{option_map}
use Rattle.std.proofs.lemmas.List.{drop_more}
use Rattle.mk_read.specs.Reading.{Makefile}
use Rattle.mk_read.specs.Rules.{has_some}
use Rattle.mk_infer.specs.Inference.{commands_from, fits, stem}
use Rattle.mk_infer.specs.Table.{AreSources}
use Rattle.mk_infer.specs.There.{Exists, is_there}
use Rattle.mk_infer.proofs.Members.{find_same}

-- the next one passes
pub first_is : {A B C : Type 0} (view : A → B) (p : B → Bool) (gives : B → C) (xs : List A) (i : ℕ) (d : A) (x : B) (given : C) (whole : Option B) → x ≡ view (get_or xs i d) → i < length xs
    → Some given ≡ cond (p x) (Some (gives x)) None → find p (map view (drop i xs)) ≡ whole → Some given ≡ option_map gives whole
first_is {B} view p gives xs i d x given whole is lt e so_far = at (p x) refl e
  where
    next : find p (map view (drop i xs)) ≡ cond (p x) (Some x) (find p (map view (drop (i + 1) xs)))
    next = ap (λ ys. find p (map view ys)) (drop_more xs i d lt) ∙ ap (λ (y : B). cond (p y) (Some y) (find p (map view (drop (i + 1) xs)))) (sym is)

    at : (b : Bool) → p x ≡ b → Some given ≡ cond b (Some (gives x)) None → Some given ≡ option_map gives whole
    at true t k = k ∙ ap (option_map gives) (sym (ap (λ b. cond b (Some x) (find p (map view (drop (i + 1) xs)))) t) ∙ (sym next ∙ so_far))
    at false f k = absurd cc

-- the first that fits is among them
pub first_fits : (m : Makefile) (e : Exists) (name : List ℕ) (sources : List (List ℕ)) → AreSources m name sources → find (fits m e name) sources ≡ find (fits m e name) m.suffixes
first_fits m e name sources are = are (fits m e name) ∙ find_same _ (fits m e name) m.suffixes (λ suffix there. twice (has_some (commands_from m name suffix)) (is_there m e (stem m name ++ suffix)))
  where
    twice : (a b : Bool) → (a && (a && b)) ≡ (a && b)
    twice true b = refl
    twice false b = refl
