-- The first target of the makefile's own rule lines.
use Rattle.std.proofs.Common.{◌≡◌, ℕ, ◌+◌, ◌<◌, Bool, true, false, not, cond, List, [], ◌∷◌, ◌++◌, Some, None, length, get_or, drop, refl, sym, ap, ◌∙◌}
use Rattle.std.specs.Prelude.{Option, filter, find}
use Rattle.std.specs.List.{flat_map}
use Rattle.std.proofs.lemmas.List.{drop_more}
use Rattle.mk_read.specs.State.{RuleRead}
use Rattle.mk_infer.specs.Goals.{own_targets}

module _ (p : List ℕ → Bool) where
  found_in_front : (xs ys : List (List ℕ)) (x : List ℕ) → find p xs ≡ Some x → find p (xs ++ ys) ≡ Some x
  found_in_front [] ys x h = absurd cc
  found_in_front (y ∷ xs) ys x h = at (p y) h (found_in_front xs ys x)
    where
      at : (b : Bool) → cond b (Some y) (find p xs) ≡ Some x → (find p xs ≡ Some x → find p (xs ++ ys) ≡ Some x) → cond b (Some y) (find p (xs ++ ys)) ≡ Some x
      at true h ih = h
      at false h ih = ih h

  found_behind : (xs ys : List (List ℕ)) → find p xs ≡ None → find p (xs ++ ys) ≡ find p ys
  found_behind [] ys h = refl
  found_behind (y ∷ xs) ys h = at (p y) h (found_behind xs ys)
    where
      at : (b : Bool) → cond b (Some y) (find p xs) ≡ None → (find p xs ≡ None → find p (xs ++ ys) ≡ find p ys) → cond b (Some y) (find p (xs ++ ys)) ≡ find p ys
      at true h ih = absurd cc
      at false h ih = ih h

  module _ (rules : List RuleRead) (i : ℕ) (rule : RuleRead) (is : rule ≡ get_or rules i rule) (own : rule.default ≡ false) (lt : i < length rules) where
    own_more : own_targets (drop i rules) ≡ rule.targets ++ own_targets (drop (i + 1) rules)
    own_more =
        ap own_targets (drop_more rules i rule lt ∙ ap (λ (r : RuleRead). r ∷ drop (i + 1) rules) (sym is))
        ∙ ap (λ b. flat_map (λ (r : RuleRead). r.targets) (cond (not b) (rule ∷ filter (λ (r : RuleRead). not r.default) (drop (i + 1) rules)) (filter (λ (r : RuleRead). not r.default) (drop (i + 1) rules)))) own

    pub target_here : (x : List ℕ) (whole : Option (List ℕ)) → Some x ≡ find p rule.targets → find p (own_targets (drop i rules)) ≡ whole → Some x ≡ whole
    target_here x whole e h = sym (ap (find p) own_more ∙ found_in_front rule.targets (own_targets (drop (i + 1) rules)) x (sym e)) ∙ h

    pub target_later : (whole : Option (List ℕ)) → None ≡ find p rule.targets → find p (own_targets (drop i rules)) ≡ whole → find p (own_targets (drop (i + 1) rules)) ≡ whole
    target_later whole e h = sym (ap (find p) own_more ∙ found_behind rule.targets (own_targets (drop (i + 1) rules)) (sym e)) ∙ h
