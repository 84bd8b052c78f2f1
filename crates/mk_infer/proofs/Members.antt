-- What stands in a list.
use Rattle.std.proofs.Common.{◌≡◌, ℕ, Bool, ◌||◌, cond, List, [], ◌∷◌, Option, Some, inl, inr, refl, sym, ap, ◌∙◌}
use Rattle.std.specs.Prelude.{find}
use Rattle.std.specs.List.{list_any}
use Rattle.std.specs.Str.{bytes_eq}
use Rattle.std.proofs.lemmas.List.Folds.{list_any-append}
use Rattle.mk_graph.specs.Membership.{Has}
use Rattle.mk_read.specs.Names.{has_name}
use Rattle.mk_read.specs.State.{RuleRead}
use Rattle.mk_infer.specs.Table.{targets_in}

-- tests that agree on the list find the same
pub find_same : {A : Type 0} (p q : A → Bool) (xs : List A) → ((x : A) → Has xs x → p x ≡ q x) → find p xs ≡ find q xs
find_same p q [] h = refl
find_same {A} p q (x ∷ xs) h = ap (λ b. cond b (Some x) (find p xs)) (h x (inl refl)) ∙ ap (λ (o : Option A). cond (q x) (Some x) o) (find_same p q xs (λ y k. h y (inr k)))

-- a target of rule lines stands among their targets
pub target_listed : (rules : List RuleRead) (name : List ℕ) → list_any (λ (rule : RuleRead). has_name rule.targets name) rules ≡ has_name (targets_in rules) name
target_listed [] name = refl
target_listed (rule ∷ rules) name =
    ap (λ b. has_name rule.targets name || b) (target_listed rules name) ∙ sym (list_any-append (λ (other : List ℕ). bytes_eq name other) rule.targets (targets_in rules))
