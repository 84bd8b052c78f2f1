-- The rule lines of a name, looked up by its name.
use Rattle.std.proofs.Common.{◌≡◌, ℕ, Bool, true, false, not, ◌&&◌, cond, List, [], ◌∷◌, Some, refl, ap, ◌∙◌}
use Rattle.std.specs.Prelude.{Option, filter, find}
use Rattle.mk_read.specs.Names.{has_name}
use Rattle.mk_read.specs.Needs.{commands_of, commands_in, has_commands}
use Rattle.mk_read.specs.Rules.{gives_commands, has_some}
use Rattle.mk_read.specs.State.{RuleRead}
use Rattle.mk_infer.specs.Table.{counts_for, lines_of}

-- the first of those that pass a second test
find_filter : {A : Type 0} (p q r : A → Bool) → ((x : A) → r x ≡ (p x && q x)) → (xs : List A) → find r xs ≡ find p (filter q xs)
find_filter p q r h [] = refl
find_filter {A} p q r h (x ∷ xs) = ap (λ b. cond b (Some x) (find r xs)) (h x) ∙ at (q x) (find_filter p q r h xs)
  where
    at : (b : Bool) → find r xs ≡ find p (filter q xs) → cond (p x && b) (Some x) (find r xs) ≡ find p (cond b (x ∷ filter q xs) (filter q xs))
    at true e = both (p x)
      where
        both : (c : Bool) → cond (c && true) (Some x) (find r xs) ≡ cond c (Some x) (find p (filter q xs))
        both true = refl
        both false = e
    at false e = both (p x)
      where
        both : (c : Bool) → cond (c && false) (Some x) (find r xs) ≡ find p (filter q xs)
        both true = e
        both false = e

own_counts : (name : List ℕ) (rule : RuleRead) → gives_commands name rule ≡ (counts_for true rule && has_name rule.targets name)
own_counts name rule = three (not rule.default) (has_some rule.commands) (has_name rule.targets name)
  where
    three : (a b c : Bool) → (a && (b && c)) ≡ ((a && b) && c)
    three true b c = refl
    three false b c = refl

-- the commands by the rule lines that name it
pub by_lines : (rules : List RuleRead) (name : List ℕ) → commands_of rules name ≡ commands_in (find (counts_for true) (lines_of rules name)) (find (counts_for false) (lines_of rules name))
by_lines rules name =
    let named : RuleRead → Bool = λ rule. has_name rule.targets name in
    ap (λ (first : Option RuleRead). commands_in first (find (has_commands name) rules)) (find_filter (counts_for true) named (gives_commands name) (own_counts name) rules)
    ∙ ap (commands_in (find (counts_for true) (lines_of rules name))) (find_filter (counts_for false) named (has_commands name) (λ rule. refl) rules)
