-- Rule lines with commands.
use Rattle.std.proofs.Common.{◌≡◌, ℕ, Bool, true, false, not, ◌||◌, ◌&&◌, cond, ◌+◌, ◌<◌, length, get_or, drop, map, String, List, [], ◌∷◌, ◌++◌, Option, Err, refl, sym, ap, ◌∙◌}
use Rattle.std.specs.Str.{bytes_eq}
use Rattle.std.specs.String.{string_bytes}
use Rattle.std.specs.declared.alloc.Global.{Global}
use Rattle.std.proofs.lemmas.List.{drop_more}
use Rattle.std.specs.Prelude.{find, Some, None, is_some}
use Rattle.std.specs.Option.{option_map}
use Rattle.std.proofs.lemmas.List.Folds.{list_any-append}
use mathlib.Core.Bool.{or-false, or_assoc}
use Rattle.mk_lines.proofs.NameTests.{has_name-insert}
use Rattle.mk_read.specs.Names.{has_name, with_name}
use Rattle.mk_read.specs.Rules.{has_some, gives_commands, is_commanded, taken, unless_taken, commanded}
use Rattle.mk_read.specs.declared.fault.ReadFault.TheVariants.{TwoRecipes}
use Rattle.mk_read.specs.State.{Command, RuleRead, Owner, Nobody, Last, SpecialTarget, PassedOver, last_rule}
use Rattle.mk_read_parse.specs.Views.{IsBare, KnowsCommands}

and_false : (a b : Bool) → (a && (false && b)) ≡ false
and_false true b = refl
and_false false b = refl

-- a rule line without commands gives none
bare_gives_none : (rule : RuleRead) (name : List ℕ) → has_some rule.commands ≡ false → gives_commands name rule ≡ false
bare_gives_none rule name e = ap (λ b. not rule.default && (b && has_name rule.targets name)) e ∙ and_false (not rule.default) (has_name rule.targets name)

-- an owner without commands gives none
pub no_commands : (rules : List RuleRead) (owner : Owner) (name : List ℕ) → IsBare owner → is_commanded (rules ++ last_rule owner) name ≡ is_commanded rules name
no_commands rules owner name bare = list_any-append (gives_commands name) rules (last_rule owner) ∙ (ap (λ b. is_commanded rules name || b) (none owner bare) ∙ or-false (is_commanded rules name))
  where
    none : (o : Owner) → IsBare o → is_commanded (last_rule o) name ≡ false
    none (Last rule) e = ap (λ b. b || false) (bare_gives_none rule name e)
    none Nobody e = refl
    none SpecialTarget e = refl
    none PassedOver e = refl

-- what is known of rule lines stays known behind such an owner
pub knows_behind : (names : List (List ℕ)) (rules : List RuleRead) (owner : Owner) → KnowsCommands names rules → IsBare owner → KnowsCommands names (rules ++ last_rule owner)
knows_behind names rules owner knows bare name = knows name ∙ sym (no_commands rules owner name bare)

-- one of the names that are left was added
pub one_added : (all set new : List (List ℕ)) (names : List (String Global)) (i : ℕ) (d : String Global) (added : List ℕ) (other : List ℕ) → added ≡ string_bytes (get_or names i d) → new ≡ with_name all added
    → (has_name all other || has_name (map string_bytes (drop i names)) other) ≡ (has_name set other || has_name (map string_bytes names) other) → i < length names
    → (has_name new other || has_name (map string_bytes (drop (i + 1) names)) other) ≡ (has_name set other || has_name (map string_bytes names) other)
one_added all set new names i d added other same e so_far lt =
    let name = string_bytes (get_or names i d) in
    let rest = map string_bytes (drop (i + 1) names) in
    ap (λ ns. has_name ns other || has_name rest other) (e ∙ ap (with_name all) same)
    ∙ (ap (λ b. b || has_name rest other) (has_name-insert all name other (has_name all name) refl)
    ∙ (or_assoc (has_name all other) (bytes_eq other name) (has_name rest other)
    ∙ (ap (λ ns. has_name all other || has_name (map string_bytes ns) other) (sym (drop_more names i d lt)) ∙ so_far)))

-- two tests that agree find the same
pub find_agree : {A : Type 0} (p q : A → Bool) (xs : List A) → ((x : A) → p x ≡ q x) → find p xs ≡ find q xs
find_agree p q [] h = refl
find_agree p q (x ∷ xs) h = ap (λ b. cond b (Some x) (find p xs)) (h x) ∙ ap (cond (q x) (Some x)) (find_agree p q xs h)

-- what is known of rule lines is known with one that has commands
pub knows_more : (known all : List (List ℕ)) (rules : List RuleRead) (rule : RuleRead) → KnowsCommands known rules → rule.default ≡ false → has_some rule.commands ≡ true
    → ((name : List ℕ) → has_name all name ≡ (has_name known name || has_name rule.targets name)) → KnowsCommands all (rules ++ rule ∷ [])
knows_more known all rules rule knows own has h name =
    h name ∙ (ap (λ b. b || has_name rule.targets name) (knows name) ∙ sym (list_any-append (gives_commands name) rules (rule ∷ [])
    ∙ ap (λ b. is_commanded rules name || b) (or-false (gives_commands name rule) ∙ (ap (λ b. not b && (has_some rule.commands && has_name rule.targets name)) own ∙ ap (λ b. b && has_name rule.targets name) has))))

-- the default text's rule lines give none
pub knows_default : (known : List (List ℕ)) (rules : List RuleRead) (rule : RuleRead) → KnowsCommands known rules → rule.default ≡ true → KnowsCommands known (rules ++ rule ∷ [])
knows_default known rules rule knows default name =
    knows name ∙ sym (list_any-append (gives_commands name) rules (rule ∷ []) ∙ (ap (λ b. is_commanded rules name || (not b && (has_some rule.commands && has_name rule.targets name) || false)) default ∙ or-false (is_commanded rules name)))

-- the first target that is taken, looked up among the names that are known
taken_is : (known : List (List ℕ)) (earlier : List RuleRead) (rule : RuleRead) (o : Option (List ℕ)) → KnowsCommands known earlier → rule.default ≡ false → find (has_name known) rule.targets ≡ o → taken earlier rule ≡ o
taken_is known earlier rule o knows own e =
    ap (λ b. cond b None (find (is_commanded earlier) rule.targets)) own ∙ (find_agree (is_commanded earlier) (has_name known) rule.targets (λ name. sym (knows name)) ∙ e)

pub refused : (known : List (List ℕ)) (earlier : List RuleRead) (rule : RuleRead) (target : List ℕ) → KnowsCommands known earlier → rule.default ≡ false → find (has_name known) rule.targets ≡ Some target
    → unless_taken (taken earlier rule) rule earlier ≡ Err (TwoRecipes rule.place target)
refused known earlier rule target knows own e = ap (λ o. unless_taken o rule earlier) (taken_is known earlier rule (Some target) knows own e)

-- a rule line with one command more knows no more, where it had some
pub same_commanded : (earlier : List RuleRead) (rule more : RuleRead) (command : Command) (known : List (List ℕ)) → more ≡ commanded rule command → has_some rule.commands ≡ true → KnowsCommands known (earlier ++ rule ∷ []) → KnowsCommands known (earlier ++ more ∷ [])
same_commanded earlier rule more command known is had knows name =
    knows name ∙ (list_any-append (gives_commands name) earlier (rule ∷ []) ∙ (ap (λ b. is_commanded earlier name || b) (same is)
    ∙ sym (list_any-append (gives_commands name) earlier (more ∷ []))))
  where
    same : more ≡ commanded rule command → is_commanded (rule ∷ []) name ≡ is_commanded (more ∷ []) name
    same e = ap (λ b. not rule.default && (b && has_name rule.targets name) || false) had ∙ ap (λ (r : RuleRead). gives_commands name r || false) (sym e)

-- what is known with a bare rule line behind is known without it
pub knows_before : (known : List (List ℕ)) (earlier : List RuleRead) (rule : RuleRead) → has_some rule.commands ≡ false → KnowsCommands known (earlier ++ rule ∷ []) → KnowsCommands known earlier
knows_before known earlier rule bare knows name = knows name ∙ no_commands earlier (Last rule) name bare

-- something is there where something is seen
pub seen_there : {A B : Type 0} (f : A → B) (o : Option A) → has_some (option_map f o) ≡ is_some o
seen_there f None = refl
seen_there f (Some x) = refl
