-- The first rule lines that pass a test.
use Rattle.std.proofs.Common.{◌≡◌, ℕ, Bool, true, false, not, cond, ◌&&◌, ◌||◌, ◌⊎◌, inl, inr, List, [], ◌∷◌, Option, Some, None, refl, sym, ap, ◌∙◌}
use Rattle.std.specs.Prelude.{find}
use Rattle.std.specs.List.{list_any}
use Rattle.std.specs.Option.{option_or}
use Rattle.mk_read.specs.Names.{has_name}
use Rattle.mk_read.specs.Reading.{Makefile}
use Rattle.mk_read.specs.Rules.{gives_commands, has_some}
use Rattle.mk_read.specs.State.{RuleRead}
use Rattle.mk_sentences.specs.Places.{counts, counts_for, names_target, rule_shown}
use Rattle.mk_sentences.specs.Laws.{IsFirst}

-- a name that a target more has
pub one_more : (old new : Option RuleRead) (rule : RuleRead) (b c : Bool) → new ≡ option_or old (cond b (Some rule) None) → option_or new (cond c (Some rule) None) ≡ option_or old (cond (b || c) (Some rule) None)
one_more (Some r) new rule b c e = ap (λ (o : Option RuleRead). option_or o (cond c (Some rule) None)) e
one_more None new rule true c e = ap (λ (o : Option RuleRead). option_or o (cond c (Some rule) None)) e
one_more None new rule false c e = ap (λ (o : Option RuleRead). option_or o (cond c (Some rule) None)) e

-- a rule line more that counts
pub rule_more : (old new rest : Option RuleRead) (rule : RuleRead) (h : Bool) → new ≡ option_or old (cond h (Some rule) None) → option_or new rest ≡ option_or old (cond h (Some rule) rest)
rule_more (Some r) new rest rule h e = ap (λ (o : Option RuleRead). option_or o rest) e
rule_more None new rest rule true e = ap (λ (o : Option RuleRead). option_or o rest) e
rule_more None new rest rule false e = ap (λ (o : Option RuleRead). option_or o rest) e

-- nothing more
pub or_none : (o : Option RuleRead) → option_or o None ≡ o
or_none None = refl
or_none (Some r) = refl

-- tests that agree find the same
same_find : (p q : RuleRead → Bool) → ((r : RuleRead) → p r ≡ q r) → (rules : List RuleRead) → find p rules ≡ find q rules
same_find p q agrees [] = refl
same_find p q agrees (r ∷ rules) = ap (λ b. cond b (Some r) (find p rules)) (agrees r) ∙ ap (λ (rest : Option RuleRead). cond (q r) (Some r) rest) (same_find p q agrees rules)

-- with commands
commanded_same : (name : List ℕ) (r : RuleRead) → counts_for true name r ≡ gives_commands name r
commanded_same name r = at r.default (has_some r.commands) (has_name r.targets name)
  where
    at : (d s h : Bool) → (not d && (not true || s)) && h ≡ not d && (s && h)
    at true s h = refl
    at false true h = refl
    at false false h = refl

-- with or without
named_same : (name : List ℕ) (r : RuleRead) → counts_for false name r ≡ names_target name r
named_same name r = at r.default (has_some r.commands) (has_name r.targets name)
  where
    at : (d s h : Bool) → (not d && (not false || s)) && h ≡ not d && h
    at true s h = refl
    at false s h = refl

pub find_commanded : (name : List ℕ) (rules : List RuleRead) → find (counts_for true name) rules ≡ find (gives_commands name) rules
find_commanded name rules = same_find (counts_for true name) (gives_commands name) (commanded_same name) rules

pub find_named : (name : List ℕ) (rules : List RuleRead) → find (counts_for false name) rules ≡ find (names_target name) rules
find_named name rules = same_find (counts_for false name) (names_target name) (named_same name) rules

-- what is found is the first
first_found : (p : RuleRead → Bool) (rules : List RuleRead) (rule : RuleRead) → find p rules ≡ Some rule → IsFirst p rules rule
first_found p [] rule e = absurd cc
first_found p (r ∷ rules) rule e = at (p r) refl e (first_found p rules rule)
  where
    at : (b : Bool) → p r ≡ b → cond b (Some r) (find p rules) ≡ Some rule → (find p rules ≡ Some rule → IsFirst p rules rule) → IsFirst p (r ∷ rules) rule
    at true t d ih =
        let same : r ≡ rule = cc in
        record { before = []; after = rules; is_split = ap (λ (x : RuleRead). x ∷ rules) same; does_pass = sym (ap p same) ∙ t; none_before = refl }
    at false t d ih =
        let rest = ih d in
        record { before = r ∷ rest.before; after = rest.after; is_split = ap (λ l. r ∷ l) rest.is_split; does_pass = rest.does_pass; none_before = ap (λ b. b || list_any p rest.before) t ∙ rest.none_before }

-- what isn't found isn't there
none_found : (p : RuleRead → Bool) (rules : List RuleRead) → find p rules ≡ None → list_any p rules ≡ false
none_found p [] e = refl
none_found p (r ∷ rules) e = at (p r) refl e (none_found p rules)
  where
    at : (b : Bool) → p r ≡ b → cond b (Some r) (find p rules) ≡ None → (find p rules ≡ None → list_any p rules ≡ false) → (p r || list_any p rules) ≡ false
    at true t d ih = absurd cc
    at false t d ih = ap (λ b. b || list_any p rules) t ∙ ih d

-- the rule line at which a name is shown
pub shown_first : (m : Makefile) (name : List ℕ) (rule : RuleRead) → rule_shown m name ≡ Some rule → IsFirst (gives_commands name) m.rules rule ⊎ ((list_any (gives_commands name) m.rules ≡ false) × IsFirst (names_target name) m.rules rule)
shown_first m name rule e = at (find (gives_commands name) m.rules) refl e
  where
    at : (o : Option RuleRead) → find (gives_commands name) m.rules ≡ o → option_or o (find (names_target name) m.rules) ≡ Some rule
        → IsFirst (gives_commands name) m.rules rule ⊎ ((list_any (gives_commands name) m.rules ≡ false) × IsFirst (names_target name) m.rules rule)
    at None f d = inr (none_found (gives_commands name) m.rules f, first_found (names_target name) m.rules rule d)
    at (Some r) f d = inl (first_found (gives_commands name) m.rules rule (f ∙ d))

-- no rule line
pub shown_nowhere : (m : Makefile) (name : List ℕ) → rule_shown m name ≡ None → list_any (names_target name) m.rules ≡ false
shown_nowhere m name e = at (find (gives_commands name) m.rules) e
  where
    at : (o : Option RuleRead) → option_or o (find (names_target name) m.rules) ≡ None → list_any (names_target name) m.rules ≡ false
    at None d = none_found (names_target name) m.rules d
    at (Some r) d = absurd cc

-- the first of rule lines, where the first one counts
pub find_counted : (commanded : Bool) (name : List ℕ) (r : RuleRead) (rules : List RuleRead) → counts commanded r ≡ true → find (counts_for commanded name) (r ∷ rules) ≡ cond (has_name r.targets name) (Some r) (find (counts_for commanded name) rules)
find_counted commanded name r rules e = ap (λ b. cond (b && has_name r.targets name) (Some r) (find (counts_for commanded name) rules)) e

-- the first of rule lines, where the first one doesn't count
pub find_passed : (commanded : Bool) (name : List ℕ) (r : RuleRead) (rules : List RuleRead) → counts commanded r ≡ false → find (counts_for commanded name) (r ∷ rules) ≡ find (counts_for commanded name) rules
find_passed commanded name r rules e = ap (λ b. cond (b && has_name r.targets name) (Some r) (find (counts_for commanded name) rules)) e

-- what two tables show
pub shown_by : (m : Makefile) (name : List ℕ) (a b : Option RuleRead) → a ≡ find (counts_for true name) m.rules → b ≡ find (counts_for false name) m.rules → option_or a b ≡ rule_shown m name
shown_by m name a b e d =
    ap (λ (o : Option RuleRead). option_or o b) (e ∙ find_commanded name m.rules) ∙ ap (λ (o : Option RuleRead). option_or (find (gives_commands name) m.rules) o) (d ∙ find_named name m.rules)
