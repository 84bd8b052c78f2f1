-- Tables of rule lines by name.
use Rattle.std.proofs.Common.{◌≡◌, ℕ, Bool, true, false, cond, List, [], ◌∷◌, Option, Some, None, refl, sym, ap, ◌∙◌}
use Rattle.std.specs.Prelude.{is_some}
use Rattle.std.specs.Borrow.{Bor}
use Rattle.std.specs.Map.{lookup}
use Rattle.std.specs.Option.{option_copied, option_or}
use Rattle.std.specs.Str.{bytes_eq}
use Rattle.std.proofs.lemmas.Slice.Eq.{bytes_eq-Decides}
use Rattle.std.proofs.lemmas.Bool.{true≢false}
use Rattle.indexmap.specs.IndexMap.{insert_entry}
use Rattle.mk_read.specs.State.{RuleRead}
use Rattle.mk_sentences.proofs.FirstRules.{or_none}

-- the entries of a table
abbrev Entries : Type 0
Entries = List (Bor (List ℕ) × Bor RuleRead)

-- whether two keys are equal
abbrev same : Bor (List ℕ) → Bor (List ℕ) → Bool
same x y = bytes_eq x.now y.now

-- the rule line of a name
abbrev rule_in : Entries → List ℕ → Option (Bor RuleRead)
rule_in entries name = lookup (λ k. bytes_eq name k.now) entries

-- equal bytes are equal
equal : (x y : List ℕ) → bytes_eq x y ≡ true → x ≡ y
equal x y e = (bytes_eq-Decides x y).0 e

-- what is equal passes
passes : (x y : List ℕ) → x ≡ y → bytes_eq x y ≡ true
passes x y e = (bytes_eq-Decides x y).1 e

-- a look-up after a key was inserted
inserted_at : (entries : Entries) (key : Bor (List ℕ)) (rule : Bor RuleRead) (name : List ℕ) → rule_in (insert_entry same entries key rule) name ≡ cond (bytes_eq name key.now) (Some rule) (rule_in entries name)
inserted_at [] key rule name = refl
inserted_at (e ∷ entries) key rule name = at (same key e.0) (bytes_eq name e.0.now) (bytes_eq name key.now) refl refl refl (inserted_at entries key rule name)
  where
    at : (b c d : Bool) → same key e.0 ≡ b → bytes_eq name e.0.now ≡ c → bytes_eq name key.now ≡ d
        → rule_in (insert_entry same entries key rule) name ≡ cond d (Some rule) (rule_in entries name)
        → rule_in (cond b ((e.0, rule) ∷ entries) (e ∷ insert_entry same entries key rule)) name ≡ cond d (Some rule) (cond c (Some e.1) (rule_in entries name))
    at true true true p q r ih = ap (λ b. cond b (Some rule) (rule_in entries name)) q
    at true false false p q r ih = ap (λ b. cond b (Some rule) (rule_in entries name)) q
    at true true false p q r ih = absurd (true≢false (sym (passes name key.now (equal name e.0.now q ∙ sym (equal key.now e.0.now p))) ∙ r))
    at true false true p q r ih = absurd (true≢false (sym (passes name e.0.now (equal name key.now r ∙ equal key.now e.0.now p)) ∙ q))
    at false true true p q r ih = absurd (true≢false (sym (passes key.now e.0.now (sym (equal name key.now r) ∙ equal name e.0.now q)) ∙ p))
    at false true false p q r ih = ap (λ b. cond b (Some e.1) (rule_in (insert_entry same entries key rule) name)) q
    at false false true p q r ih = ap (λ b. cond b (Some e.1) (rule_in (insert_entry same entries key rule) name)) q ∙ ih
    at false false false p q r ih = ap (λ b. cond b (Some e.1) (rule_in (insert_entry same entries key rule) name)) q ∙ ih

-- the new table, once a target was added that wasn't there
pub added : (old new : Entries) (key : Bor (List ℕ)) (rule : Bor RuleRead) → new ≡ insert_entry same old key rule → is_some (rule_in old key.now) ≡ false
    → (name : List ℕ) → option_copied (rule_in new name) ≡ option_or (option_copied (rule_in old name)) (cond (bytes_eq name key.now) (Some rule.now) None)
added old new key rule e absent name =
    ap (λ (entries : Entries). option_copied (rule_in entries name)) e
    ∙ (ap (λ (o : Option (Bor RuleRead)). option_copied o) (inserted_at old key rule name) ∙ at (bytes_eq name key.now) (rule_in old name) refl refl)
  where
    at : (b : Bool) (o : Option (Bor RuleRead)) → bytes_eq name key.now ≡ b → rule_in old name ≡ o → option_copied (cond b (Some rule) o) ≡ option_or (option_copied o) (cond b (Some rule.now) None)
    at false o t f = sym (or_none (option_copied o))
    at true None t f = refl
    at true (Some r) t f = absurd (true≢false (sym (ap (λ (n : List ℕ). is_some (rule_in old n)) (sym (equal name key.now t)) ∙ ap is_some f) ∙ absent))

-- the table as it was, where a target is there
pub kept : (old : Entries) (target : List ℕ) (rule : RuleRead) → is_some (rule_in old target) ≡ true
    → (name : List ℕ) → option_copied (rule_in old name) ≡ option_or (option_copied (rule_in old name)) (cond (bytes_eq name target) (Some rule) None)
kept old target rule there name = at (bytes_eq name target) (rule_in old name) refl refl
  where
    at : (b : Bool) (o : Option (Bor RuleRead)) → bytes_eq name target ≡ b → rule_in old name ≡ o → option_copied o ≡ option_or (option_copied o) (cond b (Some rule) None)
    at b (Some r) t f = refl
    at false None t f = refl
    at true None t f = absurd (true≢false (sym there ∙ (ap (λ (n : List ℕ). is_some (rule_in old n)) (sym (equal name target t)) ∙ ap is_some f)))
