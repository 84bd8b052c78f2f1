-- Names that are there, in a set.
use Rattle.std.proofs.Common.{◌≡◌, ℕ, Bool, true, false, ◌||◌, cond, List, [], refl, sym, ap, ◌∙◌}
use Rattle.std.specs.List.{list_all, list_any}
use Rattle.mk_lemmas.proofs.Members.{list_all-Has}
use Rattle.mk_graph.specs.Membership.{Has}
use Rattle.mk_lines.specs.Names.{has_name}
use Rattle.mk_read.specs.Reading.{Makefile}
use Rattle.mk_read.specs.Special.{is_inference_name, is_suffix}
use Rattle.mk_read.specs.State.{RuleRead}
use Rattle.mk_infer.specs.Table.{targets_in}
use Rattle.mk_infer.specs.Targets.{is_target}
use Rattle.mk_infer.specs.There.{Exists, is_there}
use Rattle.mk_infer.proofs.Members.{target_listed}

-- a target is among all targets
target_among : (m : Makefile) (name : List ℕ) → is_target m name ≡ true → has_name (targets_in m.rules) name ≡ true
target_among m name = by (is_inference_name m.suffixes name)
  where
    by : (inference : Bool) → list_any (λ (rule : RuleRead). has_name rule.targets name) (cond inference [] m.rules) ≡ true → has_name (targets_in m.rules) name ≡ true
    by true h = absurd cc
    by false h = sym (target_listed m.rules name) ∙ h

any : (a b c d e : Bool) → (d ≡ true → e ≡ true) → (a || (b || (d || c))) ≡ true → (((a || b) || c) || e) ≡ true
any true b c d e f h = refl
any false true c d e f h = refl
any false false true d e f h = refl
any false false false true e f h = f refl
any false false false false e f h = absurd cc

-- what has sources, texts, names more and targets has all that is there
pub has_there : (m : Makefile) (e : Exists) (name : List ℕ) (one two three all : Bool) → one ≡ has_name e.sources name → two ≡ (one || has_name e.texts name) → three ≡ (two || has_name e.more name)
    → all ≡ (three || has_name (targets_in m.rules) name) → is_there m e name ≡ true → all ≡ true
has_there m e name one two three all first second third last there =
    let whole : all ≡ (((has_name e.sources name || has_name e.texts name) || has_name e.more name) || has_name (targets_in m.rules) name) =
    last ∙ ap (λ b. b || has_name (targets_in m.rules) name) (third ∙ ap (λ b. b || has_name e.more name) (second ∙ ap (λ b. b || has_name e.texts name) first)) in
    whole ∙ any (has_name e.sources name) (has_name e.texts name) (has_name e.more name) (is_target m name) (has_name (targets_in m.rules) name) (target_among m name) there

-- a suffix of the list is one
pub listed_suffix : (m : Makefile) (suffix : List ℕ) → list_all is_suffix m.suffixes ≡ true → Has m.suffixes suffix → is_suffix suffix ≡ true
listed_suffix m suffix all there = list_all-Has is_suffix m.suffixes suffix all there
