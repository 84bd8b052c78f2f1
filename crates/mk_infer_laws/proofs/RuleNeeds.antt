-- The rule lines of a name, looked up by its name.
use Rattle.std.proofs.Common.{◌≡◌, ℕ, Bool, true, false, not, cond, List, [], ◌∷◌, ◌++◌, map, refl, sym, ap, ◌∙◌}
use Rattle.std.specs.Prelude.{filter}
use Rattle.std.specs.List.{flat_map}
use Rattle.std.proofs.lemmas.List.{map-append}
use Rattle.std.proofs.lemmas.List.Folds.{list_any-append}
use Rattle.std.specs.Str.{bytes_eq}
use Rattle.std.proofs.lemmas.Bool.{or_parts}
use Rattle.mk_read.specs.Laws.{joined}
use Rattle.mk_read.specs.Names.{has_name}
use Rattle.mk_read.specs.Needs.{words_of, is_wait}
use Rattle.mk_read.specs.Reading.{Makefile}
use Rattle.mk_read.specs.Special.{is_inference_name}
use Rattle.mk_read.specs.State.{RuleRead}
use Rattle.mk_lines.specs.Names.{number_of}
use Rattle.mk_infer.specs.Selection.{in_node_numbers}
use Rattle.mk_infer.specs.Targets.{prerequisites_of}
use Rattle.mk_infer.specs.Table.{targets_in}

-- a name that is no target has no words
no_words : (rules : List RuleRead) (name : List ℕ) → has_name (targets_in rules) name ≡ false → words_of rules name ≡ []
no_words [] name h = refl
no_words (rule ∷ rules) name h =
    let parts = or_parts (has_name rule.targets name) (has_name (targets_in rules) name) (sym (list_any-append (λ (other : List ℕ). bytes_eq name other) rule.targets (targets_in rules)) ∙ h) in
    rw parts.0 (no_words rules name parts.1)

-- nor prerequisites
pub no_prerequisites : (m : Makefile) (name : List ℕ) → has_name (targets_in m.rules) name ≡ false → prerequisites_of m name ≡ []
no_prerequisites m name h = ap (filter (λ word. not (is_wait word))) (none (is_inference_name m.suffixes name))
  where
    none : (b : Bool) → words_of (cond b [] m.rules) name ≡ []
    none true = refl
    none false = no_words m.rules name h

-- numbers in groups are those of all names
pub flat_numbered : (all : List (List ℕ)) (gs : List (List (List ℕ))) → flat_map (λ (group : List ℕ). group) (in_node_numbers all gs) ≡ map (number_of all) (joined gs)
flat_numbered all [] = refl
flat_numbered all (group ∷ gs) = ap (λ (ns : List ℕ). map (number_of all) group ++ ns) (flat_numbered all gs) ∙ sym (map-append (number_of all) group (joined gs))
