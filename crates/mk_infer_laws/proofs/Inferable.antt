-- Names that an inference rule may make, in a list.
use Rattle.std.proofs.Common.{◌≡◌, ℕ, ◌-◌, Bool, true, false, ◌||◌, cond, List, [], ◌∷◌, ◌++◌, Option, Some, None, map, length, take, drop, inl, inr, ◌⊎◌, refl, sym, ap, subst, ◌∙◌, arith}
use Rattle.std.specs.Prelude.{find, nat_lt, option_to_list}
use Rattle.std.specs.List.{flat_map, list_any}
use Rattle.std.specs.Option.{option_map, option_map_or}
use Rattle.std.specs.Str.{bytes_eq}
use Rattle.std.proofs.lemmas.Bool.{both_ways, and_parts, or_cases, or_parts}
use Rattle.std.proofs.lemmas.List.{take-append-drop}
use Rattle.std.proofs.lemmas.List.Folds.{list_any-append}
use Rattle.std.proofs.lemmas.Slice.Eq.{bytes_eq-Decides}
use Rattle.std.proofs.Math.Seq.{take-append_seam}
use Rattle.std.proofs.lemmas.List.{length-append}
use Rattle.mk_lemmas.proofs.Members.{Has-flat_map, Has-left, Has-map, Has-right, find-Has}
use Rattle.mk_infer.proofs.Members.{target_listed}
use Rattle.mk_lines.proofs.NameTests.{Has-from_has_name, has_name-from_Has}
use Rattle.mk_graph.specs.Membership.{Has}
use Rattle.mk_lines.specs.Names.{has_name}
use Rattle.mk_read.specs.Reading.{Makefile}
use Rattle.mk_read.specs.Special.{is_inference_name}
use Rattle.mk_read.specs.State.{RuleRead}
use Rattle.mk_infer.specs.Inference.{but_last, choice, chosen_suffix, ends_in, fits, may_infer, stem}
use Rattle.mk_infer.specs.Ends.{inferable, made_from, names_there, needing}
use Rattle.mk_infer.specs.Selection.{needs}
use Rattle.mk_infer.specs.Table.{targets_in}
use Rattle.mk_infer.specs.Targets.{is_target, prerequisites_of}
use Rattle.mk_infer.specs.There.{Exists, is_there}
use Rattle.mk_infer_laws.proofs.RuleNeeds.{no_prerequisites}
use Rattle.mk_infer_laws.proofs.Walking.{Covers}

-- ---- names that are there

a_target : (m : Makefile) (name : List ℕ) → is_target m name ≡ true → Has (targets_in m.rules) name
a_target m name = by (is_inference_name m.suffixes name)
  where
    by : (b : Bool) → list_any (λ (rule : RuleRead). has_name rule.targets name) (cond b [] m.rules) ≡ true → Has (targets_in m.rules) name
    by true h = absurd cc
    by false h = Has-from_has_name (targets_in m.rules) name (sym (target_listed m.rules name) ∙ h)

there_listed : (m : Makefile) (e : Exists) (name : List ℕ) → is_there m e name ≡ true → Has (names_there m e) name
there_listed m e name h = by_source (or_cases (has_name e.sources name) _ h)
  where
    by_target : (is_target m name ≡ true) ⊎ (has_name e.more name ≡ true) → Has (targets_in m.rules ++ e.more) name
    by_target (inl t) = Has-left (targets_in m.rules) e.more name (a_target m name t)
    by_target (inr k) = Has-right (targets_in m.rules) e.more name (Has-from_has_name e.more name k)

    by_text : (has_name e.texts name ≡ true) ⊎ ((is_target m name || has_name e.more name) ≡ true) → Has (e.texts ++ (targets_in m.rules ++ e.more)) name
    by_text (inl t) = Has-left e.texts (targets_in m.rules ++ e.more) name (Has-from_has_name e.texts name t)
    by_text (inr k) = Has-right e.texts (targets_in m.rules ++ e.more) name (by_target (or_cases (is_target m name) (has_name e.more name) k))

    by_source : (has_name e.sources name ≡ true) ⊎ ((has_name e.texts name || (is_target m name || has_name e.more name)) ≡ true) → Has (names_there m e) name
    by_source (inl t) = Has-left e.sources (e.texts ++ (targets_in m.rules ++ e.more)) name (Has-from_has_name e.sources name t)
    by_source (inr k) = Has-right e.sources (e.texts ++ (targets_in m.rules ++ e.more)) name (by_text (or_cases (has_name e.texts name) _ k))

-- ---- names that an inference rule may make

-- a name is its stem, or that with a known suffix behind it
by_suffix : (m : Makefile) (name : List ℕ) (known : Option (List ℕ)) → find (ends_in name) m.suffixes ≡ known
    → let cut = but_last (length (option_map_or (λ (suffix : List ℕ). suffix) known [])) name in (name ≡ cut) ⊎ ((suffix : List ℕ) × Has m.suffixes suffix × (name ≡ cut ++ suffix))
by_suffix m name None e = inl (sym (ap (λ n. take n name) whole ∙ all_of name))
  where
    whole : length name - 0 ≡ length name
    whole = omega arith

    all_of : (xs : List ℕ) → take (length xs) xs ≡ xs
    all_of [] = refl
    all_of (x ∷ xs) = ap (λ (ys : List ℕ). x ∷ ys) (all_of xs)
by_suffix m name (Some suffix) e =
    let found = find-Has (ends_in name) m.suffixes suffix e in
    let tail = (and_parts (nat_lt (length suffix) (length name)) (bytes_eq (drop (length name - length suffix) name) suffix) found.1).1 in
    let same : drop (length name - length suffix) name ≡ suffix = (bytes_eq-Decides (drop (length name - length suffix) name) suffix).0 tail in
    inr (suffix, found.0, sym (take-append-drop (length name - length suffix) name) ∙ ap (λ (xs : List ℕ). take (length name - length suffix) name ++ xs) same)

-- what stands before the suffix of a name that is there
front_of : (front suffix : List ℕ) → but_last (length suffix) (front ++ suffix) ≡ front
front_of front suffix =
    let count : length (front ++ suffix) - length suffix ≡ length front = omega (arith, length-append front suffix) in
    ap (λ n. take n (front ++ suffix)) count ∙ take-append_seam front suffix

made_there : (m : Makefile) (e : Exists) (name suffix : List ℕ) → Has m.suffixes suffix → is_there m e (stem m name ++ suffix) ≡ true → Has (inferable m e) name
made_there m e name suffix listed there =
    let from = stem m name ++ suffix in
    let front : but_last (length suffix) from ≡ stem m name = front_of (stem m name) suffix in
    Has-flat_map (λ other. flat_map (made_from m other) m.suffixes) (names_there m e) from name (there_listed m e from there)
    (Has-flat_map (made_from m from) m.suffixes suffix name listed (by front (by_suffix m name (find (ends_in name) m.suffixes) refl)))
  where
    by : but_last (length suffix) (stem m name ++ suffix) ≡ stem m name → (name ≡ stem m name) ⊎ ((other : List ℕ) × Has m.suffixes other × (name ≡ stem m name ++ other)) → Has (made_from m (stem m name ++ suffix) suffix) name
    by front (inl same) = inl (front ∙ sym same)
    by front (inr (other, known, same)) =
        inr (subst (Has (map (λ (x : List ℕ). but_last (length suffix) (stem m name ++ suffix) ++ x) m.suffixes)) (ap (λ (xs : List ℕ). xs ++ other) front ∙ sym same) (Has-map (λ (x : List ℕ). but_last (length suffix) (stem m name ++ suffix) ++ x) m.suffixes other known))

-- a name outside of them has no inferred prerequisite
not_inferable : (m : Makefile) (e : Exists) (name : List ℕ) → has_name (inferable m e) name ≡ false → choice m e name ≡ None
unfolding choice
not_inferable m e name h = by (chosen_suffix m e name) refl
  where
    fitting : (b : Bool) (suffix : List ℕ) → cond b (find (fits m e name) m.suffixes) None ≡ Some suffix → find (fits m e name) m.suffixes ≡ Some suffix
    fitting true suffix k = k
    fitting false suffix k = absurd cc

    by : (chosen : Option (List ℕ)) → chosen_suffix m e name ≡ chosen → option_map (λ suffix. stem m name ++ suffix) chosen ≡ None
    by None k = refl
    by (Some suffix) k =
        let found = find-Has (fits m e name) m.suffixes suffix (fitting (may_infer m e name) suffix k) in
        let there = (and_parts _ _ found.1).1 in
        absurd (both_ways (has_name (inferable m e) name) h (has_name-from_Has (inferable m e) name (made_there m e name suffix found.0 there)))

pub covered : (m : Makefile) (e : Exists) → Covers (needs m e) (needing m e)
covered m e name h =
    let parts = or_parts (has_name (targets_in m.rules) name) (has_name (inferable m e) name) (sym (list_any-append (λ (other : List ℕ). bytes_eq name other) (targets_in m.rules) (inferable m e)) ∙ h) in
    ap (λ (inferred : Option (List ℕ)). option_to_list inferred ++ prerequisites_of m name) (not_inferable m e name parts.1) ∙ no_prerequisites m name parts.0
