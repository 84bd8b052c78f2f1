-- What a walk keeps that stops where a graph is full.
use Rattle.std.proofs.Common.{◌≡◌, ℕ, zero, suc, ◌+◌, ◌<◌, ◌≤◌, Bool, true, false, not, ◌&&◌, ◌||◌, cond, List, [], ◌∷◌, ◌++◌, Option, Some, None, map, take, length, reverse, refl, sym, ap, subst, ◌∙◌, append_assoc, arith}
use Rattle.std.specs.Borrow.{Bor}
use Rattle.std.specs.Option.{option_map}
use Rattle.std.specs.Prelude.{find}
use Rattle.std.specs.List.{list_any}
use Rattle.std.proofs.Math.Seq.{take-append_seam}
use Rattle.std.proofs.lemmas.List.{length-append, take_all}
use mathlib.Core.Bool.{and-false, or-true}
use Rattle.mk_lemmas.proofs.Texts.{texts}
use Rattle.mk_graph.specs.declared.node.Node.{Node}
use Rattle.mk_lines.specs.Names.{has_name}
use Rattle.mk_read.specs.Needs.{commands_in, commands_of, has_commands}
use Rattle.mk_read.specs.Reading.{Makefile}
use Rattle.mk_read.specs.Rules.{gives_commands, has_some}
use Rattle.mk_read.specs.State.{RuleRead}
use Rattle.mk_infer.specs.Inference.{choice, chosen_commands, chosen_suffix, commands_by, stem}
use Rattle.mk_infer.specs.Targets.{is_target, rules_for}
use Rattle.mk_infer.specs.Laws.{WalkGoesOn}
use Rattle.mk_infer.specs.Walk.{Meets}
use Rattle.mk_infer.specs.Selection.{is_lacking, lacking, needs, node_of}
use Rattle.mk_infer_select.specs.Walked.{IsWalked, VisitedName, lacks, met_of, node_with}
use Rattle.mk_infer.specs.There.{Exists, is_given}
use Rattle.mk_infer_select.proofs.Walking.{Continues, goes_deeper, reverse_last, stays_front, unmet, walk_end}

abbrev Name : Type 0
Name = List ℕ

-- ---- fronts of lists

module _ {A : Type 0} where
  -- a front that is shorter than it may be is the whole
  pub short_front : (n : ℕ) (xs : List A) → length (take (suc n) xs) ≤ n → take (suc n) xs ≡ xs
  short_front n [] le = refl
  short_front zero (x ∷ xs) le = absurd (omega arith)
  short_front (suc n) (x ∷ xs) le = ap (λ (ys : List A). x ∷ ys) (short_front n xs (omega arith))

-- ---- the walk

module _ (m : Makefile) (e : Exists) (goals : List (Bor Name)) (met : List Name) (made : List VisitedName) (are : made ≡ map (met_of m e) met) where
  -- a walk that has come to its end
  pub walked_all : (todo : List (Bor Name)) → todo ≡ [] → length met ≤ 4096 → Continues (needs m e) met todo (texts goals) → IsWalked m e (texts goals) (record { names = met; met = made })
  walked_all todo none few onward =
      record {
        all = met;
        walk = walk_end (needs m e) met (texts goals) todo none onward;
        front = sym (take_all 4097 met (omega arith));
        made = are ∙ ap (map (met_of m e)) (sym (take_all 4096 met few));
      }

  -- a walk that has met one name too many
  pub walked_enough : WalkGoesOn → (after : List Name) (todo rest : List (Bor Name)) (name : Bor Name) → todo ≡ rest ++ name ∷ [] → has_name met name.now ≡ false → after ≡ met ++ name.now ∷ [] → length met ≤ 4096 → 4096 < length after
      → Continues (needs m e) met todo (texts goals) → IsWalked m e (texts goals) (record { names = after; met = made })
  walked_enough goes_on after todo rest name is new_name grown few many onward =
      let r = goes_on m e (met ++ name.now ∷ []) (needs m e name.now ++ texts (reverse rest)) in
      let fresh : Meets (needs m e) met (texts (reverse todo)) r.0 = subst (λ (ns : List Name). Meets (needs m e) met ns r.0) (sym (reverse_last todo rest name is)) (goes_deeper (unmet met name.now new_name) r.1) in
      let back = stays_front r.1 in
      let long : length after ≡ length met + 1 = ap length grown ∙ length-append met (name.now ∷ []) in
      let count : length met ≡ 4096 = omega arith in
      let full : length (met ++ name.now ∷ []) ≡ 4097 = sym (ap length grown) ∙ omega arith in
      let whole : r.0 ≡ met ++ (name.now ∷ back.0) = back.1 ∙ append_assoc met (name.now ∷ []) back.0 in
      record {
        all = r.0;
        walk = onward r.0 fresh;
        front = grown ∙ sym (ap (take 4097) back.1 ∙ (ap (λ n. take n ((met ++ name.now ∷ []) ++ back.0)) (sym full) ∙ take-append_seam (met ++ name.now ∷ []) back.0));
        made = are ∙ ap (map (met_of m e)) (sym (ap (take 4096) whole ∙ (ap (λ n. take n (met ++ (name.now ∷ back.0))) (sym count) ∙ take-append_seam met (name.now ∷ back.0))));
      }

-- ---- what is made of it

and_assoc : (a b c : Bool) → (a && (b && c)) ≡ ((a && b) && c)
and_assoc true b c = refl
and_assoc false b c = refl

among : (a b c d : Bool) → (b || c) ≡ true → (a || (b || (c || d))) ≡ true
among true b c d h = refl
among false true c d h = refl
among false false true d h = refl
among false false false d h = absurd cc

module _ (rules : List RuleRead) (name : Name) where
  abbrev named : RuleRead → Bool
  named rule = has_name rule.targets name

  -- where no rule line names it, none gives it commands
  none_gives : (q p : RuleRead → Bool) → ((rule : RuleRead) → p rule ≡ (q rule && named rule)) → (rs : List RuleRead) → list_any named rs ≡ false → find p rs ≡ None
  none_gives q p is [] none = refl
  none_gives q p is (rule ∷ rs) none = at (named rule) (is rule) none (none_gives q p is rs)
    where
      at : (b : Bool) → p rule ≡ (q rule && b) → (b || list_any named rs) ≡ false → (list_any named rs ≡ false → find p rs ≡ None) → cond (p rule) (Some rule) (find p rs) ≡ None
      at true h k ih = absurd cc
      at false h k ih = ap (λ b. cond b (Some rule) (find p rs)) (h ∙ and-false (q rule)) ∙ ih k

  -- a name with commands is a target
  commanded : has_some (commands_of rules name) ≡ true → list_any named rules ≡ true
  commanded some = at (list_any named rules) refl
    where
      at : (b : Bool) → list_any named rules ≡ b → b ≡ true
      at true h = refl
      at false h =
          let own = none_gives (λ rule. not rule.default && has_some rule.commands) (gives_commands name) (λ rule. and_assoc (not rule.default) (has_some rule.commands) (named rule)) rules h in
          let any = none_gives (λ rule. has_some rule.commands) (has_commands name) (λ rule. refl) rules h in
          let none : commands_of rules name ≡ None = ap (λ (r : Option RuleRead). commands_in r (find (has_commands name) rules)) own ∙ ap (commands_in None) any in
          sym (ap has_some none) ∙ some

module _ (m : Makefile) (e : Exists) (name : Name) where
  -- a name that gets commands is a target or has an inference rule
  made_somehow : has_some (chosen_commands m e name) ≡ true → (is_target m name || has_some (choice m e name)) ≡ true
  unfolding chosen_commands choice
  made_somehow some = by (chosen_suffix m e name) some
    where
      by : (suffix : Option Name) → has_some (commands_by m name suffix) ≡ true → (is_target m name || has_some (option_map (λ s. stem m name ++ s) suffix)) ≡ true
      by None h = ap (λ b. b || false) (commanded (rules_for m name) name h)
      by (Some s) h = or-true (is_target m name)

  -- so it lacks nothing
  lacks_nothing_more : lacks m e (met_of m e name) ≡ is_lacking m e name
  lacks_nothing_more = at (has_some (chosen_commands m e name)) refl
    where
      rest : Bool
      rest = has_name m.phony name || is_given e name

      at : (b : Bool) → has_some (chosen_commands m e name) ≡ b → not (b || (e.any_leaf || (is_target m name || (has_some (choice m e name) || rest)))) ≡ is_lacking m e name
      at false h = refl
      at true h = sym (ap not (among e.any_leaf (is_target m name) (has_some (choice m e name)) rest (made_somehow h)))

module _ (m : Makefile) (e : Exists) where
  lacking_met : (names : List Name) → option_map (λ (x : VisitedName). x.name) (find (lacks m e) (map (met_of m e) names)) ≡ find (is_lacking m e) names
  lacking_met [] = refl
  lacking_met (name ∷ names) = ap (λ b. option_map (λ (x : VisitedName). x.name) (cond b (Some (met_of m e name)) (find (lacks m e) (map (met_of m e) names)))) (lacks_nothing_more m e name) ∙ at (is_lacking m e name) (lacking_met names)
    where
      at : (b : Bool) → option_map (λ (x : VisitedName). x.name) (find (lacks m e) (map (met_of m e) names)) ≡ find (is_lacking m e) names
          → option_map (λ (x : VisitedName). x.name) (cond b (Some (met_of m e name)) (find (lacks m e) (map (met_of m e) names))) ≡ cond b (Some name) (find (is_lacking m e) names)
      at true h = refl
      at false h = h

  -- the first that lacks a rule, by what the walk kept
  pub lacking_kept : (all : List Name) (met : List VisitedName) → met ≡ map (met_of m e) (take 4096 all) → option_map (λ (x : VisitedName). x.name) (find (lacks m e) met) ≡ lacking m e all
  lacking_kept all met made = ap (λ (ms : List VisitedName). option_map (λ (x : VisitedName). x.name) (find (lacks m e) ms)) made ∙ lacking_met (take 4096 all)

  nodes_met : (all names : List Name) → map (node_with m all) (map (met_of m e) names) ≡ map (node_of m e all) names
  nodes_met all [] = refl
  nodes_met all (name ∷ names) = ap (λ (ns : List Node). node_of m e all name ∷ ns) (nodes_met all names)

  -- the nodes of all names, where these are few enough
  pub nodes_kept : (all names : List Name) (met : List VisitedName) → names ≡ take 4097 all → length names ≤ 4096 → met ≡ map (met_of m e) (take 4096 all) → (names ≡ all) × (map (node_with m names) met ≡ map (node_of m e all) all)
  nodes_kept all names met front few made =
      let same : names ≡ all = front ∙ short_front 4096 all (subst (λ (ns : List Name). length ns ≤ 4096) front few) in
      let short : length all ≤ 4096 = subst (λ (ns : List Name). length ns ≤ 4096) same few in
      (same, ap (λ (ns : List Name). map (node_with m ns) met) same ∙ (ap (map (node_with m all)) (made ∙ ap (map (met_of m e)) (take_all 4096 all short)) ∙ nodes_met all all))
