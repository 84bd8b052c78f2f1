-- Writes that count as there change nothing where they change no choice.
use Rattle.std.proofs.Common.{◌≡◌, ℕ, zero, suc, Bool, true, false, not, ◌&&◌, ◌||◌, cond, List, [], ◌∷◌, ◌++◌, map, take, Option, Some, None, Result, Ok, Err, inl, inr, refl, sym, ap, subst, ◌∙◌}
use Rattle.std.specs.Prelude.{find, slice_get, option_to_list}
use Rattle.std.specs.Option.{option_map, option_map_or}
use Rattle.std.proofs.lemmas.List.{append_cancel_left}
use Rattle.mk_lines.proofs.NameTests.{Has-from_has_name, has_name-from_Has}
use Rattle.mk_graph.specs.declared.node.Node.{Node}
use Rattle.mk_graph.specs.Graph.{Graph}
use Rattle.mk_graph.specs.Membership.{Has}
use Rattle.mk_lines.specs.Names.{has_name}
use Rattle.mk_read.specs.Needs.{groups}
use Rattle.mk_read.specs.Reading.{Makefile}
use Rattle.mk_read.specs.Rules.{has_some}
use Rattle.mk_read.specs.State.{Command}
use Rattle.mk_infer.specs.declared.fault.InferFault.{InferFault}
use Rattle.mk_infer.specs.declared.fault.InferFault.TheVariants.{BadGoal, GoalIsMember, NoRule, NoGoal, InferencePrerequisites, Macro, Graph as Refused, Memory}
use Rattle.mk_infer.specs.Commands.{commands, expanded, no_commands, recipe_for}
use Rattle.mk_infer.specs.Inference.{choice, chosen_commands, chosen_suffix, commands_by, commands_from, fits, may_infer, stem}
use Rattle.mk_lines.specs.Names.{number_of}
use Rattle.mk_infer.specs.Laws.{IsReached, MoreTakesNoChoiceAway, WritesChangeNothing, with_more}
use Rattle.mk_infer.specs.Selection.{BuiltUnless, Selects, graph_of, groups_of, is_lacking, lacking, needs, node_of, in_node_numbers, with_choice}
use Rattle.mk_infer.specs.Targets.{have_text, is_target, prerequisites_of, words_for}
use Rattle.mk_infer.specs.There.{Exists, is_given, is_there}
use Rattle.mk_infer.specs.Walk.{Meets}
use Rattle.mk_infer_laws.proofs.Walks.{meets_by, meets_reached, meets_what_is_reached}

abbrev Name : Type 0
Name = List ℕ

-- ---- tests

-- a test that holds keeps holding in a sum and in a product of tests
or_more : (a : Bool) {x y : Bool} → (x ≡ true → y ≡ true) → (a || x) ≡ true → (a || y) ≡ true
or_more true f t = refl
or_more false f t = f t

and_more : (a : Bool) {x y : Bool} → (x ≡ true → y ≡ true) → (a && x) ≡ true → (a && y) ≡ true
and_more true f t = f t
and_more false f t = t

-- ---- the first that passes

module _ {A : Type 0} where
  -- what is found passes
  passes_found : (p : A → Bool) (xs : List A) (x : A) → find p xs ≡ Some x → p x ≡ true
  passes_found p [] x e = absurd cc
  passes_found p (y ∷ xs) x e = by_first (p y) refl e (passes_found p xs x)
    where
      by_first : (b : Bool) → p y ≡ b → cond b (Some y) (find p xs) ≡ Some x → (find p xs ≡ Some x → p x ≡ true) → p x ≡ true
      by_first true t f ih = let same : y ≡ x = cc in ap p (sym same) ∙ t
      by_first false t f ih = ih f

  -- a test between two others finds what both of them find
  found_between : (p q r : A → Bool) → ((x : A) → p x ≡ true → q x ≡ true) → ((x : A) → q x ≡ true → r x ≡ true) → (xs : List A) → find p xs ≡ find r xs → find q xs ≡ find p xs
  found_between p q r f g [] e = refl
  found_between p q r f g (x ∷ xs) e = by_first (p x) (q x) (r x) refl (f x) (g x) e (found_between p q r f g xs)
    where
      by_first : (a b c : Bool) → p x ≡ a → (a ≡ true → b ≡ true) → (b ≡ true → c ≡ true) → cond a (Some x) (find p xs) ≡ cond c (Some x) (find r xs) → (find p xs ≡ find r xs → find q xs ≡ find p xs) → cond b (Some x) (find q xs) ≡ cond a (Some x) (find p xs)
      by_first true true c t h k l ih = refl
      by_first true false c t h k l ih = let s : false ≡ true = h refl in absurd cc
      by_first false b true t h k l ih = let s : p x ≡ true = passes_found p xs x l in absurd cc
      by_first false true false t h k l ih = let s : false ≡ true = k refl in absurd cc
      by_first false false false t h k l ih = ih l

  -- a test that passes more finds something where another one does
  find_more : (p q : A → Bool) → ((x : A) → p x ≡ true → q x ≡ true) → (xs : List A) (x : A) → find p xs ≡ Some x → (y : A) × (find q xs ≡ Some y)
  find_more p q f [] x e = absurd cc
  find_more p q f (x ∷ xs) z e = by_first (p x) (q x) refl refl (f x) e (find_more p q f xs z)
    where
      by_first : (a b : Bool) → p x ≡ a → q x ≡ b → (p x ≡ true → q x ≡ true) → cond a (Some x) (find p xs) ≡ Some z → (find p xs ≡ Some z → (y : A) × (find q xs ≡ Some y)) → (y : A) × (cond b (Some x) (find q xs) ≡ Some y)
      by_first a true s t h k ih = (x, refl)
      by_first true false s t h k ih = let u : q x ≡ true = h s in absurd cc
      by_first false false s t h k ih = ih k

  -- what is mapped was there
  mapped_was : {B : Type 0} (f : A → B) (o : Option A) (y : B) → option_map f o ≡ Some y → (x : A) × (o ≡ Some x)
  mapped_was f None y e = absurd cc
  mapped_was f (Some x) y e = (x, refl)

  -- what is there under a test is there under it still
  cond_more : (b : Bool) (o p : Option A) (x : A) → cond b o None ≡ Some x → (o ≡ Some x → (y : A) × (p ≡ Some y)) → (y : A) × (cond b p None ≡ Some y)
  cond_more true o p x e f = f e
  cond_more false o p x e f = absurd cc

  -- tests that agree on the list find the same
  pub find_same : (p q : A → Bool) (xs : List A) → ((x : A) → Has xs x → p x ≡ q x) → find p xs ≡ find q xs
  find_same p q [] h = refl
  find_same p q (x ∷ xs) h = ap (λ b. cond b (Some x) (find p xs)) (h x (inl refl)) ∙ ap (cond (q x) (Some x)) (find_same p q xs (λ y k. h y (inr k)))

  map_same : {B : Type 0} (f g : A → B) (xs : List A) → ((x : A) → Has xs x → f x ≡ g x) → map f xs ≡ map g xs
  map_same f g [] h = refl
  map_same f g (x ∷ xs) h = ap (λ y. y ∷ map f xs) (h x (inl refl)) ∙ ap (λ ys. g x ∷ ys) (map_same f g xs (λ y k. h y (inr k)))

  -- a front of the list has no more
  pub take_Has : (n : ℕ) (xs : List A) (x : A) → Has (take n xs) x → Has xs x
  take_Has zero xs x h = absurd h
  take_Has (suc n) [] x h = absurd h
  take_Has (suc n) (y ∷ xs) x (inl e) = inl e
  take_Has (suc n) (y ∷ xs) x (inr h) = inr (take_Has n xs x h)

  -- a function that keeps elements apart keeps options apart
  option_map_one : {B : Type 0} (f : A → B) → ((x y : A) → f x ≡ f y → x ≡ y) → (o p : Option A) → option_map f o ≡ option_map f p → o ≡ p
  option_map_one f one None None e = refl
  option_map_one f one None (Some y) e = absurd cc
  option_map_one f one (Some x) None e = absurd cc
  option_map_one f one (Some x) (Some y) e = ap Some (one x y (cc))

  -- the same under a test
  cond_between : (b : Bool) (o p q : Option A) → (o ≡ q → p ≡ o) → cond b o None ≡ cond b q None → cond b p None ≡ cond b o None
  cond_between true o p q f e = f e
  cond_between false o p q f e = refl

-- ---- choices

module _ (m : Makefile) (e : Exists) where
  -- what is there stays there with more names
  there_more : (few many : List Name) → ((name : Name) → Has few name → Has many name) → (name : Name) → is_there m (with_more e few) name ≡ true → is_there m (with_more e many) name ≡ true
  there_more few many within name = or_more (has_name e.sources name) (or_more (has_name e.texts name) (or_more (is_target m name) (λ t. has_name-from_Has many name (within name (Has-from_has_name few name t)))))

  fits_more : (few many : List Name) → ((name : Name) → Has few name → Has many name) → (name suffix : Name) → fits m (with_more e few) name suffix ≡ true → fits m (with_more e many) name suffix ≡ true
  fits_more few many within name suffix = and_more (has_some (commands_from m name suffix)) (there_more few many within (stem m name ++ suffix))

  -- the choice tells the suffix
  suffix_of_choice : (few many : List Name) (name : Name) → choice m (with_more e few) name ≡ choice m (with_more e many) name → chosen_suffix m (with_more e few) name ≡ chosen_suffix m (with_more e many) name
  unfolding choice
  suffix_of_choice few many name same = option_map_one (λ suffix. stem m name ++ suffix) (λ s t h. append_cancel_left (stem m name) s t h) (chosen_suffix m (with_more e few) name) (chosen_suffix m (with_more e many) name) same

  -- a part of the names chooses what none and all of them choose
  pub part_chooses : (writes part : List Name) → ((name : Name) → Has part name → Has writes name) → (name : Name) → choice m (with_more e []) name ≡ choice m (with_more e writes) name → chosen_suffix m (with_more e part) name ≡ chosen_suffix m (with_more e []) name
  part_chooses writes part within name same =
      cond_between (may_infer m e name) (find (fits m (with_more e []) name) m.suffixes) (find (fits m (with_more e part) name) m.suffixes) (find (fits m (with_more e writes) name) m.suffixes)
      (found_between (fits m (with_more e []) name) (fits m (with_more e part) name) (fits m (with_more e writes) name) (fits_more [] part (λ n h. absurd h) name) (fits_more part writes within name) m.suffixes)
      (suffix_of_choice [] writes name same)

  -- more names take no choice away
  pub more_chooses : (few many : List Name) → ((name : Name) → Has few name → Has many name) → (name found : Name) → choice m (with_more e few) name ≡ Some found → (other : Name) × (choice m (with_more e many) name ≡ Some other)
  unfolding choice
  more_chooses few many within name found e_few =
      let was = mapped_was (λ suffix. stem m name ++ suffix) (chosen_suffix m (with_more e few) name) found e_few in
      let more = cond_more (may_infer m e name) (find (fits m (with_more e few) name) m.suffixes) (find (fits m (with_more e many) name) m.suffixes) was.0 was.1 (find_more (fits m (with_more e few) name) (fits m (with_more e many) name) (fits_more few many within name) m.suffixes was.0) in
      (stem m name ++ more.0, ap (option_map (λ suffix. stem m name ++ suffix)) more.1)

-- ---- the graph and the commands, where the same suffix is chosen

module _ (m : Makefile) (e : Exists) (one other : List Name) where
  abbrev first : Exists
  first = with_more e one

  abbrev second : Exists
  second = with_more e other

  abbrev IsSame : Name → Type 0
  IsSame name = chosen_suffix m first name ≡ chosen_suffix m second name

  pub same_choice : (name : Name) → IsSame name → choice m first name ≡ choice m second name
  unfolding choice
  same_choice name s = ap (option_map (λ suffix. stem m name ++ suffix)) s

  same_chosen : (name : Name) → IsSame name → chosen_commands m first name ≡ chosen_commands m second name
  unfolding chosen_commands
  same_chosen name s = ap (commands_by m name) s

  same_needs : (name : Name) → IsSame name → needs m first name ≡ needs m second name
  same_needs name s = ap (λ (o : Option Name). option_to_list o ++ prerequisites_of m name) (same_choice name s)

  same_lacking : (name : Name) → IsSame name → is_lacking m first name ≡ is_lacking m second name
  same_lacking name s = ap (λ (o : Option Name). not (e.any_leaf || (is_target m name || (has_some o || (has_name m.phony name || is_given e name))))) (same_choice name s)

  same_node : (all : List Name) (name : Name) → IsSame name → node_of m first all name ≡ node_of m second all name
  same_node all name s =
      ap (λ (o : Option Name). node (in_node_numbers all (with_choice m.not_parallel o (groups m.not_parallel (words_for m name)))) (have_text (chosen_commands m first name))) (same_choice name s)
      ∙ ap (λ (o : Option (List Command)). node (in_node_numbers all (groups_of m second name)) (have_text o)) (same_chosen name s)
    where
      node : List (List ℕ) → Bool → Node
      node numbers recipe = record { name = name; groups = numbers; recipe = recipe; phony = has_name m.phony name }

  pub same_commands : (name : Name) → IsSame name → commands m first name ≡ commands m second name
  unfolding commands
  same_commands name s =
      ap (λ (all : List Name). option_map_or (expanded m.macros (Some (record { target = name; stem = stem m name; first = slice_get all 0; all = all }))) (chosen_commands m first name) (Ok no_commands)) (same_needs name s)
      ∙ ap (λ (o : Option (List Command)). option_map_or (expanded m.macros (Some (recipe_for m second name))) o (Ok no_commands)) (same_chosen name s)

  module _ (goals all : List Name) (same : (name : Name) → Has all name → IsSame name) where
    lacking_same : lacking m first all ≡ lacking m second all
    lacking_same = find_same (is_lacking m first) (is_lacking m second) (take 4096 all) (λ name h. same_lacking name (same name (take_Has 4096 all name h)))

    graph_same : graph_of m first goals all ≡ graph_of m second goals all
    graph_same = ap (λ (nodes : List Node). graph nodes) (map_same (node_of m first all) (node_of m second all) all (λ name h. same_node all name (same name h)))
      where
        graph : List Node → Graph
        graph nodes = record { nodes = nodes; goals = map (number_of all) goals }

    meets_same : Meets (needs m first) [] goals all → Meets (needs m second) [] goals all
    meets_same w = meets_by (needs m first) (needs m second) goals all (λ name h. same_needs name (same name h)) w

    built_same : (answer : Result Graph InferFault) → BuiltUnless m (lacking m first all) (graph_of m first goals all) answer → BuiltUnless m (lacking m second all) (graph_of m second goals all) answer
    built_same answer b = subst (λ (g : Graph). BuiltUnless m (lacking m second all) g answer) graph_same (subst (λ (o : Option Name). BuiltUnless m o (graph_of m first goals all) answer) lacking_same b)

  module _ (goals : List Name) (same : (all : List Name) → Meets (needs m first) [] goals all → (name : Name) → Has all name → IsSame name) where
    -- what becomes of the goals by the one becomes of them by the other
    abbrev Walked : Exists → Result Graph InferFault → Type 0
    Walked by answer = (all : List Name) × Meets (needs m by) [] goals all × BuiltUnless m (lacking m by all) (graph_of m by goals all) answer

    moved : (answer : Result Graph InferFault) → Walked first answer → Walked second answer
    moved answer (all, w, b) = (all, meets_same goals all (same all w) w, built_same goals all (same all w) answer b)

    pub selects_same : (answer : Result Graph InferFault) → Selects m first goals answer → Selects m second goals answer
    selects_same (Ok g) s = moved (Ok g) s
    selects_same (Err (Refused fault place)) s = moved (Err (Refused fault place)) s
    selects_same (Err (BadGoal place)) s = moved (Err (BadGoal place)) s
    selects_same (Err (GoalIsMember place)) s = moved (Err (GoalIsMember place)) s
    selects_same (Err (NoRule name place)) s = moved (Err (NoRule name place)) s
    selects_same (Err NoGoal) s = moved (Err NoGoal) s
    selects_same (Err (InferencePrerequisites place)) s = moved (Err (InferencePrerequisites place)) s
    selects_same (Err (Macro place fault)) s = moved (Err (Macro place fault)) s
    selects_same (Err Memory) s = tt

-- ---- the law

pub writes_change_nothing : WritesChangeNothing
writes_change_nothing m e goals writes part within stay =
    ((λ answer. (selects_same m e [] part goals none_same answer, selects_same m e part [] goals part_same answer)), (λ name r. same_commands m e [] part name (reached_same name r)))
  where
    -- a part of the writes chooses for each name reached what no write chooses
    reached_same : (name : Name) → IsReached m e goals name → chosen_suffix m (with_more e []) name ≡ chosen_suffix m (with_more e part) name
    reached_same name r = sym (part_chooses m e writes part within name (stay name r))

    none_same : (all : List Name) → Meets (needs m (with_more e [])) [] goals all → (name : Name) → Has all name → chosen_suffix m (with_more e []) name ≡ chosen_suffix m (with_more e part) name
    none_same all w name h = reached_same name (((meets_what_is_reached (needs m (with_more e [])) goals all w).1 name).0 h)

    -- what a walk with the part meets is reached without it
    part_same : (all : List Name) → Meets (needs m (with_more e part)) [] goals all → (name : Name) → Has all name → chosen_suffix m (with_more e part) name ≡ chosen_suffix m (with_more e []) name
    part_same all w name h =
        sym (reached_same name (meets_reached (needs m (with_more e [])) (needs m (with_more e part)) goals all (λ n r. same_needs m e [] part n (reached_same n r)) w name h))

-- so it is of each makefile
pub more_takes_no_choice_away : MoreTakesNoChoiceAway
more_takes_no_choice_away m e few many within name found same = more_chooses m e few many within name found same
