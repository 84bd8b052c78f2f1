-- The names of goals, and of nodes, are plain paths.
use Rattle.std.proofs.Common.{◌≡◌, ℕ, ◌+◌, Bool, true, false, not, cond, List, [], ◌∷◌, ◌++◌, map, Option, None, Some, Result, Ok, Err, inl, inr, refl, subst, ⊎_elim}
use Rattle.std.specs.Prelude.{◌&&◌, ◌||◌, filter, find, option_to_list}
use Rattle.std.specs.List.{list_all, list_any}
use Rattle.std.specs.Option.{option_map}
use Rattle.std.specs.Str.{bytes_eq}
use Rattle.std.proofs.lemmas.Bool.{and_parts, and_from, or_cases}
use Rattle.mk_lemmas.proofs.Members.{Has-cases, Has-from_filter, Has-from_flat_map, find-Has, list_all-Has}
use Rattle.mk_lines.proofs.NameTests.{Has-from_has_name}
use Rattle.mk_graph.specs.declared.node.Node.{Node}
use Rattle.mk_graph.specs.Graph.{Graph}
use Rattle.mk_graph.specs.Membership.{Has}
use Rattle.mk_lines.specs.Paths.{is_plain_path}
use Rattle.mk_read.specs.Names.{has_name, is_bracket, is_make_name, is_reserved, once}
use Rattle.mk_read.specs.Needs.{is_wait, words_of}
use Rattle.mk_read.specs.Reading.{Makefile}
use Rattle.mk_read.specs.RuleLaws.{is_well_named}
use Rattle.mk_read.specs.Special.{is_inference_name, is_special}
use Rattle.mk_read.specs.State.{RuleRead}
use Rattle.mk_infer.specs.declared.fault.InferFault.{InferFault}
use Rattle.mk_infer.specs.declared.fault.InferFault.TheVariants.{BadGoal, GoalIsMember}
use Rattle.mk_infer.specs.Goals.{default_goal, first_target, given_or_first, gives_prerequisites, goal_names, goal_of, goal_place, goals_from, is_no_goal, is_plain_target, own_targets, unless_found}
use Rattle.mk_infer.specs.Inference.{choice, chosen_suffix, commands_from, fits, may_infer, stem}
use Rattle.mk_infer.specs.NameLaws.{GoalsArePlain, HavePlainNames, NodesHavePlainNames}
use Rattle.mk_read.specs.Rules.{has_some}
use Rattle.mk_infer.specs.Selection.{BuiltUnless, graph_of, lacking, needs, node_of}
use Rattle.mk_infer.specs.Steps.{◌>>=◌}
use Rattle.mk_infer.specs.Targets.{is_target, prerequisites_of}
use Rattle.mk_infer.specs.There.{Exists, is_there}
use Rattle.mk_infer_laws.proofs.Stacks.{of_tree}
use Rattle.mk_infer_laws.proofs.Walks.{goes_along}

abbrev IsPlain : List ℕ → Type 0
IsPlain name = is_plain_path name ≡ true

-- ---- lists

among_plain : (names : List (List ℕ)) (name : List ℕ) → list_all is_plain_path names ≡ true → has_name names name ≡ true → IsPlain name
among_plain names name all h = list_all-Has is_plain_path names name all (Has-from_has_name names name h)

kept_plain : (test : List ℕ → Bool) (names : List (List ℕ)) → list_all is_plain_path names ≡ true → list_all is_plain_path (filter test names) ≡ true
kept_plain test [] all = refl
kept_plain test (name ∷ names) all =
    let p = and_parts (is_plain_path name) (list_all is_plain_path names) all in
    at (test name) p.0 (kept_plain test names p.1)
  where
    at : (b : Bool) → IsPlain name → list_all is_plain_path (filter test names) ≡ true → list_all is_plain_path (cond b (name ∷ filter test names) (filter test names)) ≡ true
    at true here rest = and_from (is_plain_path name) (list_all is_plain_path (filter test names)) here rest
    at false here rest = rest

once_plain : (names : List (List ℕ)) → list_all is_plain_path names ≡ true → list_all is_plain_path (once names) ≡ true
once_plain [] all = refl
once_plain (name ∷ names) all =
    let p = and_parts (is_plain_path name) (list_all is_plain_path names) all in
    let others = filter (λ other. not (bytes_eq name other)) (once names) in
    and_from (is_plain_path name) (list_all is_plain_path others) p.0 (kept_plain (λ other. not (bytes_eq name other)) (once names) (once_plain names p.1))

-- ---- rule lines

make_plain : (name : List ℕ) → is_make_name name ≡ true → IsPlain name
unfolding is_make_name
make_plain name h = (and_parts (is_plain_path name) (not (list_any is_reserved name)) h).0

-- the targets and the words of a rule line
rule_plain : (rule : RuleRead) → is_well_named rule ≡ true → ((name : List ℕ) → Has rule.targets name → IsPlain name) × ((word : List ℕ) → Has rule.words word → IsPlain word)
rule_plain rule h =
    let first = and_parts _ (list_all is_make_name rule.targets && (list_all is_make_name rule.words && not (list_any is_special rule.targets))) h in
    let second = and_parts (list_all is_make_name rule.targets) (list_all is_make_name rule.words && not (list_any is_special rule.targets)) first.1 in
    let third = and_parts (list_all is_make_name rule.words) (not (list_any is_special rule.targets)) second.1 in
    ((λ name k. make_plain name (list_all-Has is_make_name rule.targets name second.0 k)), (λ word k. make_plain word (list_all-Has is_make_name rule.words word third.0 k)))

module _ (rules : List RuleRead) (named : list_all is_well_named rules ≡ true) where
  of_rule : (rule : RuleRead) → Has rules rule → ((name : List ℕ) → Has rule.targets name → IsPlain name) × ((word : List ℕ) → Has rule.words word → IsPlain word)
  of_rule rule h = rule_plain rule (list_all-Has is_well_named rules rule named h)

some_rule : (rules : List RuleRead) (name : List ℕ) → list_any (λ (rule : RuleRead). has_name rule.targets name) rules ≡ true → (rule : RuleRead) × Has rules rule × Has rule.targets name
some_rule [] name h = absurd cc
some_rule (rule ∷ rules) name h =
    ⊎_elim (λ k. (rule, inl refl, Has-from_has_name rule.targets name k)) (λ k. let r = some_rule rules name k in (r.0, inr r.1, r.2)) (or_cases (has_name rule.targets name) (list_any (λ (other : RuleRead). has_name other.targets name) rules) h)

-- ---- goals

bind_ok : {A B : Type 0} (r : Result A InferFault) (f : A → Result B InferFault) (y : B) → (r >>= f) ≡ Ok y → (x : A) × (r ≡ Ok x) × (f x ≡ Ok y)
bind_ok (Ok x) f y e = (x, refl, e)
bind_ok (Err fault) f y e = absurd cc

goal_plain : (number : ℕ) (word name : List ℕ) → goal_of number word ≡ Ok name → IsPlain name
unfolding goal_of
goal_plain number word name e = at (is_no_goal word) (list_any is_bracket word) (is_make_name word) refl e
  where
    at : (a b c : Bool) → is_make_name word ≡ c → cond a (Err (BadGoal (goal_place number))) (cond b (Err (GoalIsMember (goal_place number))) (cond c (Ok word) (Err (BadGoal (goal_place number))))) ≡ Ok name → IsPlain name
    at false false true is k = let same : word ≡ name = cc in subst IsPlain same (make_plain word is)
    at false false false is k = absurd cc
    at false true c is k = absurd cc
    at true b c is k = absurd cc

goals_plain : (number : ℕ) (words names : List (List ℕ)) → goals_from number words ≡ Ok names → list_all is_plain_path names ≡ true
unfolding goals_from
goals_plain number [] names e = let same : [] ≡ names = cc in subst (λ ns. list_all is_plain_path ns ≡ true) same refl
goals_plain number (word ∷ rest) names e =
    let first = bind_ok (goal_of number word) (λ name. goals_from (number + 1) rest >>= λ names. Ok (name ∷ names)) names e in
    let second = bind_ok (goals_from (number + 1) rest) (λ names. Ok (first.0 ∷ names)) names first.2 in
    let same : first.0 ∷ second.0 ≡ names = cc in
    subst (λ ns. list_all is_plain_path ns ≡ true) same (and_from (is_plain_path first.0) (list_all is_plain_path second.0) (goal_plain number word first.0 first.1) (goals_plain (number + 1) rest second.0 second.1))

target_plain : (m : Makefile) (target : List ℕ) → list_all is_well_named m.rules ≡ true → first_target m ≡ Some target → IsPlain target
target_plain m target named e =
    let found = find-Has (is_plain_target m.suffixes) (own_targets m.rules) target e in
    let rule = Has-from_flat_map (λ (rule : RuleRead). rule.targets) (filter (λ (rule : RuleRead). not rule.default) m.rules) target found.0 in
    (of_rule m.rules named rule.0 ((Has-from_filter (λ (rule : RuleRead). not rule.default) m.rules rule.0 rule.1).0)).0 target rule.2

given_plain : (m : Makefile) (words goals : List (List ℕ)) → list_all is_well_named m.rules ≡ true → list_all is_plain_path words ≡ true → given_or_first words m ≡ Ok goals → list_all is_plain_path goals ≡ true
given_plain m [] goals named all e = at (first_target m) (λ target is. target_plain m target named is) e
  where
    at : (o : Option (List ℕ)) → ((target : List ℕ) → o ≡ Some target → IsPlain target) → default_goal o ≡ Ok goals → list_all is_plain_path goals ≡ true
    at None first k = absurd cc
    at (Some target) first k = let same : target ∷ [] ≡ goals = cc in subst (λ ns. list_all is_plain_path ns ≡ true) same (and_from (is_plain_path target) true (first target refl) refl)
given_plain m (word ∷ words) goals named all e = let same : once (word ∷ words) ≡ goals = cc in subst (λ ns. list_all is_plain_path ns ≡ true) same (once_plain (word ∷ words) all)

pub goals_are_plain : GoalsArePlain
unfolding goal_names
goals_are_plain m words goals named e = at (find (gives_prerequisites m.suffixes) m.rules) e
  where
    at : (o : Option RuleRead) → unless_found o (goals_from 1 words >>= λ names. given_or_first names m) ≡ Ok goals → list_all is_plain_path goals ≡ true
    at None k =
        let given = bind_ok (goals_from 1 words) (λ names. given_or_first names m) goals k in
        given_plain m given.0 goals named (goals_plain 1 words given.0 given.1) given.2
    at (Some rule) k = absurd cc

-- ---- nodes

module _ (m : Makefile) (e : Exists) (plain : HavePlainNames m e) where
  target_of : (name : List ℕ) → is_target m name ≡ true → IsPlain name
  target_of name h = at (is_inference_name m.suffixes name) h
    where
      at : (b : Bool) → list_any (λ (rule : RuleRead). has_name rule.targets name) (cond b [] m.rules) ≡ true → IsPlain name
      at true k = absurd cc
      at false k = let r = some_rule m.rules name k in (of_rule m.rules plain.rules r.0 r.1).0 name r.2

  there_plain : (name : List ℕ) → is_there m e name ≡ true → IsPlain name
  there_plain name h =
      ⊎_elim (λ k. among_plain e.sources name plain.sources k) (λ rest.
      ⊎_elim (λ k. among_plain e.texts name plain.texts k) (λ last.
      ⊎_elim (λ k. target_of name k) (λ k. among_plain e.more name plain.more k)
      (or_cases (is_target m name) (has_name e.more name) last))
      (or_cases (has_name e.texts name) (is_target m name || has_name e.more name) rest))
      (or_cases (has_name e.sources name) (has_name e.texts name || (is_target m name || has_name e.more name)) h)

  suffix_plain : (name suffix : List ℕ) → chosen_suffix m e name ≡ Some suffix → IsPlain (stem m name ++ suffix)
  suffix_plain name suffix h = at (may_infer m e name) h
    where
      at : (b : Bool) → cond b (find (fits m e name) m.suffixes) None ≡ Some suffix → IsPlain (stem m name ++ suffix)
      at true k =
          let found = find-Has (fits m e name) m.suffixes suffix k in
          there_plain (stem m name ++ suffix) (and_parts (has_some (commands_from m name suffix)) (is_there m e (stem m name ++ suffix)) found.1).1
      at false k = absurd cc

  choice_plain : (name word : List ℕ) → Has (option_to_list (choice m e name)) word → IsPlain word
  unfolding choice
  choice_plain name word h = at (chosen_suffix m e name) (suffix_plain name) h
    where
      at : (o : Option (List ℕ)) → ((suffix : List ℕ) → o ≡ Some suffix → IsPlain (stem m name ++ suffix)) → Has (option_to_list (option_map (λ suffix. stem m name ++ suffix) o)) word → IsPlain word
      at None of k = absurd k
      at (Some suffix) of (inl same) = subst IsPlain same (of suffix refl)
      at (Some suffix) of (inr k) = absurd k

  words_plain : (name word : List ℕ) → Has (prerequisites_of m name) word → IsPlain word
  words_plain name word h = at (is_inference_name m.suffixes name) ((Has-from_filter (λ w. not (is_wait w)) _ word h).0)
    where
      at : (b : Bool) → Has (words_of (cond b [] m.rules) name) word → IsPlain word
      at true k = absurd k
      at false k =
          let r = Has-from_flat_map (λ (rule : RuleRead). rule.words) (filter (λ (rule : RuleRead). has_name rule.targets name) m.rules) word k in
          (of_rule m.rules plain.rules r.0 ((Has-from_filter (λ (rule : RuleRead). has_name rule.targets name) m.rules r.0 r.1).0)).1 word r.2

  needs_plain : (name word : List ℕ) → Has (needs m e name) word → IsPlain word
  needs_plain name word h = ⊎_elim (choice_plain name word) (words_plain name word) (Has-cases (option_to_list (choice m e name)) (prerequisites_of m name) word h)

  all_plain : (all names : List (List ℕ)) → ((name : List ℕ) → Has names name → IsPlain name) → list_all (λ (n : Node). is_plain_path n.name) (map (node_of m e all) names) ≡ true
  all_plain all [] h = refl
  all_plain all (name ∷ names) h = and_from (is_plain_path name) (list_all (λ (n : Node). is_plain_path n.name) (map (node_of m e all) names)) (h name (inl refl)) (all_plain all names (λ other k. h other (inr k)))

pub nodes_have_plain_names : NodesHavePlainNames
nodes_have_plain_names m e goals g plain named selected =
    let all = selected.0 in
    let each = goes_along (needs m e) IsPlain (λ n w h k needed. needs_plain m e plain n w needed) (of_tree selected.1) (λ n h. absurd h) (λ n h. list_all-Has is_plain_path goals n named h) in
    subst (λ (h : Graph). list_all (λ (n : Node). is_plain_path n.name) h.nodes ≡ true) (at (lacking m e all) selected.2) (all_plain m e plain all all each)
  where
    at : (o : Option (List ℕ)) → BuiltUnless m o (graph_of m e goals selected.0) (Ok g) → graph_of m e goals selected.0 ≡ g
    at (Some name) b = absurd cc
    at None b = let same = b.3 in cc
