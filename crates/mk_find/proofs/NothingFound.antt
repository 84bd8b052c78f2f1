-- Nothing is found just where nothing is found of any node.
use Rattle.std.proofs.Common.{◌≡◌, ◌∙◌, ◌<◌, ◌≤◌, ℕ, zero, suc, ◌+◌, List, [], ◌∷◌, ◌++◌, length, get_or, map, take, drop, ap, sym, subst, arith}
use Rattle.std.specs.List.{flat_map}
use Rattle.std.proofs.lemmas.List.{drop_more}
use Rattle.std.proofs.lemmas.Grind.{flat_map-append}
use Rattle.mk_graph.specs.Membership.{IsDistinct}
use Rattle.mk_graph.specs.Serial.{serial_order}
use Rattle.mk_subject.specs.Subject.{Subject, writes_of}
use Rattle.mk_find.specs.Candidates.{Candidate, by_number, pairs_of_writers, static_candidates, two_writers}
use Rattle.mk_find.specs.Listing.{Lists, nothing, drops}
use Rattle.mk_find.specs.NodeChecks.{candidates_of_check, candidates_before_pairs, candidates_after_pairs, candidates_of_node, before_pairs, behind_pairs, found_of, pairs_with}
use Rattle.mk_find.proofs.Adding.{drop_past, lists_append}
use Rattle.mk_find.proofs.Behind.{behind_after}

-- nothing is found of a node
abbrev pub FindsNothingOf : Subject → ℕ → Type 0
FindsNothingOf x n = Lists x (found_of x n) []

-- where nothing is listed of two lists one behind the other, nothing is of each
front : (x : Subject) (one other : List Candidate) → Lists x (one ++ other) [] → Lists x one []
front x [] other none = nothing
front x (c ∷ one) other (drops not more) = drops not (front x one other more)

back : (x : Subject) (one other : List Candidate) → Lists x (one ++ other) [] → Lists x other []
back x [] other none = none
back x (c ∷ one) other (drops not more) = back x one other more

module _ {A : Type 0} where
  -- it is so of each element
  abbrev pub Each : (A → Type 0) → List A → Type 0
  Each P [] = Unit {0}
  Each P (a ∷ xs) = P a × Each P xs

  each_all : {P : A → Type 0} (xs : List A) → ((a : A) → P a) → Each P xs
  each_all [] is = tt
  each_all (a ∷ xs) is = (is a, each_all xs is)

  each_with : {P Q R : A → Type 0} (xs : List A) → ((a : A) → P a → Q a → R a) → Each P xs → Each Q xs → Each R xs
  each_with [] turn one other = tt
  each_with (a ∷ xs) turn (p, one) (q, other) = (turn a p q, each_with xs turn one other)

  each_of : {P Q : A → Type 0} (xs : List A) → ((a : A) → P a → Q a) → Each P xs → Each Q xs
  each_of [] turn each = tt
  each_of (a ∷ xs) turn (here, each) = (turn a here, each_of xs turn each)

  pub each_at : (P : A → Type 0) (xs : List A) (i : ℕ) (d : A) → i < length xs → Each P xs → P (get_or xs i d)
  each_at P [] i d low each = absurd (omega arith)
  each_at P (a ∷ xs) zero d low (here, each) = here
  each_at P (a ∷ xs) (suc i) d low (here, each) = each_at P xs i d (omega arith) each

  -- nothing is of those of many elements just where nothing is of those of each
  lists_each : (x : Subject) (found : A → List Candidate) (xs : List A) → Each (λ a. Lists x (found a) []) xs → Lists x (flat_map found xs) []
  lists_each x found [] each = nothing
  lists_each x found (a ∷ xs) (here, each) = lists_append x here (lists_each x found xs each)

  each_lists : (x : Subject) (found : A → List Candidate) (xs : List A) → Lists x (flat_map found xs) [] → Each (λ a. Lists x (found a) []) xs
  each_lists x found [] none = tt
  each_lists x found (a ∷ xs) none = (front x (found a) (flat_map found xs) none, each_lists x found xs (back x (found a) (flat_map found xs) none))

module _ (x : Subject) {A : Type 0} (found : A → ℕ → List Candidate) where
  -- what each of some gives for all numbers, one after another, and what they all give for each
  all_at_once : (xs : List A) (ns : List ℕ) → Each (λ n. Lists x (flat_map (λ a. found a n) xs) []) ns → Lists x (flat_map (λ a. flat_map (found a) ns) xs) []
  all_at_once [] ns each = nothing
  all_at_once (a ∷ xs) ns each =
      let here = each_of ns (λ n none. front x (found a n) (flat_map (λ b. found b n) xs) none) each in
      let more = each_of ns (λ n none. back x (found a n) (flat_map (λ b. found b n) xs) none) each in
      lists_append x (lists_each x (found a) ns here) (all_at_once xs ns more)

  one_by_one : (xs : List A) (ns : List ℕ) → Lists x (flat_map (λ a. flat_map (found a) ns) xs) [] → Each (λ n. Lists x (flat_map (λ a. found a n) xs) []) ns
  one_by_one [] ns none = each_all ns (λ n. nothing)
  one_by_one (a ∷ xs) ns none =
      let here = each_lists x (found a) ns (front x (flat_map (found a) ns) (flat_map (λ b. flat_map (found b) ns) xs) none) in
      let more = one_by_one xs ns (back x (flat_map (found a) ns) (flat_map (λ b. flat_map (found b) ns) xs) none) in
      each_with ns (λ n one others. lists_append x one others) here more

-- the recipes from a place on: those of the first, and of those behind it
pub pairs_cut : (x : Subject) (i : ℕ) → IsDistinct (serial_order x.graph) → i < length (serial_order x.graph)
    → pairs_of_writers x (drop i (serial_order x.graph)) ≡ pairs_with x (get_or (serial_order x.graph) i 0) ++ pairs_of_writers x (drop (i + 1) (serial_order x.graph))
pairs_cut x i distinct low =
    let order = serial_order x.graph in
    let n = get_or order i 0 in
    let with = λ (ns : List ℕ). flat_map (λ f. map (λ t. two_writers n t f) ns) (writes_of x n) in
    ap (pairs_of_writers x) (drop_more order i 0 low) ∙ ap (λ (l : List Candidate). l ++ pairs_of_writers x (drop (i + 1) order)) (ap with (sym (behind_after order i distinct low)))

pairs_from : (x : Subject) (left i : ℕ) → IsDistinct (serial_order x.graph) → i + left ≡ length (serial_order x.graph) → Each (FindsNothingOf x) (serial_order x.graph) → Lists x (pairs_of_writers x (drop i (serial_order x.graph))) []
pairs_from x zero i distinct many each =
    let past : length (serial_order x.graph) ≤ i = omega (arith, many) in
    subst (λ (ns : List ℕ). Lists x (pairs_of_writers x ns) []) (sym (drop_past (serial_order x.graph) i past)) nothing
pairs_from x (suc left) i distinct many each =
    let order = serial_order x.graph in
    let n = get_or order i 0 in
    let low : i < length order = omega (arith, many) in
    let here : FindsNothingOf x n = each_at (FindsNothingOf x) order i 0 low each in
    let behind_it : Lists x (pairs_with x n) [] = front x (pairs_with x n) (candidates_of_node x behind_pairs n) (back x (candidates_of_node x before_pairs n) (pairs_with x n ++ candidates_of_node x behind_pairs n) here) in
    let next : (i + 1) + left ≡ length order = omega (arith, many) in
    subst (λ (l : List Candidate). Lists x l []) (sym (pairs_cut x i distinct low)) (lists_append x behind_it (pairs_from x left (i + 1) distinct next each))

pub pairs_each : (x : Subject) (left i : ℕ) → IsDistinct (serial_order x.graph) → i + left ≡ length (serial_order x.graph) → Lists x (pairs_of_writers x (drop i (serial_order x.graph))) [] → Each (λ n. Lists x (pairs_with x n) []) (drop i (serial_order x.graph))
pairs_each x zero i distinct many none =
    let past : length (serial_order x.graph) ≤ i = omega (arith, many) in
    subst (Each (λ n. Lists x (pairs_with x n) [])) (sym (drop_past (serial_order x.graph) i past)) tt
pairs_each x (suc left) i distinct many none =
    let order = serial_order x.graph in
    let n = get_or order i 0 in
    let low : i < length order = omega (arith, many) in
    let next : (i + 1) + left ≡ length order = omega (arith, many) in
    let both : Lists x (pairs_with x n ++ pairs_of_writers x (drop (i + 1) order)) [] = subst (λ (l : List Candidate). Lists x l []) (pairs_cut x i distinct low) none in
    let more = pairs_each x left (i + 1) distinct next (back x (pairs_with x n) (pairs_of_writers x (drop (i + 1) order)) both) in
    subst (Each (λ m. Lists x (pairs_with x m) [])) (sym (drop_more order i 0 low)) (front x (pairs_with x n) (pairs_of_writers x (drop (i + 1) order)) both, more)

-- of all of them nothing is found just where nothing is found of any node
joined : (x : Subject) → static_candidates x ≡ candidates_before_pairs x ++ (pairs_of_writers x (serial_order x.graph) ++ candidates_after_pairs x)
joined x = flat_map-append (λ (part : List Candidate). part) (take 4 (by_number x)) (drop 4 (by_number x))

pub nothing_found : (x : Subject) → IsDistinct (serial_order x.graph) → Each (FindsNothingOf x) (serial_order x.graph) → Lists x (static_candidates x) []
nothing_found x distinct each =
    let order = serial_order x.graph in
    let before = each_of order (λ n none. front x (candidates_of_node x before_pairs n) (pairs_with x n ++ candidates_of_node x behind_pairs n) none) each in
    let behind = each_of order (λ n none. back x (pairs_with x n) (candidates_of_node x behind_pairs n) (back x (candidates_of_node x before_pairs n) (pairs_with x n ++ candidates_of_node x behind_pairs n) none)) each in
    let pairs = pairs_from x (length order) 0 distinct (omega arith) each in
    subst (λ (l : List Candidate). Lists x l []) (sym (joined x)) (lists_append x (all_at_once x (candidates_of_check x) before_pairs order before) (lists_append x pairs (all_at_once x (candidates_of_check x) behind_pairs order behind)))

pub nothing_of_each : (x : Subject) → IsDistinct (serial_order x.graph) → Lists x (static_candidates x) [] → Each (FindsNothingOf x) (serial_order x.graph)
nothing_of_each x distinct none =
    let order = serial_order x.graph in
    let pairs = pairs_of_writers x order in
    let then = candidates_after_pairs x in
    let all : Lists x (candidates_before_pairs x ++ (pairs ++ then)) [] = subst (λ (l : List Candidate). Lists x l []) (joined x) none in
    let rest : Lists x (pairs ++ then) [] = back x (candidates_before_pairs x) (pairs ++ then) all in
    let before = one_by_one x (candidates_of_check x) before_pairs order (front x (candidates_before_pairs x) (pairs ++ then) all) in
    let between = pairs_each x (length order) 0 distinct (omega arith) (front x pairs then rest) in
    let behind = one_by_one x (candidates_of_check x) behind_pairs order (back x pairs then rest) in
    each_with order (λ n one others. lists_append x one others) before (each_with order (λ n one others. lists_append x one others) between behind)
