-- Trying the ends of ways, place by place, for one at which a path to a file may end.
use Rattle.std.specs.declared.alloc.Global.{Global}
use Rattle.std.proofs.Common.{◌≡◌, ℕ, ◌+◌, ◌<◌, ◌≤◌, Option, Some, None, MatchOption, Vec, Bool, true, false, ◌||◌, ◌&&◌, List, [], ◌∷◌, ◌++◌, length, ◌⊎◌, inl, inr, refl, sym, ◌∙◌, ap, subst, min, max, arith}
use Rattle.std.specs.List.{list_any}
use Rattle.std.specs.Str.{bytes_eq}
use Rattle.std.proofs.Math.Nat.{eq-or-lt_of_le, min-le_left, min-le_right}
use Rattle.std.proofs.lemmas.Bool.{false≢true, cases_lt, or_cases, or_left, or_right, false_from_ne_true, and_parts}
use Rattle.std.proofs.lemmas.Slice.Eq.{bytes_eq-Decides}
use Rattle.mk_lemmas.proofs.Members.{Has-cases, Has-filter, Has-from_then}
use Rattle.mk_graph.proofs.Nodes.{recipe_is_node}
use Rattle.mk_lines.proofs.NameTests.{Has-from_has_name, has_name-from_Has}
use Rattle.mk_lines.specs.Names.{has_name}
use Rattle.mk_graph.specs.Graph.{IsGraph, node, prerequisites}
use Rattle.mk_graph.specs.Laws.{SerialReachesEachOnce}
use Rattle.mk_graph.specs.Membership.{Has}
use Rattle.mk_graph.specs.Serial.{serial_order}
use Rattle.mk_build.specs.Setting.{is_editable}
use Rattle.mk_graph_search.specs.Ways.{successors, end}
use Rattle.mk_graph_search.specs.Places.{SearchInput, EndsAt, GoesAt, HasAtMost, IsOutBefore}
use Rattle.mk_graph_search.specs.Laws.{FirstByPlaces, NoneByPlaces, OneWayAtAPlace, PlacesAreBelow, SaysNoBefore}
use Rattle.mk_cert_text.specs.declared.certificate.Finish.{Finish}
use Rattle.mk_cert_text.specs.declared.certificate.Finish.TheVariants.{Written, Source, Always}
use Rattle.mk_subject.specs.Carried.{carried, CarriedExactly}
use Rattle.mk_subject.specs.NodeRow.{writers_of}
use Rattle.mk_subject.specs.Subject.{Subject, footprints, name_of, writes_of}
use Rattle.mk_find.specs.FirstPaths.{AlwaysNoneBefore, EndsNoneBefore, MayEnd, IsFirstFinish, IsAlongFirstPath, HasNoPath}
use Rattle.mk_find.proofs.FirstPaths.{HasFinish, found_first, none_found}

-- some number of a list passes
pub some_passes : (test : ℕ → Bool) (ns : List ℕ) (n : ℕ) → Has ns n → test n ≡ true → list_any test ns ≡ true
some_passes test [] n h e = absurd h
some_passes test (m ∷ ns) n (inl here) e = or_left (test m) (list_any test ns) (ap test here ∙ e)
some_passes test (m ∷ ns) n (inr there) e = or_right (test m) (list_any test ns) (some_passes test ns n there e)

-- which one
pub which_passes : (test : ℕ → Bool) (ns : List ℕ) → list_any test ns ≡ true → (n : ℕ) × Has ns n × (test n ≡ true)
which_passes test [] e = absurd (false≢true e)
which_passes test (m ∷ ns) e = elim (or_cases (test m) (list_any test ns) e) [ inl here ↦ (m, inl refl, here) | inr there ↦ (let at = which_passes test ns there in (at.0, inr at.1, at.2)) ]

-- the tests for the finishes
needs : Subject → List ℕ → ℕ → Bool
needs x f n = list_any (λ p. bytes_eq f (name_of x p)) (prerequisites x.graph n)

always : Subject → ℕ → Bool
always x n = (node x.graph n).phony || list_any (λ p. (node x.graph p).phony) (prerequisites x.graph n)

-- whether a path to the file may end at the recipe
pub may_end : Subject → List ℕ → ℕ → Bool
may_end x f n = has_name (writes_of x n) f || ((is_editable (footprints x.setting) f && needs x f n) || always x n)

-- it says yes where there is a finish
pub says_yes : (x : Subject) (f : List ℕ) (n : ℕ) → HasFinish x f n → may_end x f n ≡ true
unfolding may_end needs always
says_yes x f n (Written, wrote) = or_left (has_name (writes_of x n) f) _ (has_name-from_Has (writes_of x n) f wrote)
says_yes x f n (Source, is) =
    let need = some_passes (λ p. bytes_eq f (name_of x p)) (prerequisites x.graph n) is.1.0 is.1.1 ((bytes_eq-Decides f (name_of x is.1.0)).1 (sym is.1.2)) in
    or_right (has_name (writes_of x n) f) _ (or_left (is_editable (footprints x.setting) f && needs x f n) (always x n) (both_true (is_editable (footprints x.setting) f) (needs x f n) is.0 need))
  where
    both_true : (a b : Bool) → a ≡ true → b ≡ true → (a && b) ≡ true
    both_true true b e k = k
    both_true false b e k = absurd (false≢true e)
says_yes x f n (Always, made) =
    or_right (has_name (writes_of x n) f) _ (or_right (is_editable (footprints x.setting) f && needs x f n)
    (always x n) (elim made [
      | inl phony ↦ or_left (node x.graph n).phony _ phony
      | inr some ↦ or_right (node x.graph n).phony _ (some_passes (λ p. (node x.graph p).phony)
          (prerequisites x.graph n) some.0 some.1 some.2)
    ]))

-- and only there
pub finish_from : (x : Subject) (f : List ℕ) (n : ℕ) → may_end x f n ≡ true → HasFinish x f n
unfolding may_end needs always
finish_from x f n e =
    elim (or_cases (has_name (writes_of x n) f) _ e) [
      | inl wrote ↦ (Written, Has-from_has_name (writes_of x n) f wrote)
      | inr other ↦ elim (or_cases (is_editable (footprints x.setting) f && needs x f n) (always x n) other) [
        | inl source ↦ (let at = which_passes (λ p. bytes_eq f (name_of x p)) (prerequisites x.graph n)
            (and_parts (is_editable (footprints x.setting) f) (needs x f n) source).1 in (
              Source,
              (
                (and_parts (is_editable (footprints x.setting) f) (needs x f n) source).0,
                (at.0, at.1, sym ((bytes_eq-Decides f (name_of x at.0)).0 at.2)),
              ),
            ))
        | inr made ↦ (
          Always,
          elim (or_cases (node x.graph n).phony _ made) [
            | inl phony ↦ inl phony
            | inr some ↦ inr (which_passes (λ p. (node x.graph p).phony)
                (prerequisites x.graph n) some)
          ],
        )
      ]
    ]

-- before the first place
pub none_before_first : (x : Subject) (f : List ℕ) (t : ℕ) → EndsNoneBefore x f t 0
none_before_first x f t = record { none = λ k n low. absurd (omega arith) }

pub always_none_before_first : (x : Subject) (t : ℕ) → AlwaysNoneBefore x t 0
always_none_before_first x t = record { none = λ k n low. absurd (omega arith) }

-- at a place one recipe ends
one_end : OneWayAtAPlace → (x : Subject) (t place n m : ℕ) → EndsAt (carried x) t place n → EndsAt (carried x) t place m → n ≡ m
one_end one x t place n m a b = sym a.ends ∙ (ap (end t) (one (carried x) t place a.way b.way a.stands b.stands) ∙ b.ends)

-- nor at this one
pub none_here : OneWayAtAPlace → (x : Subject) (f : List ℕ) (t place number : ℕ) → EndsNoneBefore x f t place → EndsAt (carried x) t place number → ((finish : Finish) → ¬ (MayEnd x f finish number)) → EndsNoneBefore x f t (place + 1)
none_here one x f t place number before at out = record { none = λ k n low there. by k n there (eq-or-lt_of_le (le_of k low)) }
  where
    le_of : (k : ℕ) → k < place + 1 → k ≤ place
    le_of k low = omega arith

    by : (k n : ℕ) → EndsAt (carried x) t k n → (k ≡ place) ⊎ (k < place) → (finish : Finish) → ¬ (MayEnd x f finish n)
    by k n there (inr low) = before.none k n low there
    by k n there (inl e) = λ finish ends. out finish (subst (λ (m : ℕ). MayEnd x f finish m) (one_end one x t place n number (subst (λ (j : ℕ). EndsAt (carried x) t j n) e there) at) ends)

-- so the test says no there
says_no : (x : Subject) (f : List ℕ) (t place : ℕ) → EndsNoneBefore x f t place → SaysNoBefore (carried x) t (may_end x f) place
says_no x f t place before j low way stands =
    false_from_ne_true (may_end x f (end t way)) (λ e. let at = finish_from x f (end t way) e in before.none j (end t way) low (record { way = way; stands = stands; ends = refl }) at.0 at.1)

-- who writes a file is among its writers
pub writer_there : SerialReachesEachOnce → (x : Subject) → IsGraph x.graph → (f : List ℕ) (n : ℕ) → Has (writes_of x n) f → Has (writers_of x f) n
writer_there serial x is f n wrote =
    let low = recipe_is_node x.graph n ((Has-from_then (node x.graph n).recipe _ f wrote).0) in
    let in_order : Has (serial_order x.graph) n = ((serial x.graph is.no_cycle).1 n).1 (is.sound.reached n low) in
    Has-filter (λ o. has_name (writes_of x o) f) (serial_order x.graph) n in_order (has_name-from_Has (writes_of x n) f wrote)

-- where the file isn't editable, no path to it may end before its writers and what is always made
pub none_before_writers : SerialReachesEachOnce → (x : Subject) → IsGraph x.graph → (f : List ℕ) (t place passed : ℕ) → is_editable (footprints x.setting) f ≡ false → AlwaysNoneBefore x t passed → place ≤ passed → ((n : ℕ) → Has (writers_of x f) n → IsOutBefore (carried x) t place n) → EndsNoneBefore x f t place
none_before_writers serial x is f t place passed fixed always few out = record { none = λ k n low there finish ends. by k n low there finish ends }
  where
    by : (k n : ℕ) → k < place → EndsAt (carried x) t k n → (finish : Finish) → ¬ (MayEnd x f finish n)
    by k n low there Written wrote = out n (writer_there serial x is f n wrote) k low there
    by k n low there Source ends = false≢true (sym fixed ∙ ends.0)
    by k n low there Always made = always.none k n (omega arith) there made

-- what is passed over for one file isn't always made
pub passed_over : (x : Subject) (f : List ℕ) (t place passed : ℕ) → EndsNoneBefore x f t place → AlwaysNoneBefore x t passed → AlwaysNoneBefore x t (max place passed)
passed_over x f t place passed before always = record { none = λ k n low there made. elim (cases_lt k place) [ inl less ↦ before.none k n less there Always made | inr past ↦ always.none k n (omega arith) there made ] }

-- at this place the first path ends
pub path_found : CarriedExactly → FirstByPlaces → OneWayAtAPlace → (x : Subject) → IsGraph x.graph
    → (f : List ℕ) (t place number : ℕ) (finish : Finish) (nodes : List ℕ) → ¬ (Has (writes_of x t) f)
    → EndsNoneBefore x f t place → EndsAt (carried x) t place number → IsFirstFinish x f finish number
    → GoesAt (carried x) t place nodes → IsAlongFirstPath x f t nodes finish
path_found carries first one x is f t place number finish nodes out before at ends goes =
    let same : goes.way ≡ at.way = one (carried x) t place goes.way at.way goes.stands at.stands in
    let there : end t goes.way ≡ number = ap (end t) same ∙ at.ends in
    let here : MayEnd x f finish (end t goes.way) = subst (λ (n : ℕ). MayEnd x f finish n) (sym there) ends.0 in
    let is_first = first (carried x) t (may_end x f) place goes.way (says_no x f t place before) goes.stands (says_yes x f (end t goes.way) (finish, here)) in
    record { way = goes.way; first = found_first x f t (carries x is) out (may_end x f) (says_yes x f) goes.way finish is_first here (λ other at_end. ends.1 other (subst (λ (n : ℕ). MayEnd x f other n) there at_end)); goes = goes.goes }

-- there is no path
pub path_missing : CarriedExactly → NoneByPlaces → (x : Subject) → IsGraph x.graph → (f : List ℕ) (t place : ℕ) → EndsNoneBefore x f t place → HasAtMost (carried x) t place → HasNoPath x f t
path_missing carries none x is f t place before few =
    none_found x f t (carries x is) (may_end x f) (says_yes x f) (none (carried x) t (may_end x f) place (says_no x f t place before) few)

-- what is carried are nodes
carried_low : CarriedExactly → (x : Subject) → IsGraph x.graph → (n o : ℕ) → Has (carried x n) o → o < length x.graph.nodes
carried_low carries x is n o h =
    let c = (carries x is n o).0 h in
    recipe_is_node x.graph o ((Has-from_then (node x.graph o).recipe _ _ c.2).0)

-- so places are below the number of nodes
pub place_low : CarriedExactly → PlacesAreBelow → (x : Subject) → IsGraph x.graph → (t place number : ℕ) → t < length x.graph.nodes → EndsAt (carried x) t place number → place < length x.graph.nodes
place_low carries below x is t place number low at = below (carried x) t (length x.graph.nodes) low (carried_low carries x is) place at.way at.stands

-- what is so of a search is so of carried recipes
pub moved : (P : (ℕ → List ℕ) → ℕ → Type 0) (x : Subject) (task first : SearchInput) → task ≡ first → ((t : ℕ) → successors first.rows t ≡ carried x t) → P (successors task.rows) task.start → P (carried x) first.start
moved P x task first e rows h =
    let same : successors first.rows ≡ carried x = (λ i t. rows t i) in
    subst (λ (succ : ℕ → List ℕ). P succ first.start) same (subst (λ (k : SearchInput). P (successors k.rows) k.start) e h)

-- what a search has answered of a place, over carried recipes
module _ (x : Subject) (task first : SearchInput) (e : task ≡ first) (rows : (t : ℕ) → successors first.rows t ≡ carried x t) (place : ℕ) where
  -- a node
  pub ended : (o : Option ℕ) (number : ℕ) → o ≡ Some number → MatchOption o (HasAtMost (successors task.rows) task.start place) (λ node. EndsAt (successors task.rows) task.start place node) → EndsAt (carried x) first.start place number
  ended o number is found =
      moved (λ succ t. EndsAt succ t place number) x task first e rows (subst (λ (p : Option ℕ). MatchOption p (HasAtMost (successors task.rows) task.start place) (λ node. EndsAt (successors task.rows) task.start place node)) is found)

  -- that there are no more
  pub ran_out : (o : Option ℕ) → o ≡ None → MatchOption o (HasAtMost (successors task.rows) task.start place) (λ node. EndsAt (successors task.rows) task.start place node) → HasAtMost (carried x) first.start place
  ran_out o is found =
      moved (λ succ t. HasAtMost succ t place) x task first e rows (subst (λ (p : Option ℕ). MatchOption p (HasAtMost (successors task.rows) task.start place) (λ node. EndsAt (successors task.rows) task.start place node)) is found)

  -- the nodes of the way
  pub gone : (o : Option (Vec ℕ Global)) (nodes : Vec ℕ Global) → o ≡ Some nodes → MatchOption o (HasAtMost (successors task.rows) task.start place) (λ found. GoesAt (successors task.rows) task.start place found.items) → GoesAt (carried x) first.start place nodes.items
  gone o nodes is found =
      moved (λ succ t. GoesAt succ t place nodes.items) x task first e rows (subst (λ (p : Option (Vec ℕ Global)). MatchOption p (HasAtMost (successors task.rows) task.start place) (λ one. GoesAt (successors task.rows) task.start place one.items)) is found)

  -- that there is no way
  pub gone_out : (o : Option (Vec ℕ Global)) → o ≡ None → MatchOption o (HasAtMost (successors task.rows) task.start place) (λ found. GoesAt (successors task.rows) task.start place found.items) → HasAtMost (carried x) first.start place
  gone_out o is found =
      moved (λ succ t. HasAtMost succ t place) x task first e rows (subst (λ (p : Option (Vec ℕ Global)). MatchOption p (HasAtMost (successors task.rows) task.start place) (λ one. GoesAt (successors task.rows) task.start place one.items)) is found)

-- what is out before a place is out before a sooner one
pub out_sooner : (succ : ℕ → List ℕ) (t place sooner n : ℕ) → sooner ≤ place → IsOutBefore succ t place n → IsOutBefore succ t sooner n
out_sooner succ t place sooner n few out k low = out k (omega arith)

-- of one more recipe
pub all_out : (succ : ℕ → List ℕ) (t place other : ℕ) (front : List ℕ) (m : ℕ) → ((n : ℕ) → Has front n → IsOutBefore succ t place n) → IsOutBefore succ t other m → (n : ℕ) → Has (front ++ m ∷ []) n → IsOutBefore succ t (min place other) n
all_out succ t place other front m before here n h =
    elim (Has-cases front (m ∷ []) n h) [
      | inl there ↦ out_sooner succ t place (min place other) n (min-le_left place other) (before n there)
      | inr last ↦ elim last [
        | inl is ↦ subst (λ (o : ℕ). IsOutBefore succ t (min place other) o) is (out_sooner succ t other (min place other) m (min-le_right place other) here)
        | inr none ↦ absurd none
      ]
    ]
