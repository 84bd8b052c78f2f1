-- What is known of a race or a stale read that is told.
use Rattle.std.proofs.Common.{◌≡◌, ℕ, List, [], ◌∷◌, ◌++◌, map, true, Option, Some, None, Result, Ok, Err, Vec, inl, inr, sym, subst}
use Rattle.std.specs.List.{flat_map}
use Rattle.std.specs.Prelude.{IfOk, MatchOption}
use Rattle.std.specs.declared.alloc.AllocError.{AllocError}
use Rattle.std.specs.declared.alloc.Global.{Global}
use Rattle.mk_lemmas.proofs.Members.{Has-from_map, Has-from_then}
use Rattle.mk_subject.proofs.FileDecided.{writer_is_node}
use Rattle.mk_find.proofs.Noting.{reader_is_node}
use Rattle.mk_graph.specs.Membership.{Has}
use Rattle.mk_graph.specs.Graph.{node}
use Rattle.mk_graph.specs.Serial.{serial_order}
use Rattle.mk_build.specs.Setting.{IsNumberOf}
use Rattle.mk_world.specs.NamedStep.{step_view}
use Rattle.mk_world.specs.declared.step.Step.{Step}
use Rattle.mk_find.specs.Candidates.{Candidate, IsFinding, no_record, other_commands, varying_commands, no_target, two_writers, given_written, own_read, unknown_read, loose, race, stale, selection, pairs_of_writers, choice_with_writes, static_candidates}
use Rattle.mk_find.specs.Conditions.{RacesWith, IsStale}
use Rattle.mk_find.specs.FindingLaws.{ListedExactly}
use Rattle.mk_find.specs.Listed.{named, Adds}
use Rattle.mk_find.specs.Listing.{Lists}
use Rattle.mk_subject.specs.Subject.{Subject, footprints, name_of, reads_of, writes_of}
use Rattle.mk_find.specs.declared.finding.Finding.{Finding}
use Rattle.mk_find.specs.declared.finding.Finding.TheVariants as found
use Rattle.mk_find_evidence.specs.Shown.{HasStamps, IsNotShown, IsReported, Shows, ShowsRace, ShowsStaleRead}

module _ {B : Type 0} (P : B → Type 0) where
  -- all that stands in the list is so
  abbrev pub AllAre : List B → Type 0
  AllAre ys = (y : B) → Has ys y → P y

  all_none : AllAre []
  all_none y h = absurd h

  all_one : (x : B) → P x → AllAre (x ∷ [])
  all_one x is y (inl here) = subst P here is
  all_one x is y (inr none) = absurd none

  all_both : (xs ys : List B) → AllAre xs → AllAre ys → AllAre (xs ++ ys)
  all_both [] ys first second y h = second y h
  all_both (x ∷ xs) ys first second y (inl here) = first y (inl here)
  all_both (x ∷ xs) ys first second y (inr there) = all_both xs ys (λ z k. first z (inr k)) second y there

  all_mapped : {A : Type 0} (f : A → B) → ((x : A) → P (f x)) → (xs : List A) → AllAre (map f xs)
  all_mapped f each xs y h = let at = Has-from_map f xs y h in subst P at.2 (each at.0)

  all_joined : {A : Type 0} (f : A → List B) → ((x : A) → AllAre (f x)) → (xs : List A) → AllAre (flat_map f xs)
  all_joined f each [] = all_none
  all_joined f each (x ∷ xs) = all_both (f x) (flat_map f xs) (each x) (all_joined f each xs)

-- it is neither a race nor a stale read
abbrev pub IsStatic : Candidate → Type 0
IsStatic (race t o f) = ⊥
IsStatic (stale t f) = ⊥
IsStatic other = Unit {0}

writers_static : (x : Subject) (order : List ℕ) → AllAre IsStatic (pairs_of_writers x order)
writers_static x [] = all_none IsStatic
writers_static x (o ∷ later) =
    all_both IsStatic (flat_map (λ f. map (λ t. two_writers o t f) later) (writes_of x o)) (pairs_of_writers x later) (all_joined IsStatic (λ f. map (λ t. two_writers o t f) later) (λ f. all_mapped IsStatic (λ t. two_writers o t f) (λ t. tt) later) (writes_of x o)) (writers_static x later)

-- so are all of which the condition is static
all_static : (x : Subject) → AllAre IsStatic (static_candidates x)
all_static x =
    let order = serial_order x.graph in
    all_both IsStatic _ _ (all_joined IsStatic (λ t. no_record t ∷ []) (λ t. all_one IsStatic (no_record t) tt) order)
    (all_both IsStatic _ _ (all_joined IsStatic (λ t. other_commands t ∷ []) (λ t. all_one IsStatic (other_commands t) tt) order)
    (all_both IsStatic _ _ (all_joined IsStatic (λ t. varying_commands t ∷ []) (λ t. all_one IsStatic (varying_commands t) tt) order)
    (all_both IsStatic _ _ (all_joined IsStatic (λ t. no_target t ∷ []) (λ t. all_one IsStatic (no_target t) tt) order)
    (all_both IsStatic _ _ (writers_static x order)
    (all_both IsStatic _ _ (all_joined IsStatic (λ t. map (λ f. given_written t f) (writes_of x t)) (λ t. all_mapped IsStatic (λ f. given_written t f) (λ f. tt) (writes_of x t)) order)
    (all_both IsStatic _ _ (all_joined IsStatic (λ t. map (λ f. own_read t f) (reads_of x t)) (λ t. all_mapped IsStatic (λ f. own_read t f) (λ f. tt) (reads_of x t)) order)
    (all_both IsStatic _ _ (all_joined IsStatic (λ t. map (λ f. unknown_read t f) (reads_of x t)) (λ t. all_mapped IsStatic (λ f. unknown_read t f) (λ f. tt) (reads_of x t)) order)
    (all_both IsStatic _ _ (all_joined IsStatic (λ n. map (λ o. loose n o) order) (λ n. all_mapped IsStatic (λ o. loose n o) (λ o. tt) order) order)
    (all_both IsStatic _ _ (all_joined IsStatic (λ n. map (λ c. selection n c) (choice_with_writes x n)) (λ n. all_mapped IsStatic (λ c. selection n c) (λ c. tt) (choice_with_writes x n)) order)
    (all_none IsStatic))))))))))

-- the nodes of a race by their names
pub record IsRaceOf (x : Subject) (recipe writer f : List ℕ) : Type 0 where
  pub t : ℕ
  pub o : ℕ
  pub races : RacesWith x t o f
  pub recipe_is : name_of x t ≡ recipe
  pub writer_is : name_of x o ≡ writer

-- the node of a stale read
pub record IsStaleOf (x : Subject) (recipe f : List ℕ) : Type 0 where
  pub t : ℕ
  pub stale : IsStale x t f
  pub recipe_is : name_of x t ≡ recipe

race_by : (x : Subject) (c : Candidate) (recipe writer f : List ℕ) → IsFinding x c → named x c ≡ found.Race recipe writer f → IsRaceOf x recipe writer f
race_by x (no_record t) recipe writer f holds e = absurd (cc)
race_by x (other_commands t) recipe writer f holds e = absurd (cc)
race_by x (varying_commands t) recipe writer f holds e = absurd (cc)
race_by x (no_target t) recipe writer f holds e = absurd (cc)
race_by x (two_writers o t h) recipe writer f holds e = absurd (cc)
race_by x (given_written t h) recipe writer f holds e = absurd (cc)
race_by x (own_read t h) recipe writer f holds e = absurd (cc)
race_by x (unknown_read t h) recipe writer f holds e = absurd (cc)
race_by x (loose n o) recipe writer f holds e = absurd (cc)
race_by x (race t o h) recipe writer f holds e =
    let same : h ≡ f = cc in
    record { t = t; o = o; races = subst (λ (k : List ℕ). RacesWith x t o k) same holds; recipe_is = cc; writer_is = cc }
race_by x (stale t h) recipe writer f holds e = absurd (cc)
race_by x (selection n h) recipe writer f holds e = absurd (cc)

stale_by : (x : Subject) (c : Candidate) (recipe f : List ℕ) → IsFinding x c → named x c ≡ found.Stale recipe f → IsStaleOf x recipe f × (¬ (IsStatic c))
stale_by x (no_record t) recipe f holds e = absurd (cc)
stale_by x (other_commands t) recipe f holds e = absurd (cc)
stale_by x (varying_commands t) recipe f holds e = absurd (cc)
stale_by x (no_target t) recipe f holds e = absurd (cc)
stale_by x (two_writers o t h) recipe f holds e = absurd (cc)
stale_by x (given_written t h) recipe f holds e = absurd (cc)
stale_by x (own_read t h) recipe f holds e = absurd (cc)
stale_by x (unknown_read t h) recipe f holds e = absurd (cc)
stale_by x (loose n o) recipe f holds e = absurd (cc)
stale_by x (race t o h) recipe f holds e = absurd (cc)
stale_by x (stale t h) recipe f holds e =
    let same : h ≡ f = cc in
    (record { t = t; stale = subst (λ (k : List ℕ). IsStale x t k) same holds; recipe_is = cc }, λ none. none)
stale_by x (selection n h) recipe f holds e = absurd (cc)

module _ (listed : ListedExactly) (x : Subject) where
  -- what is told is one of the candidates, by its names
  told_by : (all : List Candidate) (finding : Finding) (told : List Finding) → Has told finding → Adds x all [] told → (c : Candidate) × Has all c × IsFinding x c × (named x c ≡ finding)
  told_by all finding told one adds =
      let at = Has-from_map (named x) adds.kept finding (subst (λ (l : List Finding). Has l finding) adds.added one) in
      let is = (listed x all adds.kept adds.right at.0).0 at.1 in
      (at.0, is.0, is.1, at.2)

  -- a race that is told
  pub told_race : (recipe writer f : List ℕ) → IsReported x (found.Race recipe writer f) → IsRaceOf x recipe writer f
  told_race recipe writer f is = elim is.told [
    | inl static ↦ let at = told_by _ _ is.all is.one static.1 in race_by x at.0 recipe writer f at.2 at.3
    | inr other ↦ let at = told_by _ _ is.all is.one other.1 in race_by x at.0 recipe writer f at.2 at.3
  ]

  -- a stale read that is told: nothing static is found then
  pub told_stale : (recipe f : List ℕ) → IsReported x (found.Stale recipe f) → IsStaleOf x recipe f × Lists x (static_candidates x) []
  told_stale recipe f is = elim is.told [
    | inl static ↦ let at = told_by (static_candidates x) _ is.all is.one static.1 in absurd ((stale_by x at.0 recipe f at.2 at.3).1 (all_static x at.0 at.1))
    | inr other ↦ let at = told_by _ _ is.all is.one other.1 in ((stale_by x at.0 recipe f at.2 at.3).0, other.0)
  ]

-- who reads a file is a recipe, and so a node
pub reader_has_recipe : (x : Subject) (t : ℕ) (f : List ℕ) → Has (reads_of x t) f → (node x.graph t).recipe ≡ true
reader_has_recipe x t f h = (Has-from_then (node x.graph t).recipe ((footprints x.setting).reads (name_of x t)) f h).0

-- so its nodes have these names
pub race_numbers : (x : Subject) (recipe writer f : List ℕ) (is : IsRaceOf x recipe writer f) → IsNumberOf x.graph writer is.o × IsNumberOf x.graph recipe is.t
race_numbers x recipe writer f is = ((writer_is_node x is.o f is.races.2, is.writer_is), (reader_is_node x is.t f is.races.1, is.recipe_is))

pub stale_number : (x : Subject) (recipe f : List ℕ) (is : IsStaleOf x recipe f) → IsNumberOf x.graph recipe is.t
stale_number x recipe f is = (reader_is_node x is.t f is.stale.0, is.recipe_is)

-- ---- what is answered to a finding

module _ (x : Subject) (finding : Finding) where
  -- what shows that a node races with another one shows the race that is told
  pub race_answers : (recipe writer f : List ℕ) (o t : ℕ) → finding ≡ found.Race recipe writer f → IsNumberOf x.graph writer o → IsNumberOf x.graph recipe t → (answer : Result (Option (Vec Step Global)) AllocError)
      → IfOk answer (λ shown. MatchOption shown (¬ (HasStamps x)) (λ steps. ShowsRace x o t (map step_view steps.items)))
      → IfOk answer (λ shown. MatchOption shown (IsNotShown x finding) (λ steps. Shows x finding (map step_view steps.items)))
  race_answers recipe writer f o t is first second (Ok (Some steps)) ends = subst (λ (k : Finding). Shows x k (map step_view steps.items)) (sym is) (λ d one. (o, t, first, second, ends d one))
  race_answers recipe writer f o t is first second (Ok None) few = inr few
  race_answers recipe writer f o t is first second (Err e) h = tt

  -- and what shows a stale read of a node the one that is told
  pub stale_answers : (recipe f : List ℕ) (t : ℕ) → finding ≡ found.Stale recipe f → IsNumberOf x.graph recipe t → (answer : Result (Option (Vec Step Global)) AllocError)
      → IfOk answer (λ shown. MatchOption shown (¬ (HasStamps x)) (λ steps. ShowsStaleRead x t f (map step_view steps.items)))
      → IfOk answer (λ shown. MatchOption shown (IsNotShown x finding) (λ steps. Shows x finding (map step_view steps.items)))
  stale_answers recipe f t is number (Ok (Some steps)) ends = subst (λ (k : Finding). Shows x k (map step_view steps.items)) (sym is) (λ d one. (t, number, ends d one))
  stale_answers recipe f t is number (Ok None) few = inr few
  stale_answers recipe f t is number (Err e) h = tt
