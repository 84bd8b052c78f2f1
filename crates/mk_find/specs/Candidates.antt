-- All findings that are possible for a subject, in the order in which they are printed: by kind,
-- then by the position of the first node in the serial order, then of the file in its record, then
-- of the other node.
use Rattle.std.specs.Prelude.{ℕ, List, [], ◌∷◌, ◌++◌, map, option_to_list}
use Rattle.std.specs.List.{flat_map}
use Rattle.mk_graph.specs.Serial.{serial_order}
use Rattle.mk_infer.specs.Inference.{choice}
use Rattle.mk_infer.specs.Laws.{with_more}
use Rattle.mk_subject.specs.Subject.{Subject, name_of, reads_of, writes_of, all_writes}
use Rattle.mk_find.specs.Conditions.{HasNoRecord, HasOtherCommands, HasVaryingCommands, LacksItsTarget, AreTwoWriters, WritesWhatIsGiven, ReadsItsOwn, ReadsWhatIsUnknown, IsLoose, RacesWith, IsStale, ChoosesOtherwise}

-- A possible finding: its kind, with nodes by number and files by name.
pub data Candidate : Type 0 where
  no_record : (t : ℕ) → Candidate
  other_commands : (t : ℕ) → Candidate
  varying_commands : (t : ℕ) → Candidate
  no_target : (t : ℕ) → Candidate
  two_writers : (o t : ℕ) (f : List ℕ) → Candidate
  given_written : (t : ℕ) (f : List ℕ) → Candidate
  own_read : (t : ℕ) (f : List ℕ) → Candidate
  unknown_read : (t : ℕ) (f : List ℕ) → Candidate
  loose : (n o : ℕ) → Candidate
  race : (t o : ℕ) (f : List ℕ) → Candidate
  stale : (t : ℕ) (f : List ℕ) → Candidate
  selection : (n : ℕ) (c : List ℕ) → Candidate

-- The condition under which a candidate is a finding.
abbrev pub IsFinding : Subject → Candidate → Type 0
IsFinding x (no_record t) = HasNoRecord x t
IsFinding x (other_commands t) = HasOtherCommands x t
IsFinding x (varying_commands t) = HasVaryingCommands x t
IsFinding x (no_target t) = LacksItsTarget x t
IsFinding x (two_writers o t f) = AreTwoWriters x o t f
IsFinding x (given_written t f) = WritesWhatIsGiven x t f
IsFinding x (own_read t f) = ReadsItsOwn x t f
IsFinding x (unknown_read t f) = ReadsWhatIsUnknown x t f
IsFinding x (loose n o) = IsLoose x n o
IsFinding x (race t o f) = RacesWith x t o f
IsFinding x (stale t f) = IsStale x t f
IsFinding x (selection n c) = ChoosesOtherwise x n c

-- The candidates of each node, in the serial order.
abbrev pub by_node : Subject → (ℕ → List Candidate) → List Candidate
by_node x found = flat_map found (serial_order x.graph)

-- For each recipe of the list, each file that it writes, and each recipe after it in the list, the
-- candidate that both write the file.
abbrev pub pairs_of_writers : Subject → List ℕ → List Candidate
pairs_of_writers x [] = []
pairs_of_writers x (o ∷ later) =
    flat_map (λ f. map (λ t. two_writers o t f) later) (writes_of x o) ++ pairs_of_writers x later

-- The inferred prerequisite of a node, if it has one, when all files that recipes write exist.
abbrev pub choice_with_writes : Subject → ℕ → List (List ℕ)
choice_with_writes x n =
    option_to_list (choice x.makefile (with_more x.there (all_writes x)) (name_of x n))

-- The lists of candidates that need neither a way nor the order, one for each kind: findings 1 to
-- 9, and 12.
abbrev pub by_number : Subject → List (List Candidate)
by_number x =
    by_node x (λ t. no_record t ∷ []) ∷
    by_node x (λ t. other_commands t ∷ []) ∷
    by_node x (λ t. varying_commands t ∷ []) ∷
    by_node x (λ t. no_target t ∷ []) ∷
    pairs_of_writers x (serial_order x.graph) ∷
    by_node x (λ t. map (λ f. given_written t f) (writes_of x t)) ∷
    by_node x (λ t. map (λ f. own_read t f) (reads_of x t)) ∷
    by_node x (λ t. map (λ f. unknown_read t f) (reads_of x t)) ∷
    by_node x (λ n. map (λ o. loose n o) (serial_order x.graph)) ∷
    by_node x (λ n. map (λ c. selection n c) (choice_with_writes x n)) ∷ []

-- All candidates that need neither a way nor the order, in one list.
abbrev pub static_candidates : Subject → List Candidate
static_candidates x = flat_map (λ part. part) (by_number x)

-- The candidates for races (10).
abbrev pub race_candidates : Subject → List Candidate
race_candidates x =
    by_node x (λ t. flat_map (λ f. map (λ o. race t o f) (serial_order x.graph)) (reads_of x t))

-- The candidates for stale reads (11).
abbrev pub stale_candidates : Subject → List Candidate
stale_candidates x = by_node x (λ t. map (λ f. stale t f) (reads_of x t))
