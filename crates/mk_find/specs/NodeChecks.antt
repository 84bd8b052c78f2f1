-- The checks of a single node, in their order.
use Rattle.std.specs.Prelude.{ℕ, List, [], ◌∷◌, ◌++◌, map, ◌==◌, if◌then◌else◌}
use Rattle.std.specs.List.{flat_map}
use Rattle.mk_graph.specs.Serial.{serial_order}
use Rattle.mk_subject.specs.Subject.{Subject, reads_of, writes_of}
use Rattle.mk_find.specs.declared.node_check.NodeCheck.{NodeCheck}
use Rattle.mk_find.specs.declared.node_check.NodeCheck.TheVariants.{Record, Commands, Varying, Target, Given, Own, Unknown, Loose, Choice}
use Rattle.mk_find.specs.Candidates.{Candidate, by_node, no_record, other_commands, varying_commands, no_target, given_written, own_read, unknown_read, loose, selection, two_writers, choice_with_writes}

-- The part of a list after the first occurrence of a number.
abbrev pub behind : ℕ → List ℕ → List ℕ
behind o [] = []
behind o (n ∷ ns) = if n == o then ns else behind o ns

-- The candidates that a check looks at for a node.
abbrev pub candidates_of_check : Subject → NodeCheck → ℕ → List Candidate
candidates_of_check x Record t = no_record t ∷ []
candidates_of_check x Commands t = other_commands t ∷ []
candidates_of_check x Varying t = varying_commands t ∷ []
candidates_of_check x Target t = no_target t ∷ []
candidates_of_check x Given t = map (λ f. given_written t f) (writes_of x t)
candidates_of_check x Own t = map (λ f. own_read t f) (reads_of x t)
candidates_of_check x Unknown t = map (λ f. unknown_read t f) (reads_of x t)
candidates_of_check x Loose n = map (λ o. loose n o) (serial_order x.graph)
candidates_of_check x Choice n = map (λ c. selection n c) (choice_with_writes x n)

-- The checks that come before pairs of writers.
abbrev pub before_pairs : List NodeCheck
before_pairs = Record ∷ Commands ∷ Varying ∷ Target ∷ []

-- The checks that come after pairs of writers.
abbrev pub behind_pairs : List NodeCheck
behind_pairs = Given ∷ Own ∷ Unknown ∷ Loose ∷ Choice ∷ []

-- The candidates of these checks, one check after another, each for all nodes.
abbrev pub candidates_of_checks : Subject → List NodeCheck → List Candidate
candidates_of_checks x checks =
    flat_map (λ check. by_node x (candidates_of_check x check)) checks

-- The candidates of all checks before pairs of writers.
abbrev pub candidates_before_pairs : Subject → List Candidate
candidates_before_pairs x = candidates_of_checks x before_pairs

-- The candidates of all checks after pairs of writers.
abbrev pub candidates_after_pairs : Subject → List Candidate
candidates_after_pairs x = candidates_of_checks x behind_pairs

-- The candidates for a file that both this recipe and a later one in the serial order write.
abbrev pub pairs_with : Subject → ℕ → List Candidate
pairs_with x n =
    flat_map (λ f. map (λ t. two_writers n t f) (behind n (serial_order x.graph))) (writes_of x n)

-- The candidates of these checks for one node.
abbrev pub candidates_of_node : Subject → List NodeCheck → ℕ → List Candidate
candidates_of_node x checks n = flat_map (λ check. candidates_of_check x check n) checks

-- All candidates for one node that need neither a way nor the order.
abbrev pub found_of : Subject → ℕ → List Candidate
found_of x n = candidates_of_node x before_pairs n ++
    (pairs_with x n ++ candidates_of_node x behind_pairs n)
