-- What the list of a node's needs has.
use Rattle.std.proofs.Common.{ℕ, not, eqb, inl, inr}
use Rattle.std.specs.Prelude.{◌==◌}
use Rattle.std.proofs.lemmas.Bool.{not-true, not_from_false, eqb-false, ne_eqb}
use Rattle.mk_lemmas.proofs.Members.{Has-cases, Has-else, Has-filter, Has-flat_map, Has-from_else, Has-from_filter, Has-from_flat_map, Has-from_then, Has-left, Has-right}
use Rattle.mk_graph.proofs.Nodes.{recipe_is_node}
use Rattle.mk_lines.proofs.NameTests.{Has-from_has_name, has_name-from_Has}
use Rattle.mk_lines.specs.Names.{has_name}
use Rattle.mk_graph.specs.Membership.{Has}
use Rattle.mk_graph.specs.Graph.{Graph, node, prerequisites, IsGraph}
use Rattle.mk_graph.specs.Laws.{SerialReachesEachOnce}
use Rattle.mk_graph.specs.Serial.{serial_order}
use Rattle.mk_build.specs.Setting.{FileName, Setting, name, reads, writes}
use Rattle.mk_build_needs.specs.Laws.{NeedsAreThese}
use Rattle.mk_build_needs.specs.Needs.{writers, writers_of_reads, writers_of_file, more_needs, needs, IsNeeded}

module _ (g : Graph) (s : Setting) where
  -- a writer of a file writes it
  writes_it : (f : FileName) (o : ℕ) → Has (writers g s f) o → Has (writes g s o) f
  writes_it f o h = Has-from_has_name (writes g s o) f (Has-from_filter (λ o. has_name (writes g s o) f) (serial_order g) o h).1

  -- each needed node is one of the three kinds
  is_needed : (n o : ℕ) → Has (needs g s n) o → IsNeeded g s n o
  is_needed n o h =
      elim (Has-cases (prerequisites g n) (more_needs g s n) o h) [
        | inl given ↦ inl given
        | inr more ↦ elim (Has-cases (writers_of_reads g s n) (writers_of_file g s n) o more) [
          | inl read ↦ (
              let other = Has-from_filter (λ o. not (o == n)) _ o read in
              let found = Has-from_flat_map (writers g s) (reads g s n) o other.0 in
              inr (inl (found.0, found.1, writes_it found.0 o found.2, eqb-false o n (not-true (eqb o n) other.1)))
              )
          | inr own ↦ (
              let found = Has-from_else (node g n).recipe (writers g s (name g n)) o own in
              inr (inr (found.0, writes_it (name g n) o found.1))
              )
        ]
      ]

  module _ (once : SerialReachesEachOnce) (graph : IsGraph g) where
    -- what writes a file is a writer of it
    is_writer : (f : FileName) (o : ℕ) → Has (writes g s o) f → Has (writers g s f) o
    is_writer f o h =
        let recipe = (Has-from_then (node g o).recipe (s.writes (name g o)) f h).0 in
        let there : Has (serial_order g) o = ((once g graph.no_cycle).1 o).1 (graph.sound.reached o (recipe_is_node g o recipe)) in
        Has-filter (λ o. has_name (writes g s o) f) (serial_order g) o there (has_name-from_Has (writes g s o) f h)

    -- and each such node is in the list
    has_needed : (n o : ℕ) → IsNeeded g s n o → Has (needs g s n) o
    has_needed n o (inl given) = Has-left (prerequisites g n) (more_needs g s n) o given
    has_needed n o (inr (inl (f, read, write, differ))) =
        Has-right (prerequisites g n) (more_needs g s n) o
        (Has-left (writers_of_reads g s n) (writers_of_file g s n) o
        (Has-filter (λ o. not (o == n)) _ o (Has-flat_map (writers g s) (reads g s n) f o read (is_writer f o write)) (not_from_false (eqb o n) (ne_eqb o n differ))))
    has_needed n o (inr (inr (none, write))) =
        Has-right (prerequisites g n) (more_needs g s n) o
        (Has-right (writers_of_reads g s n) (writers_of_file g s n) o
        (Has-else (node g n).recipe (writers g s (name g n)) o none (is_writer (name g n) o write)))

pub needs_are_these : SerialReachesEachOnce → NeedsAreThese
needs_are_these once g s graph n o = (is_needed g s n o, has_needed g s once graph n o)
