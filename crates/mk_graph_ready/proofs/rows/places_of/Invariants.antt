use Rattle.std.proofs.Common.{◌≡◌, ℕ, ◌<◌, length, get_or}
use Rattle.mk_graph_ready.proofs.rows.places_of.Given as goal

-- the places so far are noted
abbrev pub invariant-loop-place : goal.invariant-loop-place
invariant-loop-place l = record {
  many : length l.places.items ≡ l.many;
  noted : (i : ℕ) → i < l.place → get_or l.places.items (get_or l.order i 0) 0 ≡ i;
}
