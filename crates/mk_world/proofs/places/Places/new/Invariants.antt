use Rattle.std.proofs.Common.{◌≡◌, ℕ, ◌<◌, [], length, map, get_or}
use Rattle.mk_build.specs.Setting.{reads}
use Rattle.mk_world.specs.State.{setting}
use Rattle.mk_world.specs.Places.{place_among}
use Rattle.mk_world.proofs.places.Places.new.Given as goal

-- the places of what the recipes so far read
abbrev pub invariant-loop-number : goal.invariant-loop-number
invariant-loop-number l = record {
  many : length (map (λ places. places.items) l.reads.items) ≡ l.number;
  each : (t : ℕ) → t < l.number → get_or (map (λ places. places.items) l.reads.items) t [] ≡ map (place_among l.disk.names) (reads l.scene.graph (setting l.scene) t);
}
