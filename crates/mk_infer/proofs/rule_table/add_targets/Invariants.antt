use Rattle.std.proofs.Common.{◌≡◌, ℕ, List, [], ◌∷◌, ◌++◌, ◌||◌, cond, map, take}
use Rattle.std.specs.String.{string_bytes}
use Rattle.mk_read.specs.Names.{has_name}
use Rattle.mk_infer.specs.Table.{has_target, places_at}
use Rattle.mk_infer.proofs.rule_table.add_targets.Given as goal

-- the targets so far have the place, once
abbrev pub invariant-loop-target : goal.invariant-loop-target
invariant-loop-target l = record {
  seen : (name : List ℕ) → has_name l.seen name ≡ has_name (map string_bytes (take l.target-index l.targets)) name;
  known : (name : List ℕ) → has_target l.lines name ≡ (has_target l.initial.lines name || has_name l.seen name);
  noted : (name : List ℕ) → places_at l.lines name ≡ cond (has_name l.seen name) (places_at l.initial.lines name ++ l.place ∷ []) (places_at l.initial.lines name);
}
