use Rattle.std.proofs.Common.{◌≡◌, ℕ, List, take}
use Rattle.mk_read.specs.Names.{has_name}
use Rattle.mk_infer.specs.Table.{has_target, lines_at, lines_of, places_at, targets_in}
use Rattle.mk_infer.proofs.rule_table.lines_among.Given as goal

-- the rule lines so far, and their targets
abbrev pub invariant-loop-place : goal.invariant-loop-place
invariant-loop-place l = record {
  noted : (name : List ℕ) → lines_at l.rules (places_at l.lines name) ≡ lines_of (take l.place l.rules) name;
  held : (name : List ℕ) → has_target l.lines name ≡ has_name (targets_in (take l.place l.rules)) name;
}
