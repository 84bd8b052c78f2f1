use Rattle.std.proofs.Common.{◌≡◌, ◌&&◌, length, take, drop}
use Rattle.std.specs.Prelude.{nat_le}
use Rattle.std.specs.List.{list_any}
use Rattle.mk_lines.specs.Names.{has_name}
use Rattle.mk_lines.proofs.prefixes.has_prefix_of_length.Given as goal

-- The result depends on the remaining lengths.
abbrev pub invariant-loop-n : goal.invariant-loop-n
invariant-loop-n l = list_any (λ n. nat_le n (length l.name) && has_name l.table (take n l.name)) (drop l.n-index l.lengths) ≡ list_any (λ n. nat_le n (length l.name) && has_name l.table (take n l.name)) l.lengths
