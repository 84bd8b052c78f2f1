use Rattle.std.proofs.Common.{◌≡◌, replicate, [], map, ℕ, Vec}
use Rattle.std.specs.declared.alloc.Global.{Global}
use Rattle.mk_graph_ready.proofs.rows.empty_rows.Given as goal

abbrev pub invariant-loop : goal.invariant-loop
invariant-loop l = map (λ (row : Vec ℕ Global). row.items) l.rows.items ≡ replicate l.counter []
