-- The counts that are printed with a yes.
use Rattle.std.specs.Prelude.{ℕ, filter, length, sum_by}
use Rattle.mk_graph.specs.Graph.{node}
use Rattle.mk_graph.specs.Serial.{serial_order}
use Rattle.mk_subject.specs.Subject.{Subject, reads_of}

-- How many recipes the graph has.
abbrev pub count_of_recipes : Subject → ℕ
count_of_recipes x = length (filter (λ t. (node x.graph t).recipe) (serial_order x.graph))

-- How many files its recipes read, where a file counts once for each recipe that reads it.
abbrev pub count_of_reads : Subject → ℕ
count_of_reads x = sum_by (λ t. length (reads_of x t)) (serial_order x.graph)
