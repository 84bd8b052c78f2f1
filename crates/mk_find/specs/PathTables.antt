-- The tables for paths over the recipes of a subject.
use Rattle.std.specs.Prelude.{◌≡◌, ℕ}
use Rattle.mk_graph_search.specs.Ways.{successors}
use Rattle.mk_subject.specs.Carried.{carried}
use Rattle.mk_subject.specs.WayTables.{AreEnds}
use Rattle.mk_find.specs.declared.path_tables.PathTables.{PathTables}

-- The tables are those of the subject.
pub record ArePathTables (t : PathTables) : Type 0 where
  pub ends : AreEnds t.subject.now t.ends.needed.items t.ends.always.items
  pub rows : (n : ℕ) → successors t.rows n ≡ carried t.subject.now n
