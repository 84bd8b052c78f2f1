-- The reads of recipes, and which of them need a way.
use Rattle.std.specs.Prelude.{ℕ, List, map}
use Rattle.std.specs.List.{flat_map}
use Rattle.mk_graph.specs.Membership.{Has}
use Rattle.mk_graph.specs.Serial.{serial_order}
use Rattle.mk_build.specs.Ways.{CanChange}
use Rattle.mk_subject.specs.Subject.{Subject, footprints, reads_of}

-- The recipe reads the file, and the file can change.
abbrev pub NeedsWay : Subject → ℕ → List ℕ → Type 0
NeedsWay x t f = Has (reads_of x t) f × CanChange (footprints x.setting) f

-- A recipe and a file that it reads.
pub record Read : Type 0 where
  pub recipe : ℕ
  pub file : List ℕ

-- All reads of recipes: by the position of the recipe in the serial order, then of the file in its
-- record.
abbrev pub all_reads : Subject → List Read
all_reads x =
    flat_map (λ t. map (λ f. record { recipe = t; file = f }) (reads_of x t))
    (serial_order x.graph)
