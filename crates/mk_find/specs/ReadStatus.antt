-- Whether a read needs a way and has one.
use Rattle.std.specs.Prelude.{ℕ, List}
use Rattle.mk_build.specs.Ways.{CanChange}
use Rattle.mk_subject.specs.Subject.{Subject, footprints}
use Rattle.mk_subject.specs.Reads.{NeedsWay}
use Rattle.mk_find.specs.Conditions.{IsStale}
use Rattle.mk_find.specs.FirstPaths.{IsAlongFirstPath}
use Rattle.mk_find.specs.declared.read_status.ReadStatus.{ReadStatus}
use Rattle.mk_find.specs.declared.read_status.ReadStatus.TheVariants.{Fixed, HasWay, Stale}

-- `Fixed`: the file can't change; `HasWay`: it can, and this is the first path to it; `Stale`: it
-- can, and no path leads to it.
abbrev pub IsReadStatus : Subject → ℕ → List ℕ → ReadStatus → Type 0
IsReadStatus x t f Fixed = ¬ (CanChange (footprints x.setting) f)
IsReadStatus x t f (HasWay path) = NeedsWay x t f ×
    IsAlongFirstPath x f t path.nodes.items path.finish
IsReadStatus x t f Stale = IsStale x t f
