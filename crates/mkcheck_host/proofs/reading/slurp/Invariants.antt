-- The text holds what was read, is within the limit, and no further read has failed.
use Rattle.std.proofs.Common.{◌≡◌, ◌≤◌, length, vec_len, vec_items}
use Rattle.std.specs.Io.KnownBytes.{Consumes}
use Rattle.mkcheck_host.proofs.reading.slurp.Given as goal

abbrev pub invariant-loop-window : goal.invariant-loop-window
invariant-loop-window g l = (vec_len l.text ≤ 16777216) × (length l.window ≡ 65536)
    × Consumes (g.R.Read.remaining l.initial.source.reader) (g.R.Read.remaining l.source.reader) (vec_items l.text)
    × (l.source.failed ≡ l.initial.source.failed)

abbrev pub decreases-loop-window : goal.decreases-loop-window
decreases-loop-window g l = l.source.reads_left
