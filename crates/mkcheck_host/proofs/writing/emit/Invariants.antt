-- What was written is the beginning of the text, and no write has failed.
use Rattle.std.proofs.Common.{◌≡◌, ◌≤◌, ◌-◌, length, take}
use Rattle.std.specs.Io.KnownBytes.{Appends}
use Rattle.mkcheck_host.proofs.writing.emit.Given as goal

abbrev pub invariant-loop-done : goal.invariant-loop-done
invariant-loop-done g l = (l.done ≤ length l.text) × Appends (g.W.Write.contents l.initial.sink.writer) (g.W.Write.contents l.sink.writer) (take l.done l.text)
    × (l.sink.failures ≡ l.initial.sink.failures)

abbrev pub decreases-loop-done : goal.decreases-loop-done
decreases-loop-done g l = length l.text - l.done
