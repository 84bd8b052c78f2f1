use Rattle.std.proofs.Common.{◌≡◌}
use Rattle.serde_json.specs.Data.{Members}
use Rattle.mk_json.specs.Kinds.{pairs}
use Rattle.mk_foot.specs.FootprintFile.{list_in}
use Rattle.mk_foot.specs.ReaderParts.{AreLists}
use Rattle.mk_foot.specs.Steps.{each}
use Rattle.mk_foot.proofs.Steps.{with_front}
use Rattle.mk_foot.proofs.lists.lists_of.Given as goal

-- the lists so far and those that are left
abbrev pub invariant-loop-name : goal.invariant-loop-name
invariant-loop-name l = (members : Members) → AreLists l.fn.found.entries members → (left : Members) × AreLists l.name-iterator left × (with_front l.lists.items (each list_in (pairs left)) ≡ each list_in (pairs members))
