use Rattle.std.proofs.Common.{length}
use Rattle.std.specs.Prelude.{IfOk}
use Rattle.serde_json.specs.Data.{Members}
use Rattle.mk_json.specs.Tokens.{MembersRead}
use Rattle.mk_foot.specs.ReaderParts.{AreLists}
use Rattle.mk_foot.proofs.lists.read_members.Given as goal

-- the lists of the members so far
abbrev pub invariant-members : goal.invariant-members
invariant-members l = (members : Members) × MembersRead l.depth l.initial.reader members l.reader × IfOk l.lists (λ lists. AreLists lists.entries members)

abbrev pub decreases-members : goal.decreases-members
decreases-members l = length l.reader
