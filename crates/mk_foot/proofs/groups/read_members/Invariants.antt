use Rattle.std.proofs.Common.{length}
use Rattle.serde_json.specs.Data.{Members, object}
use Rattle.mk_json.specs.Tokens.{MembersRead}
use Rattle.mk_foot.specs.ReaderParts.{IsOfGroup}
use Rattle.mk_foot.proofs.groups.read_members.Given as goal

-- the parts that the members so far give
abbrev pub invariant-members : goal.invariant-members
invariant-members l = (members : Members) × MembersRead l.depth l.initial.reader members l.reader × IsOfGroup l.parts (object members)

abbrev pub decreases-members : goal.decreases-members
decreases-members l = length l.reader
