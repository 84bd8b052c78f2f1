use Rattle.std.proofs.Common.{length}
use Rattle.serde_json.specs.Data.{Members, object}
use Rattle.mk_json.specs.Tokens.{MembersRead}
use Rattle.mk_foot.specs.ReaderParts.{IsOfEntry}
use Rattle.mk_foot.proofs.records.read_members.Given as goal

-- the parts that the members so far give
abbrev pub invariant-members : goal.invariant-members
invariant-members l = (members : Members) × MembersRead l.depth l.initial.reader members l.reader × IsOfEntry l.format l.parts (object members)

abbrev pub decreases-members : goal.decreases-members
decreases-members l = length l.reader
