use Rattle.std.proofs.Common.{length}
use Rattle.serde_json.specs.Data.{Members, object}
use Rattle.mk_json.specs.Tokens.{MembersRead}
use Rattle.mk_cert_text.specs.CertificateParts.{IsOfWay}
use Rattle.mk_cert_text.proofs.reading_ways.read_way_parts.Given as goal

-- the parts that the members so far give
abbrev pub invariant-members : goal.invariant-members
invariant-members l = (members : Members) × MembersRead l.depth l.initial.reader members l.reader × IsOfWay l.parts (object members)

abbrev pub decreases-members : goal.decreases-members
decreases-members l = length l.reader
