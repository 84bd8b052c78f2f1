use Rattle.mk_core_laws.proofs.Verified.{checked_is_verified}
use Rattle.mk_core_laws.proofs.certificate_laws.checked_is_verified.Goals as goal

pub returns : goal.returns
returns c =
    checked_is_verified c.certificate_is_accepted.ensures c.no_findings.ensures c.names_of_world_are_plain.ensures c.text_is_read_back.ensures c.line_is_read_back.ensures c.verification_is_one.ensures
