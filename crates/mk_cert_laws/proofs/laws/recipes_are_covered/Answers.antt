use Rattle.mk_cert_laws.proofs.Covered as lemmas
use Rattle.mk_cert_laws.proofs.laws.recipes_are_covered.Goals as goal

pub returns : goal.returns
returns c =
    lemmas.recipes_are_covered c.listed_exactly.ensures c.nothing_found_is_sound.ensures c.serial_reaches_each_once.ensures c.verified_is_right.ensures
