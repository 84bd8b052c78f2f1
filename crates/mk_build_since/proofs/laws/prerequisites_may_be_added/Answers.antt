-- The disk is coherent for the graph with more prerequisites.
use Rattle.mk_build_since.proofs.Adding.{may_be_added}
use Rattle.mk_build_since.proofs.laws.prerequisites_may_be_added.Goals as goal

pub returns : goal.returns
returns c = λ g h s b graph writes no_own start now past is_start one legal leaves adds more footprints sound no_race ways steps goes present. may_be_added g h s b graph writes no_own start now past is_start one legal leaves adds more footprints sound no_race ways steps goes present
