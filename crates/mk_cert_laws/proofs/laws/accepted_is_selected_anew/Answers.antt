use Rattle.mk_cert_laws.proofs.Anew as lemmas
use Rattle.mk_cert_laws.proofs.laws.accepted_is_selected_anew.Goals as goal

pub returns : goal.returns
returns c =
    lemmas.accepted_is_selected_anew c.graph_stays_selected.ensures c.parts_stay_selected.ensures c.all_writes_exactly.ensures c.files_are_known.ensures c.verified_is_right.ensures
