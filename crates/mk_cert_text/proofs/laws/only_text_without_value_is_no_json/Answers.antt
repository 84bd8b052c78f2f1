use Rattle.mk_cert_text.proofs.NoJson.{only_text_without_value_is_no_json}
use Rattle.mk_cert_text.proofs.laws.only_text_without_value_is_no_json.Goals as goal

pub returns : goal.returns
returns c = only_text_without_value_is_no_json
