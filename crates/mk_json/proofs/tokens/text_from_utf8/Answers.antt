use Rattle.std.proofs.Common.{ap, ◌∙◌, sym}
use Rattle.serde_json.specs.Read.{read}
use Rattle.mk_json.proofs.Json.{json_missing, read_of_text}
use Rattle.mk_json.proofs.tokens.text_from_utf8.Goals as goal

pub returns-in-Ok : goal.returns-in-Ok
returns-in-Ok c = read_of_text c.args.bytes.now c.in-Ok.ensures.cases.1 ∙ ap read (sym c.in-Ok.ensures.cases.0)

pub returns-in-Err : goal.returns-in-Err
returns-in-Err c = sym (json_missing c.args.bytes.now (λ text. absurd (c.in-Err.ensures.cases.0 text)))
