use Rattle.std.proofs.Common.{sym, ◌∙◌}
use Rattle.mk_read_parse.proofs.Utf8.{path_answer}
use Rattle.mk_read_parse.proofs.names.plain_path.Goals as goal

pub returns-then-is_plain_path : goal.returns-then-is_plain_path
returns-then-is_plain_path c = path_answer c.args.name.now c.utf8-2.result (sym c.is_plain_path.ensures ∙ c.if-is_plain_path.true) c.utf8-2.ensures
