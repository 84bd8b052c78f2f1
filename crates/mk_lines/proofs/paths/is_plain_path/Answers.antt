use Rattle.std.proofs.Common.{sym, ◌∙◌}
use Rattle.mk_lines.specs.Paths.{is_plain_path}
use Rattle.mk_lines.proofs.Utf8.{utf8_test}
use Rattle.mk_lines.proofs.paths.is_plain_path.Goals as goal

pub returns-then-has_path_shape : goal.returns-then-has_path_shape
unfolding is_plain_path
returns-then-has_path_shape c = rw (sym c.if-has_path_shape.ensures) (c.is_ok.ensures.value ∙ utf8_test _ c.args.name.now c.from_utf8.result c.from_utf8.ensures.cases)
