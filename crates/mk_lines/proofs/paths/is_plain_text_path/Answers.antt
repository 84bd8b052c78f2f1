use Rattle.std.proofs.Common.{◌&&◌, sym, ap, ◌∙◌}
use Rattle.std.proofs.lemmas.Str.{is_utf8-from_IsUtf8}
use Rattle.mk_lines.specs.Paths.{has_path_shape, is_plain_path}
use Rattle.mk_lines.proofs.Utf8.{and_true}
use Rattle.mk_lines.proofs.paths.is_plain_text_path.Goals as goal

pub returns : goal.returns
unfolding is_plain_path
returns c =
    c.has_path_shape.ensures ∙ (ap has_path_shape c.as_bytes.ensures.value ∙ sym (ap (λ b. has_path_shape c.args.name.now && b) (is_utf8-from_IsUtf8 c.args.name.now c.utf8.name) ∙ and_true (has_path_shape c.args.name.now)))
