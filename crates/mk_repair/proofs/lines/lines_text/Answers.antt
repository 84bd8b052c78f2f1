use Rattle.std.proofs.Common.{◌∙◌, ◌++◌, List, ap, string_bytes}
use Rattle.std.specs.List.{flat_map}
use Rattle.mk_repair.specs.Word.{Word}
use Rattle.mk_repair.specs.Lines.{line_text, lines_between, phony_lines, grouped, lacking}
use Rattle.mk_repair.proofs.LineTexts.{all_text}
use Rattle.mk_repair.proofs.lines.lines_text.Goals as goal

pub returns : goal.returns
returns c =
    all_text c.args.words.now (string_bytes c.new-out.result) (string_bytes c.push_phony.new.out) (string_bytes c.push_lacking.new.out) c.new-out.ensures.bytes
    (c.in_ok-push_phony.ensures ∙ ap (λ (words : List Word). (string_bytes c.new-out.result) ++ flat_map line_text (phony_lines words)) c.as_slice.ensures)
    (c.in_ok-push_lacking.ensures ∙ ap (λ (words : List Word). (string_bytes c.push_phony.new.out) ++ flat_map (λ group. flat_map line_text (lines_between group.1 group.0)) (grouped (lacking words))) c.as_slice-2.ensures)
