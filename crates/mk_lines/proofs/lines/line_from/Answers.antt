use Rattle.std.proofs.Common.{length, sym, ap, ◌∙◌, eqb}
use Rattle.mk_lines.specs.Lines.{Line, text_of, without_tab}
use Rattle.mk_lines.proofs.Pieces.{pieces, line_made, whole_tab}
use Rattle.mk_lines.proofs.lines.line_from.Goals as goal

pub returns-clause-exact : goal.returns-clause-exact
returns-clause-exact c =
    ap (λ text. let line : Line = record { first = c.args.first; command = c.is_command-command.result; text = text } in line) (c.in_ok-text.ensures.exact ∙ ap (λ run. text_of c.is_command-command.result (pieces run)) c.without_tab.ensures)
    ∙ (ap (λ command. let line : Line = record { first = c.args.first; command = command; text = text_of command (pieces (without_tab c.args.run.now)) } in line) c.is_command-command.ensures ∙ sym (line_made c.args.first c.args.run.now))

pub returns-clause-lends : goal.returns-clause-lends
returns-clause-lends c = c.in_ok-text.ensures.lends ∙ (ap (λ run. eqb (length (pieces run)) 1) c.without_tab.ensures ∙ ap (λ n. eqb n 1) (whole_tab c.args.run.now))
