use Rattle.std.proofs.Common.{ap, sym, take}
use Rattle.std.proofs.lemmas.List.{take_all}
use Rattle.mk_lemmas.proofs.Lists.{position-none, position-some}
use Rattle.mk_lines.specs.Bytes.{is_blank, trimmed}
use Rattle.mk_lines.proofs.rule_lines.first_word.Goals as goal

pub returns-in-Some : goal.returns-in-Some
returns-in-Some c = rw (c.trimmed-text.ensures) (ap (λ n. take n (trimmed c.args.text.now)) (sym (position-some is_blank (trimmed c.args.text.now) c.in-Some.at (rw (c.trimmed-text.ensures) at (sym c.in-Some.ensures)))))

pub returns-in-None : goal.returns-in-None
returns-in-None c = rw (c.trimmed-text.ensures) (sym (take_all _ (trimmed c.args.text.now) (position-none is_blank (trimmed c.args.text.now) (rw (c.trimmed-text.ensures) at (sym c.in-None.ensures)))))
