use Rattle.std.proofs.Common.{sym, ap, inr, ◌∙◌}
use Rattle.std.specs.Option.{option_map}
use Rattle.mk_lines.specs.Bytes.{is_byte}
use Rattle.mk_lines.specs.References.{first_outside}
use Rattle.mk_macros.specs.Forms.{parse_reference}
use Rattle.mk_macros.specs.Views.{pair_view}
use Rattle.mk_macros.proofs.Cuts.{no_colon, no_equals, with_both}
use Rattle.mk_macros.proofs.forms.parse_reference.Goals as goal

pub returns-in_default : goal.returns-in_default
unfolding parse_reference
returns-in_default c =
    no_colon c.args.inside.now (first_outside (is_byte 58) c.args.inside.now) (sym (ap (option_map pair_view) c.in_default.is) ∙ c.in_ok-name.ensures)

pub returns-in_default-2 : goal.returns-in_default-2
unfolding parse_reference
returns-in_default-2 c =
    inr (no_equals c.args.inside.now (first_outside (is_byte 58) c.args.inside.now) c.in-Some.name.now c.in-Some.rest.now
    (sym (ap (option_map pair_view) c.in-Some.is) ∙ c.in_ok-name.ensures) (sym (ap (option_map pair_view) c.in_default-2.is) ∙ c.in_ok-old.ensures))

pub returns : goal.returns
unfolding parse_reference
returns c =
    with_both c.args.inside.now (first_outside (is_byte 58) c.args.inside.now) c.in-Some.name.now c.in-Some.rest.now c.in-Some-2.old.now c.in-Some-2.new.now
    (sym (ap (option_map pair_view) c.in-Some.is) ∙ c.in_ok-name.ensures) (sym (ap (option_map pair_view) c.in-Some-2.is) ∙ c.in_ok-old.ensures)
