use Rattle.std.proofs.Common.{◌≡◌, ◌∷◌, [], ◌∙◌, sym, arith}
use Rattle.std.specs.List.{slice_split}
use Rattle.std.proofs.lemmas.List.{nil_from_length}
use Rattle.mk_lines.specs.Bytes.{is_byte}
use Rattle.mk_lines.proofs.Components.{absolute}
use Rattle.mk_lines.proofs.paths.are_components.Goals as goal

pub returns-in-empty-Some : goal.returns-in-empty-Some
returns-in-empty-Some c =
    let none : c.cut.result.0.now ≡ [] = nil_from_length c.cut.result.0.now (omega (arith, c.in-empty-Some.len_below)) in
    let parts : slice_split (is_byte 47) c.args.name.now ≡ [] ∷ slice_split (is_byte 47) c.in-empty-Some.rest.now = grind (arith, c.cut.ensures.parts) in
    c.are_proper.ensures ∙ sym (absolute c.args.name.now c.in-empty-Some.rest.now parts)
