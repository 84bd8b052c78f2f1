use Rattle.std.proofs.Common.{◌∙◌, ap, map}
use Rattle.std.specs.Prelude.{fold}
use Rattle.std.specs.String.{string_bytes}
use Rattle.mk_lines.specs.Names.{has_name, with_name}
use Rattle.mk_lines.proofs.NameSets.{all_held}
use Rattle.mk_lines.proofs.borrowed_names.borrowed_set_of.Goals as goal

pub returns : goal.returns
returns c = λ name.
    let names = map string_bytes c.args.names.now in
    ap (λ set. has_name set name) (c.in_ok-insert_all.ensures ∙ ap (λ set. fold with_name set names) c.new-set.ensures) ∙ all_held names name
