use Rattle.std.proofs.Common.{List, ℕ, ◌∙◌, sym, ap}
use Rattle.std.specs.Prelude.{is_some}
use Rattle.mk_lines.specs.Names.{has_name}
use Rattle.mk_lines.proofs.Places.{is_placed}
use Rattle.mk_lines.proofs.Texts.{no_text}
use Rattle.mk_lines.proofs.name_table.NameTable.contains_bytes.Goals as goal

pub returns-in-Ok : goal.returns-in-Ok
returns-in-Ok c =
    c.contains.ensures ∙ (ap is_some (c.self.invariant c.in-Ok.name.now) ∙ (is_placed 0 _ c.in-Ok.name.now ∙ (ap (λ (names : List (List ℕ)). has_name names c.in-Ok.name.now) c.self.view_is ∙ ap (has_name c.args.self.now) c.in-Ok.ensures.cases.0)))

pub returns-in-Err : goal.returns-in-Err
returns-in-Err c = sym (ap (λ (names : List (List ℕ)). has_name names c.args.bytes.now) (sym c.self.view_is) ∙ no_text c.self.inside.names.items c.args.bytes.now c.in-Err.ensures.cases.0)
