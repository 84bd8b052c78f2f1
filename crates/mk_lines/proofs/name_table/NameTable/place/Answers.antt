use Rattle.std.proofs.Common.{◌<◌, Option, List, ℕ, length, sym, ap, ◌∙◌, subst, zero-add}
use Rattle.std.specs.Prelude.{IfSome}
use Rattle.mk_lines.specs.Names.{place_from}
use Rattle.mk_lines.proofs.Places.{place_within}
use Rattle.mk_lines.proofs.name_table.NameTable.place.Goals as goal

pub returns-clause-within : goal.returns-clause-within
returns-clause-within c =
    let at = c.place.ensures ∙ (c.self.invariant c.args.name.now ∙ ap (λ (names : List (List ℕ)). place_from 0 names c.args.name.now) c.self.view_is) in
    let within = place_within 0 c.args.self.now c.args.name.now in
    let exact = subst (λ (n : ℕ). IfSome (place_from 0 c.args.self.now c.args.name.now) (λ p. p < n)) (zero-add (length c.args.self.now)) within in
    subst (λ (o : Option ℕ). IfSome o (λ p. p < length c.args.self.now)) (sym at) exact
