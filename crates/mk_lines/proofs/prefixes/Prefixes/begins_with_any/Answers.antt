use Rattle.std.proofs.Common.{List, ℕ, ◌∙◌, ap}
use Rattle.std.specs.List.{list_any}
use Rattle.mk_lines.specs.Names.{begins_with_any}
use Rattle.mk_lines.proofs.Fronts.{front_there, by_length}
use Rattle.mk_lines.proofs.prefixes.Prefixes.begins_with_any.Goals as goal

pub returns : goal.returns
returns c =
    let prefixes = c.self.inside.table in
    c.has_prefix_of_length.ensures
    ∙ (ap (λ (name : List ℕ). list_any (front_there prefixes name) c.as_slice.result.now) c.as_bytes.ensures.value
    ∙ (ap (list_any (front_there prefixes c.args.name.now)) c.as_slice.ensures.keys
    ∙ (by_length prefixes c.self.inside.lengths.keys c.args.name.now c.self.invariant ∙ ap (λ (p : List (List ℕ)). begins_with_any p c.args.name.now) c.self.view_is)))
