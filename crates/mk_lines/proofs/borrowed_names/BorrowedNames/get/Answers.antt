use Rattle.std.proofs.Common.{List, ℕ, sym, ◌∙◌}
use Rattle.std.specs.Borrow.{Bor}
use Rattle.std.specs.Str.{bytes_eq}
use Rattle.std.proofs.lemmas.Slice.Eq.{bytes_eq-Decides}
use Rattle.mk_lemmas.proofs.Lists.{find-passes}
use Rattle.mk_lines.proofs.NameSets.{among}
use Rattle.mk_lines.proofs.borrowed_names.BorrowedNames.get.Goals as goal

pub returns-in-Some : goal.returns-in-Some
returns-in-Some c =
    let name = c.args.name.now in
    let keys = c.self.inside.names.keys in
    let there = c.in-Some.ensures.found ∙ among keys name c.args.self.now c.self.view_is in
    let passes = find-passes (λ (key : Bor (List ℕ)). bytes_eq name key.now) keys _ (sym c.in-Some.ensures.key) in
    (sym ((bytes_eq-Decides name _).0 passes), sym there)

pub returns-in-None : goal.returns-in-None
returns-in-None c = sym (c.in-None.ensures.found ∙ among c.self.inside.names.keys c.args.name.now c.args.self.now c.self.view_is)
