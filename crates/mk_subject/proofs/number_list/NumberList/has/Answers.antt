use Rattle.std.proofs.Common.{◌∙◌, sym, ⊎_elim}
use Rattle.std.proofs.lemmas.Bool.{cases_Bool}
use Rattle.mk_lemmas.proofs.Members.{Has-from_has, not-from_has}
use Rattle.mk_graph.specs.Membership.{has}
use Rattle.mk_subject.proofs.number_list.NumberList.has.Goals as goal

pub returns-in-None : goal.returns-in-None
returns-in-None c =
    let ns = c.self.inside.list.now in
    let n = c.args.number in
    rw (← c.self.view_is) (
      λ yes. Has-from_has ns n (sym c.has_number.ensures ∙ yes),
      λ stands. ⊎_elim (λ t. c.has_number.ensures ∙ t) (λ out. absurd (not-from_has ns n out stands)) (cases_Bool (has ns n)),
    )
