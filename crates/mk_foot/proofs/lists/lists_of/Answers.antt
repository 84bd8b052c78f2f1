use Rattle.std.proofs.Common.{List, ◌∷◌, String, Vec, Global, Result, sym, ap, ◌∙◌, subst}
use Rattle.std.proofs.lemmas.Result.{err_from_is_err_and}
use Rattle.mk_json.specs.Kinds.{pairs}
use Rattle.mk_foot.specs.declared.fault.FootFault.{FootFault}
use Rattle.mk_foot.specs.FootprintFile.{list_in}
use Rattle.mk_foot.specs.ReaderParts.{AreLists}
use Rattle.mk_foot.specs.Steps.{each}
use Rattle.mk_foot.proofs.Members.{Found}
use Rattle.mk_foot.proofs.SharedLists.{list_next, list_stops, lists_end}
use Rattle.mk_foot.proofs.Steps.{with_front_nil}
use Rattle.mk_foot.proofs.lists.lists_of.Goals as goal

pub loop-name-init : goal.loop-name-init
loop-name-init c = λ members are. (
  members,
  subst (λ (es : List Found). AreLists es members) (sym c.into_iter-name-iterator.ensures.into_iter_gives.0) are,
  rw c.in_ok-lists.ensures.items (with_front_nil (each list_in (pairs members))),
)

pub loop-name-preserved : goal.loop-name-preserved
loop-name-preserved c = λ members are.
    let so_far = c.loop-name.invariant members are in
    let step = c.in-Some.ensures.steps ∙ ap (λ (r : Result (Vec (String Global) Global) FootFault). (c.in-Some.name, r) ∷ c.next.new.self) c.in_ok-names.was in
    let here = subst (λ (es : List Found). AreLists es so_far.0) step so_far.1 in
    rw c.in_ok-push.ensures.items (list_next c.loop-name.lists.items c.in-Some.name c.in_ok-names.names c.next.new.self so_far.0 (each list_in (pairs members)) here so_far.2)

pub returns-in_err-names : goal.returns-in_err-names
returns-in_err-names c = λ members are.
    let so_far = c.loop-name.invariant members are in
    let step = c.in-Some.ensures.steps ∙ ap (λ (r : Result (Vec (String Global) Global) FootFault). (c.in-Some.name, r) ∷ c.next.new.self) c.in_err-names.was in
    let here = subst (λ (es : List Found). AreLists es so_far.0) step so_far.1 in
    let p = err_from_is_err_and c.from_residual-in_err-names.result c.from_residual-in_err-names.ensures.1 in
    rw (p.1, p.2) (list_stops c.loop-name.lists.items c.in-Some.name c.in_err-names.field-0.0 c.next.new.self so_far.0 (each list_in (pairs members)) here so_far.2)

pub returns : goal.returns
returns c = λ members are.
    let so_far = c.loop-name.invariant members are in
    lists_end c.loop-name.lists.items so_far.0 (each list_in (pairs members)) (subst (λ (es : List Found). AreLists es so_far.0) c.in-None.ensures.steps.0 so_far.1) so_far.2
