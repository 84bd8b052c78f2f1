use Rattle.std.proofs.Common.{◌≡◌, List, ℕ, ap, sym, ◌∙◌, subst, map, string_bytes}
use Rattle.std.specs.Prelude.{OnOk, fold}
use Rattle.mk_foot.specs.Names.{with_name}
use Rattle.mk_foot.specs.Parts.{SharedList}
use Rattle.mk_foot.specs.Reading.{listed}
use Rattle.mk_foot.proofs.Found.{listed_there, listed_nowhere}
use Rattle.mk_foot.proofs.reading.insert_list.Goals as goal

pub returns-in-Some : goal.returns-in-Some
returns-in-Some c =
    let there = listed_there c.args.lists.now c.args.names.now c.args.name.now c.in-Some.place c.index-lists-place.result c.requires c.in-Some.ensures.place in
    let list : map string_bytes c.deref.result.now ≡ c.index-lists-place.result.names = ap (map string_bytes) c.deref.ensures.value ∙ ap (λ (l : SharedList). l.names) c.list.view_is in
    let kept : map string_bytes c.deref.result.now ≡ listed c.args.lists.now c.args.name.now = list ∙ (ap (λ (l : SharedList). l.names) c.index-lists-place.is ∙ sym there) in
    subst (λ (ns : List (List ℕ)). OnOk c.insert_all.result (c.insert_all.new.self ≡ fold with_name c.args.set.now ns)) kept c.insert_all.ensures

pub returns-in-None : goal.returns-in-None
returns-in-None c = sym (ap (fold with_name c.args.set.now) (listed_nowhere c.args.lists.now c.args.names.now c.args.name.now c.requires c.in-None.ensures.place))
