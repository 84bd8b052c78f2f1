-- The file isn't editable, so a path ends at a writer or at a recipe that is always made.
use Rattle.std.proofs.Common.{◌≡◌, ◌∙◌, ℕ, List, false, ap, refl, sym, subst}
use Rattle.mk_foot.specs.Setting as foot
use Rattle.mk_graph.specs.Membership.{Has}
use Rattle.mk_build.specs.Setting.{is_editable}
use Rattle.mk_graph_search.specs.Places.{IsOutBefore}
use Rattle.mk_subject.specs.NodeRow.{writers_of}
use Rattle.mk_subject.specs.Subject.{footprints}
use Rattle.mk_subject.specs.Target.{Target}
use Rattle.mk_find.proofs.Trying.{moved, none_before_writers}
use Rattle.mk_find.proofs.first_path.place_to_begin.Goals as goal

pub returns : goal.returns
returns c =
    let x = c.args.subject.now in
    let f = c.args.file.now.file in
    let search = c.args.search.now in
    let place = c.least_place_of_all.result in
    let named : c.file.inside.file.now ≡ f = ap (λ (v : Target). v.file) c.file.view_is in
    let told : foot.is_editable c.setting.result.now c.file.inside.file.now ≡ false = sym c.is_editable.ensures ∙ c.if-is_editable.false in
    let fixed : is_editable (footprints x.setting) f ≡ false = subst (λ (k : List ℕ). foot.is_editable x.setting k ≡ false) named (subst (λ (s : foot.Setting). foot.is_editable s c.file.inside.file.now ≡ false) c.setting.ensures told) in
    let writers : c.writers.result.now ≡ writers_of x f = c.writers.ensures ∙ ap (λ (v : Target). v.known.writers) c.requires.file in
    none_before_writers c.serial_reaches_each_once.ensures x c.graph-graph.ensures.graph f search.start place c.args.passed
    fixed c.requires.passed c.least_place_of_all.ensures.at_most
    (λ n h. moved (λ succ t. IsOutBefore succ t place n) x search search refl c.requires.rows (c.least_place_of_all.ensures.out n (subst (λ (l : List ℕ). Has l n) (sym writers) h)))
