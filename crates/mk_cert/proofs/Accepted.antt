-- What an accepted certificate shows.
use Rattle.std.proofs.Common.{◌≡◌, ℕ, List, [], ◌∷◌, ◌∙◌, inl, inr, sym, subst}
use Rattle.std.proofs.lemmas.List.Elements.{All-head}
use Rattle.mk_graph.specs.Graph.{IsGraph}
use Rattle.mk_build.specs.BuildLaws.{NamesHaveOneNumber}
use Rattle.mk_graph.specs.Laws.{SerialReachesEachOnce}
use Rattle.mk_graph.specs.Membership.{Has}
use Rattle.mk_build.specs.Right.{HaveWays}
use Rattle.mk_build.specs.Ways.{Way}
use Rattle.mk_cert_text.specs.Certificate as value
use Rattle.mk_subject.specs.Subject.{Subject, footprints, IsRecipe}
use Rattle.mk_cert.specs.Verdict.{IsGood, NoneBad, NoneLacks}
use Rattle.mk_subject.proofs.Paths.{path_is_way}
use Rattle.mk_subject.proofs.InOrder.{reader_has_recipe}
use Rattle.mk_cert.proofs.Walks.{one_recipe}

-- each entry of a list of which none is bad is good
pub each_good : (x : Subject) (before ways : List value.Way) → NoneBad x before ways → (w : value.Way) → Has ways w → IsGood x w
each_good x before [] none w stands = absurd stands
each_good x before (v ∷ ways) (may, more) w (inl here) = subst (λ (k : value.Way). IsGood x k) here may.0
each_good x before (v ∷ ways) (may, more) w (inr there) = each_good x (v ∷ before) ways more w there

-- so each read of a file that can change has a way
pub have_ways : (x : Subject) (ways : List value.Way) → IsGraph x.graph → SerialReachesEachOnce → NamesHaveOneNumber → NoneBad x [] ways → NoneLacks x ways → HaveWays x.graph (footprints x.setting)
have_ways x ways is reaches one none lacks t f read can_change =
    let (w, stands, recipe, file) = lacks (record { recipe = t; file = f }) (read, can_change) in
    let good = each_good x [] ways none w stands in
    let same : good.start ≡ t = one_recipe x is one good.start t (All-head (IsRecipe x) good.start good.others good.recipes) (reader_has_recipe x is reaches t f read) (sym good.begins ∙ recipe) in
    let way : Way x.graph (footprints x.setting) w.file good.start = path_is_way x.graph (footprints x.setting) w.file w.finish good.start good.others good.path in
    subst (λ (h : List ℕ). Way x.graph (footprints x.setting) h t) file (subst (λ (k : ℕ). Way x.graph (footprints x.setting) w.file k) same way)
