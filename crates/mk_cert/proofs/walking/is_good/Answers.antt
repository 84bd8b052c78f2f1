-- The entry has its read; what is left is its path, which begins at the recipe of that read.
use Rattle.std.proofs.Common.{◌≡◌, ◌∷◌, ◌∙◌, ℕ, List, drop, ap, sym, subst}
use Rattle.mk_build.specs.Ways.{CanChange}
use Rattle.mk_cert_text.specs.Certificate.{Way}
use Rattle.mk_subject.specs.Subject.{footprints, name_of}
use Rattle.mk_subject.specs.Target.{Target}
use Rattle.mk_cert.proofs.ReadOf.{same_names}
use Rattle.mk_cert.proofs.Walks.{split_first, good_from, good_entry}
use Rattle.mk_cert.proofs.walking.is_good.Goals as goal

pub returns-then-can_change : goal.returns-then-can_change
returns-then-can_change c =
    let x = c.args.subject.now in
    let w = c.args.way.now in
    let names = drop 1 w.path in
    let start = c.args.found.now.recipe in
    let read = c.requires.found in
    let path = split_first c.way.inside.path w.path c.at.result.now (ap (λ (v : Way). v.path) c.way.view_is) (sym c.is_empty.ensures ∙ c.if-is_empty.false) c.at.ensures in
    let same : c.at.result.now ≡ c.way.inside.recipe.now = same_names _ _ c.ne.result c.ne.ensures c.if-ne.false in
    let first : name_of x start ≡ c.at.result.now = read.named ∙ sym (same ∙ ap (λ (v : Way). v.recipe) c.way.view_is) in
    let change : CanChange (footprints x.setting) w.file = subst (λ (f : List ℕ). CanChange (footprints x.setting) f) (ap (λ (v : Target). v.file) read.known) (c.can_change.ensures.0 c.if-can_change.true) in (
      λ t.
          let it = c.leads.ensures.0 t in
          good_entry x w start names it.last (path ∙ ap (λ (n : List ℕ). n ∷ names) (sym first)) (sym read.named) read.is_recipe (read.reads, change) it.over it.ends it.others,
      λ good.
          let from = good_from x c.graph-graph.ensures.graph c.names_have_one_number.ensures w start c.at.result.now names path read.is_recipe first good in
          c.leads.ensures.1 (record { last = from.last; over = from.over; ends = from.ends; others = from.others }),
    )
