use Rattle.std.proofs.Common.{◌≡◌, ◌∙◌, [], ℕ, List, ap, sym, subst, get_or}
use Rattle.mk_lines.specs.Names.{number_of}
use Rattle.mk_graph.specs.Graph.{prerequisites}
use Rattle.mk_graph.specs.Membership.{Has}
use Rattle.mk_subject.specs.Target.{Target}
use Rattle.mk_subject.specs.FileInfo.{FileInfo, all_names}
use Rattle.mk_subject.proofs.Numbers.{number_is, number_names}
use Rattle.mk_subject.proofs.way_tables.needs.Goals as goal

pub returns : goal.returns
returns c =
    let x = c.args.subject.now in
    let t = c.args.number in
    let f = c.args.file.now.file in
    let is = c.graph-graph.ensures.graph in
    let rows : c.deref.result.now ≡ c.args.ends.now.needed.items = c.deref.ensures.value in
    let number : c.known.inside.number ≡ number_of (all_names x) f = ap (λ (k : FileInfo). k.number) c.known.view_is ∙ ap (λ (v : Target). v.known.number) (c.file.view_is ∙ c.requires.file) in (
      λ t_yes.
          let here : Has (prerequisites x.graph t) c.known.inside.number = (c.requires.ends.needed_held t c.known.inside.number).0 (subst (λ (l : List (List ℕ)). Has (get_or l t []) c.known.inside.number) rows (c.has_at.ensures.0 t_yes)) in
          let at : Has (prerequisites x.graph t) (number_of (all_names x) f) = subst (λ (n : ℕ). Has (prerequisites x.graph t) n) number here in
          (number_of (all_names x) f, at, number_names x f (is.sound.edges t (number_of (all_names x) f) at)),
      λ (p, needed, named).
          let same : p ≡ c.known.inside.number = sym (number ∙ number_is x is c.names_have_one_number.ensures p (is.sound.edges t p needed) f named) in
          c.has_at.ensures.1 (subst (λ (l : List (List ℕ)). Has (get_or l t []) c.known.inside.number) (sym rows) ((c.requires.ends.needed_held t c.known.inside.number).1 (subst (λ (n : ℕ). Has (prerequisites x.graph t) n) same needed))),
    )
