-- Behind the row zeros stand, which add nothing.
use Rattle.std.proofs.Common.{◌≡◌, ℕ, List, ◌++◌, drop, replicate, ◌-◌, sym, ap, subst, ◌∙◌}
use Rattle.std.specs.Prelude.{◌↔◌}
use Rattle.std.proofs.lemmas.List.{drop-replicate}
use Rattle.mk_graph.specs.BitRows.{Lacks}
use Rattle.mk_graph.proofs.RowBits.{lacks_before_zeros}
use Rattle.mk_graph.proofs.bit_rows.join_rows.Goals as goal

pub returns : goal.returns
returns c o =
    let gate = c.unite_groups.new.gate in
    let stride = c.args.stride in
    let behind : drop stride c.args.words.now ≡ replicate (64 - stride) 0 = ap (λ (l : List ℕ). drop stride l) c.requires.empty ∙ drop-replicate stride 64 0 in
    let same = subst (λ (l : List ℕ). Lacks (gate ++ l) o ↔ Lacks gate o) (sym behind) (lacks_before_zeros gate (64 - stride) o) in
    let united = c.unite_groups.ensures o in
    let own : c.copy_from_slice.new.self ≡ c.args.own.now = c.copy_from_slice.ensures.after in (
      λ h. let both = united.0 (same.0 h) in (subst (λ (l : List ℕ). Lacks l o) own both.0, both.1),
      λ h. same.1 (united.1 (subst (λ (l : List ℕ). Lacks l o) (sym own) h.0, h.1)),
    )
