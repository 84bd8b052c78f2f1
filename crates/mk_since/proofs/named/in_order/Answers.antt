use Rattle.std.proofs.Common.{◌∙◌, ap, List, Bor, ℕ, map, subst, sym}
use Rattle.std.specs.Prelude.{◌↔◌}
use Rattle.std.specs.Cmp.Lexicographic.{slice_cmp}
use Rattle.std.specs.List.Sorted.{IsPermutation, IsSorted}
use Rattle.std.specs.Ordering.{nat_cmp}
use Rattle.mk_graph.specs.Membership.{Has}
use Rattle.mk_since.proofs.Naming.{moved_has, sorted_names}
use Rattle.mk_since.proofs.named.in_order.Goals as goal

pub returns-clause-all : goal.returns-clause-all
returns-clause-all c =
    let before = c.as_slice.result.now in
    let after = c.sort.new.self.items in
    let moved : IsPermutation before after = subst (λ (l : List (Bor (List ℕ))). IsPermutation l after) c.in_ok-texts.ensures.items c.sort.ensures.permutation in
    λ f. subst (λ (l : List (List ℕ)). Has l f ↔ Has c.args.names.now f) (sym (c.in_ok-copies.ensures ∙ ap (map (λ (t : Bor (List ℕ)). t.now)) c.as_slice-2.ensures.value)) (subst (λ (l : List (List ℕ)). Has (map (λ (t : Bor (List ℕ)). t.now) after) f ↔ Has l f) c.as_slice.ensures (moved_has before after moved f))

pub returns-clause-sorted : goal.returns-clause-sorted
returns-clause-sorted c =
    subst (λ (l : List (List ℕ)). IsSorted (slice_cmp nat_cmp) l) (sym (c.in_ok-copies.ensures ∙ ap (map (λ (t : Bor (List ℕ)). t.now)) c.as_slice-2.ensures.value)) (sorted_names c.sort.new.self.items c.in_ok-sort.ensures.sorted)
