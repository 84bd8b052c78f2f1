use Rattle.std.proofs.Common.{◌≡◌, List, Bor, ℕ, length, refl, sym, subst, arith}
use Rattle.std.proofs.lemmas.List.{length-map}
use Rattle.std.specs.List.Sorted.{IsSorted, IsPermutation}
use Rattle.mk_lemmas.proofs.Texts.{texts as spelled}
use Rattle.mk_world.proofs.Ascending.{by_bytes, none_sorted, one_sorted, all_sorted}
use Rattle.mk_world.proofs.sorted.in_order.Goals as goal

pub loop-text-init : goal.loop-text-init
loop-text-init c = none_sorted c.as_slice-text-items.result.now c.in_ok-ordered.ordered c.in_ok-ordered.ensures

pub loop-text-preserved : goal.loop-text-preserved
loop-text-preserved c =
    let up = subst (IsSorted by_bytes) (sym c.as_slice-text-items.ensures.value) c.in_ok-sort.ensures.sorted in
    one_sorted c.as_slice-text-items.result.now c.loop-text.text-index _ c.loop-text.ordered c.insert.new.self _ up c.loop-text-test.true refl c.in_ok-insert.ensures.ok c.loop-text.invariant

pub returns : goal.returns
returns c =
    let texts = c.as_slice-text-items.result.now in
    let moved : IsPermutation c.as_slice.result.now texts = subst (IsPermutation c.as_slice.result.now) (sym c.as_slice-text-items.ensures.value) (subst (λ (l : List (Bor (List ℕ))). IsPermutation l c.sort.new.self.items) c.in_ok-texts.ensures.items c.sort.ensures.permutation) in
    let many : c.loop-text.text-index ≡ length (spelled texts) = omega (arith, length-map texts (λ (t : Bor (List ℕ)). t.now), c.loop-text.auto.text-index-end, c.loop-text-test.false) in
    record {
      sorted = c.loop-text.invariant.sorted;
      all = λ f. all_sorted texts c.as_slice.result.now c.loop-text.text-index c.loop-text.ordered c.args.names.now moved c.as_slice.ensures many c.loop-text.invariant f;
    }
