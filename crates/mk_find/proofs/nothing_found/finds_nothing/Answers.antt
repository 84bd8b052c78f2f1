use Rattle.std.proofs.Common.{◌≡◌, ◌∙◌, ◌<◌, ◌≤◌, ℕ, List, true, false, refl, ap, sym, subst, length, get_or, map, arith}
use Rattle.std.proofs.lemmas.Bool.{true≢false}
use Rattle.std.proofs.lemmas.List.{get_or-map, length-map, drop_more}
use Rattle.std.proofs.lemmas.List.Elements.{All-get_or}
use Rattle.mk_subject.specs.NodeRow.{NodeRow, IsRow}
use Rattle.mk_find.proofs.Adding.{drop_past}
use Rattle.mk_find.proofs.NothingFound.{Each, FindsNothingOf, each_at, nothing_found, nothing_of_each}
use Rattle.mk_find.proofs.nothing_found.finds_nothing.Goals as goal

pub loop-entry-init : goal.loop-entry-init
loop-entry-init c = λ each. subst (λ (ns : List ℕ). Each (FindsNothingOf c.args.subject.now) ns) c.entries-entries.ensures.in_order each

pub finds_nothing_of-requires : goal.finds_nothing_of-requires
finds_nothing_of-requires c =
    let x = c.args.subject.now in
    let entries = c.entries-entries.result.now in
    let lt : c.loop-entry.entry-index < length entries = omega arith in
    subst (λ (e : NodeRow). IsRow x e) (sym c.entry-item.is) (All-get_or (IsRow x) entries c.loop-entry.entry-index c.entry-item.result lt c.entries-entries.ensures.right)

pub loop-entry-preserved : goal.loop-entry-preserved
loop-entry-preserved c = λ rest.
    let x = c.args.subject.now in
    let number = λ (e : NodeRow). e.number in
    let entries = c.entries-entries.result.now in
    let i = c.loop-entry.entry-index in
    let lt : i < length entries = omega arith in
    let low : i < length (map number entries) = omega (arith, length-map entries number) in
    let is : get_or (map number entries) i 0 ≡ c.entry-item.result.number = get_or-map number entries i c.entry-item.result 0 lt ∙ ap number (sym c.entry-item.is) in
    let here : FindsNothingOf x (get_or (map number entries) i 0) = subst (λ (n : ℕ). FindsNothingOf x n) (sym is) (c.in_ok-finds_nothing_of.ensures.0 c.if-not-branch.false) in
    c.loop-entry.invariant (subst (λ (ns : List ℕ). Each (FindsNothingOf x) ns) (sym (drop_more (map number entries) i 0 low)) (here, rest))

pub returns-then-not-branch : goal.returns-then-not-branch
returns-then-not-branch c =
    let x = c.args.subject.now in
    let number = λ (e : NodeRow). e.number in
    let entries = c.entries-entries.result.now in
    let i = c.loop-entry.entry-index in
    let lt : i < length entries = omega arith in
    let low : i < length (map number entries) = omega (arith, length-map entries number) in
    let is : get_or (map number entries) i 0 ≡ c.entry-item.result.number = get_or-map number entries i c.entry-item.result 0 lt ∙ ap number (sym c.entry-item.is) in (
      (λ t. absurd (let e : false ≡ true = t in cc)),
      λ none.
          let each = subst (λ (ns : List ℕ). Each (FindsNothingOf x) ns) (sym c.entries-entries.ensures.in_order) (nothing_of_each x (c.serial_reaches_each_once.ensures x.graph c.graph-graph.ensures.graph.no_cycle).0 none) in
          let here : FindsNothingOf x c.entry-item.result.number = subst (λ (n : ℕ). FindsNothingOf x n) is (each_at (FindsNothingOf x) (map number entries) i 0 low each) in
          absurd (true≢false (sym (c.in_ok-finds_nothing_of.ensures.1 here) ∙ c.if-not-branch.true)),
    )

pub returns : goal.returns
returns c =
    let x = c.args.subject.now in
    let number = λ (e : NodeRow). e.number in
    let entries = c.entries-entries.result.now in
    let i = c.loop-entry.entry-index in
    let past : length (map number entries) ≤ i = omega (arith, length-map entries number) in (
      λ told. nothing_found x (c.serial_reaches_each_once.ensures x.graph c.graph-graph.ensures.graph.no_cycle).0
          (c.loop-entry.invariant (subst (λ (ns : List ℕ). Each (FindsNothingOf x) ns) (sym (drop_past (map number entries) i past)) tt)),
      λ none. refl,
    )
