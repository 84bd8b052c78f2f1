use Rattle.std.proofs.Common.{String, Global, map, drop, string_bytes, sym, ap, ◌∙◌}
use Rattle.mk_lemmas.proofs.Texts.{bytes_eq-sym}
use Rattle.mk_world.proofs.FirstDisk.{rest_is, nothing_left}
use Rattle.mk_world.proofs.FewNames.{place_here, place_later, place_nowhere}
use Rattle.mk_world.proofs.lent.place_among.Goals as goal

pub returns-then-eq-clause-place : goal.returns-then-eq-clause-place
returns-then-eq-clause-place c =
    let text = c.as_str.result.now in
    let is = rest_is string_bytes c.args.names.now c.loop-i.i c.index-names-i.result text c.loop-i-test.true (c.as_str.ensures.value ∙ ap (λ (s : String Global). string_bytes s) c.index-names-i.is) in
    sym (c.loop-i.invariant ∙ place_here c.loop-i.i _ _ text c.args.name.now is (bytes_eq-sym c.args.name.now text ∙ sym c.if-eq.ensures))

pub loop-i-preserved : goal.loop-i-preserved
loop-i-preserved c =
    let text = c.as_str.result.now in
    let is = rest_is string_bytes c.args.names.now c.loop-i.i c.index-names-i.result text c.loop-i-test.true (c.as_str.ensures.value ∙ ap (λ (s : String Global). string_bytes s) c.index-names-i.is) in
    c.loop-i.invariant ∙ place_later c.loop-i.i _ _ text c.args.name.now is (bytes_eq-sym c.args.name.now text ∙ sym c.if-eq.ensures)

pub returns-clause-place : goal.returns-clause-place
returns-clause-place c = sym (c.loop-i.invariant ∙ place_nowhere c.loop-i.i (map string_bytes (drop c.loop-i.i c.args.names.now)) c.args.name.now (nothing_left string_bytes c.args.names.now c.loop-i.i c.loop-i-test.false))
