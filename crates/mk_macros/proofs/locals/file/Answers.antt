use Rattle.std.proofs.Common.{◌≡◌, ◌+◌, ◌-◌, ◌<◌, List, ℕ, length, take, drop, sym, ap, ◌∙◌, arith}
use Rattle.std.proofs.lemmas.List.{take_all, length-drop}
use Rattle.mk_macros.specs.Locals.{file}
use Rattle.mk_macros.proofs.LastSlash.{file_step, file_end}
use Rattle.mk_macros.proofs.locals.file.Goals as goal

-- what stands behind a byte, as the code takes it
behind : (rest : List ℕ) (at : ℕ) → take (length rest - (at + 1)) (drop (at + 1) rest) ≡ drop (at + 1) rest
behind rest at = take_all (length rest - (at + 1)) (drop (at + 1) rest) (omega (arith, length-drop (at + 1) rest))

pub returns-then-at-rest : goal.returns-then-at-rest
returns-then-at-rest c = file_end c.args.name.now c.loop-rest.rest.now (sym c.if-at-rest.true ∙ c.first_place-at.ensures.place) c.loop-rest.invariant.same

pub loop-rest-preserved : goal.loop-rest-preserved
loop-rest-preserved c =
    let rest = c.loop-rest.rest.now in
    let at = c.first_place-at.result in
    let below : at < length rest = omega arith in
    record {
      same = ap file (behind rest at) ∙ file_step c.args.name.now rest at c.first_place-at.ensures.place below c.loop-rest.invariant.same;
      within = omega (arith, ap length (behind rest at), length-drop (at + 1) rest);
    }
