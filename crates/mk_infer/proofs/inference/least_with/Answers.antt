use Rattle.std.proofs.Common.{◌≡◌, ◌∙◌, ◌++◌, ◌∷◌, [], ◌≤◌, Some, None, sym, subst, ap, arith}
use Rattle.mk_infer.specs.Choosing.{IsLeast, Placed, chosen_by, fits_by}
use Rattle.mk_infer.proofs.Least.{better, failing, given_is, later, none_given, unknown}
use Rattle.mk_infer.proofs.inference.least_with.Goals as goal
use Rattle.mk_infer.proofs.inference.least_with.Goals.{in-Some-least+else-found-place, in_default-least}

pub returns-in_default : goal.returns-in_default
returns-in_default c = λ tried h. unknown (fits_by c.args.lookup.now.table.now c.args.lookup.now.exists.now c.args.stem.now c.args.ending.now) (chosen_by c.args.lookup.now.table.now c.args.stem.now c.args.ending.now) c.args.lookup.now.table.now.suffixes tried c.args.suffix.now c.args.least (sym c.in_default.ensures) h

pub returns-then-found-place : goal.returns-then-found-place
returns-then-found-place c = λ tried h.
    let found = c.in-Some-least.found in
    let place : c.found.inside.place ≡ found.place = ap (λ (x : Placed). x.place) c.found.view_is in
    let le : found.place ≤ c.in-Some.place = omega (arith, c.if-found-place.true) in
    subst (IsLeast (fits_by c.args.lookup.now.table.now c.args.lookup.now.exists.now c.args.stem.now c.args.ending.now) (chosen_by c.args.lookup.now.table.now c.args.stem.now c.args.ending.now) c.args.lookup.now.table.now.suffixes (tried ++ c.args.suffix.now ∷ [])) (sym c.in-Some-least.is)
    (later (fits_by c.args.lookup.now.table.now c.args.lookup.now.exists.now c.args.stem.now c.args.ending.now)
    (chosen_by c.args.lookup.now.table.now c.args.stem.now c.args.ending.now) c.args.lookup.now.table.now.suffixes tried
    c.args.suffix.now found c.in-Some.place (sym c.in-Some.ensures) le
    (subst (IsLeast (fits_by c.args.lookup.now.table.now c.args.lookup.now.exists.now c.args.stem.now c.args.ending.now)
    (chosen_by c.args.lookup.now.table.now c.args.stem.now c.args.ending.now) c.args.lookup.now.table.now.suffixes tried)
    c.in-Some-least.is h))

pub returns-in-Some-2 : goal.returns-in-Some-2
returns-in-Some-2 c = λ tried h.
    let placed : Placed = record { place = c.in-Some.place; chosen = c.in-Some-2.chosen } in
    let given = given_is _ _ _ (sym c.in-Some-2.is ∙ c.in_ok-chosen.ensures) in
    better (fits_by c.args.lookup.now.table.now c.args.lookup.now.exists.now c.args.stem.now c.args.ending.now) (chosen_by c.args.lookup.now.table.now c.args.stem.now c.args.ending.now) c.args.lookup.now.table.now.suffixes tried c.args.suffix.now c.args.least placed given.0 (sym c.in-Some.ensures) given.1
    (λ other e. elim c.match-least.branch [
      | in-Some-least+else-found-place w ↦
          let same : Some w.in-Some-least.found ≡ Some other = sym w.in-Some-least.is ∙ e in
          let it : w.in-Some-least.found ≡ other = cc in
          let place : w.found.inside.place ≡ other.place = ap (λ (x : Placed). x.place) (w.found.view_is ∙ it) in
          omega (arith, w.if-found-place.false)
      | in_default-least w ↦ let none : None ≡ Some other = sym w.in_default-least.is ∙ e in absurd cc
    ]) h

pub returns-in-None : goal.returns-in-None
returns-in-None c = λ tried h.
    failing (fits_by c.args.lookup.now.table.now c.args.lookup.now.exists.now c.args.stem.now c.args.ending.now) (chosen_by c.args.lookup.now.table.now c.args.stem.now c.args.ending.now) c.args.lookup.now.table.now.suffixes tried c.args.suffix.now c.args.least (none_given _ _ (sym c.in-None.is ∙ c.in_ok-chosen.ensures)) h
