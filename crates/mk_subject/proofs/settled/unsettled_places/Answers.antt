-- Each row has its own, and past the last one there are no files.
use Rattle.std.proofs.Common.{◌≡◌, ◌∙◌, ◌≤◌, ◌++◌, ◌∷◌, [], ℕ, List, ap, sym, subst, get_or, length, length-append, arith}
use Rattle.std.proofs.lemmas.List.{get_or_past}
use Rattle.mk_subject.proofs.Rows.{rows_push, rows_all}
use Rattle.mk_subject.proofs.SettledReads.{Unsettled, nothing_free}
use Rattle.mk_subject.proofs.settled.unsettled_places.Goals as goal

pub loop-number-preserved : goal.loop-number-preserved
loop-number-preserved c =
    let known = c.args.known.now in
    let places = c.args.places.now in
    let rows = c.loop-number.unsettled in
    let row = c.in_ok-row.row.items in
    let i = c.loop-number.number in
    let pushed : c.push.new.self ≡ rows ++ row ∷ [] = c.in_ok-push.ensures ∙ ap (λ (l : List ℕ). rows ++ l ∷ []) c.deref.ensures.value in
    let here : Unsettled known (get_or places i []) row = subst (λ (l : List ℕ). Unsettled known l row) c.at.ensures c.in_ok-row.ensures in
    record {
      many = omega (arith, ap (λ (l : List (List ℕ)). length l) pushed, length-append rows (row ∷ []), c.loop-number.invariant.many);
      held = rows_push (λ (t : ℕ) (l : List ℕ). Unsettled known (get_or places t []) l) rows c.push.new.self row [] i pushed (sym c.loop-number.invariant.many) c.loop-number.invariant.held here;
    }

pub returns : goal.returns
returns c = λ by names t files all h.
    let known = c.args.known.now in
    let places = c.args.places.now in
    let rows = c.loop-number.unsettled in
    rows_all (λ (n : ℕ) (l : List ℕ). Unsettled known (get_or places n []) l) rows [] c.loop-number.invariant.held
    (λ n high.
    let past : length places ≤ n = omega (arith, c.loop-number.invariant.many, c.len-number-end.ensures) in
    subst (λ (l : List ℕ). Unsettled known l []) (sym (get_or_past places n [] past)) (nothing_free known)) t by names files all h
