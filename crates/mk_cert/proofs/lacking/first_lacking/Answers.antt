-- A file that is settled lacks no way, so the others decide.
use Rattle.std.proofs.Common.{◌≡◌, ◌+◌, ◌∷◌, ◌∙◌, [], ℕ, List, ap, sym, subst, get_or, map, drop, arith}
use Rattle.std.specs.Prelude.{not}
use Rattle.std.proofs.lemmas.Bool.{true≢false}
use Rattle.std.proofs.lemmas.List.{drop_more}
use Rattle.mk_subject.specs.Subject.{reads_of}
use Rattle.mk_subject.specs.NodeRow.{NodeRow}
use Rattle.mk_subject.specs.FileInfo.{known_of}
use Rattle.mk_subject.specs.Settled.{is_settled}
use Rattle.mk_subject.specs.Target.{Target, unsettled_of}
use Rattle.mk_find.specs.Listing.{IsFirstIn}
use Rattle.mk_subject.specs.Reads.{Read}
use Rattle.mk_cert.specs.Verdict.{LacksWay}
use Rattle.mk_cert.specs.Checks.{reads_by}
use Rattle.mk_find.proofs.FirstOf.{Left, left_here, left_on, left_none, left_passing}
use Rattle.mk_find.proofs.SettledReads.{cannot_change, open_at, none_left}
use Rattle.mk_subject.proofs.SettledReads.{settled}
use Rattle.mk_cert.proofs.lacking.first_lacking.Goals as goal

pub loop-place-init : goal.loop-place-init
loop-place-init c = λ ways seen.
    let x = c.args.subject.now in
    let n = c.args.row.now.number in
    let read = λ (f : List ℕ). let r : Read = record { recipe = n; file = f } in r in
    left_passing (LacksWay x ways) read (λ f. not (is_settled (known_of x f))) (reads_of x n) (λ f out lacks. cannot_change x f (settled (known_of x f) out) lacks.0.1)

pub lacks-requires-clause-read : goal.lacks-requires-clause-read
lacks-requires-clause-read c =
    let number : c.row.inside.number ≡ c.args.row.now.number = ap (λ (e : NodeRow). e.number) c.row.view_is in
    (open_at c.args.subject.now c.row.inside.number c.args.row.now.number c.loop-place.place c.count_of_unsettled-place-end.result c.unsettled-file.result number c.count_of_unsettled-place-end.ensures (omega arith) c.unsettled-file.ensures).read

pub returns-then-lacks : goal.returns-then-lacks
returns-then-lacks c = λ ways seen.
    let x = c.args.subject.now in
    let e = c.args.row.now in
    let i = c.loop-place.place in
    let number : c.row.inside.number ≡ e.number = ap (λ (k : NodeRow). k.number) c.row.view_is in
    let at = open_at x c.row.inside.number e.number i c.count_of_unsettled-place-end.result c.unsettled-file.result number c.count_of_unsettled-place-end.ensures (omega arith) c.unsettled-file.ensures in
    let all = unsettled_of x e.number in
    let read = λ (f : List ℕ). let r : Read = record { recipe = e.number; file = f } in r in
    let left : Left (LacksWay x ways) (read (get_or all i []) ∷ map read (drop (i + 1) all)) (reads_by x e.number) = subst (λ (fs : List (List ℕ)). Left (LacksWay x ways) (map read fs) (reads_by x e.number)) (drop_more all i [] at.low) (c.loop-place.invariant ways seen) in
    let lacking = subst (λ (f : List ℕ). LacksWay x ways (read f)) at.file ((c.lacks.ensures ways seen).0 c.if-lacks.true) in
    let named = ap (λ (t : Target). t.file) c.file.view_is in
    subst (λ (f : List ℕ). IsFirstIn (LacksWay x ways) (reads_by x e.number) (read f)) (sym (named ∙ at.file))
    (left_here (LacksWay x ways) (read (get_or all i [])) (map read (drop (i + 1) all)) (reads_by x e.number) left lacking)

pub loop-place-preserved : goal.loop-place-preserved
loop-place-preserved c = λ ways seen.
    let x = c.args.subject.now in
    let e = c.args.row.now in
    let i = c.loop-place.place in
    let number : c.row.inside.number ≡ e.number = ap (λ (k : NodeRow). k.number) c.row.view_is in
    let at = open_at x c.row.inside.number e.number i c.count_of_unsettled-place-end.result c.unsettled-file.result number c.count_of_unsettled-place-end.ensures (omega arith) c.unsettled-file.ensures in
    let all = unsettled_of x e.number in
    let read = λ (f : List ℕ). let r : Read = record { recipe = e.number; file = f } in r in
    let left : Left (LacksWay x ways) (read (get_or all i []) ∷ map read (drop (i + 1) all)) (reads_by x e.number) = subst (λ (fs : List (List ℕ)). Left (LacksWay x ways) (map read fs) (reads_by x e.number)) (drop_more all i [] at.low) (c.loop-place.invariant ways seen) in
    left_on (LacksWay x ways) (read (get_or all i [])) (map read (drop (i + 1) all)) (reads_by x e.number) left
    (λ h. true≢false (sym ((c.lacks.ensures ways seen).1 (subst (λ (f : List ℕ). LacksWay x ways (read f)) (sym at.file) h)) ∙ c.if-lacks.false))

pub returns : goal.returns
returns c = λ ways seen.
    let x = c.args.subject.now in
    let e = c.args.row.now in
    let i = c.loop-place.place in
    let number : c.row.inside.number ≡ e.number = ap (λ (k : NodeRow). k.number) c.row.view_is in
    let none = none_left x c.row.inside.number e.number i c.count_of_unsettled-place-end.result number c.count_of_unsettled-place-end.ensures (omega arith) in
    let read = λ (f : List ℕ). let r : Read = record { recipe = e.number; file = f } in r in
    left_none (LacksWay x ways) (reads_by x e.number) (subst (λ (fs : List (List ℕ)). Left (LacksWay x ways) (map read fs) (reads_by x e.number)) none (c.loop-place.invariant ways seen))
