use Rattle.std.proofs.Common.{◌≡◌, ◌+◌, ◌<◌, ◌≤◌, ◌∷◌, Bool, true, false, List, [], Err, inr, refl, sym, subst, get_or, length, take, drop, arith}
use Rattle.std.proofs.lemmas.List.{drop_more, take_all}
use Rattle.mk_cert_text.specs.Certificate.{Way}
use Rattle.mk_cert.specs.declared.fault.CertFault.{CertFault}
use Rattle.mk_cert.specs.Checks.{AnswersEntries, Judges}
use Rattle.mk_cert.specs.Verdict.{IsFirstBad}
use Rattle.mk_cert.proofs.Judged.{JudgedSoFar, judged_bad, judged_on, judged_seen}
use Rattle.mk_subject.proofs.Rows.{in_take_more}
use Rattle.mk_cert.proofs.judging.check_entries.Goals as goal

pub returns-then-not-branch-clause-answer : goal.returns-then-not-branch-clause-answer
returns-then-not-branch-clause-answer c =
    let x = c.args.subject.now in
    let ways = c.args.ways.now in
    let i = c.loop-place.place in
    let w = c.at-way.result in
    let lt : i < length ways = omega arith in
    let rest : drop i ways ≡ get_or ways i w ∷ drop (i + 1) ways = drop_more ways i w lt in
    let so_far : JudgedSoFar x ways (take i ways) (get_or ways i w ∷ drop (i + 1) ways) c.loop-place.seen.items = subst (λ (l : List Way). JudgedSoFar x ways (take i ways) l c.loop-place.seen.items) rest c.loop-place.invariant.judged in
    let judged : Judges x (get_or ways i w) c.loop-place.seen.items c.note_good.new.seen.items false = subst
    (λ (v : Way). Judges x v c.loop-place.seen.items c.note_good.new.seen.items false) c.at-way.ensures
    (subst (λ (b : Bool). Judges x w c.loop-place.seen.items c.note_good.new.seen.items b)
    c.if-not-branch.true c.in_ok-note_good.ensures.judged) in
    inr (subst (λ (f : CertFault). AnswersEntries x ways (Err f)) (sym c.in_ok-bad_way.ensures) (
      w,
      subst (λ (v : Way). IsFirstBad x [] ways v) (sym c.at-way.ensures)
          (judged_bad x ways (take i ways) (drop (i + 1) ways) (get_or ways i w) c.loop-place.seen.items
          c.note_good.new.seen.items so_far judged),
      refl,
      refl,
    ))

pub loop-place-preserved : goal.loop-place-preserved
loop-place-preserved c =
    let x = c.args.subject.now in
    let ways = c.args.ways.now in
    let i = c.loop-place.place in
    let w = c.at-way.result in
    let lt : i < length ways = omega arith in
    let rest : drop i ways ≡ get_or ways i w ∷ drop (i + 1) ways = drop_more ways i w lt in
    let so_far : JudgedSoFar x ways (take i ways) (get_or ways i w ∷ drop (i + 1) ways) c.loop-place.seen.items = subst (λ (l : List Way). JudgedSoFar x ways (take i ways) l c.loop-place.seen.items) rest c.loop-place.invariant.judged in
    let judged : Judges x (get_or ways i w) c.loop-place.seen.items c.note_good.new.seen.items true = subst
    (λ (v : Way). Judges x v c.loop-place.seen.items c.note_good.new.seen.items true) c.at-way.ensures
    (subst (λ (b : Bool). Judges x w c.loop-place.seen.items c.note_good.new.seen.items b)
    c.if-not-branch.false c.in_ok-note_good.ensures.judged) in
    record {
      judged = judged_on x ways (take i ways) (take (i + 1) ways) (drop (i + 1) ways) (get_or ways i w) c.loop-place.seen.items c.note_good.new.seen.items so_far judged c.in_ok-note_good.ensures.sets (λ v. in_take_more ways i w v lt);
      lists = c.in_ok-note_good.ensures.lists;
    }

pub returns-clause-seen : goal.returns-clause-seen
returns-clause-seen c =
    let x = c.args.subject.now in
    let ways = c.args.ways.now in
    let i = c.loop-place.place in
    let past : length ways ≤ i = omega arith in
    judged_seen x ways (take i ways) (drop i ways) c.loop-place.seen.items (take_all i ways past) c.loop-place.invariant.judged
