use Rattle.std.proofs.Common.{◌≡◌, ◌+◌, ◌<◌, ◌∙◌, ℕ, List, ap, get_or, length, map, subst, take, sym, refl, arith}
use Rattle.std.specs.String.{string_bytes}
use Rattle.std.proofs.lemmas.Bool.{true≢false}
use Rattle.std.proofs.lemmas.List.{take_all}
use Rattle.mk_subject.specs.NodeRow.{NodeRow, row_writes}
use Rattle.mk_since.specs.Parts.{Renews, is_made_anew}
use Rattle.mk_since.proofs.Naming.{AreNoted, none_noted, noted_more, noted_same, renews_noted}
use Rattle.mk_since.proofs.named.note_made_anew.Goals.{then-is_anew+in_ok-note_owned, else-is_anew}
use Rattle.mk_since.proofs.named.note_made_anew.Goals as goal

pub loop-entry-init : goal.loop-entry-init
loop-entry-init c = none_noted (Renews c.args.past.now c.args.subject.now c.args.always.now) c.args.names.now c.args.names.now refl

pub loop-entry-preserved : goal.loop-entry-preserved
loop-entry-preserved c =
    let past = c.args.past.now in
    let y = c.args.subject.now in
    let always = c.args.always.now in
    let rows = c.entries-entry-items.result.now in
    let i = c.loop-entry.entry-index in
    let e = c.entry-item.result in
    let lt : i < length rows = omega arith in
    let test : is_made_anew past y always (get_or rows i e) ≡ is_made_anew past y always e = ap (λ (k : NodeRow). is_made_anew past y always k) (sym c.entry-item.is) in
    elim c.if-is_anew.branch [
      | then-is_anew+in_ok-note_owned w ↦
          subst (λ (l : List (List ℕ)). AreNoted (Renews past y always) l c.args.names.now (take (i + 1) rows)) (sym w.names-is)
          (noted_more (Renews past y always) c.loop-entry.names w.note_owned.new.names c.args.names.now rows i e lt
          (renews_noted past y always (get_or rows i e) c.loop-entry.names w.note_owned.new.names (map string_bytes w.writes.result.now) (w.writes.ensures ∙ ap (λ (k : NodeRow). row_writes k) c.entry-item.is) w.in_ok-note_owned.ensures (test ∙ (sym c.in_ok-is_anew.ensures ∙ w.if-is_anew.true))) c.loop-entry.invariant)
      | else-is_anew w ↦
          subst (λ (l : List (List ℕ)). AreNoted (Renews past y always) l c.args.names.now (take (i + 1) rows)) (sym w.names-is)
          (noted_same (Renews past y always) c.loop-entry.names c.args.names.now rows i e lt
          (λ f p. true≢false (sym p.2 ∙ (test ∙ (sym c.in_ok-is_anew.ensures ∙ w.if-is_anew.false)))) c.loop-entry.invariant)
    ]

pub returns : goal.returns
returns c =
    let entries = c.entries-entry-items.result.now in
    let all : take c.loop-entry.entry-index entries ≡ entries = take_all c.loop-entry.entry-index entries (omega arith) in
    (entries, (c.entries-entry-items.ensures, subst (λ (l : List NodeRow). AreNoted (Renews c.args.past.now c.args.subject.now c.args.always.now) c.loop-entry.names c.args.names.now l) all c.loop-entry.invariant))
