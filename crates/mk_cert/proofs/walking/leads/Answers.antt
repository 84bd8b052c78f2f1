use Rattle.std.proofs.Common.{◌≡◌, ◌∙◌, [], ℕ, List, true, length, drop, length-drop, arith, ap, sym, subst}
use Rattle.std.proofs.lemmas.Bool.{true≢false}
use denote.Enum.Bare.{sameb}
use Rattle.mk_cert_text.specs.contracts.certificate.Finish.{the_type}
use Rattle.mk_cert_text.specs.Certificate.{Way}
use Rattle.mk_cert_text.specs.declared.certificate.Finish.{Finish}
use Rattle.mk_cert_text.specs.declared.certificate.Finish.TheVariants.{Written}
use Rattle.mk_subject.specs.Subject.{footprints}
use Rattle.mk_subject.specs.Paths.{EndsAt}
use Rattle.mk_subject.specs.Target.{Target, target_of}
use Rattle.mk_cert.specs.Walking.{GoesOver}
use Rattle.mk_cert.proofs.Walks.{one_end}
use Rattle.mk_cert.proofs.walking.leads.Goals as goal
use Rattle.mk_cert.proofs.walking.leads.Goals.{else-len-lt2-via-then-len-lt2+else-eq, else-len-lt2-via-else-len-lt2}

pub ends_at-requires-clause-file : goal.ends_at-requires-clause-file
ends_at-requires-clause-file c =
    let x = c.args.subject.now in
    let t = c.args.file.now in
    subst (λ (f : List ℕ). t ≡ target_of x f) (sym (ap (λ (v : Target). v.file) c.requires.file)) c.requires.file

pub returns : goal.returns
returns c =
    let x = c.args.subject.now in
    let w = c.args.way.now in
    let names = drop 1 w.path in
    let path : c.way.inside.path ≡ w.path = ap (λ (v : Way). v.path) c.way.view_is in
    let over : GoesOver x c.args.start names c.in-Some.last = subst (λ (ns : List (List ℕ)). GoesOver x c.args.start (drop 1 ns) c.in-Some.last) path c.in-Some.ensures in
    let g = x.graph in
    let s = footprints x.setting in
    let finish : c.way.inside.finish ≡ w.finish = ap (λ (v : Way). v.finish) c.way.view_is in
    let file : c.args.file.now.file ≡ w.file = ap (λ (v : Target). v.file) c.requires.file in
    let others : w.finish ≡ Written → ¬ (names ≡ []) =
    elim c.else-len-lt2.branch [
      | else-len-lt2-via-then-len-lt2+else-eq k ↦ λ written none.
          let same : sameb the_type c.way.inside.finish Written ≡ true = ap (λ (f : Finish). sameb the_type f Written) (finish ∙ written) in
          true≢false (sym same ∙ (sym k.eq.ensures ∙ k.if-eq.false))
      | else-len-lt2-via-else-len-lt2 k ↦ λ written none. absurd (omega (arith, k.if-len-lt2.false, c.len.ensures, ap length path, ap length none, length-drop 1 w.path))
    ] in (
      λ t. record {
        last = c.in-Some.last;
        over = over;
        ends = subst (λ (h : Finish). EndsAt g s w.file h c.in-Some.last) finish (subst (λ (f : List ℕ). EndsAt g s f c.way.inside.finish c.in-Some.last) file (c.ends_at.ensures.0 t));
        others = others;
      },
      λ it.
          let same : it.last ≡ c.in-Some.last = one_end x c.graph-graph.ensures.graph c.names_have_one_number.ensures c.args.start names it.last c.in-Some.last it.over over in
          c.ends_at.ensures.1 (subst (λ (f : List ℕ). EndsAt g s f c.way.inside.finish c.in-Some.last) (sym file) (subst (λ (h : Finish). EndsAt g s w.file h c.in-Some.last) (sym finish) (subst (λ (n : ℕ). EndsAt g s w.file w.finish n) same it.ends))),
    )
