use Rattle.std.proofs.Common.{◌≡◌, ◌∙◌, List, Err, ◌⊎◌, ⊎_elim, ap, sym, subst}
use Rattle.mk_build.specs.Right.{IsRight}
use Rattle.mk_cert_text.specs.Certificate.{Way, Certificate}
use Rattle.mk_cert.specs.declared.fault.CertFault.TheVariants.{Memory}
use Rattle.mk_cert.specs.Laws.{IsRightOnce}
use Rattle.mk_subject.specs.Subject.{footprints}
use Rattle.mk_find.specs.Certifying.{HasGoals}
use Rattle.mk_find.specs.Findings.{NothingFound}
use Rattle.mk_cert.specs.Checks.{AnswersWays}
use Rattle.mk_cert.proofs.Found.{accepted, verifies}
use Rattle.mk_cert.proofs.verifying.verify.Goals as goal

pub returns : goal.returns
returns c =
    let x = c.args.subject.now in
    let k = c.args.certificate.now in
    let g = x.graph in
    let s = footprints x.setting in
    let goals : HasGoals x k = ap (λ (v : Certificate). v.goals) (sym c.certificate.view_is) ∙ c.has_goals.ensures.0 c.if-not-has_goals.false in
    let found : NothingFound x = ⊎_elim (λ e. absurd (cc)) (λ h. h) c.in_ok-check_found.ensures in
    let ways : c.certificate.inside.ways ≡ k.ways = ap (λ (v : Certificate). v.ways) c.certificate.view_is in
    let answer : (c.check_ways.result ≡ Err Memory) ⊎ AnswersWays x k.ways c.check_ways.result = subst (λ (l : List Way). (c.check_ways.result ≡ Err Memory) ⊎ AnswersWays x l c.check_ways.result) ways c.check_ways.ensures in
    let right = c.verified_is_right.ensures x k c.graph-graph.ensures.graph c.graph-graph.ensures.subject in
    record {
      answer = verifies x k c.check_ways.result goals found answer;
      right = accepted x k c.check_ways.result goals found answer (IsRight g s) (λ h. (right h).0);
      once = accepted x k c.check_ways.result goals found answer (IsRightOnce g s) (λ h. (right h).1);
      selected = accepted x k c.check_ways.result goals found answer _ (λ h. (right h).2);
      parts = accepted x k c.check_ways.result goals found answer _ (λ h. (right h).3);
    }
