use Rattle.std.proofs.Common.{◌≡◌, ◌+◌, ◌-◌, ◌<◌, ℕ, length, sym, subst, arith}
use Rattle.mk_find.specs.declared.finding.Finding.{Finding}
use Rattle.mk_core_evidence.specs.EvidenceAnswer.{IsNumbered}
use Rattle.mk_core_evidence.proofs.FindingPlans.{numbered_at}
use Rattle.mk_core_evidence.proofs.showing.finding_at.Goals as goal

pub returns : goal.returns
returns c =
    let place = c.args.number - 1 in
    let low : c.args.number - 1 < length c.args.found.now = omega arith in
    let same : c.args.number - 1 + 1 ≡ c.args.number = omega arith in
    let at = numbered_at c.args.found.now place c.index-found-number.result low in
    subst (λ (n : ℕ). IsNumbered c.args.found.now n c.index-found-number.result) same (subst (λ (f : Finding). IsNumbered c.args.found.now (place + 1) f) (sym c.index-found-number.is) at)
