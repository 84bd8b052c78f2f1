use Rattle.std.proofs.Common.{Option, ap, sym, ◌∙◌}
use Rattle.std.specs.Borrow.{Bor}
use Rattle.std.specs.Option.{option_copied, option_or}
use Rattle.mk_read.specs.Reading.{Makefile}
use Rattle.mk_read.specs.State.{RuleRead}
use Rattle.mk_sentences.specs.Places.{rule_at, rule_shown}
use Rattle.mk_sentences.proofs.FirstRules.{shown_by}
use Rattle.mk_sentences.proofs.places.Places.rule.Goals as goal

pub returns-in-Some : goal.returns-in-Some
returns-in-Some c =
    let name = c.args.name.now in
    let first = ap (λ (o : Option (Bor RuleRead)). option_or (option_copied o) (rule_at c.self.inside.named name)) c.in-Some.ensures.value in
    first ∙ (shown_by c.self.inside.makefile.now name (rule_at c.self.inside.commanded name) (rule_at c.self.inside.named name) (c.self.invariant.has_commanded name) (c.self.invariant.has_named name) ∙ ap (λ (m : Makefile). rule_shown m name) c.self.view_is)

pub returns-in-Some-get : goal.returns-in-Some-get
returns-in-Some-get c =
    let name = c.args.name.now in
    let nothing = ap (λ (o : Option (Bor (Bor RuleRead))). option_copied o) (sym c.in_default.is) ∙ c.get.ensures.value in
    let missing = ap (λ (o : Option (Bor RuleRead)). option_or (option_copied o) (rule_at c.self.inside.named name)) nothing in
    let there = ap (λ (o : Option (Bor RuleRead)). option_copied o) c.in-Some-get.ensures.value in
    there ∙ (missing ∙ (shown_by c.self.inside.makefile.now name (rule_at c.self.inside.commanded name) (rule_at c.self.inside.named name) (c.self.invariant.has_commanded name) (c.self.invariant.has_named name) ∙ ap (λ (m : Makefile). rule_shown m name) c.self.view_is))

pub returns-in-None : goal.returns-in-None
returns-in-None c =
    let name = c.args.name.now in
    let nothing = ap (λ (o : Option (Bor (Bor RuleRead))). option_copied o) (sym c.in_default.is) ∙ c.get.ensures.value in
    let missing = ap (λ (o : Option (Bor RuleRead)). option_or (option_copied o) (rule_at c.self.inside.named name)) nothing in
    let none = ap (λ (o : Option (Bor (Bor RuleRead))). option_copied o) (sym c.in-None.is) ∙ c.get-2.ensures.value in
    let there = ap (λ (o : Option (Bor RuleRead)). option_copied o) none in
    there ∙ (missing ∙ (shown_by c.self.inside.makefile.now name (rule_at c.self.inside.commanded name) (rule_at c.self.inside.named name) (c.self.invariant.has_commanded name) (c.self.invariant.has_named name) ∙ ap (λ (m : Makefile). rule_shown m name) c.self.view_is))
