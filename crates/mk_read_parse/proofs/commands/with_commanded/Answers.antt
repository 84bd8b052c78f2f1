use Rattle.std.proofs.Common.{◌≡◌, ◌||◌, false, inr, ◌∙◌, sym, ap, subst, Err, Some, List, ℕ, map, String, string_bytes}
use Rattle.std.specs.Prelude.{find}
use Rattle.std.specs.declared.alloc.Global.{Global}
use Rattle.mk_read.specs.Names.{has_name}
use Rattle.mk_read.specs.State.{RuleRead}
use Rattle.mk_read.specs.declared.fault.ReadFault.TheVariants.{TwoRecipes}
use Rattle.mk_read_parse.proofs.Commanded.{refused, knows_more}
use Rattle.mk_read_parse.proofs.commands.with_commanded.Goals as goal

pub returns-in-Some-clause-exact : goal.returns-in-Some-clause-exact
returns-in-Some-clause-exact c =
    let own : c.args.rule.default ≡ false = ap (λ (r : RuleRead). r.default) (sym c.rule.view_is) ∙ c.if-rule.false in
    let found : find (has_name c.args.known) (map string_bytes c.rule.inside.targets.items) ≡ Some c.in-Some.target.now = subst (λ (names : List (String Global)). find (has_name c.args.known) (map string_bytes names) ≡ Some c.in-Some.target.now) c.deref.ensures.value c.in-Some.ensures in
    let at : find (has_name c.args.known) c.args.rule.targets ≡ Some c.in-Some.target.now = ap (λ (r : RuleRead). find (has_name c.args.known) r.targets) (sym c.rule.view_is) ∙ found in
    inr (refused c.args.known c.args.earlier.items c.args.rule c.in-Some.target.now c.requires.known own at
    ∙ (ap (λ (r : RuleRead). Err (TwoRecipes r.place c.in-Some.target.now)) (sym c.rule.view_is) ∙ ap (λ name. Err (TwoRecipes c.rule.inside.place name)) (sym c.in_ok-target.ensures)))

pub invariant_of-result-2 : goal.invariant_of-result-2
invariant_of-result-2 c =
    let own : c.args.rule.default ≡ false = ap (λ (r : RuleRead). r.default) (sym c.rule.view_is) ∙ c.if-rule.false in
    let added : (name : List ℕ) → has_name c.in_ok-known.known name
    ≡ (has_name c.args.known name || has_name (map string_bytes c.rule.inside.targets.items) name) =
    λ name. c.in_ok-known.ensures name ∙ ap (λ (names : List (String Global)). has_name c.args.known name
    || has_name (map string_bytes names) name) c.deref-2.ensures.value in
    knows_more c.args.known c.in_ok-known.known c.args.earlier.items c.args.rule c.requires.known own c.requires.commands
    (λ name. added name ∙ ap (λ (r : RuleRead). has_name c.args.known name || has_name r.targets name) c.rule.view_is)
