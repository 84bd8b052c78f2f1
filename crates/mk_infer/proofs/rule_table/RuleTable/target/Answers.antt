use Rattle.std.proofs.Common.{◌≡◌, ◌∙◌, Bool, List, ℕ, true, cond, [], sym, ap}
use Rattle.std.specs.Prelude.{is_some}
use Rattle.std.specs.Borrow.{Bor}
use Rattle.std.specs.List.{list_any}
use Rattle.std.specs.Str.{bytes_eq}
use Rattle.std.proofs.lemmas.Map.Made.{lookup_key_passes}
use Rattle.std.proofs.lemmas.Slice.Eq.{bytes_eq-Decides}
use Rattle.mk_lines.specs.Names.{has_name}
use Rattle.mk_read.specs.Reading.{Makefile}
use Rattle.mk_read.specs.State.{RuleRead}
use Rattle.mk_infer.specs.Table.{has_target, targets_in}
use Rattle.mk_infer.specs.Targets.{is_target}
use Rattle.mk_infer.proofs.Members.{target_listed}
use Rattle.mk_infer.proofs.rule_table.RuleTable.target.Goals as goal

pub returns-in-Some : goal.returns-in-Some
returns-in-Some c =
    let m = c.args.self.now in
    let name = c.args.name.now in
    let plain = sym c.is_inference_name.ensures ∙ c.if-is_inference_name.false in
    let same : has_target c.self.inside.lines name ≡ is_target m name =
    c.self.invariant.targets_held name ∙ (ap (λ (x : Makefile). has_name (targets_in x.rules) name) c.self.view_is
    ∙ (sym (target_listed m.rules name) ∙ ap (λ (b : Bool). list_any (λ (rule : RuleRead). has_name rule.targets name) (cond b [] m.rules)) (sym plain))) in
    let key = lookup_key_passes (λ (k : Bor (List ℕ)). bytes_eq name k.now) c.self.inside.lines.entries c.in-Some.target.now (sym c.in-Some.ensures.key) in
    let found : has_target c.self.inside.lines name ≡ true = ap is_some (sym c.in-Some.ensures.value) in
    (sym ((bytes_eq-Decides name c.in-Some.target.now.now).0 key), sym same ∙ found)

pub returns-in-None : goal.returns-in-None
returns-in-None c =
    let m = c.args.self.now in
    let name = c.args.name.now in
    let plain = sym c.is_inference_name.ensures ∙ c.if-is_inference_name.false in
    let same : has_target c.self.inside.lines name ≡ is_target m name =
    c.self.invariant.targets_held name ∙ (ap (λ (x : Makefile). has_name (targets_in x.rules) name) c.self.view_is
    ∙ (sym (target_listed m.rules name) ∙ ap (λ (b : Bool). list_any (λ (rule : RuleRead). has_name rule.targets name) (cond b [] m.rules)) (sym plain))) in
    sym same ∙ ap is_some (sym c.in-None.ensures.value)
