use Rattle.std.proofs.Common.{◌≡◌, ◌∙◌, ◌++◌, ◌∷◌, [], List, ℕ, Bool, sym, ap, map, subst}
use Rattle.std.specs.Prelude.{IfOk}
use Rattle.mk_lemmas.proofs.Texts.{texts}
use Rattle.mk_read.specs.Needs.{groups}
use Rattle.mk_lines.specs.Names.{number_of}
use Rattle.mk_infer.specs.Selection.{in_node_numbers}
use Rattle.mk_infer.specs.Table.{prerequisites_in, words_in}
use Rattle.mk_infer_select.proofs.GroupLists.{single_numbered}
use Rattle.mk_infer_select.proofs.groups.rule_groups.Goals as goal

pub returns-then-apart : goal.returns-then-apart
returns-then-apart c =
    let met = c.args.met.now in
    let alone : List (List ℕ) → List (List ℕ) = map (λ name. number_of met name ∷ []) in
    let apart : Bool → List (List ℕ) = λ b. in_node_numbers met (groups b (words_in c.args.rules.now)) in
    let none : texts c.new-names.result.items ≡ [] = ap texts c.new-names.ensures.items in
    let names : texts c.deref.result.now ≡ prerequisites_in c.args.rules.now =
    ap texts c.deref.ensures.value ∙ (c.in_ok-push_prerequisites.ensures ∙ ap (λ (ns : List (List ℕ)). ns ++ prerequisites_in c.args.rules.now) none) in
    let same : alone (texts c.deref.result.now) ≡ apart c.args.apart =
    ap alone names ∙ (sym (single_numbered met (prerequisites_in c.args.rules.now)) ∙ ap apart (sym c.if-apart.true)) in
    subst (λ (gs : List (List ℕ)). IfOk c.single_groups.result (λ found. map (λ group. group.items) found.items ≡ gs)) same c.single_groups.ensures
