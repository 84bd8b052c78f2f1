use Rattle.std.proofs.Common.{◌≡◌, ◌∙◌, ◌++◌, false, List, ℕ, Result, Ok, map, sym, ap, subst}
use Rattle.std.specs.Prelude.{option_to_list, slice_get}
use Rattle.std.specs.Borrow.{Bor}
use Rattle.std.specs.Option.{option_map}
use Rattle.mk_lemmas.proofs.Texts.{texts}
use Rattle.mk_read.specs.Reading.{Makefile}
use Rattle.mk_infer.specs.declared.fault.InferFault.{InferFault}
use Rattle.mk_infer.specs.Commands.{Commands}
use Rattle.mk_infer.specs.Inference.{stem}
use Rattle.mk_infer.specs.Selection.{needs}
use Rattle.mk_infer.specs.Steps.{Gives}
use Rattle.mk_infer.specs.Choosing.{ResolvedRule}
use Rattle.mk_infer.specs.Table.{prerequisites_in}
use Rattle.mk_infer.proofs.CommandRecipes.{commands_are, first_text, no_commands_are}
use Rattle.mk_infer.proofs.recipes.expanded_by.Goals as goal

pub returns-in_default : goal.returns-in_default
returns-in_default c =
    let made = c.rule.view_is ∙ c.requires in
    let none = sym (ap (option_map (λ commands. commands.now)) c.in_default.is) ∙ ap (λ (x : ResolvedRule). x.commands) made in
    sym (ap (λ (lines : List (List ℕ)). let found : Commands = record { lines = lines; varying = false } in Ok found) (ap (map (λ line. line.items)) c.new-lines.ensures.items)
    ∙ no_commands_are c.args.choices.now.makefile c.args.choices.now.exists c.args.name.now none)

pub returns : goal.returns
returns c =
    let m = c.args.choices.now.makefile in
    let e = c.args.choices.now.exists in
    let name = c.args.name.now in
    let made = c.rule.view_is ∙ c.requires in
    let table : c.table-table.result.now ≡ m = c.table-table.ensures in
    let found = sym (ap (option_map (λ commands. commands.now)) c.in-Some.is) ∙ ap (λ (x : ResolvedRule). x.commands) made in
    let all : texts c.in_ok-needs.needs.items ≡ needs m e name = c.in_ok-needs.ensures
    ∙ ap (λ (x : ResolvedRule). option_to_list x.choice ++ prerequisites_in x.rules) made in
    let lent : texts c.deref-2.result.now ≡ needs m e name = ap texts c.deref-2.ensures.value ∙ all in
    let front : texts c.deref.result.now ≡ texts c.deref-2.result.now = ap texts (c.deref.ensures.value ∙ sym c.deref-2.ensures.value) in
    let first = ap (option_map (λ (n : Bor (List ℕ)). n.now)) (c.copied.ensures ∙ c.first.ensures.value) ∙ (first_text c.deref.result.now ∙ ap (λ ns. slice_get ns 0) front) in
    subst (λ (r : Result Commands InferFault). Gives (λ found. found) c.expanded.result r)
    (commands_are m e name c.macros.result.now c.parted.result.0.now _ (texts c.deref-2.result.now) c.in-Some.commands.now (c.macros.ensures ∙ ap (λ (x : Makefile). x.macros) table) (c.parted.ensures.stem ∙ ap (λ (x : Makefile). stem x name) table) lent first found) c.expanded.ensures
