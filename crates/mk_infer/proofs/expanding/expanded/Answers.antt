use Rattle.std.proofs.Common.{◌≡◌, ◌<◌, ◌≤◌, ◌∙◌, ◌||◌, ◌∷◌, ◌++◌, [], map, length, ap, sym, subst, arith}
use Rattle.std.proofs.lemmas.List.{map_push}
use Rattle.std.proofs.lemmas.Result.{err_from_is_err_and}
use Rattle.mk_macros.specs.Expansion.{expansion, text_and_variation}
use Rattle.mk_macros.specs.Locals.{recipe_of}
use Rattle.mk_read.specs.State.{Command}
use Rattle.mk_infer.specs.Steps.{Fails, at_place}
use Rattle.mk_infer.proofs.CommandLists.{commands_more, commands_fail, commands_end}
use Rattle.mk_infer.proofs.expanding.expanded.Goals as goal
use Rattle.mk_infer.proofs.expanding.expanded.Goals.{then-varying, else-varying}

pub loop-command-preserved : goal.loop-command-preserved
loop-command-preserved c =
    let lt : c.loop-command.command-index < length c.args.commands.now = omega arith in
    let macros = c.args.macros.now in
    let recipe = recipe_of c.args.locals.now in
    let lines = map (λ line. line.items) c.loop-command.lines.items in
    let here = ap (λ (command : Command). at_place command.place (text_and_variation (expansion macros recipe command.text))) (sym c.command-item.is) ∙ c.in_ok-line.ensures in
    let more = commands_more macros recipe lines c.loop-command.varying c.args.commands.now c.loop-command.command-index c.command-item.result c.in_ok-line.line.items c.in_ok-line.varies _ here c.loop-command.invariant lt in
    let pushed : map (λ line. line.items) c.push.new.self.items ≡ lines ++ c.in_ok-line.line.items ∷ [] = ap (map (λ line. line.items)) c.in_ok-push.ensures.items ∙ map_push (λ line. line.items) c.loop-command.lines.items c.in_ok-line.line in
    let joined : c.if-varying.varying ≡ (c.loop-command.varying || c.in_ok-line.varies) = elim c.if-varying.branch [
      | then-varying w ↦ w.varying-is ∙ (w.if-varying.true ∙ sym (ap (λ b. b || c.in_ok-line.varies) w.if-varying.true))
      | else-varying w ↦ w.varying-is ∙ sym (ap (λ b. b || c.in_ok-line.varies) w.if-varying.false)
    ] in
    rw (pushed, joined) more

pub returns-in_err-line : goal.returns-in_err-line
returns-in_err-line c =
    let lt : c.loop-command.command-index < length c.args.commands.now = omega arith in
    let macros = c.args.macros.now in
    let recipe = recipe_of c.args.locals.now in
    let p = err_from_is_err_and c.from_residual-in_err-line.result c.from_residual-in_err-line.ensures.1 in
    let here = subst (λ (command : Command). Fails c.in_err-line.field-0.0 (at_place command.place (text_and_variation (expansion macros recipe command.text)))) c.command-item.is c.in_err-line.ensures in
    rw (p.1, p.2) (commands_fail macros recipe (map (λ line. line.items) c.loop-command.lines.items) c.loop-command.varying c.args.commands.now c.loop-command.command-index c.command-item.result _ _ here c.loop-command.invariant lt)

pub returns : goal.returns
returns c =
    let le : length c.args.commands.now ≤ c.loop-command.command-index = omega arith in
    commands_end c.args.macros.now (recipe_of c.args.locals.now) (map (λ line. line.items) c.loop-command.lines.items) c.loop-command.varying c.args.commands.now c.loop-command.command-index _ c.loop-command.invariant le
