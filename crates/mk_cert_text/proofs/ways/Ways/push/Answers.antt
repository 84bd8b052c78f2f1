use Rattle.std.proofs.Common.{◌∷◌, ◌++◌, [], List, length, ap, ◌∙◌}
use Rattle.std.proofs.lemmas.Result.{err_from_is_err_and}
use Rattle.mk_cert_text.specs.Certificate.{Way}
use Rattle.mk_cert_text.proofs.PackedWays.{grown, pushed_ways}
use Rattle.mk_cert_text.proofs.ways.Ways.push.Goals as goal

pub returns-in_err-push_names-clause-err : goal.returns-in_err-push_names-clause-err
returns-in_err-push_names-clause-err c =
    let p = err_from_is_err_and c.from_residual.result c.from_residual.ensures.1 in
    let more = c.push_names.ensures.grows in
    rw p.1 (grown c.self.inside.names c.push_names.new.names more.0 c.self.inside.places.items more.1 c.self.invariant ∙ c.self.view_is)

pub returns-in_err-push-clause-err : goal.returns-in_err-push-clause-err
returns-in_err-push-clause-err c =
    let p = err_from_is_err_and c.from_residual-in_err-push.result c.from_residual-in_err-push.ensures.1 in
    let more = c.push_names.ensures.grows in
    rw (p.1, c.in_err-push.ensures.items) (grown c.self.inside.names c.push_names.new.names more.0 c.self.inside.places.items more.1 c.self.invariant ∙ c.self.view_is)

pub returns-clause-ok : goal.returns-clause-ok
returns-clause-ok c =
    let names = c.self.inside.names in
    let new = c.in_ok-push_names.ensures.ok in
    rw (c.in_ok-push.ensures.items, new) (pushed_ways names c.self.inside.places.items c.self.invariant
    c.args.recipe.now c.args.file.now c.args.path.now _ c.len-start.ensures
    (c.len-end.ensures ∙ ap length new) ∙ ap (λ (l : List Way). l
    ++ record {
      recipe = c.args.recipe.now;
      file = c.args.file.now;
      path = c.args.path.now;
      finish =
          c.args.finish;
    } ∷ []) c.self.view_is)
