use Rattle.std.proofs.Common.{◌∙◌}
use Rattle.std.proofs.lemmas.Result.{IfOk-weaker}
use Rattle.mk_core_repair.proofs.Readings.{all_names}
use Rattle.mk_core_repair.proofs.own_makefile.names_known.Goals as goal

pub returns : goal.returns
returns c =
    let all = all_names c.args.own.now _ c.args.files.now _ _ _ _ _ _ _ c.new-names.ensures.items c.in_ok-push_name.ensures c.in_ok-push_looked_for.ensures c.in_ok-push_names.ensures c.as_slice.ensures c.in_ok-push_book.ensures in
    IfOk-weaker c.new.result _ _ (λ table e. e ∙ all) c.new.ensures
