use Rattle.mk_core_json.proofs.SinceTexts.{all_joined}
use Rattle.mk_core_json.proofs.comparing.told_text.Goals as goal

pub returns : goal.returns
returns c =
    all_joined c.args.build.now c.args.found.now _ _ _ _ _ c.in_ok-text.ensures.ok c.in_ok-push_text.ensures c.in_ok-push_str.ensures.bytes c.in_ok-push_all_told.ensures c.in_ok-push_str-2.ensures.bytes
