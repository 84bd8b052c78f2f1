use Rattle.std.proofs.Common.{◌≡◌, ◌∙◌, ◌+◌, ℕ, List, [], ◌∷◌, true, Bool, inl, refl, sym, ap}
use Rattle.mk_foot.specs.Setting as foot
use Rattle.mk_build.specs.Steps.{Edit}
use Rattle.mk_build.specs.Setting.{is_editable}
use Rattle.mk_world.specs.State.{Scene, setting}
use Rattle.mk_find_evidence.proofs.MakingGoals.{has_stamp}
use Rattle.mk_find_evidence.proofs.stale.edit_if_editable.Goals as goal

-- what the setting of a scene says of a file
says : (scene : Scene) (recorded one : foot.Setting) (f : List ℕ) (b : Bool) → scene.recorded ≡ recorded → one ≡ recorded → b ≡ foot.is_editable one f → b ≡ true → is_editable (setting scene) f ≡ true
says scene recorded one f b here there answer is =
    ap (λ (k : foot.Setting). foot.is_editable k f) (here ∙ sym there) ∙ (sym answer ∙ is)

pub edit-requires-clause-legal : goal.edit-requires-clause-legal
edit-requires-clause-legal c =
    let editable = says c.args.history.now.world.scene c.args.subject.now.setting c.setting.result.now c.args.file.now c.is_editable.result (ap (λ (scene : Scene). scene.recorded) c.requires.scene) c.setting.ensures c.is_editable.ensures c.if-is_editable.true in
    c.requires.legal (Edit c.args.file.now (c.args.history.now.world.disk.clock + 1) ∷ []) (inl (editable, refl))

pub edit-requires-clause-stamp : goal.edit-requires-clause-stamp
edit-requires-clause-stamp c =
    let editable = says c.args.history.now.world.scene c.args.subject.now.setting c.setting.result.now c.args.file.now c.is_editable.result (ap (λ (scene : Scene). scene.recorded) c.requires.scene) c.setting.ensures c.is_editable.ensures c.if-is_editable.true in
    has_stamp c.args.history.now c.requires.idle c.args.file.now (c.requires.legal (Edit c.args.file.now (c.args.history.now.world.disk.clock + 1) ∷ []) (inl (editable, refl)))
