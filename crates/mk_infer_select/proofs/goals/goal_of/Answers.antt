use Rattle.std.proofs.Common.{◌≡◌, ◌∙◌, List, ℕ, sym, subst, Ok}
use Rattle.mk_read.specs.declared.fault.Place.{Place}
use Rattle.mk_read.specs.declared.fault.ReadFault.{ReadFault}
use Rattle.mk_read.specs.Names.{name_of}
use Rattle.mk_read.specs.Steps as reading
use Rattle.mk_infer_select.proofs.GoalLists.{goal_named, goal_member, goal_bad}
use Rattle.mk_infer_select.proofs.goals.goal_of.Goals as goal

pub returns-in-Ok : goal.returns-in-Ok
returns-in-Ok c =
    let place : Place = record { file = c.in_ok-file.file; line = c.args.number } in
    goal_named c.args.number c.args.word.now c.in_ok-file.file c.in_ok-file.ensures (sym c.is_no_goal.ensures ∙ c.if-is_no_goal.false) c.in-Ok.name.now
    (subst (λ (w : List ℕ). name_of place w ≡ Ok c.in-Ok.name.now) c.as_bytes.ensures.value c.in-Ok.ensures.exact)

pub returns-in-Err-ArchiveMember : goal.returns-in-Err-ArchiveMember
returns-in-Err-ArchiveMember c =
    let place : Place = record { file = c.in_ok-file.file; line = c.args.number } in
    goal_member c.args.number c.args.word.now c.in_ok-file.file c.in_ok-file.ensures (sym c.is_no_goal.ensures ∙ c.if-is_no_goal.false) c.in-Err-ArchiveMember.place c.in-Err-ArchiveMember.field-0-1
    (subst (λ (fault : ReadFault). reading.Fails fault (name_of place c.args.word.now)) c.in-Err-ArchiveMember.field-0-is
    (subst (λ (w : List ℕ). reading.Fails c.in-Err-ArchiveMember.field-0 (name_of place w)) c.as_bytes.ensures.value c.in-Err-ArchiveMember.ensures.exact))

pub returns-in-Err-BadName : goal.returns-in-Err-BadName
returns-in-Err-BadName c =
    let place : Place = record { file = c.in_ok-file.file; line = c.args.number } in
    goal_bad c.args.number c.args.word.now c.in_ok-file.file c.in_ok-file.ensures (sym c.is_no_goal.ensures ∙ c.if-is_no_goal.false) c.in-Err-BadName.place c.in-Err-BadName.field-0-1
    (subst (λ (fault : ReadFault). reading.Fails fault (name_of place c.args.word.now)) c.in-Err-BadName.field-0-is
    (subst (λ (w : List ℕ). reading.Fails c.in-Err-BadName.field-0 (name_of place w)) c.as_bytes.ensures.value c.in-Err-BadName.ensures.exact))
