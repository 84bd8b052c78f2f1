use Rattle.std.proofs.Common.{◌∙◌, List, map}
use Rattle.std.proofs.lemmas.Result.{IfOk-weaker}
use Rattle.mk_claims.specs.Claims.{claim_view}
use Rattle.mk_claims.specs.Grouping.{Group, group_of}
use Rattle.mk_claims.specs.Numbering.{group_number}
use Rattle.mk_claims.specs.Tables.{groups_view, rows_view}
use Rattle.mk_claims.proofs.JoinedClaims.{each_alike}
use Rattle.mk_claims.proofs.numbering.group_numbers.Goals as goal

pub returns : goal.returns
returns c =
    let claims = map claim_view c.args.claims.now in
    let groups : List Group = map group_of (groups_view c.args.groups.now.entries) in
    IfOk-weaker c.numbers_by_rows.result _ _ (λ found is. is ∙ each_alike c.args.set.now claims (group_number (rows_view c.args.rows.now.entries) groups) claims c.requires)
    (c.numbers_by_rows.ensures groups (c.deref.ensures.value ∙ c.in_ok-numbers.ensures))
