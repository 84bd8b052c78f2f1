use Rattle.std.proofs.Common.{List, [], ℕ, map, string_bytes, ap, ◌≡◌, ◌∙◌, subst}
use Rattle.std.specs.Prelude.{IfOk, fold}
use Rattle.mk_lines.proofs.Once.{once-fold}
use Rattle.mk_foot.specs.Names.{with_name}
use Rattle.mk_foot.proofs.names.once.Goals as goal

pub returns : goal.returns
returns c =
    let own : map string_bytes c.deref-2.result.now ≡ map string_bytes c.args.names.items = ap (map string_bytes) c.deref-2.ensures.value in
    let kept = c.as_slice.ensures ∙ (c.in_ok-insert_all.ensures ∙ (ap (λ (set : List (List ℕ)). fold with_name set (map string_bytes c.deref-2.result.now)) c.in_ok-set.ensures ∙ (ap (fold with_name []) own ∙ once-fold (map string_bytes c.args.names.items)))) in
    subst (λ (ns : List (List ℕ)). IfOk c.copied.result (λ copies. map string_bytes copies.items ≡ ns)) kept c.copied.ensures
