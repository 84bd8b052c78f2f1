use Rattle.std.proofs.Common.{◌≡◌, List, [], ℕ, map, string_bytes, ap, ◌∙◌, subst}
use Rattle.std.specs.Prelude.{IfOk, fold}
use Rattle.std.specs.List.{flat_map}
use Rattle.mk_lines.proofs.Once.{once-fold_append}
use Rattle.mk_foot.specs.Names.{with_name}
use Rattle.mk_foot.specs.Reading.{listed}
use Rattle.mk_foot.proofs.reading.reads_of.Goals as goal

pub returns : goal.returns
returns c =
    let own : map string_bytes c.deref.result.now ≡ map string_bytes c.args.reads.own.items = ap (map string_bytes) c.deref.ensures.value in
    let others : map string_bytes c.deref-2.result.now ≡ map string_bytes c.args.reads.shared.items = ap (map string_bytes) c.deref-2.ensures.value in
    let listed_too = flat_map (listed c.args.lists.now) (map string_bytes c.args.reads.shared.items) in
    let first : c.insert_all.new.self ≡ fold with_name [] (map string_bytes c.args.reads.own.items) = c.in_ok-insert_all.ensures ∙ (ap (λ (s : List (List ℕ)). fold with_name s (map string_bytes c.deref.result.now)) c.in_ok-set.ensures ∙ ap (fold with_name []) own) in
    let both : c.insert_listed.new.set ≡ fold with_name (fold with_name [] (map string_bytes c.args.reads.own.items)) listed_too = c.in_ok-insert_listed.ensures ∙ (ap (λ (names : List (List ℕ)). fold with_name c.insert_all.new.self (flat_map (listed c.args.lists.now) names)) others ∙ ap (λ (s : List (List ℕ)). fold with_name s listed_too) first) in
    let kept = c.as_slice.ensures ∙ (both ∙ once-fold_append (map string_bytes c.args.reads.own.items) listed_too) in
    subst (λ (ns : List (List ℕ)). IfOk c.copied.result (λ reads. map string_bytes reads.items ≡ ns)) kept c.copied.ensures
