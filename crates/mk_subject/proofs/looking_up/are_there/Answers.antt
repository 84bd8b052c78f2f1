use Rattle.std.proofs.Common.{◌≡◌, ◌∙◌, ℕ, List, true, sym, ap, subst, map, take}
use Rattle.std.specs.String.{string_bytes}
use Rattle.std.proofs.lemmas.List.{take_all}
use Rattle.mk_graph.specs.Membership.{Has}
use Rattle.mk_infer.specs.There.{is_there}
use Rattle.mk_subject.proofs.Stays.{in_more}
use Rattle.mk_subject.proofs.looking_up.are_there.Goals as goal

pub loop-file-preserved : goal.loop-file-preserved
loop-file-preserved c =
    in_more (λ (f : List ℕ). is_there c.args.table.now c.args.exists.now f ≡ true) string_bytes
    c.args.files.now c.loop-file.file-index c.file-item.result c.as_str.result.now c.loop-file-test.true
    (c.as_str.ensures.value ∙ ap string_bytes c.file-item.is) (c.is_there.ensures c.if-not-is_there.false)
    c.loop-file.invariant

pub returns : goal.returns
returns c = λ t f h.
    let all : map string_bytes (take c.loop-file.file-index c.args.files.now) ≡ map string_bytes c.args.files.now = ap (map string_bytes) (take_all c.loop-file.file-index c.args.files.now c.loop-file-test.false) in
    c.loop-file.invariant f (subst (λ (l : List (List ℕ)). Has l f) (sym all) h)
