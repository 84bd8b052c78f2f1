use Rattle.std.proofs.Common.{◌<◌, ◌∷◌, [], ◌∙◌, map, ap, length, arith}
use Rattle.std.proofs.lemmas.List.{map_push}
use Rattle.mk_lemmas.proofs.Texts.{texts-map_more}
use Rattle.mk_lines.specs.Names.{number_of}
use Rattle.mk_infer_select.proofs.groups.single_groups.Goals as goal

pub loop-name-preserved : goal.loop-name-preserved
loop-name-preserved c =
    let lt : c.loop-name.name-index < length c.args.names.now = omega arith in
    texts-map_more (λ name. number_of c.args.met.now name ∷ []) c.args.names.now c.loop-name.name-index _ (map (λ group. group.items) c.loop-name.groups.items) (map (λ group. group.items) c.push.new.self.items) c.in_ok-vec.field-0.items
    (ap (map (λ group. group.items)) c.in_ok-push.ensures.items ∙ map_push (λ group. group.items) c.loop-name.groups.items c.in_ok-vec.field-0)
    (c.in_ok-vec.ensures.items ∙ ap (λ n. n ∷ []) c.number_of.ensures) c.loop-name.invariant lt
