-- Each name has its place in its turn, and those before keep theirs.
use Rattle.std.proofs.Common.{◌≡◌, ◌∙◌, ◌+◌, ◌<◌, ◌≤◌, ◌++◌, ◌∷◌, [], ℕ, List, ap, sym, subst, get_or, length, map, take}
use Rattle.std.proofs.lemmas.List.{take_more, take_all, map_push}
use Rattle.mk_lemmas.proofs.Texts.{texts}
use Rattle.mk_graph.specs.declared.node.Node.{Node}
use Rattle.mk_subject.specs.FileInfo.{StandAt}
use Rattle.mk_subject.proofs.KnownFiles.{keys_more, stand_push}
use Rattle.mk_subject.proofs.files.places_of_nodes.Goals as goal

pub place_for-requires : goal.place_for-requires
place_for-requires c = c.loop-node.invariant.all

pub loop-node-preserved : goal.loop-node-preserved
loop-node-preserved c =
    let name = λ (n : Node). n.name in
    let nodes = c.args.nodes.now in
    let i = c.loop-node.node-index in
    let lt : i < length nodes = c.loop-node-test.true in
    let f = c.as_str.result.now in
    let before = map name (take i nodes) in
    let after : map name (take (i + 1) nodes) ≡ before ++ f ∷ [] = ap (map name) (take_more nodes i c.node-item.result lt) ∙ (map_push name (take i nodes) (get_or nodes i c.node-item.result) ∙ ap (λ (g : List ℕ). before ++ g ∷ []) (ap name (sym c.node-item.is) ∙ sym c.as_str.ensures)) in
    let inv = c.loop-node.invariant in
    let keys = c.place_for.new.files.keys in
    let (rest, grown) = c.in_ok-place.ensures.more in
    let here : StandAt (texts keys) c.loop-node.places.items before = keys_more c.loop-node.files.keys rest keys c.loop-node.places.items before grown inv.here in
    record {
      all = c.in_ok-place.ensures.all;
      here = stand_push (texts keys) c.loop-node.places.items c.push.new.self.items c.in_ok-place.place before (map name (take (i + 1) nodes)) f c.in_ok-push.ensures.items after c.in_ok-place.ensures.here here;
    }

pub returns : goal.returns
returns c =
    let name = λ (n : Node). n.name in
    let nodes = c.args.nodes.now in
    let past : length nodes ≤ c.loop-node.node-index = c.loop-node-test.false in
    let inv = c.loop-node.invariant in
    let all : map name (take c.loop-node.node-index nodes) ≡ map name nodes = ap (map name) (take_all c.loop-node.node-index nodes past) in
    record {
      all = inv.all;
      here = subst (λ (l : List (List ℕ)). StandAt (texts c.loop-node.files.keys) c.loop-node.places.items l) all inv.here;
    }
