use Rattle.std.proofs.Common.{◌≡◌, [], map, string_bytes, rules, refl}
use Rattle.mk_world.specs.First.{reads_of, writes_of}
use Rattle.mk_world.proofs.FirstDisk.{node_named, on_ok}
use Rattle.mk_world.proofs.first.add_node.Goals as goal

pub returns-then-not-node : goal.returns-then-not-node
returns-then-not-node c =
    let s = c.args.setting.now in
    let n = c.args.node.now in
    let reads : [] ≡ reads_of s n = search rules in
    let writes : [] ≡ writes_of s n = search rules in
    node_named s n c.args.names.now _ _ c.insert.new.self c.as_str.result.now [] [] c.as_str.ensures reads writes c.in_ok-insert.ensures.ok refl refl

pub returns-in_default : goal.returns-in_default
returns-in_default c =
    let s = c.args.setting.now in
    let n = c.args.node.now in
    let reads : [] ≡ reads_of s n = search rules in
    let writes : [] ≡ writes_of s n = search rules in
    node_named s n c.args.names.now _ _ c.insert.new.self c.as_str.result.now [] [] c.as_str.ensures reads writes c.in_ok-insert.ensures.ok refl refl

pub returns : goal.returns
returns c =
    let s = c.args.setting.now in
    let n = c.args.node.now in
    let reads : map string_bytes c.deref.result.now ≡ reads_of s n = search rules in
    let writes : map string_bytes c.deref-2.result.now ≡ writes_of s n = search rules in
    on_ok c.insert_all-2.result (λ e. node_named s n c.args.names.now c.insert.new.self c.insert_all.new.self
    c.insert_all-2.new.self c.as_str.result.now (map string_bytes c.deref.result.now)
    (map string_bytes c.deref-2.result.now) c.as_str.ensures reads writes c.in_ok-insert.ensures.ok
    c.in_ok-insert_all.ensures e) c.insert_all-2.ensures
