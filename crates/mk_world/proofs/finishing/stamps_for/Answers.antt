use Rattle.std.proofs.Common.{◌++◌, ◌+◌, map, string_bytes, drop, get_or, sym, ap, ◌∙◌, List, ℕ}
use Rattle.std.proofs.lemmas.List.{append-nil, drop_more}
use Rattle.mk_world.specs.Running.{new_stamps}
use Rattle.mk_world.proofs.FirstDisk.{nothing_left}
use Rattle.mk_world.proofs.Stamps.{one_stamp}
use Rattle.mk_world.proofs.finishing.stamps_for.Goals as goal

pub loop-file-init : goal.loop-file-init
loop-file-init c =
    let files = map string_bytes c.args.files.now in
    ap (λ (l : List ℕ). l ++ new_stamps c.clock-last.result files) c.in_ok-stamps.ensures.items ∙ ap (λ n. new_stamps n files) c.clock-last.ensures

pub loop-file-preserved : goal.loop-file-preserved
loop-file-preserved c =
    let files = c.args.files.now in
    let i = c.loop-file._file-index in
    let is = ap (map string_bytes) (drop_more files i c._file-item.result c.loop-file-test.true) in
    let one = one_stamp c.loop-file.stamps.items c.loop-file.last (string_bytes (get_or files i c._file-item.result)) (map string_bytes (drop (i + 1) files)) (map string_bytes (drop i files)) (new_stamps c.args.disk.now.clock (map string_bytes files)) is c.loop-file.invariant in
    rw (c.in_ok-push.ensures.items, c.saturating_add-last.ensures) one

pub returns : goal.returns
returns c =
    sym (append-nil c.loop-file.stamps.items) ∙ (ap (λ l. c.loop-file.stamps.items ++ new_stamps c.loop-file.last l) (sym (nothing_left string_bytes c.args.files.now c.loop-file._file-index c.loop-file-test.false)) ∙ c.loop-file.invariant)
