use Rattle.std.proofs.Common.{◌∙◌, ◌≡◌, map, drop, get_or, ap, subst, string_bytes, Ok, Err, ◌+◌}
use Rattle.std.proofs.lemmas.List.{drop_more}
use Rattle.std.proofs.lemmas.Result.{err_from_is_err_and}
use Rattle.mk_build.specs.Setting.{FileName}
use Rattle.mk_build.specs.Steps.{Put}
use Rattle.mk_world.specs.State.{busy, setting}
use Rattle.mk_world.specs.Steps.{Judges}
use Rattle.mk_world.proofs.FirstDisk.{nothing_left}
use Rattle.mk_world.proofs.InTurn.{no_contents, no_files, put_next, put_refused}
use Rattle.mk_world.proofs.finishing.put_all.Goals as goal

pub returns-in_default-clause-takes : goal.returns-in_default-clause-takes
returns-in_default-clause-takes c =
    let scene = c.args.scene.now in
    let files = map string_bytes (drop c.loop-file.file-index c.as_slice-file-items.result.now) in
    c.loop-file.invariant.left _ _ (no_contents scene.graph (setting scene) (busy scene c.loop-file.making c.loop-file.disk) c.args.number files c.loop-file.rest.now c.in_default.len_below)

pub returns-in_err-put-clause-takes : goal.returns-in_err-put-clause-takes
returns-in_err-put-clause-takes c =
    let scene = c.args.scene.now in
    let items = c.as_slice-file-items.result.now in
    let i = c.loop-file.file-index in
    let file = c.file-item.result in
    let old = busy scene c.loop-file.making c.loop-file.disk in
    let new = busy scene c.put.new.making c.put.new.disk in
    let rest = c.loop-file.rest.now in
    let fault = c.in_err-put.field-0.0 in
    let is = ap (map string_bytes) (drop_more items i file c.loop-file-test.true) in
    let judged = subst (λ (f : FileName). Judges scene old new (Put c.args.number f (get_or rest 0 0)) (Err fault)) (c.as_str.ensures.value ∙ ap string_bytes c.file-item.is) c.in_err-put.ensures.judged in
    let same : new ≡ old = λ k. busy scene (c.in_err-put.ensures.err k) (c.in_err-put.ensures.disk_err k) in
    let p = err_from_is_err_and c.from_residual.result c.from_residual.ensures.1 in
    rw (p.1, p.2) (c.loop-file.invariant.left new (Err fault) (put_refused scene old new c.args.number (string_bytes (get_or items i file)) (map string_bytes (drop (i + 1) items)) (map string_bytes (drop i items)) rest fault is c.in-len1-up.len_at_least judged same))

pub loop-file-preserved : goal.loop-file-preserved
loop-file-preserved c =
    let scene = c.args.scene.now in
    let items = c.as_slice-file-items.result.now in
    let i = c.loop-file.file-index in
    let file = c.file-item.result in
    let old = busy scene c.loop-file.making c.loop-file.disk in
    let mid = busy scene c.put.new.making c.put.new.disk in
    let rest = c.loop-file.rest.now in
    let is = ap (map string_bytes) (drop_more items i file c.loop-file-test.true) in
    let judged = subst (λ (f : FileName). Judges scene old mid (Put c.args.number f (get_or rest 0 0)) (Ok tt)) (c.as_str.ensures.value ∙ ap string_bytes c.file-item.is) c.in_ok-put.ensures.judged in
    record {
      fits = c.put.ensures.fits;
      names = c.put.ensures.names ∙ c.loop-file.invariant.names;
      left = λ new r h. c.loop-file.invariant.left new r (put_next scene old mid new c.args.number (string_bytes (get_or items i file)) (map string_bytes (drop (i + 1) items)) (map string_bytes (drop i items)) rest r is c.in-len1-up.len_at_least judged h);
    }

pub returns-clause-takes : goal.returns-clause-takes
returns-clause-takes c =
    let scene = c.args.scene.now in
    let items = c.as_slice-file-items.result.now in
    c.loop-file.invariant.left _ _ (no_files scene.graph (setting scene) (busy scene c.loop-file.making c.loop-file.disk) c.args.number (map string_bytes (drop c.loop-file.file-index items)) c.loop-file.rest.now (nothing_left string_bytes items c.loop-file.file-index c.loop-file-test.false))
