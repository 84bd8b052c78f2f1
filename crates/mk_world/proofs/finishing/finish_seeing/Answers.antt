use Rattle.std.proofs.Common.{◌≡◌, ◌<◌, List, Option, Some, ℕ, length, ◌∙◌, ap, map, refl, sym, subst}
use Rattle.std.proofs.lemmas.Bool.{false≢true}
use Rattle.std.proofs.lemmas.Result.{err_from_is_err_and}
use Rattle.mk_graph.specs.Membership.{Has}
use Rattle.mk_build.specs.Steps.{Look, End}
use Rattle.mk_build.specs.SerialMake.{puts}
use Rattle.mk_build.specs.Setting.{reads, writes}
use Rattle.mk_world.specs.State.{busy, setting, making_of, disk_of, MakeState, DiskState, run_at, with_run}
use Rattle.mk_world.proofs.InTurn.{finish_short, finish_all, finish_stops, turn_one, on_errors}
use Rattle.mk_world.proofs.Looks.{looks_taken, looks_seen, still_seen, still_runs, rest_refused}
use Rattle.mk_world.proofs.finishing.finish_seeing.Goals as goal

pub returns-then-not-is_running-clause-takes : goal.returns-then-not-is_running-clause-takes
returns-then-not-is_running-clause-takes c =
    let scene = c.args.placed.now.scene.now in
    let t = c.args.sight.recipe in
    let g = scene.graph in
    let s = setting scene in
    rest_refused g s (making_of scene c.args.making.now) (disk_of c.args.disk.now) t (reads g s t) (writes g s t) c.args.contents.now (λ h. false≢true (c.if-not-is_running.ensures.1 h))

pub returns-in_err-looks-clause-takes : goal.returns-in_err-looks-clause-takes
returns-in_err-looks-clause-takes c =
    let scene = c.args.placed.now.scene.now in
    let t = c.args.sight.recipe in
    let g = scene.graph in
    let s = setting scene in
    let p = err_from_is_err_and c.from_residual.result c.from_residual.ensures.1 in
    rw (p.1, p.2) (finish_short g s (busy scene c.args.making.now c.args.disk.now) (map (λ f. Look t f) (reads g s t)) (puts t (writes g s t) c.args.contents.now) (End t))

pub returns-in_err-put_all-clause-takes : goal.returns-in_err-put_all-clause-takes
returns-in_err-put_all-clause-takes c =
    let scene = c.args.placed.now.scene.now in
    let m = c.args.making.now in
    let mid = c.look_at_all.new.self in
    let d = c.args.disk.now in
    let t = c.args.sight.recipe in
    let seen = c.args.sight.seen.items in
    let g = scene.graph in
    let s = setting scene in
    let runs = c.if-not-is_running.ensures.0 refl in
    let low : t < length m.runs = rw c.requires.fits.many c.requires.node in
    let looks : c.in_ok-looks.looks.items ≡ map (λ (x : Option ℕ). Some x) seen = c.in_ok-looks.ensures ∙ ap (map (λ (x : Option ℕ). Some x)) c.deref.ensures.value in
    let becomes : mid ≡ with_run m t (record { looks = map (λ (x : Option ℕ). Some x) seen; puts = (run_at m.runs t).puts }) = c.look_at_all.ensures ∙ ap (λ (l : List (Option (Option ℕ))). with_run m t (record { looks = l; puts = (run_at m.runs t).puts })) looks in
    let taken = looks_taken scene m mid d t seen low c.requires.sees becomes runs in
    let p = err_from_is_err_and c.from_residual-in_err-put_all.result c.from_residual-in_err-put_all.ensures.1 in
    rw (p.1, p.2) (finish_stops g s (busy scene m d) (busy scene mid d) (busy scene c.put_all.new.making c.put_all.new.disk) (map (λ f. Look t f) (reads g s t)) (puts t (writes g s t) c.args.contents.now) (End t) c.in_err-put_all.field-0.0 taken c.in_err-put_all.ensures.takes)

pub end_seeing-requires-clause-runs : goal.end_seeing-requires-clause-runs
end_seeing-requires-clause-runs c =
    let scene = c.args.placed.now.scene.now in
    let m = c.args.making.now in
    let mid = c.look_at_all.new.self in
    let d = c.args.disk.now in
    let t = c.args.sight.recipe in
    let seen = c.args.sight.seen.items in
    let g = scene.graph in
    let s = setting scene in
    let runs = c.if-not-is_running.ensures.0 refl in
    let low : t < length m.runs = rw c.requires.fits.many c.requires.node in
    let looks : c.in_ok-looks.looks.items ≡ map (λ (x : Option ℕ). Some x) seen = c.in_ok-looks.ensures ∙ ap (map (λ (x : Option ℕ). Some x)) c.deref.ensures.value in
    let becomes : mid ≡ with_run m t (record { looks = map (λ (x : Option ℕ). Some x) seen; puts = (run_at m.runs t).puts }) = c.look_at_all.ensures ∙ ap (λ (l : List (Option (Option ℕ))). with_run m t (record { looks = l; puts = (run_at m.runs t).puts })) looks in
    still_runs scene mid c.put_all.new.making d c.put_all.new.disk t (writes g s t) c.args.contents.now c.in_ok-put_all.ensures.takes (subst (λ (k : MakeState). Has k.running t) (sym becomes) runs)

pub end_seeing-requires-clause-seen : goal.end_seeing-requires-clause-seen
end_seeing-requires-clause-seen c =
    let scene = c.args.placed.now.scene.now in
    let m = c.args.making.now in
    let mid = c.look_at_all.new.self in
    let d = c.args.disk.now in
    let t = c.args.sight.recipe in
    let seen = c.args.sight.seen.items in
    let g = scene.graph in
    let s = setting scene in
    let runs = c.if-not-is_running.ensures.0 refl in
    let low : t < length m.runs = rw c.requires.fits.many c.requires.node in
    let looks : c.in_ok-looks.looks.items ≡ map (λ (x : Option ℕ). Some x) seen = c.in_ok-looks.ensures ∙ ap (map (λ (x : Option ℕ). Some x)) c.deref.ensures.value in
    let becomes : mid ≡ with_run m t (record { looks = map (λ (x : Option ℕ). Some x) seen; puts = (run_at m.runs t).puts }) = c.look_at_all.ensures ∙ ap (λ (l : List (Option (Option ℕ))). with_run m t (record { looks = l; puts = (run_at m.runs t).puts })) looks in
    still_seen scene mid c.put_all.new.making d c.put_all.new.disk t (writes g s t) c.args.contents.now c.in_ok-put_all.ensures.takes seen (looks_seen scene m mid d t seen low c.requires.sees becomes)

pub returns-clause-takes : goal.returns-clause-takes
returns-clause-takes c =
    let scene = c.args.placed.now.scene.now in
    let m = c.args.making.now in
    let mid = c.look_at_all.new.self in
    let d = c.args.disk.now in
    let t = c.args.sight.recipe in
    let seen = c.args.sight.seen.items in
    let g = scene.graph in
    let s = setting scene in
    let runs = c.if-not-is_running.ensures.0 refl in
    let low : t < length m.runs = rw c.requires.fits.many c.requires.node in
    let looks : c.in_ok-looks.looks.items ≡ map (λ (x : Option ℕ). Some x) seen = c.in_ok-looks.ensures ∙ ap (map (λ (x : Option ℕ). Some x)) c.deref.ensures.value in
    let becomes : mid ≡ with_run m t (record { looks = map (λ (x : Option ℕ). Some x) seen; puts = (run_at m.runs t).puts }) = c.look_at_all.ensures ∙ ap (λ (l : List (Option (Option ℕ))). with_run m t (record { looks = l; puts = (run_at m.runs t).puts })) looks in
    let taken = looks_taken scene m mid d t seen low c.requires.sees becomes runs in
    let late = busy scene c.put_all.new.making c.put_all.new.disk in
    let new = busy scene c.end_seeing.new.making c.end_seeing.new.disk in
    let same = on_errors c.end_seeing.result (λ (k : MakeState) (e : DiskState). busy scene k e) c.put_all.new.making c.end_seeing.new.making c.put_all.new.disk c.end_seeing.new.disk c.end_seeing.ensures.err c.end_seeing.ensures.disk_err in
    let ends = turn_one scene late new (End t) c.end_seeing.result c.end_seeing.ensures.judged same in
    finish_all g s (busy scene m d) (busy scene mid d) late new (map (λ f. Look t f) (reads g s t)) (puts t (writes g s t) c.args.contents.now) (End t) c.end_seeing.result taken c.in_ok-put_all.ensures.takes ends
