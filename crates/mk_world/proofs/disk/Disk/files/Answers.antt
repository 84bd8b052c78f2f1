use Rattle.std.proofs.Common.{◌++◌, List, Bor, ℕ, refl, sym, ap, ◌∙◌}
use Rattle.std.proofs.lemmas.List.{append-nil}
use Rattle.mk_lemmas.proofs.Texts.{texts}
use Rattle.mk_world.specs.State.{DiskState}
use Rattle.mk_world.specs.Listing.{there_among, entry}
use Rattle.mk_world.proofs.FirstDisk.{nothing_left}
use Rattle.mk_world.proofs.Listings.{one_listed}
use Rattle.mk_world.proofs.disk.Disk.files.Goals as goal

pub loop-name-init : goal.loop-name-init
loop-name-init c = ap (λ l. l ++ there_among (entry c.args.self.now) (texts c.as_slice-name-items.result.now)) c.new-files.ensures.items ∙ ap (there_among (entry c.args.self.now)) (c.as_slice-name-items.ensures ∙ ap (λ (d : DiskState). d.names) c.self.view_is)

pub loop-name-preserved : goal.loop-name-preserved
loop-name-preserved c =
    let inside = c.self.inside in
    let d : DiskState = record { names = inside.names; files = inside.files.items; clock = inside.clock; known = inside.known } in
    let so_far = rw (← c.self.view_is) at c.loop-name.invariant in
    rw (← c.self.view_is) (one_listed d c.as_slice-name-items.result.now c.loop-name.name-index _ _
    c.in_ok-copy.copy c.deref.result.now c.in-Some.file c.loop-name.files.items c.push.new.self.items _
    c.loop-name-test.true refl c.deref.ensures.value (sym c.in-Some.is ∙ c.get.ensures)
    c.in_ok-copy.ensures c.in_ok-push.ensures.items so_far)

pub returns : goal.returns
returns c = sym (append-nil c.loop-name.files.items) ∙ (ap (λ t. c.loop-name.files.items ++ there_among (entry c.args.self.now) t) (sym (nothing_left (λ (t : Bor (List ℕ)). t.now) c.as_slice-name-items.result.now c.loop-name.name-index c.loop-name-test.false)) ∙ c.loop-name.invariant)
