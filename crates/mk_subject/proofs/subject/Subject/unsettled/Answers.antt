use Rattle.std.proofs.Common.{◌≡◌, ◌∙◌, [], ℕ, List, ap, get_or, length, arith}
use Rattle.std.specs.Prelude.{slice_get}
use Rattle.mk_lemmas.proofs.Texts.{texts}
use Rattle.mk_subject.specs.FileInfo.{known_of}
use Rattle.mk_subject.proofs.KnownFiles.{FileAt, file_at}
use Rattle.mk_subject.proofs.TablesOf.{files_held, unsettled_held}
use Rattle.mk_subject.specs.Target.{unsettled_of}
use Rattle.mk_subject.proofs.subject.Subject.unsettled.Goals as goal

pub bounds-at-place : goal.bounds-at-place
bounds-at-place c =
    let x = c.args.self.now in
    let t = c.self.inside.tables in
    let held = files_held _ x t c.self.view_is c.self.invariant in
    let names = texts t.files.names.keys in
    let row = get_or t.unsettled c.args.number [] in
    let files = unsettled_of x c.args.number in
    let at : FileAt names t.files.known.items row files c.args.place = file_at (known_of x) names t.files.known.items row files c.args.place held.known_held (unsettled_held _ x t c.self.view_is c.self.invariant c.args.number) c.requires in
    let same : c.at.result.now ≡ row = c.at.ensures in
    omega (arith, at.place, ap (λ (l : List ℕ). length l) same)

pub offset_bounds-at-place : goal.offset_bounds-at-place
offset_bounds-at-place c =
    let x = c.args.self.now in
    let t = c.self.inside.tables in
    let held = files_held _ x t c.self.view_is c.self.invariant in
    let names = texts t.files.names.keys in
    let row = get_or t.unsettled c.args.number [] in
    let files = unsettled_of x c.args.number in
    let at : FileAt names t.files.known.items row files c.args.place = file_at (known_of x) names t.files.known.items row files c.args.place held.known_held (unsettled_held _ x t c.self.view_is c.self.invariant c.args.number) c.requires in
    let many = c.at.type_inv in
    omega (arith, at.place, ap (λ (l : List ℕ). length l) c.at.ensures, many.0, many.1)

pub target_at-requires : goal.target_at-requires
target_at-requires c =
    let x = c.args.self.now in
    let t = c.self.inside.tables in
    let held = files_held _ x t c.self.view_is c.self.invariant in
    let names = texts t.files.names.keys in
    let row = get_or t.unsettled c.args.number [] in
    let files = unsettled_of x c.args.number in
    let at : FileAt names t.files.known.items row files c.args.place = file_at (known_of x) names t.files.known.items row files c.args.place held.known_held (unsettled_held _ x t c.self.view_is c.self.invariant c.args.number) c.requires in
    let same : c.at.result.now ≡ row = c.at.ensures in
    let place : get_or c.at.result.now c.args.place 0 ≡ get_or row c.args.place 0 = ap (λ (l : List ℕ). get_or l c.args.place 0) same in
    omega (arith, at.within, place)

pub returns : goal.returns
returns c =
    let x = c.args.self.now in
    let t = c.self.inside.tables in
    let held = files_held _ x t c.self.view_is c.self.invariant in
    let names = texts t.files.names.keys in
    let row = get_or t.unsettled c.args.number [] in
    let files = unsettled_of x c.args.number in
    let at : FileAt names t.files.known.items row files c.args.place = file_at (known_of x) names t.files.known.items row files c.args.place held.known_held (unsettled_held _ x t c.self.view_is c.self.invariant c.args.number) c.requires in
    let same : c.at.result.now ≡ row = c.at.ensures in
    c.target_at.ensures x (get_or files c.args.place []) held.known_held (ap (λ (l : List ℕ). slice_get names (get_or l c.args.place 0)) same ∙ at.here)
