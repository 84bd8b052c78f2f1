-- A name that is found is one of the files, and one that isn't is of none.
use Rattle.std.proofs.Common.{◌≡◌, ◌<◌, ℕ, List, true, ap, sym, length, arith}
use Rattle.std.specs.Borrow.{Bor}
use Rattle.std.specs.Str.{bytes_eq}
use Rattle.std.proofs.lemmas.List.{length-map}
use Rattle.std.proofs.lemmas.Option.{slice_get_within}
use Rattle.mk_lemmas.proofs.Texts.{texts}
use Rattle.mk_lemmas.proofs.Lists.{find-passes}
use Rattle.mk_subject.specs.FileInfo.{FileInfo, known_of}
use Rattle.mk_subject.proofs.KnownFiles.{met, not_spelled, stand_among}
use Rattle.mk_subject.proofs.TablesOf.{files_held}
use Rattle.mk_subject.proofs.subject.Subject.file.Goals as goal

pub target_at-requires : goal.target_at-requires
target_at-requires c =
    let x = c.args.self.now in
    let t = c.self.inside.tables in
    let held = files_held _ x t c.self.view_is c.self.invariant in
    let keys = t.files.names.keys in
    let low : c.in-Some.at < length keys = slice_get_within keys c.in-Some.at _ c.in-Some.ensures.stored in
    omega (arith, low, ap (λ (l : List FileInfo). length l) held.known_held, length-map (texts keys) (known_of x), length-map keys (λ (key : Bor (List ℕ)). key.now))

pub returns-in-Some : goal.returns-in-Some
returns-in-Some c =
    let x = c.args.self.now in
    let t = c.self.inside.tables in
    let held = files_held _ x t c.self.view_is c.self.invariant in
    let keys = t.files.names.keys in
    let name = c.args.name.now in
    let own = c.in-Some.field-0-1.now in
    let same : bytes_eq name own.now ≡ true = find-passes (λ (key : Bor (List ℕ)). bytes_eq name key.now) keys own (sym c.in-Some.ensures.key) in
    c.target_at.ensures x name held.known_held (met keys c.in-Some.at name own c.in-Some.ensures.stored same)

pub returns-in-None : goal.returns-in-None
returns-in-None c = λ t.
    let x = c.args.self.now in
    let tables = c.self.inside.tables in
    let held = files_held _ x tables c.self.view_is c.self.invariant in
    let keys = tables.files.names.keys in
    let out = not_spelled keys c.args.name.now (sym c.in-None.ensures.found) in (
      λ h. out (stand_among (texts keys) _ _ (held.writes_held t) c.args.name.now h),
      λ h. out (stand_among (texts keys) _ _ (held.reads_held t) c.args.name.now h),
    )
