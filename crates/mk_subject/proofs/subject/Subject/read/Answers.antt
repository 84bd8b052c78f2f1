-- The file at the place of a read.
use Rattle.std.proofs.Common.{◌≡◌, ◌∙◌, ◌<◌, [], ℕ, List, ap, get_or, length, arith}
use Rattle.std.specs.Prelude.{slice_get}
use Rattle.mk_lemmas.proofs.Texts.{texts}
use Rattle.mk_subject.specs.NodeRow.{NodeRow}
use Rattle.mk_subject.specs.FileInfo.{known_of}
use Rattle.mk_subject.specs.Subject.{reads_of}
use Rattle.mk_subject.specs.Target.{target_of}
use Rattle.mk_subject.proofs.Entries.{same_reads}
use Rattle.mk_subject.proofs.KnownFiles.{FileAt, file_at}
use Rattle.mk_subject.proofs.TablesOf.{files_held}
use Rattle.mk_subject.proofs.subject.Subject.read.Goals as goal

pub bounds-at-place : goal.bounds-at-place
bounds-at-place c =
    let x = c.args.self.now in
    let e = c.args.row.now in
    let t = c.self.inside.tables in
    let n = c.row.inside.number in
    let number : n ≡ e.number = ap (λ (k : NodeRow). k.number) c.row.view_is in
    let held = files_held _ x t c.self.view_is c.self.invariant in
    let names = texts t.files.names.keys in
    let row = get_or t.files.reads n [] in
    let files = reads_of x n in
    let low : c.args.place < length files = omega (arith, c.requires.place, ap (λ (l : List (List ℕ)). length l) (same_reads x e c.requires.row), ap (λ (k : ℕ). length (reads_of x k)) number) in
    let at : FileAt names t.files.known.items row files c.args.place = file_at (known_of x) names t.files.known.items row files c.args.place held.known_held (held.reads_held n) low in
    omega (arith, at.place, ap (λ (l : List ℕ). length l) c.at.ensures)

pub target_at-requires : goal.target_at-requires
target_at-requires c =
    let x = c.args.self.now in
    let e = c.args.row.now in
    let t = c.self.inside.tables in
    let n = c.row.inside.number in
    let number : n ≡ e.number = ap (λ (k : NodeRow). k.number) c.row.view_is in
    let held = files_held _ x t c.self.view_is c.self.invariant in
    let names = texts t.files.names.keys in
    let row = get_or t.files.reads n [] in
    let files = reads_of x n in
    let low : c.args.place < length files = omega (arith, c.requires.place, ap (λ (l : List (List ℕ)). length l) (same_reads x e c.requires.row), ap (λ (k : ℕ). length (reads_of x k)) number) in
    let at : FileAt names t.files.known.items row files c.args.place = file_at (known_of x) names t.files.known.items row files c.args.place held.known_held (held.reads_held n) low in
    omega (arith, at.within, ap (λ (l : List ℕ). get_or l c.args.place 0) c.at.ensures)

pub returns : goal.returns
returns c =
    let x = c.args.self.now in
    let e = c.args.row.now in
    let t = c.self.inside.tables in
    let n = c.row.inside.number in
    let number : n ≡ e.number = ap (λ (k : NodeRow). k.number) c.row.view_is in
    let held = files_held _ x t c.self.view_is c.self.invariant in
    let names = texts t.files.names.keys in
    let row = get_or t.files.reads n [] in
    let files = reads_of x n in
    let low : c.args.place < length files = omega (arith, c.requires.place, ap (λ (l : List (List ℕ)). length l) (same_reads x e c.requires.row), ap (λ (k : ℕ). length (reads_of x k)) number) in
    let at : FileAt names t.files.known.items row files c.args.place = file_at (known_of x) names t.files.known.items row files c.args.place held.known_held (held.reads_held n) low in
    c.target_at.ensures x (get_or files c.args.place []) held.known_held (ap (λ (l : List ℕ). slice_get names (get_or l c.args.place 0)) c.at.ensures ∙ at.here) ∙ ap (λ (k : ℕ). target_of x (get_or (reads_of x k) c.args.place [])) number
