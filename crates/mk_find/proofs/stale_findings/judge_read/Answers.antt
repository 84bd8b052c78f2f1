-- A read to whose file a path leads isn't stale, and where one is found to be stale something is
-- found.
use Rattle.std.proofs.Common.{◌∷◌, [], ℕ, inl, refl, subst}
use Rattle.mk_find.specs.Candidates.{stale}
use Rattle.mk_find.specs.Conditions.{IsStale}
use Rattle.mk_find.specs.declared.read_status.ReadStatus.{ReadStatus}
use Rattle.mk_find.specs.declared.read_status.ReadStatus.TheVariants.{Fixed, HasWay}
use Rattle.mk_find.specs.ReadStatus.{IsReadStatus}
use Rattle.mk_find.proofs.Adding.{adds_none}
use Rattle.mk_find.proofs.AddingEntries.{nothing_kept}
use Rattle.mk_find.proofs.Noting.{path_not_stale}
use Rattle.mk_find.proofs.stale_findings.judge_read.Goals as goal

pub returns-in-Fixed-clause-found : goal.returns-in-Fixed-clause-found
returns-in-Fixed-clause-found c =
    let x = c.args.read.now.subject.now in
    let f = c.args.read.now.file.file in
    let t = c.args.read.now.row.now.number in
    let at = subst (λ (n : ℕ). IsReadStatus x n f c.in_ok-read_status_of.field-0) c.requires.start c.in_ok-read_status_of.ensures.standing in
    let so : IsReadStatus x t f Fixed = subst (λ (s : ReadStatus). IsReadStatus x t f s) c.in-Fixed.is at in
    adds_none x (stale t f) c.args.found.now (λ is. so is.1)

pub returns-in-HasWay-clause-found :
    goal.returns-in-HasWay-clause-found
returns-in-HasWay-clause-found c =
    let x = c.args.read.now.subject.now in
    let f = c.args.read.now.file.file in
    let t = c.args.read.now.row.now.number in
    let p = c.in-HasWay.path in
    let at = subst (λ (n : ℕ). IsReadStatus x n f c.in_ok-read_status_of.field-0) c.requires.start c.in_ok-read_status_of.ensures.standing in
    let so : IsReadStatus x t f (HasWay p) = subst (λ (s : ReadStatus). IsReadStatus x t f s) c.in-HasWay.is at in
    adds_none x (stale t f) c.args.found.now (path_not_stale c.paths_are_ways.ensures x f t p.nodes.items p.finish so.1)

pub returns-in-HasWay-2-clause-found : goal.returns-in-HasWay-2-clause-found
returns-in-HasWay-2-clause-found c =
    let x = c.args.read.now.subject.now in
    let f = c.args.read.now.file.file in
    let t = c.args.read.now.row.now.number in
    let p = c.in-HasWay-2.field-0 in
    let at = subst (λ (n : ℕ). IsReadStatus x n f c.in_ok-read_status_of.field-0) c.requires.start c.in_ok-read_status_of.ensures.standing in
    let so : IsReadStatus x t f (HasWay p) = subst (λ (s : ReadStatus). IsReadStatus x t f s) c.in-HasWay-2.is at in
    adds_none x (stale t f) c.args.found.now (path_not_stale c.paths_are_ways.ensures x f t p.nodes.items p.finish so.1)

pub returns-in_ok-note_stale-in-Stale-clause-path :
    goal.returns-in_ok-note_stale-in-Stale-clause-path
returns-in_ok-note_stale-in-Stale-clause-path c = λ empty needed.
    let x = c.args.read.now.subject.now in
    let f = c.args.read.now.file.file in
    let t = c.args.read.now.row.now.number in
    let at = subst (λ (n : ℕ). IsReadStatus x n f c.in_ok-read_status_of.field-0) c.requires.start c.in_ok-read_status_of.ensures.standing in
    let so : IsStale x t f = subst (λ (s : ReadStatus). IsReadStatus x t f s) c.in-Stale.is at in
    let added = c.in_ok-note_stale-in-Stale.ensures x c.requires.read.row so in
    (c.listed_exactly.ensures x (stale t f ∷ []) [] (nothing_kept x (stale t f ∷ []) c.args.found.now c.note_stale.new.found added empty) (stale t f)).1 (inl refl, so)
