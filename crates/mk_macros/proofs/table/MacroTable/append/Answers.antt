use Rattle.std.proofs.Common.{◌++◌, ◌∷◌, List, [], ℕ, ap, sym, ◌∙◌, Result, Ok, Err, append_assoc}
use Rattle.std.specs.Prelude.{OnErr}
use Rattle.std.specs.Option.{option_copied_mut}
use Rattle.mk_macros.specs.Views.{macro_of}
use Rattle.mk_macros.proofs.Tables.{none_written, written_same, written_more, text_same}
use Rattle.mk_macros.proofs.table.MacroTable.append.Goals as goal

on_err : {T E : Type 0} (r : Result T E) (P : Type 0) → P → OnErr r P
on_err (Ok x) P p = tt
on_err (Err e) P p = p

pub returns-in_default-clause-ok : goal.returns-in_default-clause-ok
returns-in_default-clause-ok c =
    none_written c.args.name.now c.args.more.now c.self.inside.macros.entries c.get_mut.follows.lender-at-none.entries c.args.self.now (ap (λ m. m.entries) c.get_mut.follows.holds-at-none) (sym c.get_mut.ensures.value ∙ ap option_copied_mut c.in_default.is)
    c.self.view_is

pub returns-in_err-reserve-clause-err : goal.returns-in_err-reserve-clause-err
returns-in_err-reserve-clause-err c =
    let w = record c.in-Some.entry.now { text = c.reserve.new.self } in
    on_err c.from_residual.result _ (written_same c.args.name.now c.self.inside.macros.entries (c.get_mut.follows.lender w).entries c.in-Some.entry.now w c.args.self.now (c.get_mut.follows.holds w).0 (sym c.get_mut.ensures.value ∙ ap option_copied_mut c.in-Some.is)
    c.self.view_is (text_same c.args.name.now c.in-Some.entry.now w c.reserve.ensures.items))

pub returns-clause-ok : goal.returns-clause-ok
returns-clause-ok c =
    let w = record c.in-Some.entry.now { text = c.extend_from_slice.new.self } in
    written_more c.args.name.now c.args.more.now c.self.inside.macros.entries (c.get_mut.follows.lender w).entries c.in-Some.entry.now w c.args.self.now (c.get_mut.follows.holds w).0 (sym c.get_mut.ensures.value ∙ ap option_copied_mut c.in-Some.is) c.self.view_is
    (ap (λ (t : List ℕ). record (macro_of c.args.name.now c.in-Some.entry.now) { text = t })
    (c.in_ok-extend_from_slice.ensures.items ∙ (ap (λ (t : List ℕ). t ++ c.args.more.now)
    (c.in_ok-push.ensures.items ∙ ap (λ (t : List ℕ). t ++ 32 ∷ []) c.reserve.ensures.items)
    ∙ append_assoc c.in-Some.entry.now.text.items (32 ∷ []) c.args.more.now)))
