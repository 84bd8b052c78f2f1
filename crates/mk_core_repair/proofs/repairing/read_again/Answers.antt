use Rattle.std.proofs.Common.{◌∙◌, ℕ, List, ◌∷◌, ◌++◌, inl, refl, ap}
use Rattle.std.proofs.lemmas.Result.{err_from_is_err_and}
use Rattle.mk_core_repair.specs.Amending.{book_names, looked_for}
use Rattle.mk_core_repair.proofs.Answered.{known_names}
use Rattle.mk_core_repair.proofs.repairing.read_again.Goals as goal

pub returns-in_err-own-2-clause-fault : goal.returns-in_err-own-2-clause-fault
returns-in_err-own-2-clause-fault g c =
    let p = err_from_is_err_and c.from_residual-in_err-own-2.result c.from_residual-in_err-own-2.ensures.1 in
    rw (p.1, p.2) (λ told fits. inl refl)

pub returns-in_err-own-2-clause-memory : goal.returns-in_err-own-2-clause-memory
returns-in_err-own-2-clause-memory g c =
    let p = err_from_is_err_and c.from_residual-in_err-own-2.result c.from_residual-in_err-own-2.ensures.1 in
    rw (p.1, p.2) (λ full. refl)

pub returns-in_err-own-2-clause-noted : goal.returns-in_err-own-2-clause-noted
returns-in_err-own-2-clause-noted g c =
    let p = err_from_is_err_and c.from_residual-in_err-own-2.result c.from_residual-in_err-own-2.ensures.1 in
    rw (p.1, p.2) (c.in_ok-known.ensures.noted ∙ c.in_ok-own.ensures.noted)

pub returns-clause-base : goal.returns-clause-base
returns-clause-base g c =
    λ told fits.
    let request = c.args.request.now in
    let name = c.in_ok-own.ensures.name told (c.read.ensures.keeps told fits) in
    let others = looked_for request.makefile ++ (c.args.names.now ++ book_names request.book) in
    c.in_ok-own-2.ensures told others name (c.in_ok-known.ensures.names ∙ (c.in_ok-names.ensures ∙ ap (λ (n : List ℕ). n ∷ others) c.as_str.ensures)) (c.in_ok-known.ensures.cut told fits)

pub returns-clause-names : goal.returns-clause-names
returns-clause-names g c =
    λ told fits.
    let request = c.args.request.now in
    let name = c.in_ok-own.ensures.name told (c.read.ensures.keeps told fits) in
    known_names told request c.args.names.now c.in_ok-known.known.names _ c.as_str.result.now c.in_ok-known.ensures.names c.in_ok-names.ensures (c.as_str.ensures ∙ name)
