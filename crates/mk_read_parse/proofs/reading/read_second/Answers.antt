use Rattle.mk_read.specs.Steps.{seen}
use Rattle.std.proofs.Common.{List, ℕ, codes, map, string_bytes, Some, sym, ap, subst, ◌∙◌}
use Rattle.std.specs.Option.{option_map}
use Rattle.std.proofs.lemmas.Result.{err_from_is_err_and}
use Rattle.mk_read.specs.Files.{IfFits}
use Rattle.mk_read.specs.Following.{Follows}
use Rattle.mk_read.specs.Reading.{reading}
use Rattle.mk_read.specs.State.{State}
use Rattle.mk_read_parse.specs.Views.{begun}
use Rattle.mk_read_parse.proofs.OwnText.{second_unread, second_found, second_absent}
use Rattle.mk_read_parse.proofs.reading.read_second.Goals as goal

pub returns-in_err-text-clause-follows : goal.returns-in_err-text-clause-follows
returns-in_err-text-clause-follows g c =
    let p = err_from_is_err_and c.from_residual.result c.from_residual.ensures.1 in
    rw (p.1, p.2) (second_unread c.args.state.now (g.F.Files.fits c.makefile_at.new.files) c.in_err-text.field-0.0 c.in_err-text.ensures.fault)

pub returns-in_ok-state-inside-in-Some-clause-follows : goal.returns-in_ok-state-inside-in-Some-clause-follows
returns-in_ok-state-inside-in-Some-clause-follows g c =
    second_found c.args.state.now (g.F.Files.fits c.makefile_at.new.files) (g.F.Files.fits c.read_own_text.new.files)
    c.deref.result.now (seen (λ done. c.read_own_text.new.state) c.read_own_text.result)
    c.read_own_text.ensures.keeps (λ told e. (ap (λ text. Some text) c.deref.ensures.value
    ∙ ap (option_map (λ text. text.items)) (sym c.in-Some.is))
    ∙ c.in_ok-text.ensures.text told e)
    (subst (λ (missing : List (List ℕ)). IfFits (g.F.Files.fits c.read_own_text.new.files)
    (λ told. Follows told (λ reader. reading 16 reader (codes "Makefile") c.deref.result.now
    (begun (record c.args.state.now { missing = missing }) (codes "Makefile")))
    (begun (record c.args.state.now { missing = missing }) (codes "Makefile"))
    (seen (λ done. c.read_own_text.new.state) c.read_own_text.result)))
    c.in_ok-state-inside-in-Some.ensures
    (subst (λ (s : State). IfFits (g.F.Files.fits c.read_own_text.new.files)
    (λ told. Follows told (λ reader. reading 16 reader (codes "Makefile") c.deref.result.now
    (begun (record s { missing = map string_bytes c.in_ok-state-inside-in-Some.field-0.items })
    (codes "Makefile"))) (begun (record s {
      missing = map string_bytes
          c.in_ok-state-inside-in-Some.field-0.items;
    }) (codes "Makefile"))
    (seen (λ done. c.read_own_text.new.state) c.read_own_text.result))) c.state.view_is
    c.read_own_text.ensures.follows))

pub returns-in-None-clause-follows : goal.returns-in-None-clause-follows
returns-in-None-clause-follows g c =
    second_absent c.args.state.now (g.F.Files.fits c.makefile_at.new.files)
    (λ told e. ap (option_map (λ text. text.items))
    (sym c.in-None.is) ∙ c.in_ok-text.ensures.text told e)
