use Rattle.mk_read.specs.Files.{IfFits}
use Rattle.mk_read.specs.Steps.{seen}
use Rattle.std.proofs.Common.{List, ℕ, false, map, string_bytes, ◌∷◌, [], subst}
use Rattle.mk_read.specs.Following.{Follows, below}
use Rattle.mk_read.specs.Reading.{with_text}
use Rattle.mk_read.specs.State.{State}
use Rattle.mk_read_parse.specs.Views.{begun}
use Rattle.mk_read_parse.proofs.OwnText.{as_reading}
use Rattle.mk_read_parse.proofs.reading.read_own_text.Goals as goal

pub returns-clause-follows : goal.returns-clause-follows
returns-clause-follows g c =
    let by_view = subst (λ (s : State). IfFits (g.F.Files.fits c.read_text.new.files)
    (λ told. Follows told (λ reader. with_text reader (below 16 reader)
    (record { file = c.in_ok-file.file; default = false }) c.args.text.now
    (record s { texts = map string_bytes c.in_ok-texts.texts.items }))
    (record s { texts = map string_bytes c.in_ok-texts.texts.items })
    (seen (λ done. c.read_text.new.state) c.read_text.result))) c.state.view_is
    c.read_text.ensures.follows in
    let by_texts = subst (λ (texts : List (List ℕ)). IfFits (g.F.Files.fits c.read_text.new.files)
    (λ told. Follows told (λ reader. with_text reader (below 16 reader)
    (record { file = c.in_ok-file.file; default = false }) c.args.text.now
    (record c.own.new.self { texts = texts })) (record c.own.new.self { texts = texts })
    (seen (λ done. c.read_text.new.state) c.read_text.result))) c.in_ok-texts.ensures by_view in
    let by_state = subst (λ (s : State). IfFits (g.F.Files.fits c.read_text.new.files)
    (λ told. Follows told (λ reader. with_text reader (below 16 reader)
    (record { file = c.in_ok-file.file; default = false }) c.args.text.now
    (record s { texts = c.args.name.now ∷ [] })) (record s { texts = c.args.name.now ∷ [] })
    (seen (λ done. c.read_text.new.state) c.read_text.result))) c.in_ok-own.ensures by_texts in
    let by_file = subst (λ (name : List ℕ). IfFits (g.F.Files.fits c.read_text.new.files)
    (λ told. Follows told (λ reader. with_text reader (below 16 reader)
    (record { file = name; default = false }) c.args.text.now (begun c.args.state.now c.args.name.now))
    (begun c.args.state.now c.args.name.now) (seen (λ done. c.read_text.new.state) c.read_text.result)))
    c.in_ok-file.ensures by_state in
    as_reading (g.F.Files.fits c.read_text.new.files) 16 c.args.name.now c.args.text.now (begun c.args.state.now c.args.name.now) (seen (λ done. c.read_text.new.state) c.read_text.result) by_file
