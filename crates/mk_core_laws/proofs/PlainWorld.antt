-- The names of the world of a request's graph are plain paths.
use Rattle.std.proofs.Common.{◌≡◌, ℕ, List, Option, None, Some, Result, Ok, Err, refl, sym, ap, subst}
use Rattle.std.specs.List.{flat_map}
use Rattle.std.specs.Option.{is_none}
use Rattle.mk_foot.specs.Book.{Book, no_book}
use Rattle.mk_foot.specs.Laws as foot
use Rattle.mk_foot.specs.Reading.{book_from}
use Rattle.mk_build.specs.World.{IsOfWorld}
use Rattle.mk_infer.specs.Goals.{goal_names}
use Rattle.mk_infer.specs.NameLaws.{GoalsArePlain, HavePlainNames, NodesHavePlainNames}
use Rattle.mk_infer.specs.Selection.{Selects}
use Rattle.mk_read.specs.Files.{Told}
use Rattle.mk_read.specs.Following.{reader_of}
use Rattle.mk_read.specs.Reading.{Makefile, makefile}
use Rattle.mk_read.specs.RuleLaws.{RuleLinesAreWellNamed, TextsArePlain}
use Rattle.mk_world.specs.State.{setting_of}
use Rattle.mk_core_text.specs.declared.fault.Fault.{Fault}
use Rattle.mk_core_text.specs.declared.fault.Fault.TheVariants.{Read, Infer, Foot}
use Rattle.mk_find_evidence.proofs.PlainNames.{ArePlain, of_world, two_parts}
use Rattle.mk_core_laws.specs.EvidenceLaws.{NamesOfWorldArePlain}
use Rattle.mk_core.specs.FileText.{text_of}
use Rattle.mk_core.specs.Judging.{recorded}
use Rattle.mk_core.specs.Ready as ready_specs
use Rattle.mk_core.specs.Ready.{Ready, book_for, makefile_for}
use Rattle.mk_core.specs.Steps.{◌>>=◌, as_fault}
use Rattle.mk_core.specs.Views.{ready_over, ready_with}

-- ---- steps of a result

bind_ok : {A B : Type 0} (r : Result A Fault) (f : A → Result B Fault) (y : B) → (r >>= f) ≡ Ok y → (x : A) × (r ≡ Ok x) × (f x ≡ Ok y)
bind_ok (Ok x) f y e = (x, refl, e)
bind_ok (Err fault) f y e = absurd cc

own_ok : {A E : Type 0} (named : E → Fault) (r : Result A E) (x : A) → as_fault named r ≡ Ok x → r ≡ Ok x
own_ok {A} {E} named (Ok y) x e = let same : y ≡ x = cc in ap (λ (z : A). let ok : Result A E = Ok z in ok) same
own_ok named (Err fault) x e = absurd cc

-- ---- a request

module _ (rules_named : RuleLinesAreWellNamed) (texts_plain : TextsArePlain) (goals_plain : GoalsArePlain) (nodes_plain : NodesHavePlainNames) (book_plain : foot.NamesReadArePlain) where
  book_of_file : (files : Told) (o : Option (List ℕ)) (goals : List (List ℕ)) (book : Book) → book_for files None o goals ≡ Ok book → ArePlain (foot.names_of book)
  book_of_file files None goals book e = let same : no_book ≡ book = cc in subst (λ b. ArePlain (foot.names_of b)) same refl
  book_of_file files (Some file) goals book e =
      let read = bind_ok (text_of files None file) (λ bytes. as_fault Foot (book_from goals bytes)) book e in
      book_plain goals read.0 book (own_ok Foot (book_from goals read.0) book read.2)

  pub names_of_world_are_plain : NamesOfWorldArePlain
  names_of_world_are_plain files request ready g e selected f of =
      let first = bind_ok (as_fault Read (makefile_for request (reader_of files None))) (ready_over files None request) ready e in
      let m : Makefile = first.0 in
      let second = bind_ok (as_fault Infer (goal_names m request.goals)) (ready_with files None request m) ready first.2 in
      let goals : List (List ℕ) = second.0 in
      let made : Book → Ready = λ book. record { makefile = m; goals = goals; setting = ready_specs.setting_of m book; any_leaf = is_none request.book } in
      let third = bind_ok (book_for files None request.book goals) (λ book. Ok (made book)) ready second.2 in
      let book : Book = third.0 in
      let same : made book ≡ ready = cc in
      let read : makefile (reader_of files None) request.makefile request.defaults request.operands ≡ Ok m = own_ok Read (makefile_for request (reader_of files None)) m first.1 in
      let named = rules_named (reader_of files None) request.makefile request.defaults request.operands m read in
      let texts = texts_plain (reader_of files None) request.makefile request.defaults request.operands m read in
      let parts = two_parts book.sources (flat_map foot.names_of_record book.records) (book_of_file files request.book goals book third.1) in
      let there : HavePlainNames m (recorded (made book)) = record { rules = named; sources = parts.0; texts = texts; more = refl } in
      let chosen = goals_plain m request.goals goals named (own_ok Infer (goal_names m request.goals) goals second.1) in
      let whole : Selects m (recorded (made book)) goals (Ok g) = subst (λ (r : Ready). Selects r.makefile (recorded r) r.goals (Ok g)) (sym same) selected in
      let nodes = nodes_plain m (recorded (made book)) goals g there chosen whole in
      let world : IsOfWorld g (setting_of (made book).setting) f = subst (λ (r : Ready). IsOfWorld g (setting_of r.setting) f) (sym same) of in
      of_world (made book).setting parts.1 g parts.0 nodes f world
