-- The graph is selected on each disk of a build.
use Rattle.std.proofs.Common.{◌≡◌, ◌∙◌, ℕ, Bool, true, false, List, [], ◌++◌, Option, None, Ok, cond, map, inl, inr, refl, sym, ap}
use Rattle.std.specs.Prelude.{◌||◌, ◌&&◌, bytes_eq, find}
use Rattle.std.specs.Option.{option_map}
use Rattle.std.proofs.lemmas.List.Folds.{list_any-append}
use Rattle.mk_lemmas.proofs.Members.{Has-left, Has-right}
use Rattle.mk_lines.proofs.NameTests.{Has-from_has_name}
use Rattle.mk_lines.specs.Names.{begins_with_any, has_name}
use Rattle.mk_graph.specs.Graph.{Graph, IsGraph}
use Rattle.mk_graph.specs.Membership.{Has, IsWithin}
use Rattle.mk_build.specs.Setting.{FileName}
use Rattle.mk_build.specs.Steps.{Step, IsLegal, disk_after}
use Rattle.mk_build.specs.World.{Disk, Idle, IsStartDisk}
use Rattle.mk_read.specs.Reading.{Makefile}
use Rattle.mk_read.specs.Rules.{has_some}
use Rattle.mk_infer.specs.Inference.{choice, commands_from, may_infer, stem}
use Rattle.mk_infer.specs.Laws.{GraphStaysSelected, NodesKeepTheirChoices, PartsStaySelected, StaysSelected, with_more}
use Rattle.mk_infer.specs.Selection.{Selects}
use Rattle.mk_infer.specs.Targets.{is_target}
use Rattle.mk_infer.specs.There.{Exists, is_there}
use Rattle.mk_subject.specs.Subject.{all_writes, Subject, IsSubject, footprints, name_of}
use Rattle.mk_subject.specs.Laws.{AllWritesExactly}
use Rattle.mk_cert.specs.Laws.{VerifiedIsRight}
use Rattle.mk_cert_laws.specs.Disks.{AreThere, IsKnown, IsSelectedAnew, PartsAreSelectedAnew}
use Rattle.mk_cert_laws.specs.Laws.{AcceptedIsSelectedAnew, FilesAreKnown}

-- ---- names that are there already

-- of lists one behind the other
has_either : (xs ys : List (List ℕ)) (f : List ℕ) → has_name (xs ++ ys) f ≡ (has_name xs f || has_name ys f)
has_either xs ys f = list_any-append (λ other. bytes_eq f other) xs ys

nothing_new : (a b t w : Bool) → (a || (b || (t || (w || (a || b))))) ≡ (a || (b || (t || w)))
nothing_new true b t w = refl
nothing_new false true t w = refl
nothing_new false false true w = refl
nothing_new false false false true = refl
nothing_new false false false false = refl

-- the sources and the texts behind other names
abbrev and_given : Exists → List (List ℕ) → List (List ℕ)
and_given e names = names ++ (e.sources ++ e.texts)

same_there : (m : Makefile) (e : Exists) (names : List (List ℕ)) (f : List ℕ) → is_there m (with_more e (and_given e names)) f ≡ is_there m (with_more e names) f
same_there m e names f =
    let at : Bool → Bool = λ (b : Bool). has_name e.sources f || (has_name e.texts f || (is_target m f || b)) in
    ap at (has_either names (e.sources ++ e.texts) f ∙ ap (λ (b : Bool). has_name names f || b) (has_either e.sources e.texts f))
    ∙ nothing_new (has_name e.sources f) (has_name e.texts f) (is_target m f) (has_name names f)

same_choice : (m : Makefile) (e : Exists) (names : List (List ℕ)) (name : List ℕ) → choice m (with_more e (and_given e names)) name ≡ choice m (with_more e names) name
unfolding choice
same_choice m e names name =
    let by : (List ℕ → Bool) → Option (List ℕ) = λ (there : List ℕ → Bool). option_map (λ suffix. stem m name ++ suffix) (cond (may_infer m e name) (find (λ suffix. has_some (commands_from m name suffix) && there (stem m name ++ suffix)) m.suffixes) None) in
    ap by (λ i f. same_there m e names f i)

-- ---- disks

module _ (graph_stays : GraphStaysSelected) (parts_stay : PartsStaySelected) (exactly : AllWritesExactly) (known : FilesAreKnown) (x : Subject) (is : IsGraph x.graph) (subject : IsSubject x)
    (stays : StaysSelected x.makefile x.there (all_writes x) (map (name_of x) x.graph.goals) x.graph) where
  -- what may be on a disk, beside files under fixed prefixes
  abbrev on_disks : List (List ℕ)
  on_disks = and_given x.there (all_writes x)

  selected_bare : Selects x.makefile (with_more x.there []) (map (name_of x) x.graph.goals) (Ok x.graph)
  selected_bare = (stays [] (λ f h. absurd h)).selected

  keeps : NodesKeepTheirChoices x.makefile x.there on_disks x.graph
  keeps n low = sym ((stays (all_writes x) (λ f h. h)).choices n low) ∙ sym (same_choice x.makefile x.there (all_writes x) (name_of x n))

  -- a file that is given and under no fixed prefix is a source or a text
  given_there : (f : FileName) (a b c : Bool) → has_name x.there.sources f ≡ a → has_name x.there.texts f ≡ c → b ≡ false → (a || (b || c)) ≡ true → Has (x.there.sources ++ x.there.texts) f
  given_there f true b c source text fixed e = Has-left x.there.sources x.there.texts f (Has-from_has_name x.there.sources f source)
  given_there f false true c source text fixed e = absurd (let k : true ≡ false = fixed in cc)
  given_there f false false c source text fixed e = Has-right x.there.sources x.there.texts f (Has-from_has_name x.there.texts f (text ∙ e))

  known_there : (f : FileName) → IsKnown x.graph (footprints x.setting) f → begins_with_any x.setting.fixed f ≡ false → Has on_disks f
  known_there f (inl given) fixed =
      Has-right (all_writes x) (x.there.sources ++ x.there.texts) f
      (given_there f (has_name x.setting.sources f) (begins_with_any x.setting.fixed f) (has_name x.setting.texts f) (ap (λ (l : List (List ℕ)). has_name l f) subject.sources) (ap (λ (l : List (List ℕ)). has_name l f) subject.texts) fixed given)
  known_there f (inr written) fixed = Has-left (all_writes x) (x.there.sources ++ x.there.texts) f ((exactly x is f).1 written)

  -- what is on a disk is one of these
  within : (d : Disk) (steps : List Step) → IsStartDisk (footprints x.setting) d → IsLegal x.graph (footprints x.setting) (Idle d) steps → (files : List FileName)
      → AreThere x (disk_after x.graph (footprints x.setting) d steps) files → IsWithin files on_disks
  within d steps start legal files there f h =
      let on = there f h in known_there f (known x.graph (footprints x.setting) d steps start legal f on.0) on.1

  anew : (goals : List (List ℕ)) (g : Graph) → StaysSelected x.makefile x.there on_disks goals g → IsSelectedAnew x goals g
  anew goals g stay d steps start legal files there = stay files (within d steps start legal files there)

  whole_anew : IsSelectedAnew x (map (name_of x) x.graph.goals) x.graph
  whole_anew = anew (map (name_of x) x.graph.goals) x.graph (graph_stays x.makefile x.there on_disks (map (name_of x) x.graph.goals) x.graph selected_bare keeps)

  parts_anew : PartsAreSelectedAnew x (map (name_of x) x.graph.goals)
  parts_anew some few =
      let found = parts_stay x.makefile x.there on_disks (map (name_of x) x.graph.goals) some x.graph selected_bare keeps few in
      (found.0, found.1, anew some found.0 found.2)

pub accepted_is_selected_anew : GraphStaysSelected → PartsStaySelected → AllWritesExactly → FilesAreKnown → VerifiedIsRight → AcceptedIsSelectedAnew
accepted_is_selected_anew graph_stays parts_stay exactly known right x c is subject accepted =
    let stays = (right x c is subject accepted).2 in
    (whole_anew graph_stays parts_stay exactly known x is subject stays, parts_anew graph_stays parts_stay exactly known x is subject stays)
