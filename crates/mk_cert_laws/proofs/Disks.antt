-- Each file on a disk is given or written.
use Rattle.std.proofs.Common.{◌≡◌, ◌∙◌, ℕ, ◌+◌, Bool, true, false, List, [], ◌∷◌, Option, Some, None, inl, inr, refl, sym, ap, subst}
use Rattle.std.specs.Prelude.{◌||◌, bytes_eq, not}
use Rattle.std.proofs.lemmas.Bool.{and_parts, cond-true, cond-false}
use Rattle.std.proofs.lemmas.Slice.Eq.{bytes_eq-Decides}
use Rattle.mk_lines.specs.Names.{begins_with_any, has_name}
use Rattle.mk_graph.specs.Graph.{Graph}
use Rattle.mk_build.specs.Setting.{FileName, Setting, is_editable, name}
use Rattle.mk_build.specs.Steps.{Step, Edit, Make, Begin, Look, Put, End, Break, Pass, Stop, EndMake, Allowed, IsLegal, after, after_all}
use Rattle.mk_build.specs.World.{Disk, File, World, Idle, Busy, disk_of, written, without}
use Rattle.mk_cert_laws.specs.Disks.{IsKnown, IsOn}
use Rattle.mk_cert_laws.specs.Laws.{FilesAreKnown}

module _ (g : Graph) (s : Setting) where
  -- each file on the disk is given or written
  abbrev AllKnown : Disk → Type 0
  AllKnown d = (f : FileName) → IsOn d f → IsKnown g s f

  -- an editable file is given
  editable_known : (f : FileName) → is_editable s f ≡ true → IsKnown g s f
  editable_known f e =
      let source = (and_parts (has_name s.sources f) (not (has_name s.texts f)) e).0 in
      inl (ap (λ (b : Bool). b || (begins_with_any s.fixed f || has_name s.texts f)) source)

  -- after a write of a file that is given or written
  known_written : (d : Disk) (f : FileName) (c : ℕ) → IsKnown g s f → AllKnown d → AllKnown (written d f c)
  known_written d f c known before other (file, e) = by (bytes_eq f other) refl
    where
      new : Option File
      new = Some (record { content = c; stamp = d.clock + 1 })

      by : (b : Bool) → bytes_eq f other ≡ b → IsKnown g s other
      by true same = subst (λ (h : FileName). IsKnown g s h) ((bytes_eq-Decides f other).0 same) known
      by false differ = before other (file, sym (cond-false (bytes_eq f other) new (d.files other) differ) ∙ e)

  -- after the removal of a file
  known_without : (d : Disk) (f : FileName) → AllKnown d → AllKnown (without d f)
  known_without d f before other (file, e) = by (bytes_eq f other) refl
    where
      by : (b : Bool) → bytes_eq f other ≡ b → IsKnown g s other
      by true same = let gone : None ≡ Some file = sym (cond-true (bytes_eq f other) None (d.files other) same) ∙ e in absurd (cc)
      by false differ = before other (file, sym (cond-false (bytes_eq f other) None (d.files other) differ) ∙ e)

  known_after : (world : World) (step : Step) → Allowed g s world step → AllKnown (disk_of world) → AllKnown (disk_of (after g s world step))
  known_after (Idle d) (Edit f c) a before = known_written d f c (editable_known f a.0) before
  known_after (Idle d) (Make jobs goals) a before = before
  known_after (Idle d) (Begin t) a before = absurd a
  known_after (Idle d) (Look t f) a before = absurd a
  known_after (Idle d) (Put t f c) a before = absurd a
  known_after (Idle d) (End t) a before = absurd a
  known_after (Idle d) (Break t removed) a before = absurd a
  known_after (Idle d) (Pass n) a before = absurd a
  known_after (Idle d) Stop a before = absurd a
  known_after (Idle d) EndMake a before = absurd a
  known_after (Busy m d) (Edit f c) a before = absurd a
  known_after (Busy m d) (Make jobs goals) a before = absurd a
  known_after (Busy m d) (Begin t) a before = before
  known_after (Busy m d) (Look t f) a before = before
  known_after (Busy m d) (Put t f c) a before = known_written d f c (inr (t, a.1)) before
  known_after (Busy m d) (End t) a before = before
  known_after (Busy m d) (Break t true) a before = known_without d (name g t) before
  known_after (Busy m d) (Break t false) a before = before
  known_after (Busy m d) (Pass n) a before = before
  known_after (Busy m d) Stop a before = before
  known_after (Busy m d) EndMake a before = before

  known_after_all : (world : World) (steps : List Step) → IsLegal g s world steps → AllKnown (disk_of world) → AllKnown (disk_of (after_all g s world steps))
  known_after_all world [] legal before = before
  known_after_all world (step ∷ steps) (allowed, legal) before = known_after_all (after g s world step) steps legal (known_after world step allowed before)

pub files_are_known : FilesAreKnown
files_are_known g s d steps start legal = known_after_all g s (Idle d) steps legal (λ f (file, e). inl (start.given f file e))
