-- What a yes promises.
use Rattle.std.specs.Prelude.{◌≡◌, ℕ, None, Ok}
use Rattle.mk_subject.specs.Subject.{IsRecipe, all_writes, footprints}
use Rattle.mk_cert.specs.Laws.{IsRightOnce}
use Rattle.mk_find.specs.FindingLaws.{PartsStay}
use Rattle.mk_cert_laws.specs.Covered.{IsCovered}
use Rattle.mk_cert_laws.specs.Disks.{IsSelectedAnew, PartsAreSelectedAnew}
use Rattle.mk_graph.specs.Graph.{Graph}
use Rattle.mk_build.specs.Right.{IsRight}
use Rattle.mk_infer.specs.Laws.{StaysSelected}
use Rattle.mk_infer.specs.Selection.{Selects}
use Rattle.mk_read.specs.Files.{Told}
use Rattle.mk_core.specs.declared.request.Request.{Request}
use Rattle.mk_core.specs.Judging.{recorded, subject_over}
use Rattle.mk_core.specs.Ready.{Ready, ready_for}

-- The files and the request give a makefile, goals and footprints, and these give a graph. Over
-- this graph and its footprints every legal history is right, and so is one make from a start. Each
-- recipe of the graph has a record with the commands that make would run, and writes its target,
-- unless that is phony. In each make that reads the makefile again, whatever part of the files that
-- recipes write exists, this same graph is selected; for some of the goals a graph is selected
-- whose nodes are nodes of this one. So it is on the disk that any history leaves, whichever of its
-- files count as present.
pub record IsRightFor (files : Told) (request : Request) : Type 0 where
  pub ready : Ready
  pub graph : Graph
  pub is_ready : ready_for files None request ≡ Ok ready
  pub is_selected : Selects ready.makefile (recorded ready) ready.goals (Ok graph)
  pub is_right : IsRight graph (footprints ready.setting)
  pub is_right_once : IsRightOnce graph (footprints ready.setting)
  pub stays_selected : StaysSelected ready.makefile (recorded ready)
      (all_writes (subject_over ready graph)) ready.goals graph
  pub parts_stay : PartsStay ready.makefile (recorded ready) (all_writes (subject_over ready graph))
      ready.goals graph
  pub covers : (t : ℕ) → IsRecipe (subject_over ready graph) t →
      IsCovered (subject_over ready graph) t
  pub selected_anew : IsSelectedAnew (subject_over ready graph) ready.goals graph
  pub parts_anew : PartsAreSelectedAnew (subject_over ready graph) ready.goals
