-- What is left to walk for the nodes that are under way, how much it is, and the marks.
use Rattle.std.proofs.Common.{◌∙◌, ap, ◌≡◌, ℕ, zero, suc, ◌+◌, ◌-◌, ◌<◌, List, [], ◌∷◌, ◌⊎◌, length, map, set, get_or, drop, sum_by, Vec, inl, inr, ⊎_elim, refl, sym, subst, arith, get_or-set_same, get_or-set_other, length-set}
use Rattle.std.specs.declared.alloc.Global.{Global}
use Rattle.std.proofs.lemmas.Bool.{cases_eq}
use Rattle.mk_graph.specs.declared.walk.Frame.{Frame}
use Rattle.mk_graph.specs.declared.walk.Mark.{Mark}
use Rattle.mk_graph.specs.declared.walk.Mark.TheVariants.{New, UnderWay, Finished}
use Rattle.mk_graph.specs.Membership.{Has}
use Rattle.mk_graph.specs.Walk.{WalkEnd, Through, Closes, closed_path, Walks, ends, passes, closes, breaks, finishes}
use Rattle.mk_graph.specs.Progress.{row, IsMark, AreMarks}

-- the nodes of frames
abbrev pub nodes_of : List Frame → List ℕ
nodes_of frames = map (λ (frame : Frame). frame.node) frames

-- a frame with one prerequisite more behind it
abbrev pub advanced : Frame → Frame
advanced frame = record { node = frame.node; walked = frame.walked + 1 }

-- the frame of a node that begins
abbrev pub begun : ℕ → Frame
begun n = record { node = n; walked = 0 }

module _ (needs : ℕ → List ℕ) where
  -- what is left of a frame's prerequisites
  abbrev pub left_of : Frame → List ℕ
  left_of frame = drop frame.walked (needs frame.node)

  -- With these frames, the innermost first, and these nodes finished, the rest of the walk ends so.
  abbrev pub Resumes : List Frame → List ℕ → WalkEnd → Type 0
  Resumes [] finished end = Through finished ≡ end
  Resumes (frame ∷ frames) finished end = ((path : List ℕ)
      × Walks needs (frame.node ∷ nodes_of frames) finished (left_of frame) (Closes path)
      × (Closes path ≡ end)) ⊎ ((middle : List ℕ) × Walks needs (frame.node ∷ nodes_of frames) finished
      (left_of frame) (Through middle) × Resumes frames (frame.node ∷ middle) end)

  -- a walk of one node begins with its frame
  pub begins : (n : ℕ) (finished : List ℕ) (end : WalkEnd) → ¬ (Has finished n) → Resumes (begun n ∷ []) finished end → Walks needs [] finished (n ∷ []) end
  begins n finished end unfinished (inl r) = subst (λ e. Walks needs [] finished (n ∷ []) e) r.2 (breaks (λ h. h) unfinished r.1)
  begins n finished end unfinished (inr r) = subst (λ e. Walks needs [] finished (n ∷ []) e) r.2 (finishes (λ h. h) unfinished r.1 ends)

  -- a frame with nothing left is finished
  pub finishes_frame : (frame : Frame) (frames : List Frame) (finished : List ℕ) (end : WalkEnd) → left_of frame ≡ [] → Resumes frames (frame.node ∷ finished) end → Resumes (frame ∷ frames) finished end
  finishes_frame frame frames finished end none r = inr (finished, subst (λ l. Walks needs (frame.node ∷ nodes_of frames) finished l (Through finished)) (sym none) ends, r)

  -- a finished prerequisite is passed over
  pub passes_over : (frame : Frame) (frames : List Frame) (finished : List ℕ) (p : ℕ) (end : WalkEnd) → left_of frame ≡ p ∷ left_of (advanced frame) → Has finished p → Resumes (advanced frame ∷ frames) finished end → Resumes (frame ∷ frames) finished end
  passes_over frame frames finished p end next there (inl r) =
      inl (r.0, subst (λ l. Walks needs (frame.node ∷ nodes_of frames) finished l (Closes r.0)) (sym next) (passes there r.1), r.2)
  passes_over frame frames finished p end next there (inr r) =
      inr (r.0, subst (λ l. Walks needs (frame.node ∷ nodes_of frames) finished l (Through r.0)) (sym next) (passes there r.1), r.2)

  -- a prerequisite that is under way closes a path
  pub closes_path : (frame : Frame) (frames : List Frame) (finished : List ℕ) (p : ℕ) → left_of frame ≡ p ∷ left_of (advanced frame) → Has (frame.node ∷ nodes_of frames) p → Resumes (frame ∷ frames) finished (Closes (closed_path p (frame.node ∷ nodes_of frames)))
  closes_path frame frames finished p next there =
      let path = closed_path p (frame.node ∷ nodes_of frames) in
      inl (path, subst (λ l. Walks needs (frame.node ∷ nodes_of frames) finished l (Closes path)) (sym next) (closes there), refl)

  -- a new prerequisite begins
  pub goes_down : (frame : Frame) (frames : List Frame) (finished : List ℕ) (p : ℕ) (end : WalkEnd)
      → left_of frame ≡ p ∷ left_of (advanced frame) → ¬ (Has (frame.node ∷ nodes_of frames) p)
      → ¬ (Has finished p) → Resumes (begun p ∷ advanced frame ∷ frames) finished end
      → Resumes (frame ∷ frames) finished end
  goes_down frame frames finished p end next new unfinished (inl r) =
      inl (r.0, subst (λ l. Walks needs (frame.node ∷ nodes_of frames) finished l (Closes r.0)) (sym next) (breaks new unfinished r.1), r.2)
  goes_down frame frames finished p end next new unfinished (inr (middle, w, inl r)) =
      inl (r.0, subst (λ l. Walks needs (frame.node ∷ nodes_of frames) finished l (Closes r.0)) (sym next) (finishes new unfinished w r.1), r.2)
  goes_down frame frames finished p end next new unfinished (inr (middle, w, inr r)) =
      inr (r.0, subst (λ l. Walks needs (frame.node ∷ nodes_of frames) finished l (Through r.0)) (sym next) (finishes new unfinished w r.1), r.2)

-- a mark where none is new or changed
other_mark : (m : Mark) (under under' finished finished' : List ℕ) (k : ℕ) → (Has under k → Has under' k) → (Has under' k → Has under k) → (Has finished k → Has finished' k) → (Has finished' k → Has finished k) → IsMark m under finished k → IsMark m under' finished' k
other_mark New under under' finished finished' k u u' f f' is = (λ h. is.0 (u' h), λ h. is.1 (f' h))
other_mark UnderWay under under' finished finished' k u u' f f' is = u is
other_mark Finished under under' finished finished' k u u' f f' is = f is

-- another number than the first stands in the rest
in_rest : (n k : ℕ) (ns : List ℕ) → (k ≡ n → ⊥) → Has (n ∷ ns) k → Has ns k
in_rest n k ns ne (inl here) = absurd (ne (sym here))
in_rest n k ns ne (inr there) = there

-- what a changed mark and the others say, all marks say
mark_set : (P : Mark → Type 0) (marks : List Mark) (n k : ℕ) (mark : Mark) → n < length marks → (k ≡ n → P mark) → ((k ≡ n → ⊥) → P (get_or marks k New)) → P (get_or (set marks n mark) k New)
mark_set P marks n k mark within here other =
    let at_n : get_or (set marks n mark) n New ≡ mark = get_or-set_same marks n mark New within in
    ⊎_elim (λ e. subst P (sym (ap (λ j. get_or (set marks n mark) j New) e ∙ at_n)) (here e)) (λ ne. subst P (sym (get_or-set_other marks n k mark New ne)) (other ne)) (cases_eq k n)

-- a node that begins is marked so
pub marks_begin : (marks : List Mark) (under finished : List ℕ) (n : ℕ) → n < length marks → AreMarks marks under finished → AreMarks (set marks n UnderWay) (n ∷ under) finished
marks_begin marks under finished n within are k low =
    let low' : k < length marks = subst (λ l. k < l) (length-set marks n UnderWay) low in
    mark_set (λ m. IsMark m (n ∷ under) finished k) marks n k UnderWay within (λ e. inl (sym e)) (λ ne. other_mark (get_or marks k New) under (n ∷ under) finished finished k (λ h. inr h) (in_rest n k under ne) (λ h. h) (λ h. h) (are k low'))

-- a node that is finished is marked so
pub marks_finish : (marks : List Mark) (under finished : List ℕ) (n : ℕ) → n < length marks → AreMarks marks (n ∷ under) finished → AreMarks (set marks n Finished) under (n ∷ finished)
marks_finish marks under finished n within are k low =
    let low' : k < length marks = subst (λ l. k < l) (length-set marks n Finished) low in
    mark_set (λ m. IsMark m under (n ∷ finished) k) marks n k Finished within (λ e. inl (sym e)) (λ ne. other_mark (get_or marks k New) (n ∷ under) under finished (n ∷ finished) k (in_rest n k under ne) (λ h. inr h) (λ h. inr h) (in_rest n k finished ne) (are k low'))

-- what a node with this mark and this row has left
abbrev pub weight_of : Mark → List ℕ → ℕ
weight_of New row = suc (length row)
weight_of UnderWay row = 0
weight_of Finished row = 0

-- what new nodes have left
abbrev pub weight : List (Vec ℕ Global) → List Mark → ℕ
weight [] marks = 0
weight (row ∷ rows) [] = 0
weight (row ∷ rows) (mark ∷ marks) = weight_of mark row.items + weight rows marks

-- what frames have left
abbrev pub frames_weight : List (Vec ℕ Global) → List Frame → ℕ
frames_weight rows frames = sum_by (λ (frame : Frame). suc (length (row rows frame.node) - frame.walked)) frames

-- a changed mark
pub weight-set : (rows : List (Vec ℕ Global)) (marks : List Mark) (n : ℕ) (mark : Mark) → n < length rows → n < length marks → weight rows (set marks n mark) + weight_of (get_or marks n New) (row rows n) ≡ weight rows marks + weight_of mark (row rows n)
weight-set [] marks n mark in_rows in_marks = absurd (omega arith)
weight-set (r ∷ rows) [] n mark in_rows in_marks = absurd (omega arith)
weight-set (r ∷ rows) (m ∷ marks) zero mark in_rows in_marks = omega arith
weight-set (r ∷ rows) (m ∷ marks) (suc n) mark in_rows in_marks = omega (arith, weight-set rows marks n mark (omega arith) (omega arith))

-- with nothing under way, what isn't finished is new
pub is_new : (mark : Mark) (finished : List ℕ) (n : ℕ) → (mark ≡ Finished → ⊥) → IsMark mark [] finished n → mark ≡ New
is_new New finished n ne is = refl
is_new UnderWay finished n ne is = absurd is
is_new Finished finished n ne is = absurd (ne refl)
