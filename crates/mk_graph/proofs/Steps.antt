-- The steps of the code's walk, and that each of them leaves less to do.
use Rattle.std.proofs.Common.{◌≡◌, ℕ, suc, ◌+◌, ◌-◌, ◌<◌, ◌≤◌, List, [], ◌∷◌, ◌++◌, length, get_or, set, reverse, Vec, Some, All, refl, sym, ap, subst, ◌∙◌, arith}
use Rattle.std.specs.declared.alloc.Global.{Global}
use Rattle.std.proofs.lemmas.List.{reverse-append, drop_more, drop_all, get_or-map}
use Rattle.std.proofs.lemmas.List.Elements.{All-push, All-pop}
use Rattle.std.proofs.lemmas.List.Sums.{sum_by_push}
use Rattle.mk_lemmas.proofs.Members.{Has-get_or}
use Rattle.mk_graph.specs.declared.walk.Frame.{Frame}
use Rattle.mk_graph.specs.declared.walk.Mark.{Mark}
use Rattle.mk_graph.specs.declared.walk.Mark.TheVariants.{New, UnderWay, Finished}
use Rattle.mk_graph.specs.Membership.{Has}
use Rattle.mk_graph.specs.Walk.{WalkEnd, Through, Closes, closed_path, Walks}
use Rattle.mk_graph.specs.Progress.{row, AreRows, IsMark, AreMarks}
use Rattle.mk_graph.proofs.Frames.{nodes_of, advanced, begun, left_of, Resumes, begins, finishes_frame, passes_over, closes_path, goes_down, marks_begin, marks_finish, weight, weight_of, weight-set, frames_weight}

-- Frames, outermost first, marks and an order agree, and whatever end the rest of the walk has from there,
-- the walk of the goal from the start has.
pub record IsUnderWay (rows : List (Vec ℕ Global)) (start : List ℕ) (goal : ℕ) (marks : List Mark) (frames : List Frame) (order : List ℕ) : Type 0 where
  pub resumes : (end : WalkEnd) → Resumes (row rows) (reverse frames) (reverse order) end → Walks (row rows) [] (reverse start) (goal ∷ []) end
  pub marked : AreMarks marks (nodes_of (reverse frames)) (reverse order)
  pub within : All (λ (frame : Frame). frame.node < length rows) frames

-- what is left to do
abbrev pub work : List (Vec ℕ Global) → List Mark → List Frame → ℕ
work rows marks frames = weight rows marks + frames_weight rows frames

-- the last frame is the innermost
newest : (frames : List Frame) (frame : Frame) → reverse (frames ++ frame ∷ []) ≡ frame ∷ reverse frames
newest frames frame = reverse-append frames (frame ∷ [])

-- the last node of an order is the newest
newest_node : (order : List ℕ) (n : ℕ) → reverse (order ++ n ∷ []) ≡ n ∷ reverse order
newest_node order n = reverse-append order (n ∷ [])

module _ (rows : List (Vec ℕ Global)) where
  -- what is left of a frame begins with its next prerequisite
  next_is : (frame : Frame) → frame.walked < length (row rows frame.node) → left_of (row rows) frame ≡ get_or (row rows frame.node) frame.walked 0 ∷ left_of (row rows) (advanced frame)
  next_is frame more = drop_more (row rows frame.node) frame.walked 0 more

  -- the walk of a goal that is new begins
  pub begin_step : (marks : List Mark) (order : List ℕ) (goal : ℕ) → goal < length rows → goal < length marks → AreMarks marks [] (reverse order) → get_or marks goal New ≡ New → IsUnderWay rows order goal (set marks goal UnderWay) (begun goal ∷ []) order
  begin_step marks order goal low within are new = record {
    resumes = λ end r. begins (row rows) goal (reverse order) end (subst (λ m. IsMark m [] (reverse order) goal) new (are goal within)).1 r;
    marked = marks_begin marks [] (reverse order) goal within are;
    within = All-push (λ (frame : Frame). frame.node < length rows) [] (begun goal) (λ k d h. absurd (omega arith)) low;
  }

  -- each step takes the innermost frame
  module _ (start : List ℕ) (goal : ℕ) (marks : List Mark) (all frames : List Frame) (frame : Frame) (order : List ℕ) (popped : all ≡ frames ++ frame ∷ []) (is : IsUnderWay rows start goal marks all order) (sizes : length marks ≡ length rows) where
    -- the frame that was popped is the innermost
    inner : reverse all ≡ frame ∷ reverse frames
    inner = ap (λ (l : List Frame). reverse l) popped ∙ newest frames frame

    -- marks agree with it and the others
    marked : AreMarks marks (frame.node ∷ nodes_of (reverse frames)) (reverse order)
    marked = subst (λ (l : List Frame). AreMarks marks (nodes_of l) (reverse order)) inner is.marked

    -- the nodes of all frames are nodes
    within : All (λ (f : Frame). f.node < length rows) (frames ++ frame ∷ [])
    within = subst (λ (l : List Frame). All (λ (f : Frame). f.node < length rows) l) popped is.within

    -- what is left goes on from it
    resumes : (end : WalkEnd) → Resumes (row rows) (frame ∷ reverse frames) (reverse order) end → Walks (row rows) [] (reverse start) (goal ∷ []) end
    resumes end r = is.resumes end (subst (λ (l : List Frame). Resumes (row rows) l (reverse order) end) (sym inner) r)

    -- the innermost frame's node is one
    pub node_low : frame.node < length rows
    node_low = (All-pop (λ (f : Frame). f.node < length rows) (frames ++ frame ∷ []) frames (Some frame) refl within).1

    -- so are those of the other frames
    rest_low : All (λ (f : Frame). f.node < length rows) frames
    rest_low = (All-pop (λ (f : Frame). f.node < length rows) (frames ++ frame ∷ []) frames (Some frame) refl within).0

    -- its node is finished
    pub finish_step : length (row rows frame.node) ≤ frame.walked → IsUnderWay rows start goal (set marks frame.node Finished) frames (order ++ frame.node ∷ [])
    finish_step none = record {
      resumes = λ end r. resumes end (finishes_frame (row rows) frame (reverse frames) (reverse order) end (drop_all frame.walked (row rows frame.node) none) (subst (λ (l : List ℕ). Resumes (row rows) (reverse frames) l end) (newest_node order frame.node) r));
      marked = subst (λ (l : List ℕ). AreMarks (set marks frame.node Finished) (nodes_of (reverse frames)) l) (sym (newest_node order frame.node)) (marks_finish marks (nodes_of (reverse frames)) (reverse order) frame.node (subst (λ k. frame.node < k) (sym sizes) node_low) marked);
      within = rest_low;
    }

    -- and less is left to do
    pub finish_less : work rows (set marks frame.node Finished) frames < work rows marks all
    finish_less =
        let changed = weight-set rows marks frame.node Finished node_low (subst (λ k. frame.node < k) (sym sizes) node_low) in
        let pushed = sum_by_push (λ (f : Frame). suc (length (row rows f.node) - f.walked)) frames frame in
        subst (λ (l : List Frame). work rows (set marks frame.node Finished) frames < work rows marks l) (sym popped) (omega arith)

    -- one of its prerequisites is next
    module _ (p : ℕ) (more : frame.walked < length (row rows frame.node)) (next : p ≡ get_or (row rows frame.node) frame.walked 0) where
      -- it is the first of what is left
      left : left_of (row rows) frame ≡ p ∷ left_of (row rows) (advanced frame)
      left = next_is frame more ∙ ap (λ k. k ∷ left_of (row rows) (advanced frame)) (sym next)

      -- the frames with it behind them hold nodes
      advanced_low : All (λ (f : Frame). f.node < length rows) (frames ++ advanced frame ∷ [])
      advanced_low = All-push (λ (f : Frame). f.node < length rows) frames (advanced frame) rest_low node_low

      -- marks agree with them
      advanced_marked : AreMarks marks (nodes_of (reverse (frames ++ advanced frame ∷ []))) (reverse order)
      advanced_marked = subst (λ (l : List Frame). AreMarks marks (nodes_of l) (reverse order)) (sym (newest frames (advanced frame))) marked

      -- it is a node
      pub next_low : AreRows rows → p < length rows
      next_low are = are frame.node p (subst (λ (k : ℕ). Has (row rows frame.node) k) (sym next) (Has-get_or (row rows frame.node) frame.walked 0 more))

      -- it is finished already
      pub pass_step : get_or marks p New ≡ Finished → p < length marks → IsUnderWay rows start goal marks (frames ++ advanced frame ∷ []) order
      pass_step mark low = record {
        resumes = λ end r. resumes end (passes_over (row rows) frame (reverse frames) (reverse order) p end
            left (subst (λ m. IsMark m (frame.node ∷ nodes_of (reverse frames)) (reverse order) p) mark
            (marked p low)) (subst (λ (l : List Frame). Resumes (row rows) l (reverse order) end)
            (newest frames (advanced frame)) r));
        marked = advanced_marked;
        within = advanced_low;
      }

      -- and less is left to do
      pub pass_less : work rows marks (frames ++ advanced frame ∷ []) < work rows marks all
      pass_less =
          let before = sum_by_push (λ (f : Frame). suc (length (row rows f.node) - f.walked)) frames frame in
          let after = sum_by_push (λ (f : Frame). suc (length (row rows f.node) - f.walked)) frames (advanced frame) in
          subst (λ (l : List Frame). work rows marks (frames ++ advanced frame ∷ []) < work rows marks l) (sym popped) (omega arith)

      -- it is under way
      pub close_step : get_or marks p New ≡ UnderWay → p < length marks → Walks (row rows) [] (reverse start) (goal ∷ []) (Closes (closed_path p (nodes_of (reverse (frames ++ advanced frame ∷ [])))))
      close_step mark low =
          subst (λ (l : List Frame). Walks (row rows) [] (reverse start) (goal ∷ [])
          (Closes (closed_path p (nodes_of l)))) (sym (newest frames (advanced frame)))
          (resumes (Closes (closed_path p (frame.node ∷ nodes_of (reverse frames))))
          (closes_path (row rows) frame (reverse frames) (reverse order) p left
          (subst (λ m. IsMark m (frame.node ∷ nodes_of (reverse frames)) (reverse order) p) mark
          (marked p low))))

      -- it is new
      module _ (mark : get_or marks p New ≡ New) (low : p < length marks) where
        -- it is neither under way nor finished
        news : (¬ (Has (frame.node ∷ nodes_of (reverse frames)) p)) × (¬ (Has (reverse order) p))
        news = subst (λ m. IsMark m (frame.node ∷ nodes_of (reverse frames)) (reverse order) p) mark (marked p low)

        -- its frame is the innermost
        inner_two : reverse ((frames ++ advanced frame ∷ []) ++ begun p ∷ []) ≡ begun p ∷ advanced frame ∷ reverse frames
        inner_two = newest (frames ++ advanced frame ∷ []) (begun p) ∙ ap (λ (l : List Frame). begun p ∷ l) (newest frames (advanced frame))

        -- its prerequisites are walked next
        pub down_step : p < length rows → IsUnderWay rows start goal (set marks p UnderWay) ((frames ++ advanced frame ∷ []) ++ begun p ∷ []) order
        down_step in_rows = record {
          resumes = λ end r. resumes end (goes_down (row rows) frame (reverse frames) (reverse order) p end left news.0 news.1 (subst (λ (l : List Frame). Resumes (row rows) l (reverse order) end) inner_two r));
          marked = subst (λ (l : List Frame). AreMarks (set marks p UnderWay) (nodes_of l) (reverse order)) (sym inner_two) (marks_begin marks (frame.node ∷ nodes_of (reverse frames)) (reverse order) p low marked);
          within = All-push (λ (f : Frame). f.node < length rows) (frames ++ advanced frame ∷ []) (begun p) advanced_low in_rows;
        }

        -- and less is left to do
        pub down_less : p < length rows → work rows (set marks p UnderWay) ((frames ++ advanced frame ∷ []) ++ begun p ∷ []) < work rows marks all
        down_less in_rows =
            let changed = subst (λ m. weight rows (set marks p UnderWay) + weight_of m (row rows p) ≡ weight rows marks + 0) mark (weight-set rows marks p UnderWay in_rows low) in
            let before = sum_by_push (λ (f : Frame). suc (length (row rows f.node) - f.walked)) frames frame in
            let after = sum_by_push (λ (f : Frame). suc (length (row rows f.node) - f.walked)) frames (advanced frame) in
            let last = sum_by_push (λ (f : Frame). suc (length (row rows f.node) - f.walked)) (frames ++ advanced frame ∷ []) (begun p) in
            subst (λ (l : List Frame). work rows (set marks p UnderWay) ((frames ++ advanced frame ∷ []) ++ begun p ∷ []) < work rows marks l) (sym popped) (omega arith)

  -- no frame is left
  pub end_step : (start : List ℕ) (goal : ℕ) (marks : List Mark) (all : List Frame) (order : List ℕ) → all ≡ [] → IsUnderWay rows start goal marks all order → Walks (row rows) [] (reverse start) (goal ∷ []) (Through (reverse order)) × AreMarks marks [] (reverse order)
  end_step start goal marks all order none is =
      let is' : IsUnderWay rows start goal marks [] order = subst (λ (l : List Frame). IsUnderWay rows start goal marks l order) none is in
      (is'.resumes (Through (reverse order)) refl, is'.marked)

-- what the code reads of a row
pub row_is : (rows : List (Vec ℕ Global)) (n : ℕ) (r : Vec ℕ Global) → n < length rows → r ≡ get_or rows n r → row rows n ≡ r.items
row_is rows n r low is = get_or-map (λ (v : Vec ℕ Global). v.items) rows n r [] low ∙ ap (λ (v : Vec ℕ Global). v.items) (sym is)
