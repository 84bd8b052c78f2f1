-- The walks of one goal after another are one walk.
use Rattle.std.proofs.Common.{◌≡◌, ℕ, ◌+◌, ◌<◌, ◌≤◌, List, [], ◌∷◌, length, get_or, drop, reverse, replicate, Vec, sym, subst, ◌∙◌}
use Rattle.std.specs.declared.alloc.Global.{Global}
use Rattle.std.proofs.lemmas.List.{drop_more, drop_all, get_or-replicate, length-replicate}
use Rattle.mk_graph.specs.declared.walk.Mark.{Mark}
use Rattle.mk_graph.specs.declared.walk.Mark.TheVariants.{New}
use Rattle.mk_graph.specs.Walk.{WalkEnd, Through, Closes, Walks, ends, passes, closes, breaks, finishes}
use Rattle.mk_graph.specs.Progress.{row, IsMark, AreMarks}

module _ (needs : ℕ → List ℕ) where
  -- one node, and then the others
  then_walks : {under finished todo middle : List ℕ} {n : ℕ} {end : WalkEnd} → Walks needs under finished (n ∷ []) (Through middle) → Walks needs under middle todo end → Walks needs under finished (n ∷ todo) end
  then_walks (passes in_it ends) v = passes in_it v
  then_walks (finishes new unfinished w ends) v = finishes new unfinished w v

  -- where one node closes a path, the others are not walked
  closes_first : {under finished path : List ℕ} {n : ℕ} (todo : List ℕ) → Walks needs under finished (n ∷ []) (Closes path) → Walks needs under finished (n ∷ todo) (Closes path)
  closes_first todo (passes in_it w) = elim w [ ]
  closes_first todo (closes u) = closes u
  closes_first todo (breaks new unfinished w) = breaks new unfinished w
  closes_first todo (finishes new unfinished w v) = elim v [ ]

-- Marks and an order agree, and whatever end the walk of the goals from this place on has, the whole walk has.
pub record HasWalked (rows : List (Vec ℕ Global)) (goals : List ℕ) (place : ℕ) (marks : List Mark) (order : List ℕ) : Type 0 where
  pub resumes : (end : WalkEnd) → Walks (row rows) [] (reverse order) (drop place goals) end → Walks (row rows) [] [] goals end
  pub marked : AreMarks marks [] (reverse order)
  pub sizes : length marks ≡ length rows

-- nothing has been walked
pub nothing_walked : (rows : List (Vec ℕ Global)) (goals : List ℕ) → HasWalked rows goals 0 (replicate (length rows) New) []
nothing_walked rows goals = record {
  resumes = λ end w. w;
  marked = λ n low. let low' : n < length rows = subst (λ k. n < k) (length-replicate (length rows) New) low in subst (λ m. IsMark m [] [] n) (sym (get_or-replicate (length rows) n New New low')) (λ h. h, λ h. h);
  sizes = length-replicate (length rows) New;
}

-- one goal more has been walked
pub one_more : (rows : List (Vec ℕ Global)) (goals : List ℕ) (place : ℕ) (marks marks' : List Mark)
    (order order' : List ℕ) → place < length goals → HasWalked rows goals place marks order
    → Walks (row rows) [] (reverse order) (get_or goals place 0 ∷ []) (Through (reverse order'))
    → AreMarks marks' [] (reverse order') → length marks' ≡ length marks
    → HasWalked rows goals (place + 1) marks' order'
one_more rows goals place marks marks' order order' within is w are same = record {
  resumes = λ end v. is.resumes end (subst (λ (l : List ℕ). Walks (row rows) [] (reverse order) l end) (sym (drop_more goals place 0 within)) (then_walks (row rows) w v));
  marked = are;
  sizes = same ∙ is.sizes;
}

-- the goal at this place closes a path
pub path_closed : (rows : List (Vec ℕ Global)) (goals : List ℕ) (place : ℕ) (marks : List Mark)
    (order path : List ℕ) → place < length goals → HasWalked rows goals place marks order
    → Walks (row rows) [] (reverse order) (get_or goals place 0 ∷ []) (Closes path)
    → Walks (row rows) [] [] goals (Closes path)
path_closed rows goals place marks order path within is w =
    is.resumes (Closes path) (subst (λ (l : List ℕ). Walks (row rows) [] (reverse order) l (Closes path)) (sym (drop_more goals place 0 within)) (closes_first (row rows) (drop (place + 1) goals) w))

-- all goals have been walked
pub all_walked : (rows : List (Vec ℕ Global)) (goals : List ℕ) (place : ℕ) (marks : List Mark) (order : List ℕ) → length goals ≤ place → HasWalked rows goals place marks order → Walks (row rows) [] [] goals (Through (reverse order))
all_walked rows goals place marks order done is =
    is.resumes (Through (reverse order)) (subst (λ (l : List ℕ). Walks (row rows) [] (reverse order) l (Through (reverse order))) (sym (drop_all place goals done)) ends)
