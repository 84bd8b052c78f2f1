-- Entries that are noted, one behind another.
use Rattle.std.proofs.Common.{◌≡◌, ℕ, ◌<◌, Bool, true, false, ◌||◌, cond, List, [], ◌∷◌, ◌++◌, length, get_or, inl, inr, ◌⊎◌, ⊎_elim, refl, sym, ap, subst, ◌∙◌, arith}
use Rattle.std.specs.Prelude.{◌↔◌, not, slice_set, bytes_eq, Result, Ok, Err, IfOk, OnOk}
use Rattle.std.specs.declared.alloc.AllocError.{AllocError}
use Rattle.std.proofs.lemmas.Bool.{true≢false, cases_eq, not-false, not-true, or_cases, or_left, or_right}
use Rattle.std.proofs.lemmas.List.{get_or-set_same, get_or-set_other}
use Rattle.std.proofs.lemmas.Slice.Eq.{bytes_eq-Decides}
use Rattle.mk_lines.proofs.NameTests.{has_name-push}
use Rattle.mk_lines.specs.Names.{has_name, with_name}
use Rattle.mk_graph.specs.Graph.{IsGraph}
use Rattle.mk_build.specs.BuildLaws.{NamesHaveOneNumber}
use Rattle.mk_graph.specs.Membership.{Has}
use Rattle.mk_cert_text.specs.Certificate.{Way}
use Rattle.mk_subject.specs.Subject.{Subject, name_of, IsRecipe}
use Rattle.mk_cert.specs.WalkTables.{AreSeen}
use Rattle.mk_cert.specs.Verdict.{IsGood, HasEntry, MayStand, NoneBad, IsFirstBad}
use Rattle.mk_cert.specs.Checks.{Judges, HasSets}
use Rattle.mk_cert.proofs.Walks.{recipe_is_node}

-- an entry for these is one among the others or the first
entry_more : (w : Way) (before : List Way) (recipe file : List ℕ) → HasEntry (w ∷ before) recipe file → ((w.recipe ≡ recipe) × (w.file ≡ file)) ⊎ HasEntry before recipe file
entry_more w before recipe file (v, inl here, r, f) = inl (ap (λ (k : Way). k.recipe) here ∙ r, ap (λ (k : Way). k.file) here ∙ f)
entry_more w before recipe file (v, inr there, r, f) = inr (v, there, r, f)

entry_there : (w : Way) (before : List Way) (recipe file : List ℕ) → HasEntry before recipe file → HasEntry (w ∷ before) recipe file
entry_there w before recipe file (v, stands, r, f) = (v, inr stands, r, f)

module _ (x : Subject) (is : IsGraph x.graph) (one : NamesHaveOneNumber) (w : Way) (start : ℕ) (recipe : IsRecipe x start) (named : name_of x start ≡ w.recipe) (old : List (List (List ℕ))) (many : HasSets x old) where
  -- the file was noted before
  pub judged_old : (before : List Way) → has_name (get_or old start []) w.file ≡ true → AreSeen x before old → ¬ (MayStand x before w)
  judged_old before t seen (good, none) = none (subst (λ (r : List ℕ). HasEntry before r w.file) named ((seen start (recipe_is_node x start recipe) w.file).0 t))

  -- at the place of the recipe
  here_seen : (before : List Way) → has_name (get_or old start []) w.file ≡ false → AreSeen x before old → (f : List ℕ) → (has_name (with_name (get_or old start []) w.file) f ≡ true) ↔ HasEntry (w ∷ before) (name_of x start) f
  here_seen before new seen f =
      let row = get_or old start [] in
      let low = recipe_is_node x start recipe in
      let added : has_name (with_name row w.file) f ≡ (has_name row f || bytes_eq f w.file) = ap (λ b. has_name (cond b row (row ++ w.file ∷ [])) f) new ∙ has_name-push row w.file f in (
        λ t. ⊎_elim (λ there. entry_there w before (name_of x start) f ((seen start low f).0 there)) (λ here. (w, inl refl, sym named, sym ((bytes_eq-Decides f w.file).0 here))) (or_cases (has_name row f) (bytes_eq f w.file) (sym added ∙ t)),
        λ h. added ∙ ⊎_elim (λ (r, k). or_right (has_name row f) (bytes_eq f w.file) ((bytes_eq-Decides f w.file).1 (sym k))) (λ there. or_left (has_name row f) (bytes_eq f w.file) ((seen start low f).1 there)) (entry_more w before (name_of x start) f h),
      )

  -- and at others
  other_seen : (before : List Way) → AreSeen x before old → (t : ℕ) → t < length x.graph.nodes → ¬ (t ≡ start) → (f : List ℕ) → (has_name (get_or old t []) f ≡ true) ↔ HasEntry (w ∷ before) (name_of x t) f
  other_seen before seen t low differ f = (
    λ h. entry_there w before (name_of x t) f ((seen t low f).0 h),
    λ h. ⊎_elim (λ (r, k). absurd (differ (sym (one x.graph is.sound (name_of x t) start t (recipe_is_node x start recipe, named ∙ r) (low, refl))))) (λ there. (seen t low f).1 there) (entry_more w before (name_of x t) f h),
  )

  -- the file is new
  pub judged_new : IsGood x w → (before : List Way) → has_name (get_or old start []) w.file ≡ false → (new : List (List (List ℕ))) → new ≡ slice_set old start (with_name (get_or old start []) w.file) → AreSeen x before old → MayStand x before w × AreSeen x (w ∷ before) new
  judged_new good before unseen new set seen =
      let low : start < length old = omega (arith, recipe_is_node x start recipe, many) in
      let row = with_name (get_or old start []) w.file in
      let at_start : get_or new start [] ≡ row = ap (λ (l : List (List (List ℕ))). get_or l start []) set ∙ get_or-set_same old start row [] low in
      let elsewhere : (t : ℕ) → ¬ (t ≡ start) → get_or new t [] ≡ get_or old t [] = λ t differ. ap (λ (l : List (List (List ℕ))). get_or l t []) set ∙ get_or-set_other old start t row [] differ in (
        (good, λ h. true≢false (sym ((seen start (recipe_is_node x start recipe) w.file).1 (subst (λ (r : List ℕ). HasEntry before r w.file) (sym named) h)) ∙ unseen)),
        λ t within f. ⊎_elim
            (λ same. subst (λ (k : ℕ). (has_name (get_or new k []) f ≡ true) ↔ HasEntry (w ∷ before) (name_of x k) f) (sym same) (subst (λ (r : List (List ℕ)). (has_name r f ≡ true) ↔ HasEntry (w ∷ before) (name_of x start) f) (sym at_start) (here_seen before unseen seen f)))
            (λ differ. subst (λ (r : List (List ℕ)). (has_name r f ≡ true) ↔ HasEntry (w ∷ before) (name_of x t) f) (sym (elsewhere t differ)) (other_seen before seen t within differ f))
            (cases_eq t start),
      )

  -- as the answer tells
  pub judged_told : IsGood x w → (new : List (List (List ℕ))) (f : List ℕ) → f ≡ w.file → (r : Result Bool AllocError) → IfOk r (λ added. added ≡ not (has_name (get_or old start []) f)) → OnOk r (new ≡ slice_set old start (with_name (get_or old start []) f)) → IfOk r (λ b. Judges x w old new b)
  judged_told good new f same (Ok true) added set = λ before seen.
      judged_new good before (not-true (has_name (get_or old start []) w.file) (ap (λ (k : List ℕ). not (has_name (get_or old start []) k)) (sym same) ∙ sym added)) new (set ∙ ap (λ (k : List ℕ). slice_set old start (with_name (get_or old start []) k)) same) seen
  judged_told good new f same (Ok false) added set = λ before seen.
      judged_old before (not-false (has_name (get_or old start []) w.file) (ap (λ (k : List ℕ). not (has_name (get_or old start []) k)) (sym same) ∙ sym added)) seen
  judged_told good new f same (Err e) added set = tt

-- those so far, and what is left
pub record JudgedSoFar (x : Subject) (ways front rest : List Way) (seen : List (List (List ℕ))) : Type 0 where
  pub before : List Way
  pub same : (w : Way) → Has before w ↔ Has front w
  pub sets : HasSets x seen
  pub noted : AreSeen x before seen
  pub none : NoneBad x before rest → NoneBad x [] ways
  pub first : (w : Way) → IsFirstBad x before rest w → IsFirstBad x [] ways w

pub judged_start : (x : Subject) (ways : List Way) (seen : List (List (List ℕ))) → HasSets x seen → AreSeen x [] seen → JudgedSoFar x ways [] ways seen
judged_start x ways seen sets empty = record {
  before = [];
  same = λ w. ((λ h. h), (λ h. h));
  sets = sets;
  noted = empty;
  none = λ h. h;
  first = λ w h. h;
}

pub judged_on : (x : Subject) (ways front more rest : List Way) (w : Way) (old new : List (List (List ℕ))) → JudgedSoFar x ways front (w ∷ rest) old → Judges x w old new true → HasSets x new → ((v : Way) → Has more v ↔ (Has front v ⊎ (w ≡ v))) → JudgedSoFar x ways more rest new
judged_on x ways front more rest w old new so_far judged sets stands =
    let (may, noted) = judged so_far.before so_far.noted in
    record {
      before = w ∷ so_far.before;
      same = λ v. (
        λ h. (stands v).1 (⊎_elim (λ here. inr here) (λ there. inl ((so_far.same v).0 there)) h),
        λ h. ⊎_elim (λ there. inr ((so_far.same v).1 there)) (λ here. inl here) ((stands v).0 h),
      );
      sets = sets;
      noted = noted;
      none = λ h. so_far.none (may, h);
      first = λ v h. so_far.first v (inr (may, h));
    }

pub judged_bad : (x : Subject) (ways front rest : List Way) (w : Way) (old new : List (List (List ℕ))) → JudgedSoFar x ways front (w ∷ rest) old → Judges x w old new false → IsFirstBad x [] ways w
judged_bad x ways front rest w old new so_far judged = so_far.first w (inl (judged so_far.before so_far.noted, refl))

pub judged_none : (x : Subject) (ways front rest : List Way) (seen : List (List (List ℕ))) → rest ≡ [] → JudgedSoFar x ways front rest seen → NoneBad x [] ways
judged_none x ways front rest seen none so_far = so_far.none (subst (λ (l : List Way). NoneBad x so_far.before l) (sym none) tt)

pub judged_seen : (x : Subject) (ways front rest : List Way) (seen : List (List (List ℕ))) → front ≡ ways → JudgedSoFar x ways front rest seen → AreSeen x ways seen
judged_seen x ways front rest seen all so_far t low f =
    let both = so_far.noted t low f in (
      λ h. let (w, stands, r, k) = both.0 h in (w, subst (λ (l : List Way). Has l w) all ((so_far.same w).0 stands), r, k),
      λ (w, stands, r, k). both.1 (w, (so_far.same w).1 (subst (λ (l : List Way). Has l w) (sym all) stands), r, k),
    )
