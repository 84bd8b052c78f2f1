-- Goals that are read one after another.
use Rattle.std.proofs.Common.{◌≡◌, ℕ, ◌+◌, ◌<◌, ◌≤◌, Bool, true, false, cond, List, [], ◌∷◌, ◌++◌, length, get_or, drop, Result, Ok, Err, inl, inr, refl, sym, ap, ◌∙◌, append-nil}
use Rattle.std.proofs.lemmas.List.{drop_more, drop_all}
use Rattle.mk_infer.specs.declared.fault.InferFault.{InferFault}
use Rattle.mk_infer.specs.Steps.{◌>>=◌, Fails}
use Rattle.mk_infer.specs.declared.fault.InferFault.TheVariants.{BadGoal, GoalIsMember}
use Rattle.mk_infer.specs.Goals.{goal_of, goal_place, goals_from, is_no_goal}
use Rattle.mk_read.specs.declared.fault.Place.{Place}
use Rattle.mk_read.specs.declared.fault.ReadFault.{ReadFault}
use Rattle.mk_read.specs.declared.fault.ReadFault.TheVariants.{ArchiveMember, BadName}
use Rattle.mk_read.specs.Names.{is_bracket, is_make_name, name_of}
use Rattle.mk_read.specs.Steps as reading
use Rattle.std.specs.List.{list_any}
use Rattle.std.specs.Prelude.{codes}
use Rattle.mk_infer_select.proofs.WithFront.{with_front, with_front_more}

-- a first goal that is a name
goals_first : (number : ℕ) (word name : List ℕ) (rest : List (List ℕ)) → goal_of number word ≡ Ok name → goals_from number (word ∷ rest) ≡ with_front (name ∷ []) (goals_from (number + 1) rest)
unfolding goals_from
goals_first number word name rest e = rw e (tail (goals_from (number + 1) rest))
  where
    tail : (r : Result (List (List ℕ)) InferFault) → (r >>= λ names. Ok (name ∷ names)) ≡ with_front (name ∷ []) r
    tail (Ok names) = refl
    tail (Err fault) = refl

-- one goal more
pub goals_more : (front goals : List (List ℕ)) (i : ℕ) (d name : List ℕ) (whole : Result (List (List ℕ)) InferFault) → goal_of (i + 1) (get_or goals i d) ≡ Ok name
    → with_front front (goals_from (i + 1) (drop i goals)) ≡ whole → i < length goals → with_front (front ++ name ∷ []) (goals_from (i + 1 + 1) (drop (i + 1) goals)) ≡ whole
goals_more front goals i d name whole e so_far lt =
    sym (with_front_more front name (goals_from (i + 1 + 1) (drop (i + 1) goals))) ∙ (ap (with_front front) (sym (ap (goals_from (i + 1)) (drop_more goals i d lt) ∙ goals_first (i + 1) (get_or goals i d) name (drop (i + 1) goals) e)) ∙ so_far)

-- a goal that is no name
pub goals_fail : (front goals : List (List ℕ)) (i : ℕ) (d : List ℕ) (fault : InferFault) (whole : Result (List (List ℕ)) InferFault) → Fails fault (goal_of (i + 1) (get_or goals i d))
    → with_front front (goals_from (i + 1) (drop i goals)) ≡ whole → i < length goals → Fails fault whole
unfolding goals_from
goals_fail front goals i d fault whole (inl memory) so_far lt = inl memory
goals_fail front goals i d fault whole (inr e) so_far lt =
    let first : goals_from (i + 1) (drop i goals) ≡ Err fault = ap (goals_from (i + 1)) (drop_more goals i d lt) ∙ rw e refl in
    inr (sym so_far ∙ ap (with_front front) first)

-- no goal more
pub goals_end : (front goals : List (List ℕ)) (i : ℕ) (whole : Result (List (List ℕ)) InferFault) → with_front front (goals_from (i + 1) (drop i goals)) ≡ whole → length goals ≤ i → whole ≡ Ok front
unfolding goals_from
goals_end front goals i whole so_far le =
    let last : goals_from (i + 1) (drop i goals) ≡ Ok [] = ap (goals_from (i + 1)) (drop_all i goals le) in
    sym so_far ∙ (ap (with_front front) last ∙ ap (λ (xs : List (List ℕ)). Ok xs) (append-nil front))

-- ---- one goal

module _ (number : ℕ) (word : List ℕ) (file : List ℕ) (same : file ≡ codes "goal") (is_name : is_no_goal word ≡ false) where
  abbrev named : Bool → Bool → Result (List ℕ) ReadFault
  named a b = cond a (Err (ArchiveMember (record { file = file; line = number }) word)) (cond b (Ok word) (Err (BadName (record { file = file; line = number }) word)))

  abbrev goal : Bool → Bool → Result (List ℕ) InferFault
  goal a b = cond a (Err (GoalIsMember (goal_place number))) (cond b (Ok word) (Err (BadGoal (goal_place number))))

  goal_is : goal_of number word ≡ goal (list_any is_bracket word) (is_make_name word)
  unfolding goal_of
  goal_is = rw is_name refl

  place_is : (place : Place) → ◌≡◌ {A = Place} (record { file = file; line = number }) place → goal_place number ≡ place
  place_is place e = ap (λ (f : List ℕ). let p : Place = record { file = f; line = number } in p) (sym same) ∙ e

  pub goal_named : (name : List ℕ) → name_of (record { file = file; line = number }) word ≡ Ok name → goal_of number word ≡ Ok name
  unfolding name_of
  goal_named name e = goal_is ∙ by (list_any is_bracket word) (is_make_name word) e
    where
      by : (a b : Bool) → named a b ≡ Ok name → goal a b ≡ Ok name
      by true b h = absurd cc
      by false true h = let is : word ≡ name = cc in ap (λ (n : List ℕ). Ok n) is
      by false false h = absurd cc

  pub goal_member : (place : Place) (bad : List ℕ) → reading.Fails (ArchiveMember place bad) (name_of (record { file = file; line = number }) word) → Fails (GoalIsMember place) (goal_of number word)
  unfolding name_of
  goal_member place bad (inl memory) = absurd cc
  goal_member place bad (inr e) = inr (goal_is ∙ by (list_any is_bracket word) (is_make_name word) e)
    where
      by : (a b : Bool) → named a b ≡ Err (ArchiveMember place bad) → goal a b ≡ Err (GoalIsMember place)
      by true b h = let is : ◌≡◌ {A = Place} (record { file = file; line = number }) place = cc in ap (λ p. Err (GoalIsMember p)) (place_is place is)
      by false true h = absurd cc
      by false false h = absurd cc

  pub goal_bad : (place : Place) (bad : List ℕ) → reading.Fails (BadName place bad) (name_of (record { file = file; line = number }) word) → Fails (BadGoal place) (goal_of number word)
  unfolding name_of
  goal_bad place bad (inl memory) = absurd cc
  goal_bad place bad (inr e) = inr (goal_is ∙ by (list_any is_bracket word) (is_make_name word) e)
    where
      by : (a b : Bool) → named a b ≡ Err (BadName place bad) → goal a b ≡ Err (BadGoal place)
      by true b h = absurd cc
      by false true h = absurd cc
      by false false h = let is : ◌≡◌ {A = Place} (record { file = file; line = number }) place = cc in ap (λ p. Err (BadGoal p)) (place_is place is)
