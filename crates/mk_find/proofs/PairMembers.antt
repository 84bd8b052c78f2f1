-- Where candidates stand.
use Rattle.std.proofs.Common.{◌≡◌, ℕ, List, [], ◌∷◌, map, ◌⊎◌, inl, inr, ⊎_elim, sym, subst, ◌∙◌}
use Rattle.std.specs.List.{flat_map}
use Rattle.mk_lemmas.proofs.Members.{Has-flat_map, Has-left, Has-map, Has-right}
use Rattle.mk_graph.specs.Membership.{Has}
use Rattle.mk_subject.specs.Subject.{Subject, writes_of}
use Rattle.mk_find.specs.Candidates.{two_writers, pairs_of_writers}

-- of two recipes of a list that write a file, one stands with the other behind it
pub pair_stands : (x : Subject) (order : List ℕ) (o t : ℕ) (f : List ℕ) → ¬ (o ≡ t) → Has order o → Has order t → Has (writes_of x o) f → Has (writes_of x t) f → Has (pairs_of_writers x order) (two_writers o t f) ⊎ Has (pairs_of_writers x order) (two_writers t o f)
pair_stands x [] o t f differ o_in t_in o_wrote t_wrote = absurd o_in
pair_stands x (k ∷ later) o t f differ (inl o_here) (inl t_here) o_wrote t_wrote = absurd (differ (sym o_here ∙ t_here))
pair_stands x (k ∷ later) o t f differ (inl o_here) (inr t_there) o_wrote t_wrote =
    let own = subst (λ (n : ℕ). Has (writes_of x n) f) (sym o_here) o_wrote in
    let here = Has-flat_map (λ (h : List ℕ). map (λ n. two_writers k n h) later) (writes_of x k) f (two_writers k t f) own (Has-map (λ n. two_writers k n f) later t t_there) in
    inl (subst (λ (n : ℕ). Has (pairs_of_writers x (k ∷ later)) (two_writers n t f)) o_here (Has-left (flat_map (λ (h : List ℕ). map (λ n. two_writers k n h) later) (writes_of x k)) (pairs_of_writers x later) (two_writers k t f) here))
pair_stands x (k ∷ later) o t f differ (inr o_there) (inl t_here) o_wrote t_wrote =
    let own = subst (λ (n : ℕ). Has (writes_of x n) f) (sym t_here) t_wrote in
    let here = Has-flat_map (λ (h : List ℕ). map (λ n. two_writers k n h) later) (writes_of x k) f (two_writers k o f) own (Has-map (λ n. two_writers k n f) later o o_there) in
    inr (subst (λ (n : ℕ). Has (pairs_of_writers x (k ∷ later)) (two_writers n o f)) t_here (Has-left (flat_map (λ (h : List ℕ). map (λ n. two_writers k n h) later) (writes_of x k)) (pairs_of_writers x later) (two_writers k o f) here))
pair_stands x (k ∷ later) o t f differ (inr o_there) (inr t_there) o_wrote t_wrote =
    let front = flat_map (λ (h : List ℕ). map (λ n. two_writers k n h) later) (writes_of x k) in
    ⊎_elim (λ h. inl (Has-right front (pairs_of_writers x later) (two_writers o t f) h)) (λ h. inr (Has-right front (pairs_of_writers x later) (two_writers t o f) h)) (pair_stands x later o t f differ o_there t_there o_wrote t_wrote)
