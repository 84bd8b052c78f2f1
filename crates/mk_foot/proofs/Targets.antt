-- The targets of a group, one after another.
use Rattle.std.proofs.Common.{◌≡◌, ℕ, ◌+◌, ◌<◌, ◌≤◌, Bool, true, false, not, cond, List, [], ◌∷◌, ◌++◌, map, length, get_or, drop, Option, Some, None, Err, refl, sym, ap, ◌∙◌, true≢false}
use Rattle.std.proofs.lemmas.List.{drop_more, drop_all}
use Rattle.mk_foot.specs.declared.fault.FootFault.{FootFault}
use Rattle.mk_foot.specs.Checks.{unless_found}
use Rattle.mk_foot.specs.Names.{has_name, with_name, first_repeat}
use Rattle.mk_foot.specs.Parts.{RawRecord}

abbrev pub targets : List RawRecord → List (List ℕ)
targets entries = map (λ (e : RawRecord). e.target) entries

again_cons : (before : List (List ℕ)) (x : List ℕ) (rest : List (List ℕ)) → first_repeat before (x ∷ rest) ≡ cond (has_name before x) (Some x) (first_repeat (before ++ x ∷ []) rest)
unfolding first_repeat
again_cons before x rest = refl

-- what a set said of a name
pub is_new : (b added : Bool) → added ≡ not b → added ≡ true → b ≡ false
is_new true added e t = absurd (true≢false (sym t ∙ e))
is_new false added e t = refl

is_old : (b added : Bool) → added ≡ not b → added ≡ false → b ≡ true
is_old true added e f = refl
is_old false added e f = absurd (true≢false (sym e ∙ f))

-- a target that is new
pub next_target : (seen new : List (List ℕ)) (entries : List RawRecord) (i : ℕ) (x : RawRecord) (name : List ℕ) (added : Bool) (whole : Option (List ℕ)) → x ≡ get_or entries i x → name ≡ x.target → added ≡ not (has_name seen name) → added ≡ true → new ≡ with_name seen name
    → first_repeat seen (targets (drop i entries)) ≡ whole → i < length entries → first_repeat new (targets (drop (i + 1) entries)) ≡ whole
next_target seen new entries i x name added whole is at told t grown so_far lt =
    let fresh : has_name seen name ≡ false = is_new (has_name seen name) added told t in
    let here : name ≡ (get_or entries i x).target = at ∙ ap (λ (e : RawRecord). e.target) is in
    let rest = targets (drop (i + 1) entries) in
    let next : first_repeat seen (targets (drop i entries)) ≡ first_repeat seen (name ∷ rest) = ap (λ (es : List RawRecord). first_repeat seen (targets es)) (drop_more entries i x lt) ∙ ap (λ n. first_repeat seen (n ∷ rest)) (sym here) in
    let passed : first_repeat seen (name ∷ rest) ≡ first_repeat (seen ++ name ∷ []) rest = again_cons seen name rest ∙ rw fresh refl in
    let more : new ≡ seen ++ name ∷ [] = grown ∙ rw fresh refl in
    ap (λ s. first_repeat s rest) more ∙ (sym (next ∙ passed) ∙ so_far)

-- one that came before
pub target_again : (seen : List (List ℕ)) (entries : List RawRecord) (i : ℕ) (x : RawRecord) (name : List ℕ) (added : Bool) (whole : Option (List ℕ)) → x ≡ get_or entries i x → name ≡ x.target → added ≡ not (has_name seen name) → added ≡ false
    → first_repeat seen (targets (drop i entries)) ≡ whole → i < length entries → whole ≡ Some name
target_again seen entries i x name added whole is at told f so_far lt =
    let again : has_name seen name ≡ true = is_old (has_name seen name) added told f in
    let here : name ≡ (get_or entries i x).target = at ∙ ap (λ (e : RawRecord). e.target) is in
    let rest = targets (drop (i + 1) entries) in
    let next : first_repeat seen (targets (drop i entries)) ≡ first_repeat seen (name ∷ rest) = ap (λ (es : List RawRecord). first_repeat seen (targets es)) (drop_more entries i x lt) ∙ ap (λ n. first_repeat seen (n ∷ rest)) (sym here) in
    sym so_far ∙ (next ∙ (again_cons seen name rest ∙ rw again refl))

-- no target is left
pub no_target_left : (seen : List (List ℕ)) (entries : List RawRecord) (i : ℕ) (whole : Option (List ℕ)) → first_repeat seen (targets (drop i entries)) ≡ whole → length entries ≤ i → whole ≡ None
unfolding first_repeat
no_target_left seen entries i whole so_far le = sym so_far ∙ ap (λ (es : List RawRecord). first_repeat seen (targets es)) (drop_all i entries le)

-- a fault that tells a copy of the name
pub told : (fault : List ℕ → FootFault) (found : Option (List ℕ)) (name copy : List ℕ) → found ≡ Some name → copy ≡ name → unless_found fault found ≡ Err (fault copy)
told fault found name copy e same = rw (e, same) refl
