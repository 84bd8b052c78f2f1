-- Tables of rule lines.
use Rattle.std.proofs.Common.{◌≡◌, ℕ, ◌+◌, ◌<◌, Bool, true, false, not, ◌||◌, cond, List, [], ◌∷◌, ◌++◌, length, get_or, map, take, refl, sym, ap, ◌∙◌, append-nil, append_assoc}
use Rattle.std.specs.Prelude.{filter, slice_get}
use Rattle.std.specs.Str.{bytes_eq}
use Rattle.std.proofs.lemmas.Bool.{not-false, not-true}
use Rattle.std.proofs.lemmas.List.{take_more}
use Rattle.std.proofs.lemmas.List.Elements.{filter_map-append, filter_more}
use Rattle.std.proofs.lemmas.List.Folds.{list_any-append}
use Rattle.std.proofs.lemmas.Option.{slice_get-get_or}
use Rattle.std.proofs.lemmas.Slice.Eq.{bytes_eq-Decides}
use mathlib.Core.Bool.{or_assoc}
use Rattle.mk_lines.proofs.NameTests.{has_name-insert, has_name-push}
use Rattle.mk_read.specs.Names.{has_name}
use Rattle.mk_read.specs.State.{RuleRead}
use Rattle.mk_infer.specs.Table.{lines_at, targets_in}
use Rattle.mk_infer.proofs.Added.{one_added}

-- a target more is seen
pub seen_more : {A : Type 0} (view : A → List ℕ) (seen new : List (List ℕ)) (targets : List A) (i : ℕ) (d : A) (x name : List ℕ) → new ≡ cond (has_name seen x) seen (seen ++ x ∷ []) → x ≡ view (get_or targets i d)
    → has_name seen name ≡ has_name (map view (take i targets)) name → i < length targets → has_name new name ≡ has_name (map view (take (i + 1) targets)) name
seen_more view seen new targets i d x name e is h lt = one_added view seen [] new targets i d x name e is h lt

-- a target that was seen changes nothing
pub noted_same : (seen new : List (List ℕ)) (x name : List ℕ) (places old : List ℕ) (place : ℕ) (added : Bool) → added ≡ not (has_name seen x) → added ≡ false → new ≡ cond (has_name seen x) seen (seen ++ x ∷ [])
    → places ≡ cond (has_name seen name) (old ++ place ∷ []) old → places ≡ cond (has_name new name) (old ++ place ∷ []) old
noted_same seen new x name places old place added a f e h =
    let there : has_name seen x ≡ true = not-false (has_name seen x) (sym a ∙ f) in
    let same : new ≡ seen = e ∙ ap (λ b. cond b seen (seen ++ x ∷ [])) there in
    h ∙ ap (λ s. cond (has_name s name) (old ++ place ∷ []) old) (sym same)

-- a new one has the place
pub at_name : (seen : List (List ℕ)) (x name : List ℕ) (old : List ℕ) (place : ℕ) (before : List ℕ) → has_name seen x ≡ false → before ≡ cond (has_name seen name) (old ++ place ∷ []) old → (b : Bool) → bytes_eq name x ≡ b
    → cond b (before ++ place ∷ []) before ≡ cond (has_name seen name || b) (old ++ place ∷ []) old
at_name seen x name old place before new h true t =
    let unseen : has_name seen name ≡ false = ap (has_name seen) ((bytes_eq-Decides name x).0 t) ∙ new in
    ap (λ ps. ps ++ place ∷ []) (h ∙ ap (λ b. cond b (old ++ place ∷ []) old) unseen) ∙ sym (ap (λ b. cond (b || true) (old ++ place ∷ []) old) unseen)
at_name seen x name old place before new h false t = h ∙ sym (or_none (has_name seen name))
  where
    or_none : (b : Bool) → cond (b || false) (old ++ place ∷ []) old ≡ cond b (old ++ place ∷ []) old
    or_none true = refl
    or_none false = refl

pub noted_more : (seen new : List (List ℕ)) (x name : List ℕ) (before after old : List ℕ) (place : ℕ) (added : Bool) → added ≡ not (has_name seen x) → added ≡ true → new ≡ cond (has_name seen x) seen (seen ++ x ∷ [])
    → before ≡ cond (has_name seen name) (old ++ place ∷ []) old → after ≡ cond (bytes_eq name x) (before ++ place ∷ []) before → after ≡ cond (has_name new name) (old ++ place ∷ []) old
noted_more seen new x name before after old place added a t e h k =
    let unseen : has_name seen x ≡ false = not-true (has_name seen x) (sym a ∙ t) in
    let same : new ≡ seen ++ x ∷ [] = e ∙ ap (λ b. cond b seen (seen ++ x ∷ [])) unseen in
    k ∙ (at_name seen x name old place before unseen h (bytes_eq name x) refl ∙ ap (λ b. cond b (old ++ place ∷ []) old) (sym (ap (λ s. has_name s name) same ∙ has_name-push seen x name)))

-- a target more has rule lines
pub target_more : (seen new : List (List ℕ)) (x name : List ℕ) (before after had : Bool) → new ≡ cond (has_name seen x) seen (seen ++ x ∷ []) → before ≡ (had || has_name seen name) → after ≡ (before || bytes_eq name x)
    → after ≡ (had || has_name new name)
target_more seen new x name before after had e h k =
    k ∙ (ap (λ b. b || bytes_eq name x) h ∙ (or_assoc had (has_name seen name) (bytes_eq name x) ∙ ap (λ b. had || b) (sym (ap (λ s. has_name s name) e ∙ has_name-insert seen x name (has_name seen x) refl))))

-- one that was seen has them
pub target_same : (seen new : List (List ℕ)) (x name : List ℕ) (before had added : Bool) → added ≡ not (has_name seen x) → added ≡ false → new ≡ cond (has_name seen x) seen (seen ++ x ∷ [])
    → before ≡ (had || has_name seen name) → before ≡ (had || has_name new name)
target_same seen new x name before had added a f e h =
    let there : has_name seen x ≡ true = not-false (has_name seen x) (sym a ∙ f) in
    let same : new ≡ seen = e ∙ ap (λ b. cond b seen (seen ++ x ∷ [])) there in
    h ∙ ap (λ s. had || has_name s name) (sym same)

targets_push : (rules : List RuleRead) (rule : RuleRead) → targets_in (rules ++ rule ∷ []) ≡ targets_in rules ++ rule.targets
targets_push [] rule = append-nil rule.targets
targets_push (other ∷ rules) rule = ap (λ (ts : List (List ℕ)). other.targets ++ ts) (targets_push rules rule) ∙ sym (append_assoc other.targets (targets_in rules) rule.targets)

-- the targets of one rule line more
pub held_more : (rules : List RuleRead) (i : ℕ) (d : RuleRead) (name : List ℕ) (before after : Bool) → after ≡ (before || has_name (get_or rules i d).targets name) → before ≡ has_name (targets_in (take i rules)) name → i < length rules
    → after ≡ has_name (targets_in (take (i + 1) rules)) name
held_more rules i d name before after e h lt =
    let more : targets_in (take (i + 1) rules) ≡ targets_in (take i rules) ++ (get_or rules i d).targets = ap targets_in (take_more rules i d lt) ∙ targets_push (take i rules) (get_or rules i d) in
    e ∙ (ap (λ b. b || has_name (get_or rules i d).targets name) h ∙ sym (ap (λ ts. has_name ts name) more ∙ list_any-append (λ (other : List ℕ). bytes_eq name other) (targets_in (take i rules)) (get_or rules i d).targets))

-- one rule line more
pub lines_more : (rules : List RuleRead) (i : ℕ) (d : RuleRead) (name : List ℕ) (before after : List ℕ) → after ≡ cond (has_name (get_or rules i d).targets name) (before ++ i ∷ []) before
    → lines_at rules before ≡ filter (λ rule. has_name rule.targets name) (take i rules) → i < length rules → lines_at rules after ≡ filter (λ rule. has_name rule.targets name) (take (i + 1) rules)
lines_more rules i d name before after e h lt =
    let test : RuleRead → Bool = λ rule. has_name rule.targets name in
    ap (lines_at rules) e ∙ (at (test (get_or rules i d)) ∙ (ap (λ ls. ls ++ cond (test (get_or rules i d)) (get_or rules i d ∷ []) []) h ∙ sym (filter_more test rules i d lt)))
  where
    last : lines_at rules (i ∷ []) ≡ get_or rules i d ∷ []
    last = rw (slice_get-get_or rules i d lt) refl

    at : (b : Bool) → lines_at rules (cond b (before ++ i ∷ []) before) ≡ lines_at rules before ++ cond b (get_or rules i d ∷ []) []
    at true = filter_map-append (λ place. slice_get rules place) before (i ∷ []) ∙ ap (λ ls. lines_at rules before ++ ls) last
    at false = sym (append-nil (lines_at rules before))
