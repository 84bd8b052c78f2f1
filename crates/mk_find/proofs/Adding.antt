-- Lists of findings that grow.
use Rattle.std.proofs.Common.{◌≡◌, ℕ, ◌+◌, ◌<◌, ◌≤◌, List, [], ◌∷◌, ◌++◌, length, get_or, map, cond, drop, length-drop, refl, sym, ap, subst, ◌∙◌, append_assoc, append-nil, arith}
use Rattle.std.specs.Prelude.{Bool, true, false, filter}
use Rattle.std.specs.List.{flat_map}
use Rattle.std.proofs.lemmas.List.{map-append, drop_more, nil_from_length}
use Rattle.mk_find.specs.declared.finding.Finding.{Finding}
use Rattle.mk_subject.specs.Subject.{Subject}
use Rattle.mk_find.specs.Candidates.{Candidate, IsFinding}
use Rattle.mk_find.specs.Listing.{Lists, nothing, keeps, drops}
use Rattle.mk_find.specs.Listed.{Adds, named}

-- lists one behind the other
pub lists_append : (x : Subject) {one other kept more : List Candidate} → Lists x one kept → Lists x other more → Lists x (one ++ other) (kept ++ more)
lists_append x nothing l = l
lists_append x (keeps h m) l = keeps h (lists_append x m l)
lists_append x (drops h m) l = drops h (lists_append x m l)

-- of no candidates nothing is added
pub adds_nothing : (x : Subject) (found : List Finding) → Adds x [] found found
adds_nothing x found = record { kept = []; right = nothing; added = sym (append-nil found) }

-- what is added of one list, and then of another
pub adds_append : (x : Subject) (one other : List Candidate) (old mid new : List Finding) → Adds x one old mid → Adds x other mid new → Adds x (one ++ other) old new
adds_append x one other old mid new a b = record {
  kept = a.kept ++ b.kept;
  right = lists_append x a.right b.right;
  added = b.added ∙ (ap (λ l. l ++ map (named x) b.kept) a.added ∙ (append_assoc old (map (named x) a.kept) (map (named x) b.kept) ∙ ap (λ l. old ++ l) (sym (map-append (named x) a.kept b.kept))));
}

-- two lists one behind the other, from no findings to those that are handed out
pub adds_both : (x : Subject) (one other : List Candidate) (first mid last told : List Finding) → first ≡ [] → told ≡ last → Adds x one first mid → Adds x other mid last → Adds x (one ++ other) [] told
adds_both x one other first mid last told none is a b =
    subst (λ (l : List Finding). Adds x (one ++ other) l told) none (subst (λ (l : List Finding). Adds x (one ++ other) first l) (sym is) (adds_append x one other first mid last a b))

-- one candidate whose condition holds, and one whose condition doesn't
pub adds_one : (x : Subject) (c : Candidate) (old new : List Finding) → IsFinding x c → new ≡ old ++ named x c ∷ [] → Adds x (c ∷ []) old new
adds_one x c old new h e = record { kept = c ∷ []; right = keeps h nothing; added = e }

pub adds_none : (x : Subject) (c : Candidate) (old : List Finding) → ¬ (IsFinding x c) → Adds x (c ∷ []) old old
adds_none x c old h = record { kept = []; right = drops h nothing; added = sym (append-nil old) }

-- one whose condition holds, pushed onto a list that is equal to the old one
pub adds_pushed : (x : Subject) (c : Candidate) (old mid new : List Finding) → mid ≡ old → IsFinding x c → new ≡ mid ++ named x c ∷ [] → Adds x (c ∷ []) old new
adds_pushed x c old mid new same h e = adds_one x c old new h (e ∙ ap (λ l. l ++ named x c ∷ []) same)

-- past the end nothing is left of a list
pub drop_past : {A : Type 0} (xs : List A) (i : ℕ) → length xs ≤ i → drop i xs ≡ []
drop_past xs i past = nil_from_length (drop i xs) (omega (arith, length-drop i xs))

-- what is left: adding the rest now leads where adding all led at first
abbrev pub Leads : (x : Subject) (rest all : List Candidate) (now first : List Finding) → Type 0
Leads x rest all now first = (last : List Finding) → Adds x rest now last → Adds x all first last

-- at the start all is left
pub leads_all : (x : Subject) (all : List Candidate) (first : List Finding) → Leads x all all first first
leads_all x all first = λ last h. h

-- at the end nothing is
pub leads_done : (x : Subject) (rest all : List Candidate) (now first : List Finding) → rest ≡ [] → Leads x rest all now first → Adds x all first now
leads_done x rest all now first none lead = lead now (subst (λ (l : List Candidate). Adds x l now now) (sym none) (adds_nothing x now))

-- a part of the rest was added
pub leads_on : (x : Subject) (part rest all : List Candidate) (now next first : List Finding) → Leads x (part ++ rest) all now first → Adds x part now next → Leads x rest all next first
leads_on x part rest all now next first lead added = λ last more. lead last (adds_append x part rest now next last added more)

module _ {A : Type 0} where
  -- that of an element of a list
  pub leads_each : (x : Subject) (found : A → List Candidate) (xs : List A) (i : ℕ) (d : A)
      (all : List Candidate) (now next first : List Finding) → i < length xs
      → Leads x (flat_map found (drop i xs)) all now first → Adds x (found (get_or xs i d)) now next
      → Leads x (flat_map found (drop (i + 1) xs)) all next first
  leads_each x found xs i d all now next first lt lead added =
      leads_on x (found (get_or xs i d)) (flat_map found (drop (i + 1) xs)) all now next first (subst (λ (l : List A). Leads x (flat_map found l) all now first) (drop_more xs i d lt) lead) added

  -- one candidate for each element
  pub leads_map : (x : Subject) (candidate : A → Candidate) (xs : List A) (i : ℕ) (d : A)
      (all : List Candidate) (now next first : List Finding) → i < length xs
      → Leads x (map candidate (drop i xs)) all now first → Adds x (candidate (get_or xs i d) ∷ []) now next
      → Leads x (map candidate (drop (i + 1) xs)) all next first
  leads_map x candidate xs i d all now next first lt lead added =
      leads_on x (candidate (get_or xs i d) ∷ []) (map candidate (drop (i + 1) xs)) all now next first (subst (λ (l : List A). Leads x (map candidate l) all now first) (drop_more xs i d lt) lead) added

module _ {A : Type 0} (x : Subject) (candidate : A → Candidate) where
  -- where the condition can hold of those alone that pass a test, these are enough
  lift_step : (p : A → Bool) (o : A) (xs : List A) (kept : List Candidate) (b : Bool) → p o ≡ b → (p o ≡ false → ¬ (IsFinding x (candidate o))) → ((kept : List Candidate) → Lists x (map candidate (filter p xs)) kept → Lists x (map candidate xs) kept)
      → Lists x (map candidate (cond b (o ∷ filter p xs) (filter p xs))) kept → Lists x (candidate o ∷ map candidate xs) kept
  lift_step p o xs kept true e none more (keeps {kept = rest} h m) = keeps h (more rest m)
  lift_step p o xs kept true e none more (drops h m) = drops h (more kept m)
  lift_step p o xs kept false e none more l = drops (none e) (more kept l)

  pub lists_lifted : (p : A → Bool) (xs : List A) (kept : List Candidate) → ((o : A) → p o ≡ false → ¬ (IsFinding x (candidate o))) → Lists x (map candidate (filter p xs)) kept → Lists x (map candidate xs) kept
  lists_lifted p [] kept none l = l
  lists_lifted p (o ∷ xs) kept none l = lift_step p o xs kept (p o) refl (none o) (λ rest m. lists_lifted p xs rest none m) l

  pub adds_lifted : (p : A → Bool) (xs : List A) (old new : List Finding) → ((o : A) → p o ≡ false → ¬ (IsFinding x (candidate o))) → Adds x (map candidate (filter p xs)) old new → Adds x (map candidate xs) old new
  adds_lifted p xs old new none h = record { kept = h.kept; right = lists_lifted p xs h.kept none h.right; added = h.added }

  -- where it holds of none, nothing is added
  lists_none : (xs : List A) → ((o : A) → ¬ (IsFinding x (candidate o))) → Lists x (map candidate xs) []
  lists_none [] none = nothing
  lists_none (o ∷ xs) none = drops (none o) (lists_none xs none)

  pub adds_none_of : (xs : List A) (old : List Finding) → ((o : A) → ¬ (IsFinding x (candidate o))) → Adds x (map candidate xs) old old
  adds_none_of xs old none = record { kept = []; right = lists_none xs none; added = sym (append-nil old) }

-- what is listed behind the same candidates
lists_behind : (x : Subject) (one other more kept : List Candidate) → ((rest : List Candidate) → Lists x other rest → Lists x more rest) → Lists x (one ++ other) kept → Lists x (one ++ more) kept
lists_behind x [] other more kept lift l = lift kept l
lists_behind x (c ∷ one) other more kept lift (keeps {kept = rest} h m) = keeps h (lists_behind x one other more rest lift m)
lists_behind x (c ∷ one) other more kept lift (drops h m) = drops h (lists_behind x one other more kept lift m)

module _ {A : Type 0} (x : Subject) (found : A → List Candidate) where
  -- where something is listed of those alone that pass a test, these are enough
  each_step : (p : A → Bool) (a : A) (xs : List A) (kept : List Candidate) (b : Bool) → p a ≡ b → (p a ≡ false → Lists x (found a) []) → ((kept : List Candidate) → Lists x (flat_map found (filter p xs)) kept → Lists x (flat_map found xs) kept)
      → Lists x (flat_map found (cond b (a ∷ filter p xs) (filter p xs))) kept → Lists x (found a ++ flat_map found xs) kept
  each_step p a xs kept true e none more l = lists_behind x (found a) (flat_map found (filter p xs)) (flat_map found xs) kept more l
  each_step p a xs kept false e none more l = lists_append x (none e) (more kept l)

  each_lifted : (p : A → Bool) (xs : List A) (kept : List Candidate) → ((a : A) → p a ≡ false → Lists x (found a) []) → Lists x (flat_map found (filter p xs)) kept → Lists x (flat_map found xs) kept
  each_lifted p [] kept none l = l
  each_lifted p (a ∷ xs) kept none l = each_step p a xs kept (p a) refl (none a) (λ rest m. each_lifted p xs rest none m) l

  pub adds_each_lifted : (p : A → Bool) (xs : List A) (old new : List Finding) → ((a : A) → p a ≡ false → Lists x (found a) []) → Adds x (flat_map found (filter p xs)) old new → Adds x (flat_map found xs) old new
  adds_each_lifted p xs old new none h = record { kept = h.kept; right = each_lifted p xs h.kept none h.right; added = h.added }
