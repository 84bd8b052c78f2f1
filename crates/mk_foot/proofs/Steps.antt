-- Lists that are gone over until the first fault.
use Rattle.std.proofs.Common.{◌≡◌, ◌+◌, ◌<◌, ◌≤◌, List, [], ◌∷◌, ◌++◌, length, get_or, drop, Result, Ok, Err, inl, inr, refl, sym, ap, ◌∙◌, append_assoc, append-nil, ℕ}
use Rattle.std.specs.Prelude.{⊤, ◌⊎◌}
use Rattle.std.proofs.lemmas.List.{drop_more, drop_all}
use Rattle.mk_foot.specs.declared.fault.FootFault.{FootFault}
use Rattle.mk_foot.specs.declared.fault.FootFault.TheVariants.{Memory}
use Rattle.mk_foot.specs.Steps.{◌>>=◌, each, test_each}

-- the fault is the defined one, or out of memory
abbrev pub Fails : {Y : Type 0} → FootFault → Result Y FootFault → Type 0
Fails fault defined = (fault ≡ Memory) ⊎ (defined ≡ Err fault)

-- what was found before, and what is found then
abbrev pub with_front : {A : Type 0} → List A → Result (List A) FootFault → Result (List A) FootFault
with_front front (Ok rest) = Ok (front ++ rest)
with_front front (Err fault) = Err fault

with_front_more : {A : Type 0} (front : List A) (x : A) (r : Result (List A) FootFault) → with_front front (r >>= λ ys. Ok (x ∷ ys)) ≡ with_front (front ++ x ∷ []) r
with_front_more front x (Ok rest) = ap (λ (xs : List _). Ok xs) (simp append_assoc)
with_front_more front x (Err fault) = refl

-- nothing before
pub with_front_nil : {A : Type 0} (r : Result (List A) FootFault) → with_front [] r ≡ r
with_front_nil (Ok rest) = refl
with_front_nil (Err fault) = refl

each_cons : {A B : Type 0} (f : A → Result B FootFault) (x : A) (xs : List A) → each f (x ∷ xs) ≡ (f x >>= λ y. each f xs >>= λ ys. Ok (y ∷ ys))
unfolding each
each_cons f x xs = refl

-- the first of the list
pub each_first : {A B : Type 0} (f : A → Result B FootFault) (front : List B) (x : A) (xs : List A) (y : B) (whole : Result (List B) FootFault) → f x ≡ Ok y → with_front front (each f (x ∷ xs)) ≡ whole → with_front (front ++ y ∷ []) (each f xs) ≡ whole
each_first f front x xs y whole e so_far = sym (ap (with_front front) (each_cons f x xs ∙ rw e refl) ∙ with_front_more front y (each f xs)) ∙ so_far

-- it fails
pub first_fails : {A B : Type 0} (f : A → Result B FootFault) (front : List B) (x : A) (xs : List A) (fault : FootFault) (whole : Result (List B) FootFault) → Fails fault (f x) → with_front front (each f (x ∷ xs)) ≡ whole → Fails fault whole
first_fails f front x xs fault whole (inl memory) so_far = inl memory
first_fails f front x xs fault whole (inr e) so_far = let failed : each f (x ∷ xs) ≡ Err fault = each_cons f x xs ∙ rw e refl in inr (sym so_far ∙ ap (with_front front) failed)

-- none is left
pub each_none : {A B : Type 0} (f : A → Result B FootFault) (front : List B) (whole : Result (List B) FootFault) → with_front front (each f []) ≡ whole → whole ≡ Ok front
unfolding each
each_none {B = B} f front whole so_far = sym so_far ∙ ap (λ (ys : List B). Ok ys) (append-nil front)

test_each_cons : {A : Type 0} (test : A → Result ⊤ FootFault) (x : A) (xs : List A) → test_each test (x ∷ xs) ≡ (test x >>= λ _. test_each test xs)
unfolding test_each
test_each_cons test x xs = refl

-- one more passes
pub test_passes : {A : Type 0} (test : A → Result ⊤ FootFault) (xs : List A) (i : ℕ) (x : A) (done : ⊤) (whole : Result ⊤ FootFault) → x ≡ get_or xs i x → test x ≡ Ok done
    → test_each test (drop i xs) ≡ whole → i < length xs → test_each test (drop (i + 1) xs) ≡ whole
test_passes test xs i x done whole is e so_far lt =
    let here : test (get_or xs i x) ≡ Ok done = ap test (sym is) ∙ e in
    sym (ap (test_each test) (drop_more xs i x lt) ∙ (test_each_cons test (get_or xs i x) (drop (i + 1) xs) ∙ rw here refl)) ∙ so_far

-- the first that fails
pub test_fails : {A : Type 0} (test : A → Result ⊤ FootFault) (xs : List A) (i : ℕ) (x : A) (fault : FootFault) (whole : Result ⊤ FootFault) → x ≡ get_or xs i x → Fails fault (test x)
    → test_each test (drop i xs) ≡ whole → i < length xs → Fails fault whole
test_fails test xs i x fault whole is (inl memory) so_far lt = inl memory
test_fails test xs i x fault whole is (inr e) so_far lt =
    let here : test (get_or xs i x) ≡ Err fault = ap test (sym is) ∙ e in
    inr (sym so_far ∙ (ap (test_each test) (drop_more xs i x lt) ∙ (test_each_cons test (get_or xs i x) (drop (i + 1) xs) ∙ rw here refl)))

-- all have passed
pub tests_end : {A : Type 0} (test : A → Result ⊤ FootFault) (xs : List A) (i : ℕ) (whole : Result ⊤ FootFault) → test_each test (drop i xs) ≡ whole → length xs ≤ i → whole ≡ Ok tt
unfolding test_each
tests_end test xs i whole so_far le = sym so_far ∙ ap (test_each test) (drop_all i xs le)
