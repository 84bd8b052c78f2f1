-- The steps of an expansion that has a value.
use Rattle.std.proofs.Common.{◌≡◌, ℕ, ◌+◌, ◌≤◌, ltb, List, [], ◌∷◌, length, Result, Ok, Err, refl, sym, ap, subst, ◌∙◌, inl, inr, arith, append_assoc, length-append}
use Rattle.std.proofs.lemmas.Bool.{cases_Bool, cond-true, cond-false, ltb-false}
use Rattle.mk_macros.specs.declared.fault.MacroFault.{MacroFault}
use Rattle.mk_macros.specs.declared.fault.MacroFault.TheVariants.{ValueTooLong}
use Rattle.mk_macros.specs.Forms.{Form}
use Rattle.mk_macros.specs.Expansion.{Expanded, fitting, joined, in_order}
use Rattle.mk_macros.specs.Laws.{in_front}
use Rattle.mk_macros.specs.Steps.{◌>>=◌}
use Rattle.mk_macros.proofs.InOrder.{Gives, follow, in_order_cons, follow_ok}

pub err_not_ok : {A : Type 0} {fault : MacroFault} {x : A} → Err fault ≡ Ok x → ⊥
err_not_ok e = cc

pub ok_same : {A : Type 0} {x y : A} → ◌≡◌ {A = Result A MacroFault} (Ok x) (Ok y) → x ≡ y
ok_same e = cc

-- a step that came to a value
pub step_of : {A B : Type 0} (r : Result A MacroFault) (f : A → Result B MacroFault) (y : B) → (r >>= f) ≡ Ok y → (x : A) × (r ≡ Ok x) × (f x ≡ Ok y)
step_of (Ok x) f y h = (x, refl, h)
step_of (Err e) f y h = absurd (err_not_ok h)

pub fitting_of : (value found : Expanded) → fitting value ≡ Ok found → (value ≡ found) × (length value.text ≤ 1048576)
fitting_of value found e =
    elim (cases_Bool (ltb 1048576 (length value.text))) [
      | inl t ↦ absurd (err_not_ok (sym (cond-true (ltb 1048576 (length value.text)) (Err ValueTooLong) (Ok value) t) ∙ e))
      | inr f ↦ (ok_same (sym (cond-false (ltb 1048576 (length value.text)) (Err ValueTooLong) (Ok value) f) ∙ e), ltb-false 1048576 (length value.text) f)
    ]

-- what a form gave, on the way to a value
pub follow_of : (gives : Gives) (before found : Expanded) (form : Form) (rest : List Form) → in_order gives before (form ∷ rest) ≡ Ok found
    → (after : Expanded) × (gives before.references form ≡ Ok after) × (length (joined before after).text ≤ 1048576) × (in_order gives (joined before after) rest ≡ Ok found)
unfolding in_order
follow_of gives before found form rest e =
    let a = step_of (gives before.references form) (λ after. fitting (joined before after) >>= (λ whole. in_order gives whole rest)) found e in
    let b = step_of (fitting (joined before a.0)) (λ whole. in_order gives whole rest) found a.2 in
    let c = fitting_of (joined before a.0) b.0 b.1 in
    (a.0, a.1, c.1, subst (λ v. in_order gives v rest ≡ Ok found) (sym c.0) b.2)

-- texts only grow
pub grows : (gives : Gives) (before found : Expanded) (rest : List Form) → in_order gives before rest ≡ Ok found → length before.text ≤ length found.text
unfolding in_order
grows gives before found [] e =
    let s : before ≡ found = ok_same e in
    omega (arith, ap (λ (v : Expanded). length v.text) s)
grows gives before found (form ∷ rest) e =
    let a = follow_of gives before found form rest e in
    let g = grows gives (joined before a.0) found rest a.3 in
    omega (arith, length-append before.text a.0.text)

-- a value is at most 1,048,576 bytes
pub stays_low : (gives : Gives) (before found : Expanded) (rest : List Form) → length before.text ≤ 1048576 → in_order gives before rest ≡ Ok found → length found.text ≤ 1048576
unfolding in_order
stays_low gives before found [] h e =
    let s : before ≡ found = ok_same e in
    omega (arith, ap (λ (v : Expanded). length v.text) s)
stays_low gives before found (form ∷ rest) h e =
    let a = follow_of gives before found form rest e in
    stays_low gives (joined before a.0) found rest a.2 a.3

-- the same behind more text
pub behind_more : (gives : Gives) (front : List ℕ) (before found : Expanded) (rest : List Form) → length front + length found.text ≤ 1048576
    → in_order gives before rest ≡ Ok found → in_order gives (in_front front before) rest ≡ Ok (in_front front found)
unfolding in_order
behind_more gives front before found [] h e = ap (λ (v : Expanded). Ok (in_front front v)) (ok_same e)
behind_more gives front before found (form ∷ rest) h e =
    let a = follow_of gives before found form rest e in
    let g = grows gives (joined before a.0) found rest a.3 in
    let low : length (in_front front before).text + length a.0.text ≤ 1048576 = omega (arith, length-append before.text a.0.text, length-append front before.text) in
    in_order_cons gives (in_front front before) form rest
    ∙ (ap (follow gives (in_front front before) rest) a.1
    ∙ (follow_ok gives (in_front front before) a.0 rest low
    ∙ (ap (λ t. in_order gives (record (joined before a.0) { text = t }) rest) (append_assoc front before.text a.0.text)
    ∙ behind_more gives front (joined before a.0) found rest h a.3)))
