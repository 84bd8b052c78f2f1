use Rattle.std.proofs.Common.{◌≡◌, ℕ, List, [], ◌∷◌, map, Option, Result, Ok, Err, Vec, refl, sym, ap, ◌∙◌, arith}
use Rattle.std.specs.Prelude.{IfOk}
use Rattle.std.specs.Borrow.{Bor}
use Rattle.std.specs.Option.{option_map}
use Rattle.std.specs.List.{join_with_byte}
use Rattle.std.specs.declared.alloc.Global.{Global}
use Rattle.std.specs.declared.alloc.AllocError.{AllocError}
use Rattle.std.proofs.lemmas.Bool.{ne_eqb}
use Rattle.mk_lemmas.proofs.Texts.{texts}
use Rattle.mk_macros.specs.declared.locals.Locals as code
use Rattle.mk_macros.specs.declared.locals.Locals.TheVariants as variant
use Rattle.mk_macros.specs.Locals.{Part, Recipe, named, named_in, distinct, part_of, internal_value, recipe_of}
use Rattle.mk_macros.proofs.locals.internal_value.Goals as goal

-- the command of these parts
abbrev command : Bor (List ℕ) → Bor (List ℕ) → Option (Bor (List ℕ)) → Bor (List (Bor (List ℕ))) → Recipe
command target stem first all = record { target = target.now; stem = stem.now; first = option_map (λ (name : Bor (List ℕ)). name.now) first; all = texts all.now }

-- the value, by the names that stand in it
value_of : (recipe : Option Recipe) (b : ℕ) (part : Part) (names : List (List ℕ)) → named recipe b ≡ names → join_with_byte 32 (map (part_of part) names) ≡ internal_value recipe b part
unfolding internal_value
value_of recipe b part names e = ap (λ (ns : List (List ℕ)). join_with_byte 32 (map (part_of part) ns)) (sym e)

-- in a command
value_in : (locals : code.Locals) (target stem : Bor (List ℕ)) (first : Option (Bor (List ℕ))) (all : Bor (List (Bor (List ℕ)))) (b : ℕ) (part : Part) (names : List (List ℕ)) → locals ≡ variant.Recipe target stem first all
    → named_in b (command target stem first all) ≡ names → join_with_byte 32 (map (part_of part) names) ≡ internal_value (recipe_of locals) b part
value_in locals target stem first all b part names is e = value_of (recipe_of locals) b part names (ap (λ (l : code.Locals). named (recipe_of l) b) is ∙ e)

if_ok_is : (r : Result (Vec ℕ Global) AllocError) (x y : List ℕ) → IfOk r (λ v. v.items ≡ y) → y ≡ x → IfOk r (λ v. v.items ≡ x)
if_ok_is (Ok v) x y h e = h ∙ e
if_ok_is (Err f) x y h e = tt

-- other bytes stand for no names
no_names : (b : ℕ) (recipe : Recipe) → (b ≡ 64 → ⊥) → (b ≡ 42 → ⊥) → (b ≡ 60 → ⊥) → (b ≡ 94 → ⊥) → (b ≡ 43 → ⊥) → named_in b recipe ≡ []
no_names b recipe h1 h2 h3 h4 h5 = rw (ne_eqb b 64 h1, ne_eqb b 42 h2, ne_eqb b 60 h3, ne_eqb b 94 h4, ne_eqb b 43 h5) refl

-- outside commands
outside : (locals : code.Locals) (b : ℕ) → locals ≡ variant.Empty → named (recipe_of locals) b ≡ []
outside locals b is = ap (λ (l : code.Locals). named (recipe_of l) b) is

pub returns-in_default : goal.returns-in_default
returns-in_default c = c.new.ensures.items ∙ value_of (recipe_of c.args.locals.now) c.args.byte c.args.part [] (not_recipe c.args.locals.now c.in_default.not-Recipe)
  where
    not_recipe : (locals : code.Locals) → ((target stem : Bor (List ℕ)) → (first : Option (Bor (List ℕ))) → (all : Bor (List (Bor (List ℕ)))) → locals ≡ variant.Recipe target stem first all → ⊥) → named (recipe_of locals) c.args.byte ≡ []
    not_recipe variant.Empty other = refl
    not_recipe (variant.Recipe target stem first all) other = absurd (other target stem first all refl)

pub returns-in-64 : goal.returns-in-64
returns-in-64 c =
    let r = command c.in-Recipe.target c.in-Recipe.stem c.in-Recipe.first c.in-Recipe.all in
    if_ok_is c.joined.result _ _ c.joined.ensures (value_in c.args.locals.now c.in-Recipe.target c.in-Recipe.stem c.in-Recipe.first c.in-Recipe.all c.args.byte c.args.part (c.in-Recipe.target.now ∷ []) c.in-Recipe.is (ap (λ b. named_in b r) c.in-64.is))

pub returns-in-42 : goal.returns-in-42
returns-in-42 c =
    let r = command c.in-Recipe.target c.in-Recipe.stem c.in-Recipe.first c.in-Recipe.all in
    if_ok_is c.joined-in-42.result _ _ c.joined-in-42.ensures (value_in c.args.locals.now c.in-Recipe.target c.in-Recipe.stem c.in-Recipe.first c.in-Recipe.all c.args.byte c.args.part (c.in-Recipe.stem.now ∷ []) c.in-Recipe.is (ap (λ b. named_in b r) c.in-42.is))

pub returns-in-Some : goal.returns-in-Some
returns-in-Some c =
    let names : named_in c.args.byte (command c.in-Recipe.target c.in-Recipe.stem c.in-Recipe.first c.in-Recipe.all) ≡ c.in-Some.name.now ∷ [] =
    ap (λ b. named_in b (command c.in-Recipe.target c.in-Recipe.stem c.in-Recipe.first c.in-Recipe.all)) c.in-60.is ∙ ap (λ (o : Option (Bor (List ℕ))). named_in 60 (command c.in-Recipe.target c.in-Recipe.stem o c.in-Recipe.all)) c.in-Some.is in
    if_ok_is c.joined-in-Some.result _ _ c.joined-in-Some.ensures (value_in c.args.locals.now c.in-Recipe.target c.in-Recipe.stem c.in-Recipe.first c.in-Recipe.all c.args.byte c.args.part (c.in-Some.name.now ∷ []) c.in-Recipe.is names)

pub returns-in-None : goal.returns-in-None
returns-in-None c =
    let names : named_in c.args.byte (command c.in-Recipe.target c.in-Recipe.stem c.in-Recipe.first c.in-Recipe.all) ≡ [] =
    ap (λ b. named_in b (command c.in-Recipe.target c.in-Recipe.stem c.in-Recipe.first c.in-Recipe.all)) c.in-60.is ∙ ap (λ (o : Option (Bor (List ℕ))). named_in 60 (command c.in-Recipe.target c.in-Recipe.stem o c.in-Recipe.all)) c.in-None.is in
    c.new-in-None.ensures.items ∙ value_in c.args.locals.now c.in-Recipe.target c.in-Recipe.stem c.in-Recipe.first c.in-Recipe.all c.args.byte c.args.part [] c.in-Recipe.is names

pub returns-in_ok-names-in-94 : goal.returns-in_ok-names-in-94
returns-in_ok-names-in-94 c =
    let r = command c.in-Recipe.target c.in-Recipe.stem c.in-Recipe.first c.in-Recipe.all in
    let names : distinct (texts c.in-Recipe.all.now) ≡ texts c.as_slice.result.now = sym (ap texts c.as_slice.ensures.keys ∙ c.in_ok-names-in-94.ensures) in
    if_ok_is c.joined-in-94.result _ _ c.joined-in-94.ensures (value_in c.args.locals.now c.in-Recipe.target c.in-Recipe.stem c.in-Recipe.first c.in-Recipe.all c.args.byte c.args.part (texts c.as_slice.result.now) c.in-Recipe.is (ap (λ b. named_in b r) c.in-94.is ∙ names))

pub returns-in-43 : goal.returns-in-43
returns-in-43 c =
    let r = command c.in-Recipe.target c.in-Recipe.stem c.in-Recipe.first c.in-Recipe.all in
    if_ok_is c.joined-in-43.result _ _ c.joined-in-43.ensures (value_in c.args.locals.now c.in-Recipe.target c.in-Recipe.stem c.in-Recipe.first c.in-Recipe.all c.args.byte c.args.part (texts c.in-Recipe.all.now) c.in-Recipe.is (ap (λ b. named_in b r) c.in-43.is))

pub returns-in_default-byte : goal.returns-in_default-byte
returns-in_default-byte c =
    let r = command c.in-Recipe.target c.in-Recipe.stem c.in-Recipe.first c.in-Recipe.all in
    c.new-in_default-byte.ensures.items ∙ value_in c.args.locals.now c.in-Recipe.target c.in-Recipe.stem c.in-Recipe.first c.in-Recipe.all c.args.byte c.args.part [] c.in-Recipe.is
    (no_names c.args.byte r (λ e. absurd (omega arith)) (λ e. absurd (omega arith)) (λ e. absurd (omega arith)) (λ e. absurd (omega arith)) (λ e. absurd (omega arith)))
