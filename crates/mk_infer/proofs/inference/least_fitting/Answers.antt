use Rattle.std.proofs.Common.{◌≡◌, ◌∙◌, ◌++◌, ◌∷◌, ◌+◌, ◌<◌, [], List, ℕ, take, length, get_or, sym, subst, ap, arith}
use Rattle.std.specs.Borrow.{Bor}
use Rattle.std.proofs.lemmas.List.{take_more, map_push}
use Rattle.mk_lemmas.proofs.Texts.{texts}
use Rattle.mk_infer.specs.Choosing.{IsLeast, chosen_by, fits_by}
use Rattle.mk_infer.proofs.inference.least_fitting.Goals as goal

pub loop-suffix-init : goal.loop-suffix-init
loop-suffix-init c = λ s there known. absurd there

pub loop-suffix-preserved : goal.loop-suffix-preserved
loop-suffix-preserved c =
    let names = c.args.suffixes.now in
    let i = c.loop-suffix.suffix-index in
    let lt : i < length names = omega arith in
    let more : texts (take (i + 1) names) ≡ texts (take i names) ++ (get_or names i _).now ∷ [] = ap texts (take_more names i _ lt) ∙ map_push (λ (n : Bor (List ℕ)). n.now) (take i names) (get_or names i _) in
    subst (λ (tried : List (List ℕ)). IsLeast (fits_by c.args.lookup.now.table.now c.args.lookup.now.exists.now c.args.stem.now
    c.args.ending.now) (chosen_by c.args.lookup.now.table.now c.args.stem.now c.args.ending.now)
    c.args.lookup.now.table.now.suffixes tried c.in_ok-least.least) (sym more)
    (c.in_ok-least.ensures (texts (take i names)) c.loop-suffix.invariant)
