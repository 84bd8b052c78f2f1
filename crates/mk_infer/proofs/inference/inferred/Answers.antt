use Rattle.std.proofs.Common.{◌≡◌, ◌∙◌, Bool, cond, ℕ, List, Option, [], None, sym, subst, ap}
use Rattle.std.specs.Prelude.{find, IfOk}
use Rattle.std.specs.Option.{option_map}
use Rattle.mk_lemmas.proofs.Texts.{texts}
use Rattle.mk_infer.specs.Inference.{ending, fits, stem}
use Rattle.mk_infer.specs.Choosing.{chosen_by, fits_by}
use Rattle.mk_infer.proofs.FirstFound.{first_fits}
use Rattle.mk_infer.proofs.inference.inferred.Goals as goal

pub returns-in_default : goal.returns-in_default
returns-in_default c =
    let m = c.args.lookup.now.table.now in
    let e = c.args.lookup.now.exists.now in
    let name = c.args.name.now in
    let gives : Option (List ℕ) → _ = option_map (chosen_by m (stem m name) (ending m name)) in
    let may = sym c.may_infer.ensures ∙ c.if-not-may_infer.false in
    ap gives (first_fits m e name [] (c.in_default.ensures name c.parted.ensures.ending) ∙ ap (λ (b : Bool). cond b (find (fits m e name) m.suffixes) None) (sym may))

-- the first suffix that fits a name of these parts, by those that have a rule
pub fitting-requires-clause-sources : goal.fitting-requires-clause-sources
fitting-requires-clause-sources c =
    let m = c.args.lookup.now.table.now in
    let e = c.args.lookup.now.exists.now in
    let name = c.args.name.now in
    let sources = texts c.in-Some.sources.now in
    let first = first_fits m e name sources (c.in-Some.ensures name c.parted.ensures.ending) in
    let by_stem = subst (λ (s : List ℕ). find (fits_by m e s (ending m name)) sources ≡ find (fits_by m e s (ending m name)) m.suffixes) (sym c.parted.ensures.stem) first in
    subst (λ (s : List ℕ). find (fits_by m e c.parted.result.0.now s) sources ≡ find (fits_by m e c.parted.result.0.now s) m.suffixes) (sym c.parted.ensures.ending) by_stem

pub returns : goal.returns
returns c =
    let m = c.args.lookup.now.table.now in
    let e = c.args.lookup.now.exists.now in
    let name = c.args.name.now in
    let by_stem = subst (λ (s : List ℕ). IfOk c.fitting.result (λ chosen. chosen ≡ option_map (chosen_by m s c.parted.result.1.now) (find (fits_by m e s c.parted.result.1.now) m.suffixes))) c.parted.ensures.stem c.fitting.ensures in
    let by_both = subst (λ (s : List ℕ). IfOk c.fitting.result (λ chosen. chosen ≡ option_map (chosen_by m (stem m name) s) (find (fits_by m e (stem m name) s) m.suffixes))) c.parted.ensures.ending by_stem in
    let may = sym c.may_infer.ensures ∙ c.if-not-may_infer.false in
    subst (λ (found : Option (List ℕ)). IfOk c.fitting.result (λ chosen. chosen ≡ option_map (chosen_by m (stem m name) (ending m name)) found))
    (ap (λ (b : Bool). cond b (find (fits m e name) m.suffixes) None) (sym may)) by_both
