-- What was read of lists and objects.
use Rattle.std.proofs.Common.{◌≡◌, List, Result, Ok, sym, ap, subst}
use Rattle.std.specs.Prelude.{ok_or}
use Rattle.serde_json.specs.Data.{Data, array}
use Rattle.mk_json.proofs.Arrays.{elements-items_of}
use Rattle.mk_json.specs.Kinds.{elements_of, array_of}
use Rattle.mk_foot.specs.declared.fault.FootFault.{FootFault}
use Rattle.mk_foot.specs.declared.fault.FootFault.TheVariants.{Shape}
use Rattle.mk_foot.specs.declared.key.Key.{Key}
use Rattle.mk_foot.specs.Steps.{Gives}

-- what is given, in other words
pub moved : {X Y : Type 0} (view : X → Y) (r : Result X FootFault) (old new : Result Y FootFault) → Gives view r old → new ≡ old → Gives view r new
moved view r old new given e = subst (λ (z : Result _ FootFault). Gives view r z) (sym e) given

-- the list of an array
pub listed : (key : Key) (ds : List Data) → ok_or (elements_of (array_of ds)) (Shape key) ≡ Ok ds
listed key ds = ap (λ (es : List Data). Ok es) (elements-items_of ds)
