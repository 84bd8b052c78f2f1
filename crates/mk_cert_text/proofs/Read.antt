-- What was read of lists and objects.
use Rattle.std.proofs.Common.{◌≡◌, List, Ok, ap}
use Rattle.serde_json.specs.Data.{Data, array}
use Rattle.mk_json.proofs.Arrays.{elements-items_of}
use Rattle.mk_json.specs.Kinds.{elements_of, array_of}
use Rattle.mk_cert_text.specs.declared.key.Key.{Key}
use Rattle.mk_cert_text.specs.CertificateParts.{names_from}
use Rattle.mk_cert_text.specs.Reading.{name_in}
use Rattle.mk_cert_text.specs.Steps.{each, at_least}

-- the list of an array
pub listed : (key : Key) (ds : List Data) → at_least key (elements_of (array_of ds)) ≡ Ok ds
listed key ds = ap (λ (es : List Data). Ok es) (elements-items_of ds)

pub names_listed : (key : Key) (ds : List Data) → names_from key (array_of ds) ≡ each (name_in key) ds
names_listed key ds = ap (λ (es : List Data). each (name_in key) es) (elements-items_of ds)
