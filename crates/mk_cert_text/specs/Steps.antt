-- Results in sequence, with the faults of certificates.
use Rattle.std.specs.Prelude.{⊤, Bool, Option, Result, ok_or}
use Rattle.mk_lines.specs.Results as results
use Rattle.mk_json.specs.Steps.{check_that}
use Rattle.mk_cert_text.specs.declared.fault.CertTextFault.{CertTextFault}
use Rattle.mk_cert_text.specs.declared.fault.CertTextFault.TheVariants.{Shape, Memory}
use Rattle.mk_cert_text.specs.declared.key.Key.{Key}
pub use Rattle.mk_json.specs.Steps.{◌>>=◌}
unfoldable pub use Rattle.mk_json.specs.Steps.{each}

-- the value that was found, else `Shape` (72) with the key
abbrev pub at_least : {A : Type 0} → Key → Option A → Result A CertTextFault
at_least key found = ok_or found (Shape key)

-- success if the test holds, else `Shape` (72) with the key
abbrev pub where_holds : Key → Bool → Result ⊤ CertTextFault
where_holds key test = check_that (Shape key) test

-- A call returned what is defined, seen by `view`, or ran out of memory.
abbrev pub Gives :
    {X Y : Type 0} → (X → Y) → Result X CertTextFault → Result Y CertTextFault → Type 0
Gives = results.Gives Memory
