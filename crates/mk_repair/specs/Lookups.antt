-- What contracts see of the tables in which the words of findings are looked up.
use Rattle.std.specs.Prelude.{◌≡◌, Option}
use Rattle.mk_lines.specs.Names.{HoldsNames}
use Rattle.mk_subject.specs.Subject.{Subject}
use Rattle.mk_repair.specs.declared.lookups.Lookups.{Lookups}
use Rattle.mk_repair.specs.declared.makers.Makers as borrowed
use Rattle.mk_repair.specs.declared.makers.Makers.TheVariants as variants
use Rattle.mk_repair.specs.FindingWords.{needed}
use Rattle.mk_repair.specs.Makers.{Makers, no_maker, one_maker, two_makers, unreached}

-- The tables are those of the subject.
pub record AreLookups (x : Subject) (lookups : Lookups) : Type 0 where
  pub has_needed : HoldsNames lookups.needed (needed x)
  pub has_unreached : lookups.unreached ≡ unreached x

-- The makers that borrowed ones stand for.
abbrev pub makers_view : borrowed.Makers → Makers
makers_view variants.None = no_maker
makers_view (variants.One name) = one_maker name.now
makers_view (variants.Two first second) = two_makers first.now second.now
