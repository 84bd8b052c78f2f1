-- Bytes that are borrowed or owned.
use Rattle.std.specs.Prelude.{Bool, true, false}
use Rattle.std.specs.declared.borrow.CowSlice.{CowSlice}
use Rattle.std.specs.declared.borrow.CowSlice.TheVariants.{Borrowed, Owned}

-- The bytes are borrowed, not owned.
abbrev pub is_borrowed : {X Z : Type 0} → CowSlice X Z → Bool
is_borrowed (Borrowed r) = true
is_borrowed (Owned v) = false
