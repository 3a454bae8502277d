-- What reading a calling's text tells.
use Rattle.std.specs.Prelude.{ℕ, List, Result, Ok, Err}
use Rattle.cr_model.specs.Problems.{ProblemParts}
use Rattle.cr_book.specs.declared.fault.CallingFault.{CallingFault}
use Rattle.cr_book.specs.declared.fault.CallingFault.TheVariants as fault
use Rattle.cr_book.specs.Readings.{IsCallingText, IsFirstWrongByte}

-- the calling that has the text, or where it goes wrong first
abbrev pub Reads : ProblemParts → List ℕ → Result (List ℕ) CallingFault → Type 0
Reads p text (Ok calling) = IsCallingText p text calling
Reads p text (Err (fault.At place)) = IsFirstWrongByte p text place
Reads p text (Err fault.NoMemory) = Unit {0}
