-- What the steps of the reader say.
use Rattle.std.specs.Prelude.{◌≡◌, ℕ, List, ◌∷◌, length}
use Rattle.cr_model.specs.declared.file_fault.ProblemFault.{ProblemFault}
use Rattle.cr_model.specs.declared.file_fault.ProblemFault.TheVariants as fault
use Rattle.cr_model.specs.declared.fault.PartFault.{PartFault}
use Rattle.cr_model.specs.declared.fault.PartFault.TheVariants as part
use Rattle.cr_model.specs.Files.{FileParts, Reads}
use Rattle.cr_model.specs.Keys.{key_faults}
use Rattle.toml.specs.Data.{Members}
use Rattle.cr_model.specs.ProblemFiles.{Spellings, IsFileFault, FirstProblemFault}

-- the fault is the file's first, or want of memory
abbrev pub Refused : FileParts → ProblemFault → Type 0
Refused file fault.NoMemory = Unit {0}
Refused file why = IsFileFault file why

-- a spelling for each method and for each call
pub record HasSpellings (file : FileParts) (spellings : Spellings) : Type 0 where
  pub methods : length spellings.methods ≡ length file.methods
  pub calls : length spellings.calls ≡ length file.calls

-- the fault is none of the letters or the leads, which are right in every file
abbrev pub IsLater : PartFault → Type 0
IsLater (part.Letters i) = ⊥
IsLater (part.Leads i) = ⊥
IsLater _ = Unit {0}

-- a fault of parts as one of the file. The letters and the leads have none here
abbrev pub file_fault : PartFault → ProblemFault
file_fault (part.Letters i) = fault.NoMemory
file_fault (part.Leads i) = fault.NoMemory
file_fault (part.Steps number) = fault.Steps number
file_fault (part.Range low high) = fault.Range low high
file_fault (part.Deep depth) = fault.Deep depth
file_fault (part.Parts parts) = fault.Parts parts
file_fault (part.Count at) = fault.Count at
file_fault (part.Pattern i) = fault.Pattern i
file_fault part.Com = fault.Com

-- the bytes are no table, or memory wants
abbrev pub NotRead : List ℕ → ProblemFault → Type 0
NotRead bytes fault.NotToml = (table : Members) → Reads bytes table → ⊥
NotRead bytes fault.NoMemory = Unit {0}
NotRead bytes _ = ⊥

-- they are no table whose keys are right
abbrev pub NotFile : List ℕ → ProblemFault → Type 0
NotFile bytes fault.NotToml = (table : Members) → Reads bytes table → ⊥
NotFile bytes (fault.Key path) =
    (table : Members) × (rest : List (List ℕ)) × Reads bytes table × (key_faults table ≡ path ∷ rest)
NotFile bytes fault.NoMemory = Unit {0}
NotFile bytes _ = ⊥

-- the fault is the bytes' first, or want of memory
abbrev pub NotProblem : List ℕ → ProblemFault → Type 0
NotProblem bytes fault.NoMemory = Unit {0}
NotProblem bytes why = FirstProblemFault bytes why
