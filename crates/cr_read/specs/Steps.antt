-- The leads that a file has.
use Rattle.std.specs.Prelude.{◌≡◌, ℕ, ◌<◌, ◌⊎◌, true, length}
use Rattle.cr_model.specs.Problems.{LeadParts}
use Rattle.cr_model.specs.Right.{plain}
use Rattle.cr_model.specs.Files.{FileParts}
use Rattle.cr_model.specs.ProblemFiles.{Spellings, mark_at, is_for, spelling_at, called_spelling, lead_from}

-- a method's plain lead, or that of a call on a method that it is for
abbrev pub IsLeadOf : FileParts → Spellings → LeadParts → Type 0
IsLeadOf file spellings lead =
    (method : ℕ) × (method < length file.methods) × ((lead ≡ lead_from method plain (spelling_at spellings.methods method)) ⊎
    ((call : ℕ) × (call < length file.calls) × (is_for file call method ≡ true)
    × (lead ≡ lead_from method (mark_at file call) (called_spelling file spellings call method))))
