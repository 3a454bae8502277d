-- Calls and their spellings.
use Rattle.std.proofs.Common.{◌≡◌, ℕ, ◌+◌, ◌-◌, ◌<◌, List, [], length, get_or, min, Option, None, ◌∙◌, length-append}
use Rattle.std.specs.Prelude.{unwrap_or}
use Rattle.std.proofs.lemmas.List.{get_or_default, length-take}
use Rattle.cr_row.specs.Rows.{Places}
use Rattle.cr_model.specs.Callings.{called}
use Rattle.cr_model.specs.Files.{FileParts, CallText}
use Rattle.cr_model.specs.ProblemFiles.{call_at, spelling_at}

pub call_is : (file : FileParts) (i : ℕ) (call : CallText) → i < length file.calls → call ≡ get_or file.calls i call → call ≡ call_at file i
call_is file i call h e = e ∙ get_or_default file.calls i call (record { mark = []; notation = []; over = None; methods = None }) h

pub spelling_is : (spellings : List (List Places)) (i : ℕ) (spelling : List Places) → i < length spellings → spelling ≡ get_or spellings i spelling → spelling ≡ spelling_at spellings i
spelling_is spellings i spelling h e = e ∙ get_or_default spellings i spelling [] h

pub called_length : (over : Option ℕ) (call changes : List Places) → length (called over call changes) ≡ min (length changes - unwrap_or over (length call)) (length changes) + length call
called_length over call changes = simp (length-append, length-take)
