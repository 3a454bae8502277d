-- The log of Plain Bob Minimus.
use Rattle.std.specs.Prelude.{ℕ, List, [], ◌∷◌}
use Rattle.cr_model.specs.Examples.{minimus}
use Rattle.cr_audit.specs.declared.verdict.Verdict.{Verdict}
use Rattle.cr_audit.specs.declared.verdict.Verdict.TheVariants as verdict
use Rattle.cr_audit.specs.Logs.{LineParts, log_text}

abbrev pub line_of : List ℕ → Verdict → LineParts
line_of node why = record { node = node; verdict = why }

-- the root and its leads, up to three, are open, and four are too long
abbrev pub minimus_lines : List LineParts
minimus_lines =
    line_of [] verdict.Open
    ∷ line_of (0 ∷ []) verdict.Open
    ∷ line_of (0 ∷ 0 ∷ []) verdict.Open
    ∷ line_of (0 ∷ 0 ∷ 0 ∷ []) verdict.Open
    ∷ line_of (0 ∷ 0 ∷ 0 ∷ 0 ∷ []) verdict.Long
    ∷ []

abbrev pub minimus_log : List ℕ
minimus_log = log_text minimus minimus_lines
