-- Callings, which are lists of step numbers: their changes, rows, length and head, and true touches.
use Rattle.std.specs.Prelude.{◌≡◌, ◌≢◌, ℕ, ◌-◌, ◌<◌, List, [], ◌∷◌, ◌++◌, length, get_or, map, take, flat_map, min, All, Option, unwrap_or}
use Rattle.std.proofs.Common.{ap, sym, ◌∙◌}
use Rattle.std.proofs.lemmas.List.{get_or-map}
use Rattle.cr_row.specs.Rows.{Places, rounds, after}
use Rattle.cr_model.specs.declared.lead.Step.{Step}
use Rattle.cr_model.specs.Problems.{LeadParts, ProblemParts}

-- a method's changes with the last ones replaced by a call's: as many as `over` says, or as the call has
abbrev pub called : Option ℕ → List Places → List Places → List Places
called over call changes = take (length changes - unwrap_or over (length call)) changes ++ call

-- the step and the changes of the lead at an index
abbrev pub step_at : List LeadParts → ℕ → Step
step_at leads i = get_or (map (λ lead. lead.step) leads) i (record { method = 0; mark = 0 })

abbrev pub changes_at : List LeadParts → ℕ → List Places
changes_at leads i = get_or (map (λ lead. lead.changes) leads) i []

-- the changes of a step
abbrev pub changes_of : ProblemParts → ℕ → List Places
changes_of p step = changes_at p.leads step

-- the number of changes of a step
abbrev pub lead_length : ProblemParts → ℕ → ℕ
lead_length p step = length (changes_of p step)

-- a step's method and mark
abbrev pub step_of : ProblemParts → ℕ → Step
step_of p step = step_at p.leads step

abbrev pub method_of : ProblemParts → ℕ → ℕ
method_of p step = (step_of p step).method

abbrev pub mark_of : ProblemParts → ℕ → ℕ
mark_of p step = (step_of p step).mark

-- the letter of a step's method
abbrev pub letter_of : ProblemParts → ℕ → ℕ
letter_of p step = get_or p.letters (method_of p step) 0

-- the least of some numbers
abbrev pub least : List ℕ → ℕ
least [] = 0
least (x ∷ []) = x
least (x ∷ y ∷ ys) = min x (least (y ∷ ys))

-- the length of the shortest lead
abbrev pub shortest : ProblemParts → ℕ
shortest p = least (map (λ lead. length lead.changes) p.leads)

-- the calling has steps of the problem alone
abbrev pub HasSteps : ProblemParts → List ℕ → Type 0
HasSteps p calling = All (λ step. step < length p.leads) calling

-- the changes of a calling, one step's after another's
abbrev pub changes_of_all : ProblemParts → List ℕ → List Places
changes_of_all p calling = flat_map (changes_of p) calling

-- the rows after each of some changes, starting from a row that is not counted
abbrev pub rows_from : List ℕ → List Places → List (List ℕ)
rows_from row [] = []
rows_from row (change ∷ changes) = after change row ∷ rows_from (after change row) changes

-- the last of some rows, or the given one where there is none
abbrev pub last_of : List ℕ → List (List ℕ) → List ℕ
last_of row [] = row
last_of row (next ∷ rows) = last_of next rows

-- the rows of a calling, rung from rounds
abbrev pub rows_of : ProblemParts → List ℕ → List (List ℕ)
rows_of p calling = rows_from (rounds p.stage) (changes_of_all p calling)

-- the number of its changes
abbrev pub length_of : ProblemParts → List ℕ → ℕ
length_of p calling = length (changes_of_all p calling)

-- its last row, or rounds where there is none
abbrev pub head_of : ProblemParts → List ℕ → List ℕ
head_of p calling = last_of (rounds p.stage) (rows_of p calling)

-- no row stands twice
abbrev pub AllDiffer : List (List ℕ) → Type 0
AllDiffer rows = (i j : ℕ) → i < j → j < length rows → get_or rows i [] ≢ get_or rows j []

-- a true touch: not empty, it ends in rounds, and no row stands twice
pub record TrueTouch (p : ProblemParts) (calling : List ℕ) : Type 0 where
  pub some : calling ≢ []
  pub round : head_of p calling ≡ rounds p.stage
  pub differ : AllDiffer (rows_of p calling)

-- the lead at an index, by its parts
pub step_at_is : (leads : List LeadParts) (i : ℕ) (lead : LeadParts)
    → i < length leads → lead ≡ get_or leads i lead → lead.step ≡ step_at leads i
step_at_is leads i lead h e =
    ap (λ l. l.step) e ∙ sym (get_or-map (λ l. l.step) leads i lead (record { method = 0; mark = 0 }) h)

pub changes_at_is : (leads : List LeadParts) (i : ℕ) (lead : LeadParts)
    → i < length leads → lead ≡ get_or leads i lead → lead.changes ≡ changes_at leads i
changes_at_is leads i lead h e = ap (λ l. l.changes) e ∙ sym (get_or-map (λ l. l.changes) leads i lead [] h)
