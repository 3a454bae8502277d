-- A path that goes to a child, and back.
use Rattle.std.proofs.Common.{◌≡◌, ℕ, ◌+◌, ◌-◌, ◌<◌, List, [], ◌∷◌, ◌++◌, length, take, All, sym, ap, ap₂, ◌∙◌, subst, arith, append-nil, length-append}
use Rattle.std.proofs.lemmas.List.{take_at, get_or_at}
use Rattle.std.proofs.lemmas.List.Elements.{All-nil, All-head, All-tail, All-append, All-take, All-drop, All-push, All-weaker}
use Rattle.std.proofs.lemmas.List.Concat.{flat_map-append}
use Rattle.cr_row.specs.Rows.{Places, IsChange, rounds, after}
use Rattle.cr_model.specs.Problems.{ProblemParts}
use Rattle.cr_model.specs.Callings.{HasSteps, changes_of, changes_of_all, rows_from, last_of, rows_of, head_of}
use Rattle.cr_model.specs.Books.{lead_text, calling_text}
use Rattle.cr_model.specs.Sizes.{child}
use Rattle.cr_model.specs.Sound.{IsSound, sound_leads}
use Rattle.cr_model.proofs.Ringing.{rows_on}
use Rattle.cr_audit.specs.Nodes.{width}
use Rattle.cr_audit.specs.Paths.{front, last_lead}
use Rattle.cr_audit.proofs.Fronts.{front_and_last}
use Rattle.cr_audit.proofs.LastRows.{as_many, last_long}
use Rattle.cr_audit.proofs.Walking.{wide}

-- a node's rows are those before its last lead and those of that
pub whole_rows : (p : ProblemParts) (node : List ℕ)
    → rows_of p node ≡ rows_of p (front node) ++ rows_from (head_of p (front node)) (changes_of_all p (last_lead node))
whole_rows p node = ap (rows_of p) (front_and_last node) ∙ rows_on p (front node) (last_lead node)

pub rung : (p : ProblemParts) (node : List ℕ) (rows : List (List ℕ)) (from : List ℕ) (changes : List Places) → rows ≡ rows_of p (front node)
    → from ≡ last_of (rounds p.stage) rows → changes ≡ changes_of_all p (last_lead node) → rows ++ rows_from from changes ≡ rows_of p node
rung p node rows from changes is head last =
    ap₂ (λ row cs. rows ++ rows_from row cs) (head ∙ ap (last_of (rounds p.stage)) is) last
    ∙ ap (λ rs. rs ++ rows_from (head_of p (front node)) (changes_of_all p (last_lead node))) is
    ∙ sym (whole_rows p node)

-- and back
pub rows_back : (p : ProblemParts) (node : List ℕ) (size : ℕ) (rows : List (List ℕ)) (changes : List Places) → rows ≡ rows_of p node
    → changes ≡ changes_of_all p (last_lead node) → size ≡ length changes → take (length rows - size) rows ≡ rows_of p (front node)
rows_back p node size rows changes is last long =
    let more = rows_from (head_of p (front node)) (changes_of_all p (last_lead node)) in
    let whole : rows ≡ rows_of p (front node) ++ more = is ∙ whole_rows p node in
    let counted : length rows ≡ length (rows_of p (front node)) + length more = ap length whole ∙ length-append (rows_of p (front node)) more in
    let few : length more ≡ length changes = as_many (head_of p (front node)) (changes_of_all p (last_lead node)) ∙ ap length (sym last) in
    let number : length (rows_of p (front node)) ≡ length rows - size = omega (arith, counted, few, long) in
    ap (take (length rows - size)) whole ∙ take_at (rows_of p (front node)) more (length rows - size) number

-- the rows of a step more
pub child_rows : (p : ProblemParts) (node : List ℕ) (step : ℕ) → rows_of p (child node step) ≡ rows_of p node ++ rows_from (head_of p node) (changes_of p step)
child_rows p node step = rows_on p node (step ∷ []) ∙ ap (λ changes. rows_of p node ++ rows_from (head_of p node) changes) (append-nil (changes_of p step))

-- its text
pub child_text : (p : ProblemParts) (node : List ℕ) (step : ℕ) → calling_text p (child node step) ≡ calling_text p node ++ lead_text p step
child_text p node step = flat_map-append (lead_text p) node (step ∷ []) ∙ ap (λ text. calling_text p node ++ text) (append-nil (lead_text p step))

pub text_back : (p : ProblemParts) (node : List ℕ) (step size : ℕ) (text : List ℕ) → size ≡ width p → text ≡ calling_text p (child node step)
    → take (length text - size) text ≡ calling_text p node
text_back p node step size text long is =
    let whole : text ≡ calling_text p node ++ lead_text p step = is ∙ child_text p node step in
    let counted : length text ≡ length (calling_text p node) + length (lead_text p step) = ap length whole ∙ length-append (calling_text p node) (lead_text p step) in
    let number : length (calling_text p node) ≡ length text - size = omega (arith, wide p step) in
    ap (take (length text - size)) whole ∙ take_at (calling_text p node) (lead_text p step) (length text - size) number

-- its steps
pub steps_back : (p : ProblemParts) (node : List ℕ) (step : ℕ) → HasSteps p (child node step) → HasSteps p node
steps_back p node step known = subst (HasSteps p) (take_at node (step ∷ []) (length node) (let e : length node ≡ length node = omega arith in e)) (All-take (λ s. s < length p.leads) (length node) (child node step) known)

pub step_back : (p : ProblemParts) (node : List ℕ) (step : ℕ) → HasSteps p (child node step) → step < length p.leads
step_back p node step known =
    subst (λ (s : ℕ). s < length p.leads) (get_or_at node step [] 0 (length node) (let e : length node ≡ length node = omega arith in e))
    (known (length node) 0 (omega (arith, length-append node (step ∷ []))))

pub steps_on : (p : ProblemParts) (node : List ℕ) (step : ℕ) → HasSteps p node → step < length p.leads → HasSteps p (child node step)
steps_on p node step known inside = All-push (λ s. s < length p.leads) node step known inside

-- a node's head has a bell for each place
pub head_long : ((c : Places) (r : List ℕ) → length (after c r) ≡ length r) → ((n : ℕ) → length (rounds n) ≡ n) → (p : ProblemParts) (node : List ℕ) (rows : List (List ℕ))
    → rows ≡ rows_of p node → length (last_of (rounds p.stage) rows) ≡ p.stage
head_long same long p node rows is = ap (λ rs. length (last_of (rounds p.stage) rs)) is ∙ last_long same (rounds p.stage) (changes_of_all p node) ∙ long p.stage

-- a node's changes are of the stage
pub step_fits : (p : ProblemParts) → IsSound p → (step : ℕ) → step < length p.leads → All (λ change. change.stage ≡ p.stage) (changes_of p step)
step_fits p sound step inside =
    All-weaker (λ change. (change.stage ≡ p.stage) × IsChange change) (λ change. change.stage ≡ p.stage) (λ change h. h.0)
    (changes_of p step) ((sound_leads p sound).each step inside).changes.each

pub all_fit : (p : ProblemParts) → IsSound p → (steps : List ℕ) → HasSteps p steps → All (λ change. change.stage ≡ p.stage) (changes_of_all p steps)
all_fit p sound [] known = All-nil (λ change. change.stage ≡ p.stage)
all_fit p sound (step ∷ steps) known =
    All-append (λ change. change.stage ≡ p.stage) (changes_of p step) (changes_of_all p steps)
    (step_fits p sound step (All-head (λ s. s < length p.leads) step steps known)) (all_fit p sound steps (All-tail (λ s. s < length p.leads) step steps known))

-- and as many as a row of it has bells
pub changes_fit : (p : ProblemParts) → IsSound p → (steps : List ℕ) (changes : List Places) (size : ℕ) → HasSteps p steps → changes ≡ changes_of_all p steps → size ≡ p.stage
    → All (λ change. change.stage ≡ size) changes
changes_fit p sound steps changes size known is long =
    subst (λ (n : ℕ). All (λ change. change.stage ≡ n) changes) (sym long) (subst (All (λ change. change.stage ≡ p.stage)) (sym is) (all_fit p sound steps known))

-- a last lead has the steps of its node
pub last_known : (p : ProblemParts) (node : List ℕ) → HasSteps p node → HasSteps p (last_lead node)
last_known p node known = All-drop (λ s. s < length p.leads) (length node - 1) node known
