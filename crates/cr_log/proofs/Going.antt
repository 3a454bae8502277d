-- A child is done with: the stack is cut back, and the next child is due.
use Rattle.std.proofs.Common.{◌≡◌, ℕ, ◌+◌, ◌-◌, ◌<◌, Bool, true, false, cond, List, [], ◌∷◌, ◌++◌, length, take, sym, ap, ◌∙◌, subst, arith, length-append}
use Rattle.cr_model.specs.Problems.{ProblemParts}
use Rattle.cr_model.specs.Sizes.{child, children}
use Rattle.cr_rowset.specs.Stacks.{StackParts}
use Rattle.cr_audit.specs.Logs.{LineParts}
use Rattle.cr_log.specs.Logging.{IsAt, KeepsFront, IsLogged, children_from}
use Rattle.cr_log.proofs.Adding.{children_more}
use Rattle.cr_log.proofs.Small.{node_is_short}

-- cut back to where it was
pub cut_back : (old now : StackParts) (number : ℕ) → KeepsFront old now → number ≡ length old.rows → record { rows = take number now.rows; room = now.room } ≡ old
cut_back old now number kept is = λ i. record { rows = (ap (λ (n : ℕ). take n now.rows) is ∙ kept.front) i; room = kept.room i }

-- the next child
pub next_due : (p : ProblemParts) (node steps : List ℕ) (step : ℕ) (lines : List LineParts) (found due : List (List ℕ)) → steps ≡ node → step < length p.leads
    → IsLogged p lines found (children_from p node step ++ due) → IsLogged p lines found (child steps step ∷ (children_from p node (step + 1) ++ due))
next_due p node steps step lines found due same inside logged =
    subst (λ (n : List ℕ). IsLogged p lines found (child n step ∷ (children_from p node (step + 1) ++ due))) (sym same)
    (subst (λ (cs : List (List ℕ)). IsLogged p lines found (cs ++ due)) (children_more p node step inside) logged)

-- a child is nearer to the greatest length
pub child_falls : (p : ProblemParts) (node next : List ℕ) (step : ℕ) (stack : StackParts) → IsAt p next stack → next ≡ child node step → 1025 - length next < 1025 - length node
child_falls p node next step stack at is =
    let few = node_is_short p next at.sound at.valid in
    let long : length next ≡ length node + 1 = ap length is ∙ length-append node (step ∷ []) in
    omega (arith, few, long)

-- what is due below an open node, and below one that is cut
pub open_due : (p : ProblemParts) (steps next : List ℕ) (open_now : Bool) (lines : List LineParts) (found rest : List (List ℕ)) → open_now ≡ true → steps ≡ next
    → IsLogged p lines found (cond open_now (children p next) [] ++ rest) → IsLogged p lines found (children p steps ++ rest)
open_due p steps next open_now lines found rest opens same logged =
    subst (λ (n : List ℕ). IsLogged p lines found (children p n ++ rest)) (sym same)
    (subst (λ (b : Bool). IsLogged p lines found (cond b (children p next) [] ++ rest)) opens logged)

pub cut_due : (p : ProblemParts) (opened : List (List ℕ)) (open_now : Bool) (lines : List LineParts) (found rest : List (List ℕ)) → open_now ≡ false
    → IsLogged p lines found (cond open_now opened [] ++ rest) → IsLogged p lines found rest
cut_due p opened open_now lines found rest closed logged = subst (λ (b : Bool). IsLogged p lines found (cond b opened [] ++ rest)) closed logged
