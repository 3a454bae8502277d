-- The faults of the checks, as first faults.
use Rattle.std.proofs.Common.{ℕ, List, inl, inr, refl, sym, subst}
use Rattle.cr_model.specs.Problems.{ProblemParts}
use Rattle.cr_model.specs.Checks.{IsFirstFailure}
use Rattle.cr_store.specs.declared.fault.CheckFault.{CheckFault}
use Rattle.cr_store.specs.Shapes.{ShapeParts, HasShape}
use Rattle.cr_store.specs.Lines.{OutlineParts, outline_of}
use Rattle.cr_store.specs.Faults.{HasProblem, HasLines, lengths_check, kept_check, order_check, item_checks, IsProblemFaultOf, IsUnread, OrNoMemory, FirstCheckFault}

pub of_problem : (bytes : List ℕ) (shape : ShapeParts) (why : CheckFault) → HasShape bytes shape → IsProblemFaultOf shape.problem why → FirstCheckFault bytes why
of_problem bytes shape why shape_is wrong = subst (FirstCheckFault bytes) (sym wrong.1) (record { shape = shape; shape_is = shape_is; wrong = wrong.2 })

pub of_line : (bytes : List ℕ) (shape : ShapeParts) (p : ProblemParts) (why : CheckFault) → HasProblem bytes shape p → IsUnread p shape why → FirstCheckFault bytes why
of_line bytes shape p why problem wrong = subst (FirstCheckFault bytes) (sym wrong.1) (record { shape = shape; p = p; problem = problem; wrong = wrong.2 })

pub of_items : (bytes : List ℕ) (shape : ShapeParts) (p : ProblemParts) (found nodes : List (List ℕ)) (why : CheckFault) → HasLines bytes shape p found nodes
    → IsFirstFailure (item_checks p (outline_of shape) found nodes) why → FirstCheckFault bytes why
of_items bytes shape p found nodes why lines (inl long) =
    subst (FirstCheckFault bytes) (sym long.1) (record { shape = shape; p = p; found = found; nodes = nodes; lines = lines; wrong = inl (long.0, refl, long.2) })
of_items bytes shape p found nodes why lines (inr (short, inl unkept)) =
    subst (FirstCheckFault bytes) (sym unkept.1) (record { shape = shape; p = p; found = found; nodes = nodes; lines = lines; wrong = inr (short, inl (unkept.0, refl, unkept.2)) })
of_items bytes shape p found nodes why lines (inr (short, inr (kept, inl behind))) =
    subst (FirstCheckFault bytes) (sym behind.1) (record { shape = shape; p = p; found = found; nodes = nodes; lines = lines; wrong = inr (short, inr (kept, inl (behind.0, refl, behind.2))) })
of_items bytes shape p found nodes why lines (inr (short, inr (kept, inr (follow, inl overlap)))) =
    subst (FirstCheckFault bytes) (sym overlap.2) (record { shape = shape; p = p; found = found; nodes = nodes; lines = lines; wrong = inr (short, inr (kept, inr (follow, inl (overlap.0, overlap.1, refl, overlap.3)))) })
of_items bytes shape p found nodes why lines (inr (short, inr (kept, inr (follow, inr (apart, none))))) = absurd none

-- the third of the checks of found touches and nodes is the first that fails
pub third_fails : (p : ProblemParts) (outline : OutlineParts) (found nodes : List (List ℕ)) (why : CheckFault) → (lengths_check p outline found nodes).holds → (kept_check p outline found).holds
    → OrNoMemory (order_check p outline found).fails why → OrNoMemory (IsFirstFailure (item_checks p outline found nodes)) why
third_fails p outline found nodes why short kept (inl memory) = inl memory
third_fails p outline found nodes why short kept (inr fails) = inr (inr (short, inr (kept, inl fails)))

-- a fault of found touches and nodes, if memory is left
pub or_items : (bytes : List ℕ) (shape : ShapeParts) (p : ProblemParts) (found nodes : List (List ℕ)) (why : CheckFault) → HasLines bytes shape p found nodes
    → OrNoMemory (IsFirstFailure (item_checks p (outline_of shape) found nodes)) why → OrNoMemory (FirstCheckFault bytes) why
or_items bytes shape p found nodes why lines (inl memory) = inl memory
or_items bytes shape p found nodes why lines (inr wrong) = inr (of_items bytes shape p found nodes why lines wrong)
