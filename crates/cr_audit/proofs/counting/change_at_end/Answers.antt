use Rattle.std.proofs.Common.{◌≡◌, ℕ, ◌+◌, ◌-◌, false, true, cond, nat_eq, length, get_or, sym, ap, ◌∙◌, arith}
use Rattle.std.proofs.lemmas.Bool.{not-true, not-false}
use Rattle.cr_model.specs.Callings.{method_of}
use Rattle.cr_model.specs.Queries.{changes_of_method}
use Rattle.cr_audit.specs.Paths.{front}
use Rattle.cr_audit.proofs.Taken.{com_at_end, com_of_few}
use Rattle.cr_audit.proofs.counting.change_at_end.Goals as goal
use Rattle.cr_audit.proofs.counting.change_at_end.Goals.{else-number-ge2-via-then-number-ge2+else-differ, else-number-ge2-via-else-number-ge2}

pub returns-then-differ : goal.returns-then-differ
returns-then-differ c =
    let p = c.args.problem.now in
    let steps = c.args.steps.now in
    let same = nat_eq (method_of p (get_or steps (length steps - 2) 0)) (method_of p (get_or steps (length steps - 1) 0)) in
    ap (λ b. changes_of_method p (front steps) + cond {A = ℕ} b 0 1) (sym (not-true same (sym c.differ.ensures ∙ c.if-differ.true))) ∙ com_at_end p steps c.if-number-ge2.true

pub returns-else-number-ge2 : goal.returns-else-number-ge2
returns-else-number-ge2 c =
    let p = c.args.problem.now in
    let steps = c.args.steps.now in
    let same = nat_eq (method_of p (get_or steps (length steps - 2) 0)) (method_of p (get_or steps (length steps - 1) 0)) in
    elim c.else-number-ge2.branch [
      | else-number-ge2-via-then-number-ge2+else-differ w ↦
          ap (λ b. changes_of_method p (front steps) + cond {A = ℕ} b 0 1) (sym (not-false same (sym w.differ.ensures ∙ w.if-differ.false))) ∙ com_at_end p steps w.if-number-ge2.true
      | else-number-ge2-via-else-number-ge2 w ↦ com_of_few p steps (omega (arith, w.if-number-ge2.false))
    ]
