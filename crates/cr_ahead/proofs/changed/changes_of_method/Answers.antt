-- One lead more.
use Rattle.std.proofs.Common.{◌≡◌, ℕ, ◌+◌, ◌<◌, ◌≤◌, List, [], ◌∷◌, ◌++◌, length, get_or, take, Option, Some, sym, ap, ◌∙◌, arith}
use Rattle.std.proofs.lemmas.List.{take_more, take_all, length-take-le}
use Rattle.cr_model.specs.Queries.{changes_of_method}
use Rattle.cr_ahead.specs.LeadMoves.{last_method, changing_gain}
use Rattle.cr_ahead.proofs.LeadMoves.{changed_more, last_more, few_changes}
use Rattle.cr_ahead.proofs.changed.changes_of_method.Goals as goal

pub overflow_add-changed : goal.overflow_add-changed
overflow_add-changed c =
    let p = c.args.problem.now in
    let xs = c.args.steps.now in
    let i = c.loop-index.index in
    omega (arith, c.loop-index.invariant.is, few_changes p (take i xs), length-take-le i xs (omega (arith, c.loop-index-test.true)), c.requires.few, c.change_after-changed.ensures.few, c.loop-index-test.true)

pub loop-index-preserved : goal.loop-index-preserved
loop-index-preserved c =
    let p = c.args.problem.now in
    let xs = c.args.steps.now in
    let i = c.loop-index.index in
    let x = get_or xs i 0 in
    let within : i < length xs = omega (arith, c.loop-index-test.true) in
    let more : take (i + 1) xs ≡ take i xs ++ x ∷ [] = take_more xs i 0 within in
    record {
      is = omega (
        arith,
        c.loop-index.invariant.is,
        c.change_after-changed.ensures.is ∙ ap (λ (l : Option ℕ). changing_gain p l x) c.loop-index.invariant.last,
        changed_more p (take i xs) x,
        ap (changes_of_method p) more,
      );
      last = ap Some c.method_of.ensures.is ∙ sym (last_more p (take i xs) x) ∙ sym (ap (last_method p) more);
    }

pub returns : goal.returns
returns c =
    c.loop-index.invariant.is ∙ ap (changes_of_method c.args.problem.now) (take_all c.loop-index.index c.args.steps.now (omega (arith, c.loop-index-test.false)))
