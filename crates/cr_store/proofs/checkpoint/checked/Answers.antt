-- What the checks answer, as a first fault or a checkpoint.
use Rattle.std.proofs.Common.{inl, ap, subst}
use Rattle.std.proofs.lemmas.Result.{err_from_is_err_and, MatchResult-weaker}
use Rattle.cr_model.specs.Checks.{IsFirstFailure, AllHold}
use Rattle.cr_store.specs.Progress.{IsMadeOf}
use Rattle.cr_store.specs.Faults.{OrNoMemory, item_checks}
use Rattle.cr_store.proofs.FaultKinds.{or_items}
use Rattle.cr_store.proofs.Accepting.{made_accepted}
use Rattle.cr_store.proofs.checkpoint.checked.Goals as goal

pub returns-in_err-check_items : goal.returns-in_err-check_items
returns-in_err-check_items c = λ bytes read.
    let e = err_from_is_err_and c.from_residual.result c.from_residual.ensures.1 in
    let items = c.args.lines.items in
    let wrong = subst (λ o. OrNoMemory (IsFirstFailure (item_checks c.args.lines.problem o items.found.items items.nodes.items)) c.in_err-check_items.field-0.0) read.outline_is
    c.in_err-check_items.ensures in
    rw (e.1, e.2) (or_items bytes read.shape c.args.lines.problem items.found.items items.nodes.items c.in_err-check_items.field-0.0 read.lines wrong)

pub returns : goal.returns
returns c = λ bytes read.
    let p = c.args.lines.problem in
    let items = c.args.lines.items in
    let hold = subst (λ o. AllHold (item_checks p o items.found.items items.nodes.items)) read.outline_is c.in_ok-check_items.ensures in
    MatchResult-weaker c.checkpoint_of.result c.checkpoint_of.ensures
    (λ made is. made_accepted bytes read.shape p items.found.items items.nodes.items made read.lines hold
    (subst (λ ss. IsMadeOf read.shape.problem p ss items.found.items items.nodes.items made) (ap (λ o. o.sizes) read.outline_is)
    (subst (λ file. IsMadeOf file p c.args.lines.outline.sizes.items items.found.items items.nodes.items made) read.file_is is)))
    (λ why e. inl e)
