-- One touch more.
use Rattle.std.proofs.Common.{◌+◌, [], ◌∷◌, length, get_or, map, take, sym, ap, ◌∙◌, subst, length-append}
use Rattle.std.specs.List.{AllZip}
use Rattle.cr_store.specs.ShapeReads.{found_parts}
use Rattle.cr_store.specs.Lines.{IsTouchOf}
use Rattle.cr_store.specs.Reading.{TellsTouch}
use Rattle.cr_store.proofs.ReadUpTo.{touch_more}
use Rattle.cr_store.proofs.reading.read_touches.Goals as goal

pub loop-line-preserved : goal.loop-line-preserved
loop-line-preserved c =
    let p = c.args.problem.now in
    let lines = c.args.lines.now in
    let i = c.loop-line.line-index in
    let found = c.loop-line.found.items in
    let touch = c.in-Some.touch in
    let items = c.in_ok-push-in-Some.ensures.items in
    let is = subst (λ t. TellsTouch p (found_parts (get_or lines i (record { length = 0; calling = record { ref_ptr = (0, 0); now = [] } }))) t) c.in-Some.is c.in_ok-touch.ensures in
    let more = touch_more p lines i (record { length = 0; calling = record { ref_ptr = (0, 0); now = [] } }) found touch c.loop-line-test.true c.loop-line.invariant.1 is in (
      ap length items ∙ length-append found (touch ∷ []) ∙ ap (λ n. n + 1) c.loop-line.invariant.0,
      subst (AllZip (IsTouchOf p) (take (i + 1) (map found_parts lines))) (sym items) more,
    )
