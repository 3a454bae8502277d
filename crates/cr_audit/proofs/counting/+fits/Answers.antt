use Rattle.std.proofs.Common.{◌≡◌, ◌<◌, ◌∷◌, length, sym, ap, ◌∙◌, rules, arith}
use Rattle.cr_model.specs.declared.query.Cell.TheVariants as cell
use Rattle.cr_audit.proofs.FittingCells.{fits_nothing, fits_one, fits_later, fits_never}
use Rattle.cr_audit.proofs.counting.+fits.Goals as goal

pub returns-in_default : goal.returns-in_default
returns-in_default n c =
    fits_nothing c.args.cells.now c.args.row.now c.args.place c.number-stage.result (search rules) (c.number-stage.ensures.is ∙ c.stage.ensures.is) c.requires

pub returns-then-fits : goal.returns-then-fits
returns-then-fits n c =
    let long : c.number-stage.result ≡ length c.args.row.now = c.number-stage.ensures.is ∙ c.stage.ensures.is in
    let is : c.args.cells.now ≡ cell.Run ∷ c.in-Some.others.now = c.in-Some.ensures.cases.0 ∙ ap (λ one. one ∷ c.in-Some.others.now) c.in-Run.is in
    fits_later c.args.cells.now c.args.row.now c.args.place c.in-Some.others.now is c.loop-number.number (omega (arith, c.loop-number.auto.number)) (omega (arith, long)) (sym c.fits-in-loop-number.ensures ∙ c.if-fits.true)

pub returns-then-place-stage-2 : goal.returns-then-place-stage-2
returns-then-place-stage-2 n c =
    let long : c.number-stage.result ≡ length c.args.row.now = c.number-stage.ensures.is ∙ c.stage.ensures.is in
    let is : c.args.cells.now ≡ cell.Any ∷ c.in-Some.others.now = c.in-Some.ensures.cases.0 ∙ ap (λ one. one ∷ c.in-Some.others.now) c.in-Any.is in
    let inside : c.args.place < c.number-stage.result = search rules in
    c.fits-then-place-stage-2.ensures ∙ fits_one c.args.cells.now c.args.row.now c.args.place c.in-Some.others.now is (omega (arith, long))

pub returns-after-loop-number : goal.returns-after-loop-number
returns-after-loop-number n c =
    let long : c.number-stage.result ≡ length c.args.row.now = c.number-stage.ensures.is ∙ c.stage.ensures.is in
    let is : c.args.cells.now ≡ cell.Run ∷ c.in-Some.others.now = c.in-Some.ensures.cases.0 ∙ ap (λ one. one ∷ c.in-Some.others.now) c.in-Run.is in
    fits_never c.args.cells.now c.args.row.now c.args.place c.in-Some.others.now is c.requires (λ k from to. c.loop-number.invariant k from (omega (arith, long)))
