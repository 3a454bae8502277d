-- All rows are there.
use Rattle.std.proofs.Common.{◌≡◌, ℕ, ◌+◌, ◌*◌, ap, sym, ◌∙◌, subst, arith}
use Rattle.cr_ahead.specs.Moves.{places_of}
use Rattle.cr_ahead.specs.Tables.{IsAhead}
use Rattle.cr_ahead.proofs.Filling.{all_cells}
use Rattle.cr_ahead.proofs.ahead.Ahead.new.Goals as goal

pub returns : goal.returns
returns c =
    let kept = c.loop-left.invariant in
    let all : c.loop-left.left ≡ c.args.greatest + 1 = omega (arith, c.from-rows.ensures, c.loop-left-test.false, c.loop-left.auto.left-end) in
    subst (λ (n : ℕ). IsAhead c.args.moves.now c.args.least c.args.greatest (record { places = n; greatest = c.args.greatest; cells = c.loop-left.cells.items }))
    (sym c.places-places.ensures.is)
    (all_cells c.args.moves.now c.args.least c.args.greatest c.loop-left.cells.items (kept.counted ∙ ap (λ (n : ℕ). n * places_of c.args.moves.now) all) kept.right)
