use Rattle.std.proofs.Common.{◌≡◌, ◌+◌, ◌-◌, ◌/◌, max, sym, ap, ◌∙◌, arith}
use Rattle.cr_row.specs.Packed.{bells_of}
use Rattle.cr_rowset.specs.Keys.{greatest, stage_of}
use Rattle.cr_rowset.proofs.Known.{one_bell_more, only}
use Rattle.cr_rowset.proofs.keys.greatest_bell.Goals as goal

pub loop-place-preserved : goal.loop-place-preserved
loop-place-preserved c =
    let place = c.loop-place._place in
    let rest = c.loop-place.rest in
    ap (λ m. max m (greatest (bells_of (16 - (place + 1)) (rest / 16)))) c.greater-most.ensures
    ∙ one_bell_more c.loop-place.most rest place (stage_of c.args.key) (omega (arith, c.loop-place-test.true)) c.loop-place.invariant

pub returns : goal.returns
returns c =
    let most = c.loop-place.most in
    let none : 16 - c.loop-place._place ≡ 0 = omega (arith, c.loop-place-test.false) in
    let last : max most 0 ≡ stage_of c.args.key = ap (λ n. max most (greatest (bells_of n c.loop-place.rest))) (sym none) ∙ c.loop-place.invariant in
    only most (stage_of c.args.key) last
