use Rattle.std.proofs.Common.{◌≡◌, ℕ, ◌+◌, ◌*◌, ◌/◌, ◌<◌, [], length, get_or, ap, ◌∙◌, rules, arith}
use Rattle.std.proofs.lemmas.List.{get_or_default}
use Rattle.std.proofs.lemmas.List.FromFn.{map-range_with_len_more}
use Rattle.std.proofs.lemmas.Nat.{div_below}
use Rattle.cr_ahead.proofs.by_method.spread_heads.Goals as goal

pub loop-place-preserved : goal.loop-place-preserved
loop-place-preserved c =
    let place = c.loop-place.place in
    let each = c.args.each in
    let at : 0 + place ≡ place = omega arith in
    let within : place / each < length c.args.heads.now = div_below place each (length c.args.heads.now) c.requires.some (omega (arith, c.loop-place-test.true, c.loop-place.auto.place-end, ap (λ (n : ℕ). length c.args.heads.now * n) c.from-size.ensures)) in
    let head : c.index-heads-place.result ≡ get_or c.args.heads.now (place / each) [] =
    c.index-heads-place.is ∙ ap (λ (n : ℕ). get_or c.args.heads.now (place / n) c.index-heads-place.result) c.from-size.ensures ∙ get_or_default c.args.heads.now (place / each) c.index-heads-place.result [] within in
    search (rules, head, map-range_with_len_more (λ n. get_or c.args.heads.now (n / each) []) 0 place place at)
