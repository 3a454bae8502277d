-- The head to which a step leads is there, and so is each of its places.
use Rattle.std.proofs.Common.{◌≡◌, ℕ, ◌+◌, ◌*◌, ◌/◌, ◌<◌, ◌≤◌, length, get_or, ap, ◌∙◌, arith}
use Rattle.std.proofs.lemmas.Nat.{div_below}
use Rattle.std.proofs.lemmas.List.Elements.{All-get_or}
use Rattle.cr_ahead.proofs.ByMethod.{one_place}
use Rattle.cr_ahead.proofs.by_method.spread_place.Goals as goal

index_in : (heads each place steps step stride entries : ℕ) → 0 < each → place < heads * each → step < steps → stride ≡ steps → entries ≡ heads * steps
    → place / each * stride + step < entries
index_in heads each place steps step stride entries some inside known same counted =
    omega (
      arith,
      one_place heads steps (place / each) step (div_below place each heads some inside) known,
      counted,
      ap (λ (n : ℕ). place / each * n) same,
    )

pub bounds-next-place : goal.bounds-next-place
bounds-next-place c =
    index_in c.args.heads c.from.result c.args.place (length c.args.problem.now.leads) c.args.step c.from-steps.result (length c.args.next.now)
    (omega (arith, c.from.ensures, c.requires.each)) (omega (arith, c.requires.place, ap (λ (n : ℕ). c.args.heads * n) c.from.ensures)) c.requires.step
    (c.from-steps.ensures ∙ c.step_count.ensures.is) c.requires.counted

pub place_by-requires : goal.place_by-requires
place_by-requires c =
    let inside = index_in c.args.heads c.from.result c.args.place (length c.args.problem.now.leads) c.args.step c.from-steps.result (length c.args.next.now)
    (omega (arith, c.from.ensures, c.requires.each)) (omega (arith, c.requires.place, ap (λ (n : ℕ). c.args.heads * n) c.from.ensures)) c.requires.step
    (c.from-steps.ensures ∙ c.step_count.ensures.is) c.requires.counted in
    let to : ℕ = get_or c.args.next.now (c.args.place / c.from.result * c.from-steps.result + c.args.step) 0 in
    let there : to < c.args.heads = All-get_or (λ head. head < c.args.heads) c.args.next.now _ 0 inside c.requires.there in
    let low = one_place c.args.heads c.args.each to (c.method_of.result + 1) there (omega (arith, c.method_of.ensures.known, c.requires.each)) in
    omega (arith, low, c.requires.few)
