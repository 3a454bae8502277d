use Rattle.std.proofs.Common.{◌≡◌, ◌∙◌, ℕ, not, nat_lt, ◌+◌, ◌*◌, refl, ap, arith}
use Rattle.cr_model.specs.Callings.{lead_length, shortest}
use Rattle.cr_model.specs.Queries.{cap, part_cap}
use Rattle.cr_path.specs.Numbers.{head_after}
use Rattle.cr_path.proofs.Lives.{dies_from}
use Rattle.cr_path.proofs.numbers.leads.Leads.limit.Goals as goal

pub returns : goal.returns
returns c = λ head level_is round_is rung.
    let p = c.args.self.now in
    let path_limits = c.self.invariant.2 in
    let length = c.from-length.result in
    let length_is : length ≡ lead_length p c.args.step = omega (arith, c.from-length.ensures, c.length_of.ensures.is) in
    let least = c.least_to_rounds-round.result in
    ap (nat_lt rung) c.min.ensures
    ∙ dies_from p head c.args.step rung c.args.round c.has_row_twice.result round_is c.has_row_twice.ensures
    (head_after p head c.args.step) c.room_beside.result c.room_beside-2.result length least refl c.if-round.false c.if-has_row_twice.false
    length_is (c.least_to_rounds-round.ensures.is ∙ ap (λ (n : ℕ). shortest p * n) level_is)
    (c.room_beside.ensures rung ∙ ap (λ (n : ℕ). not (nat_lt n (rung + length))) (path_limits.part_cap ∙ ap part_cap c.self.view_is))
    (c.room_beside-2.ensures rung ∙ ap (λ (n : ℕ). not (nat_lt n (rung + (length + least)))) (path_limits.cap ∙ ap cap c.self.view_is))
