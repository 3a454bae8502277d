use Rattle.std.proofs.Common.{◌≡◌, ◌*◌, ℕ, length, refl, ap, arith}
use Rattle.cr_leads.specs.Tables.{lead_table, leads_counted}
use Rattle.cr_path.specs.Begun.{numbers_in}
use Rattle.cr_path.proofs.Recorded.{rung_whole}
use Rattle.cr_path.proofs.numbers.rung_leads.LeadNumbers.of.Goals as goal

pub returns : goal.returns
returns c =
    let p = c.args.leads.now in
    let made = c.loop-place.made in
    let place = c.loop-place.place in
    let all : place ≡ length made.heads.rows.items = omega (arith, c.loop-place-test.false, c.len.ensures, made.heads.rows.ok.0, c.loop-place.invariant.place) in
    rung_whole p c.args.told.now.told (numbers_in p made) (place * length p.leads) c.loop-place.invariant.begun (ap (λ (n : ℕ). n * length p.leads) all)

pub head_limit-requires : goal.head_limit-requires
head_limit-requires c =
    let p = c.args.leads.now in
    omega (arith, c.count.ensures.is, ap length c.told.ensures, c.requires.telling.of_leads.counted, leads_counted (lead_table p) p refl)
