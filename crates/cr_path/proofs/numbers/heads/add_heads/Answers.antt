use Rattle.std.proofs.Common.{◌≡◌, ◌+◌, ◌*◌, ◌<◌, ◌∙◌, ℕ, List, [], length, get_or, refl, sym, ap, subst, arith}
use Rattle.cr_path.specs.Numbers.{head_after}
use Rattle.cr_path.specs.Heads.{AreNext}
use Rattle.cr_path.specs.RungLeads.{HasNumber}
use Rattle.cr_path.proofs.AllHeads.{next_more}
use Rattle.cr_path.proofs.Grown.{kept_by, heads_more}
use Rattle.cr_path.proofs.Recorded.{reached_after}
use Rattle.cr_path.proofs.numbers.heads.add_heads.Goals as goal

one_more : (before step : ℕ) → before + step + 1 ≡ before + (step + 1)
one_more before step = omega arith

pub loop-step-preserved : goal.loop-step-preserved
loop-step-preserved c =
    let p = c.args.leads.now in
    let place = c.args.place in
    let step = c.loop-step.step in
    let old = c.loop-step.heads.rows in
    let new = c.number.new.rows.rows in
    let number = c.in_ok-number.field-0 in
    let head : List ℕ = get_or old place [] in
    let after : c.head_after.result ≡ head_after p head step =
    c.head_after.ensures.is ∙ ap (λ (h : List ℕ). head_after p h step) (sym c.loop-step.invariant.head) in
    let has : HasNumber old (head_after p head step) number new =
    subst (λ (row : List ℕ). HasNumber old row number new) after c.in_ok-number.ensures.is in
    let kept = kept_by old new (head_after p head step) number has in
    let inside : step < length p.leads = omega (arith, c.loop-step-test.true, c.count-step-end.ensures.is) in
    let long : length (head_after p head step) ≡ p.stage = sym (ap length after) ∙ c.head_after.ensures.same_stage in
    record {
      are = heads_more p old new (head_after p head step) number c.loop-step.invariant.are has long
          (reached_after p head step (c.loop-step.invariant.are.reached place [] c.loop-step.invariant.place) inside);
      next = subst (AreNext p new c.push.new.self.items) (one_more (place * length p.leads) step)
          (next_more p old new c.loop-step.next.items c.push.new.self.items place step (place * length p.leads + step) number c.loop-step.invariant.next refl
          c.loop-step.invariant.place inside has c.in_ok-push.ensures.items);
      head = kept.same place c.loop-step.invariant.place ∙ c.loop-step.invariant.head;
      place = omega (arith, c.loop-step.invariant.place, kept.long);
      few = c.in_ok-number.ensures.few c.loop-step.invariant.few;
    }
