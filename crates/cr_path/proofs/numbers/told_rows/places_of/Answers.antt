use Rattle.std.proofs.Common.{◌≡◌, ◌+◌, ◌<◌, ◌++◌, ◌∷◌, [], ◌∙◌, ℕ, List, length, take, sym, ap, subst, arith}
use Rattle.std.proofs.lemmas.List.{take_more}
use Rattle.cr_path.specs.RungLeads.{AreNumbered}
use Rattle.cr_path.proofs.Grown.{numbered_more}
use Rattle.cr_path.proofs.Placed.{staged_more}
use Rattle.cr_path.proofs.numbers.told_rows.places_of.Goals as goal

pub loop-row-preserved : goal.loop-row-preserved
loop-row-preserved c =
    let lead = c.args.lead.now in
    let index = c.loop-row.row-index in
    let row = c.row-item.result in
    let old = c.args.rows.now.rows in
    let inside : index < length lead = omega arith in
    let next : take index lead ++ row ∷ [] ≡ take (index + 1) lead =
    sym (take_more lead index row inside ∙ ap (λ (last : List ℕ). take index lead ++ last ∷ []) (sym c.row-item.is)) in
    record {
      are = subst (λ (rung : List (List ℕ)). AreNumbered old [] rung c.number.new.rows.rows c.push.new.self.items) next
          (numbered_more old c.loop-row.rows.rows c.number.new.rows.rows [] c.loop-row.places.items c.push.new.self.items
          (take index lead) row c.in_ok-number.field-0 c.loop-row.invariant.are c.in_ok-number.ensures.is c.in_ok-push.ensures.items);
      staged = λ stage before all. staged_more c.loop-row.rows.rows c.number.new.rows.rows row c.in_ok-number.field-0 stage c.in_ok-number.ensures.is
          (ap length c.row-item.is ∙ all index row inside) (c.loop-row.invariant.staged stage before all);
    }
