-- All tables have a cell for each head, and that of changes of method has some for each.
use Rattle.std.proofs.Common.{◌≡◌, ◌+◌, ◌*◌, ◌≤◌, ℕ, Option, Some, None, IfSome, ap, sym, ◌∙◌, arith, rules}
use Rattle.cr_ahead.specs.declared.outlook.ItemTable.{ItemTable}
use Rattle.cr_ahead.specs.Exact.{exact_com, head_items}
use Rattle.cr_ahead.proofs.Outlooks.{home_places, all_places, com_places}
use Rattle.cr_ahead.proofs.outlook.Outlook.new.Goals as goal

few_places : (changing : Option ItemTable) (places each methods : ℕ) → each ≡ methods → places * (each + 1) ≤ 4294967296
    → IfSome changing (λ of_item. of_item.table.places ≡ places * (each + 1))
    → IfSome changing (λ of_item. (of_item.table.places ≡ places * (methods + 1)) × (of_item.table.places ≤ 4294967296))
few_places None places each methods same few are = search rules
few_places (Some of_item) places each methods same few are = (are ∙ ap (λ (n : ℕ). places * (n + 1)) same, omega (arith, are, few))

pub invariant_of-result : goal.invariant_of-result
invariant_of-result c =
    let p = c.args.problem.now in
    record {
      some = c.range_of-range.ensures.is_unit.some;
      few = c.parts.ensures.few;
      few_methods = c.method_count.ensures.few;
      at_home = home_places p c.args.heads.now c.range_of-range.result.unit c.in_ok-home.home c.in_ok-home.ensures;
      all = all_places p c.args.heads.now c.range_of-range.result.unit (head_items p) c.in_ok-items.items.items c.in_ok-items.ensures;
      by_method = few_places c.in_ok-changing.changing _ _ _ (sym c.method_count.ensures.is) (c.has_room.ensures c.if-not-has_room.false)
          (com_places p c.args.heads.now c.range_of-range.result.unit (exact_com p) c.in_ok-changing.changing c.in_ok-changing.ensures);
    }
