use Rattle.std.proofs.Common.{◌≡◌, ◌*◌, ◌≤◌, ◌∙◌, length, ap, arith}
use Rattle.std.specs.Prelude.{sum}
use Rattle.cr_rowset.specs.Stacks.{StackParts}
use Rattle.cr_false.specs.Sets.{IsFalsePair, IsSetOf, HasNumber, pairs}
use Rattle.cr_false.proofs.Tables.{all_seen, pairs_counted, kept}
use Rattle.cr_false.proofs.table.FalseTable.new.Goals as goal

pub total-number-requires : goal.total-number-requires
total-number-requires g c =
    let table = c.args.leads.now in
    let few : length table.leads ≤ 24 = c.stage-stage.ensures.sound.few in
    let long : length c.in_ok-numbers.numbers.items ≡ 24 * length table.leads =
    pairs_counted (λ pair number. HasNumber (IsFalsePair table pair) number) table c.in_ok-numbers.numbers.items c.in_ok-numbers.ensures in
    let same : length c.deref.result.now ≡ length c.in_ok-numbers.numbers.items = ap length c.deref.ensures.value in
    omega (arith, few, long, same)

pub invariant_of-result : goal.invariant_of-result
invariant_of-result g c =
    kept c.args.leads.now c.in_ok-sets.sets.items c.in_ok-twice.twice.items c.stage-stage.ensures.sound.few c.in_ok-sets.ensures c.in_ok-twice.ensures

pub returns : goal.returns
returns g c =
    let table = c.args.leads.now in (
      record {
        same_stage = c.stage-stage.ensures.is;
        sets_are = all_seen (λ (set : StackParts). set.rows) (λ pair rows. IsSetOf (IsFalsePair table pair) rows) (pairs table) c.in_ok-sets.sets.items c.in_ok-sets.ensures;
        twice_is = c.in_ok-twice.ensures;
      },
      record {
        number = c.total-number.result;
        is = record {
          numbers = c.in_ok-numbers.numbers.items;
          each = c.in_ok-numbers.ensures;
          total = c.total-number.ensures ∙ ap sum c.deref.ensures.value;
        };
        few = omega (arith, c.if-number-most.false);
      },
    )
