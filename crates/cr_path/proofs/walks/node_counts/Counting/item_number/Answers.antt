use Rattle.std.proofs.Common.{ℕ, List, get_or, sym, ap, ◌∙◌, subst}
use Rattle.cr_query.specs.Meters.{MeterParts, item_numbers}
use Rattle.cr_path.specs.Counted.{IsMeterOf}
use Rattle.cr_path.proofs.Counts.{no_items}
use Rattle.cr_path.proofs.walks.node_counts.Counting.item_number.Goals as goal

pub returns-in-Some : goal.returns-in-Some
returns-in-Some c p node counted =
    c.item_number.ensures
    ∙ ap (λ (m : MeterParts). get_or (item_numbers m.problem m.node) c.args.item 0) (subst (IsMeterOf p node) c.in-Some.is counted.meter)

pub returns-in-None : goal.returns-in-None
returns-in-None c p node counted =
    ap (λ (numbers : List ℕ). get_or numbers c.args.item 0) (sym (no_items p node (subst (IsMeterOf p node) c.in-None.is counted.meter)))
