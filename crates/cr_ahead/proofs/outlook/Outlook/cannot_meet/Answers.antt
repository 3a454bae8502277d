-- The node's length is so many units, and the item's table says the rest.
use Rattle.std.proofs.Common.{◌≡◌, ℕ, ◌*◌, ◌/◌, sym, ap, ◌∙◌, subst, rules}
use Rattle.cr_model.specs.Callings.{length_of}
use Rattle.cr_ahead.specs.Outlooks.{OutlookParts, IsOutlook, head_item}
use Rattle.cr_ahead.proofs.InUnits.{node_units}
use Rattle.cr_ahead.proofs.Outlooks.{one_refused, table_at}
use Rattle.cr_ahead.proofs.outlook.Outlook.cannot_meet.Goals as goal

pub returns : goal.returns
returns c = λ p heads node outlook at is has.
    let unit : ℕ = c.self.inside.unit in
    let units : ℕ = c.args.units in
    let known = subst (IsOutlook p heads) (sym c.self.view_is) outlook in
    let here : units ≡ length_of p node / unit = is ∙ ap (λ (o : OutlookParts). length_of p node / o.unit) (sym c.self.view_is) in
    let whole : length_of p node ≡ unit * units = node_units p unit known.unit node ∙ ap (λ (n : ℕ). unit * n) (sym here) in
    c.is_refused.ensures
    ∙ one_refused p heads unit c.args.place units node known.sound at whole (head_item p c.args.item) c.index.result.now c.self.inside.parts c.args.so_far known.parts
    (table_at p heads unit c.self.inside.items.items c.args.item c.index.result.now known.items (search rules) c.index.ensures) has
