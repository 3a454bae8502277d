-- The node's length is some units, and the tables say the rest.
use Rattle.std.proofs.Common.{◌≡◌, ℕ, ◌*◌, ◌/◌, ◌<◌, List, length, is_none, sym, ap, ◌∙◌, subst}
use Rattle.cr_model.specs.Callings.{length_of}
use Rattle.cr_ahead.specs.declared.outlook.ItemTable.{ItemTable}
use Rattle.cr_ahead.specs.Exact.{head_items}
use Rattle.cr_ahead.specs.Outlooks.{IsOutlook, IsHomeTable, IsSomeRefused}
use Rattle.cr_ahead.proofs.InUnits.{node_units}
use Rattle.cr_ahead.proofs.Outlooks.{home_says, items_say}
use Rattle.cr_ahead.proofs.outlook.Outlook.cannot_come_by_heads.Goals as goal

pub returns-in-Some : goal.returns-in-Some
returns-in-Some c = λ p heads node outlook at is has.
    let unit : ℕ = c.self.inside.unit in
    let units : ℕ = c.args.changes / unit in
    let known = subst (IsOutlook p heads) (sym c.self.view_is) outlook in
    let whole : length_of p node ≡ unit * units = node_units p unit known.unit node ∙ ap (λ (n : ℕ). unit * (n / unit)) (sym is) in
    let home = subst (IsHomeTable p heads unit) c.in-Some.is known.home in
    c.is_nowhere.ensures ∙ ap is_none c.at.ensures.is ∙ home_says p heads unit c.args.place units node known.sound at whole c.in-Some.home home.0 home.1

pub returns-in-None : goal.returns-in-None
returns-in-None c = λ p heads node outlook at is has.
    let unit : ℕ = c.self.inside.unit in
    let units : ℕ = c.args.changes / unit in
    let known = subst (IsOutlook p heads) (sym c.self.view_is) outlook in
    let whole : length_of p node ≡ unit * units = node_units p unit known.unit node ∙ ap (λ (n : ℕ). unit * (n / unit)) (sym is) in
    let some : 0 < length (head_items p) = subst (IsHomeTable p heads unit) c.in-None.is known.home in
    items_say p heads unit c.args.place units node known.sound at whole c.self.inside.parts c.self.inside.items.items c.args.so_far.now known.parts known.items has
    c.some_is_refused.result some
    (subst (λ (tables : List ItemTable). IsSomeRefused c.self.inside.parts c.args.place units tables c.args.so_far.now c.some_is_refused.result) c.deref.ensures.value
    c.some_is_refused.ensures)
