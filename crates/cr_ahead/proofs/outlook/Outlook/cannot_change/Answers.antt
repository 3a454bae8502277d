-- The table of changes of method tells.
use Rattle.std.proofs.Common.{length, ◌≡◌, ℕ, ◌+◌, ◌*◌, ◌/◌, ◌<◌, Option, Some, None, IfSome, sym, ap, ◌∙◌, subst, arith}
use Rattle.cr_model.specs.Callings.{length_of}
use Rattle.cr_ahead.specs.ByMethod.{method_number, place_by}
use Rattle.cr_ahead.specs.Exact.{exact_com}
use Rattle.cr_ahead.specs.Outlooks.{IsOutlook, IsComTable}
use Rattle.cr_ahead.proofs.InUnits.{node_units}
use Rattle.cr_ahead.proofs.ByMethod.{one_place}
use Rattle.cr_ahead.proofs.Outlooks.{no_limit, limit_says}
use Rattle.cr_ahead.proofs.outlook.Outlook.cannot_change.Goals as goal

number_below : (methods : ℕ) (last : Option ℕ) → IfSome last (λ method. method < methods) → method_number last < methods + 1
number_below methods None known = omega arith
number_below methods (Some method) known = omega (arith, known)

pub returns-in-None : goal.returns-in-None
returns-in-None c = λ p heads node outlook at is last counted.
    let unit : ℕ = c.self.inside.unit in
    let known = subst (IsOutlook p heads) (sym c.self.view_is) outlook in
    let whole : length_of p node ≡ unit * (c.args.changes / unit) = node_units p unit known.unit node ∙ ap (λ (n : ℕ). unit * (n / unit)) (sym is) in
    no_limit p heads unit c.args.place (c.args.changes / unit) node known.sound at whole (exact_com p)
    (subst (IsComTable p heads unit (exact_com p)) c.in-None.is known.changing)

pub returns-in-Some : goal.returns-in-Some
returns-in-Some c = λ p heads node outlook at is last counted.
    let unit : ℕ = c.self.inside.unit in
    let known = subst (IsOutlook p heads) (sym c.self.view_is) outlook in
    let whole : length_of p node ≡ unit * (c.args.changes / unit) = node_units p unit known.unit node ∙ ap (λ (n : ℕ). unit * (n / unit)) (sym is) in
    let here = c.place_by-by_method.ensures ∙ ap (λ (n : ℕ). place_by (n + 1) c.args.place c.args.last) known.methods ∙ ap (λ (l : Option ℕ). place_by (length p.letters + 1) c.args.place l) last in
    c.is_refused.ensures
    ∙ limit_says p heads unit c.args.place (c.args.changes / unit) node known.sound at whole (exact_com p) c.in-Some.of_item c.self.inside.parts c.args.changed c.place_by-by_method.result
    (subst (IsComTable p heads unit (exact_com p)) c.in-Some.is known.changing) known.parts counted here
