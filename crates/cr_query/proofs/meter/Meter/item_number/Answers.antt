use Rattle.std.proofs.Common.{◌≡◌, ◌-◌, ◌<◌, ◌≤◌, ℕ, List, length, get_or, sym, ap, ap₂, ◌∙◌, subst, arith}
use Rattle.cr_query.specs.declared.tallies.Tally.{Tally}
use Rattle.cr_query.specs.declared.pattern_limits.Fitting.{Fitting}
use Rattle.cr_query.specs.Meters.{MeterParts, item_numbers}
use Rattle.cr_query.specs.Tallies.{leads_at, rows_at}
use Rattle.cr_query.proofs.Items.{items_counted, marked_item, lettered_item, fitted_item}
use Rattle.cr_query.proofs.Metering.{whole, whole_rows}
use Rattle.cr_query.proofs.meter.Meter.item_number.Goals as goal

pub rows_at-requires-clause-index : goal.rows_at-requires-clause-index
rows_at-requires-clause-index c =
    let m = c.self.inside in
    let node = m.leads.steps.items in
    let counted = whole m.problem node m.leads c.self.invariant.1 in
    let fitting = whole_rows m.problem node m.patterns.items c.self.invariant.2 in
    let inside = subst (λ (meter : MeterParts). c.args.item < length (item_numbers meter.problem meter.node)) (sym c.self.view_is) c.requires in
    let marks : c.len-marks.result ≡ length m.leads.marks.items = omega (arith, c.len-marks.ensures, m.leads.marks.ok.0) in
    let letters : c.len-letters.result ≡ length m.leads.letters.items = omega (arith, c.len-letters.ensures, m.leads.letters.ok.0) in
    omega (arith, inside, marks, letters, items_counted m.problem node m.leads m.patterns.items counted fitting, ap length c.deref-else-item-marks-2.ensures.value, c.if-item-marks.false, c.if-item-marks-2.false)

pub returns-then-item-marks : goal.returns-then-item-marks
returns-then-item-marks c =
    let m = c.self.inside in
    let node = m.leads.steps.items in
    let counted = whole m.problem node m.leads c.self.invariant.1 in
    let fitting = whole_rows m.problem node m.patterns.items c.self.invariant.2 in
    let marks : c.len-marks.result ≡ length m.leads.marks.items = omega (arith, c.len-marks.ensures, m.leads.marks.ok.0) in
    let inside : c.args.item < length m.leads.marks.items = omega (arith, marks, c.if-item-marks.true) in
    c.leads_at.ensures
    ∙ ap₂ (λ (n : ℕ) (tallies : List Tally). get_or (leads_at n tallies) c.args.item 0) c.front-front.ensures c.deref.ensures.value
    ∙ marked_item m.problem node m.leads m.patterns.items counted fitting c.args.item inside
    ∙ ap (λ (meter : MeterParts). get_or (item_numbers meter.problem meter.node) c.args.item 0) c.self.view_is

pub returns-then-item-marks-2 : goal.returns-then-item-marks-2
returns-then-item-marks-2 c =
    let m = c.self.inside in
    let node = m.leads.steps.items in
    let counted = whole m.problem node m.leads c.self.invariant.1 in
    let fitting = whole_rows m.problem node m.patterns.items c.self.invariant.2 in
    let marks : c.len-marks.result ≡ length m.leads.marks.items = omega (arith, c.len-marks.ensures, m.leads.marks.ok.0) in
    let letters : c.len-letters.result ≡ length m.leads.letters.items = omega (arith, c.len-letters.ensures, m.leads.letters.ok.0) in
    let past : length m.leads.marks.items ≤ c.args.item = omega (arith, marks, c.if-item-marks.false) in
    let inside : c.args.item - length m.leads.marks.items < length m.leads.letters.items = omega (arith, marks, letters, past, c.if-item-marks-2.true) in
    c.leads_at-then-item-marks-2.ensures
    ∙ ap₂ (λ (n : ℕ) (tallies : List Tally). get_or (leads_at n tallies) (c.args.item - c.len-marks.result) 0) c.front-front.ensures c.deref-then-item-marks-2.ensures.value
    ∙ ap (λ (n : ℕ). get_or (leads_at (length node) m.leads.letters.items) (c.args.item - n) 0) marks
    ∙ lettered_item m.problem node m.leads m.patterns.items counted fitting c.args.item past inside
    ∙ ap (λ (meter : MeterParts). get_or (item_numbers meter.problem meter.node) c.args.item 0) c.self.view_is

pub returns-else-item-marks-2 : goal.returns-else-item-marks-2
returns-else-item-marks-2 c =
    let m = c.self.inside in
    let node = m.leads.steps.items in
    let counted = whole m.problem node m.leads c.self.invariant.1 in
    let fitting = whole_rows m.problem node m.patterns.items c.self.invariant.2 in
    let marks : c.len-marks.result ≡ length m.leads.marks.items = omega (arith, c.len-marks.ensures, m.leads.marks.ok.0) in
    let letters : c.len-letters.result ≡ length m.leads.letters.items = omega (arith, c.len-letters.ensures, m.leads.letters.ok.0) in
    let past : length m.leads.marks.items ≤ c.args.item = omega (arith, marks, c.if-item-marks.false) in
    let all : length m.leads.letters.items ≤ c.args.item - length m.leads.marks.items = omega (arith, marks, letters, past, c.if-item-marks-2.false) in
    c.rows_at.ensures
    ∙ ap₂ (λ (n : ℕ) (fittings : List Fitting). get_or (rows_at n fittings) (c.args.item - c.len-marks.result - c.len-letters.result) 0) c.front-front.ensures c.deref-else-item-marks-2.ensures.value
    ∙ ap₂ (λ (a b : ℕ). get_or (rows_at (length node) m.patterns.items) (c.args.item - a - b) 0) marks letters
    ∙ fitted_item m.problem node m.leads m.patterns.items counted fitting c.args.item past all
    ∙ ap (λ (meter : MeterParts). get_or (item_numbers meter.problem meter.node) c.args.item 0) c.self.view_is
