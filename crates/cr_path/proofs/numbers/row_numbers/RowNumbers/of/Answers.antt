use Rattle.std.proofs.Common.{◌-◌, ◌≤◌, ◌∙◌, ℕ, List, length, All, sym, ap₂, subst}
use Rattle.cr_path.specs.Rung.{IsHeld}
use Rattle.cr_path.specs.Representatives.{name_of, all_padded}
use Rattle.cr_path.specs.declared.numbers.rung_leads.RungLead.{RungLead}
use Rattle.cr_path.proofs.Padding.{all_held, named_whole}
use Rattle.cr_path.proofs.numbers.row_numbers.RowNumbers.of.Goals as goal

pub padded_names-requires-clause-held : goal.padded_names-requires-clause-held
padded_names-requires-clause-held c =
    let made = c.args.made.now in
    let row_names = c.in_ok-row_names.row_names in
    subst (λ (leads : List RungLead). All (IsHeld (length c.deref-3.result.now)) leads) (sym c.deref-2.ensures.value)
    (subst (λ (ns : List ℕ). All (IsHeld (length ns)) row_names.leads.items) (sym c.deref-3.ensures.value)
    (all_held made.numbers.items (λ n. name_of c.args.cover.now c.args.representatives.now.places.items n) (length c.args.representatives.now.rows.items)
    made.records.items row_names.leads.items row_names.names.items (length made.records.items) c.in_ok-row_names.ensures))

pub returns : goal.returns
returns c =
    let made = c.args.made.now in
    let row_names = c.in_ok-row_names.row_names in
    let width : ℕ = c.width_for_all-width.result in
    named_whole made.numbers.items (λ n. name_of c.args.cover.now c.args.representatives.now.places.items n) (length c.args.representatives.now.rows.items) width
    made.records.items row_names.leads.items row_names.names.items c.in_ok-numbers.numbers.items c.in_ok-row_names.ensures
    (subst (All (λ (lead : RungLead). lead.end - lead.start ≤ width)) c.deref.ensures.value c.width_for_all-width.ensures)
    (c.in_ok-numbers.ensures ∙ ap₂ (λ (ns : List ℕ) (leads : List RungLead). all_padded width ns leads) c.deref-3.ensures.value c.deref-2.ensures.value)
