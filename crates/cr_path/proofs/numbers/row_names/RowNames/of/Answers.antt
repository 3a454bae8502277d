use Rattle.std.proofs.Common.{◌≡◌, ◌++◌, ◌<◌, ℕ, List, length, get_or, map, drop, ◌∙◌, ◌-◌, ap, ap₂, arith, subst}
use Rattle.std.specs.Prelude.{All}
use Rattle.std.proofs.lemmas.List.{get_or_default}
use Rattle.std.proofs.lemmas.List.Elements.{All-map, All-take, All-drop, All-weaker}
use Rattle.cr_path.specs.Rung.{rung_numbers}
use Rattle.cr_path.specs.Representatives.{name_of, HasName, AreSame, AreListed}
use Rattle.cr_path.specs.declared.numbers.rung_leads.RungLead.{RungLead}
use Rattle.cr_path.proofs.Names.{no_lead, some_numbers, some_names, listed_more}
use Rattle.cr_path.proofs.numbers.row_names.RowNames.of.Goals as goal

pub loop-lead-preserved : goal.loop-lead-preserved
loop-lead-preserved c =
    let made = c.args.made.now in
    let rung : List RungLead = made.records.items in
    let numbers : List ℕ = made.numbers.items in
    let cover : List ℕ = c.args.cover.now in
    let places : List ℕ = c.args.representatives.now.places.items in
    let below : ℕ = length c.args.representatives.now.rows.items in
    let name : ℕ → ℕ = (λ n. name_of cover places n) in
    let index : ℕ = c.loop-lead.lead-index in
    let before : List ℕ = c.loop-lead.names.items in
    let later : List ℕ = c.listed.new.names.items in
    let names : List ℕ = c.in_ok-more.more.items in
    let one : RungLead = get_or rung index no_lead in
    let lead : RungLead = c.in_ok-listed.field-0 in
    let inside : index < length rung = omega (arith, c.loop-lead-test.true, ap length c.deref-lead-items.ensures.value) in
    let numbers_is : c.numbers_in.result.now ≡ rung_numbers numbers one =
    c.numbers_in.ensures ∙ ap₂ (λ (ns : List ℕ) (leads : List RungLead). rung_numbers ns (get_or leads index no_lead)) c.deref.ensures.value c.deref-lead-items.ensures.value in
    let same : AreSame (map name (rung_numbers numbers one)) names =
    subst (λ (ns : List ℕ). AreSame (map name ns) names) numbers_is c.in_ok-more.ensures in
    let some : 0 < length names = some_names name (rung_numbers numbers one) names (some_numbers numbers one (c.requires.held index no_lead inside)) same in
    let below_all : All (λ n. n < below) (map name (rung_numbers numbers one)) =
    All-map (λ n. n < below) name (rung_numbers numbers one)
    (All-weaker (HasName cover places below) (λ n. name n < below) (λ n has. has.2) (rung_numbers numbers one)
    (All-take (HasName cover places below) (one.end - one.start) (drop one.start numbers) (All-drop (HasName cover places below) one.start numbers c.requires.named))) in
    listed_more numbers name below rung c.loop-lead.leads.items c.push.new.self.items before later names index one lead
    c.loop-lead.invariant inside (get_or_default rung index no_lead one inside) same below_all some
    c.in_ok-listed.ensures.start c.in_ok-listed.ensures.end
    (c.in_ok-listed.ensures.names ∙ ap (λ (ns : List ℕ). before ++ ns) c.deref-in-loop-lead.ensures.value)
    c.in_ok-push.ensures.items

pub returns : goal.returns
returns c =
    let made = c.args.made.now in
    let rung : List RungLead = made.records.items in
    let all : c.loop-lead.lead-index ≡ length rung = omega (arith, c.loop-lead-test.false, c.loop-lead.auto.lead-index-end, ap length c.deref-lead-items.ensures.value) in
    subst (λ n. AreListed made.numbers.items (name_of c.args.cover.now c.args.representatives.now.places.items) (length c.args.representatives.now.rows.items) rung
    c.loop-lead.leads.items c.loop-lead.names.items n) all c.loop-lead.invariant
