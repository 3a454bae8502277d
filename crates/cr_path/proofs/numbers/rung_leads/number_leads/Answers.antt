use Rattle.std.proofs.Common.{◌≡◌, ◌+◌, ◌*◌, ◌<◌, ◌∙◌, ℕ, List, [], length, get_or, map, refl, sym, ap, ap₂, subst, arith}
use Rattle.std.specs.Prelude.{All}
use Rattle.cr_row.specs.Rows.{product, IsInverse}
use Rattle.cr_path.specs.Begun.{numbers_in}
use Rattle.cr_path.specs.Heads.{AreAllHeads, IsNamed}
use Rattle.cr_path.specs.RungLeads.{IsBegun}
use Rattle.cr_path.specs.ToldRows.{ArePlaces}
use Rattle.cr_path.specs.declared.numbers.heads.Heads.{Heads}
use Rattle.cr_path.proofs.numbers.rung_leads.number_leads.Goals as goal

none_more : (n : ℕ) → n ≡ n + 0
none_more n = omega arith

one_more : (before step : ℕ) → before + step + 1 ≡ before + (step + 1)
one_more before step = omega arith

pub number_told-requires : goal.number_told-requires
number_told-requires c =
    let long : length c.head-head.result ≡ c.args.leads.now.stage =
    ap length c.head-head.ensures ∙ c.requires.heads.are.staged c.args.place [] c.requires.place in
    subst (All (λ (row : List ℕ). length row ≡ length c.head-head.result)) (sym c.rows.ensures)
    (λ k d low. c.requires.rows.staged k d low ∙ sym long)

pub loop-step-init : goal.loop-step-init
loop-step-init c =
    let p = c.args.leads.now in
    let told = c.args.told.now.told in
    let place = c.args.place in
    let made = c.number_told.new.made in
    let same = c.in_ok-number_told.ensures.heads in
    let head_is : c.head-head.result ≡ get_or made.heads.rows.items place [] =
    c.head-head.ensures ∙ ap (λ (h : Heads). get_or h.rows.items place []) (sym same) in
    record {
      begun = subst (IsBegun p told (numbers_in p made)) (none_more (place * length p.leads))
          (c.in_ok-number_told.ensures.begun p told (place * length p.leads) c.requires.begun);
      named = record {
        all = subst (AreAllHeads p) (sym same) c.requires.heads;
        within = subst (λ (h : Heads). place < length h.rows.items) (sym same) c.requires.place;
        inverse = subst (λ (row : List ℕ). IsInverse row c.inverse-inverse.result) head_is c.inverse-inverse.ensures.undoes;
        names = subst (λ (rows : List (List ℕ)). ArePlaces made.rows.rows rows c.number_told.new.names.items)
            (ap₂ (λ (row : List ℕ) (rows : List (List ℕ)). map (product row) rows) head_is c.rows.ensures) c.in_ok-number_told.ensures.names;
      };
      heads = refl;
    }

pub loop-step-preserved : goal.loop-step-preserved
loop-step-preserved c =
    let p = c.args.leads.now in
    let made = c.number_lead.new.made in
    record {
      begun = subst (IsBegun p c.args.told.now.told (numbers_in p made)) (one_more (c.args.place * length p.leads) c.loop-step.step) c.in_ok-number_lead.ensures.begun;
      named = subst (IsNamed p made.heads c.args.place c.inverse-inverse.result c.args.told.now.rows made.rows.rows) c.deref.ensures.value c.in_ok-number_lead.ensures.named;
      heads = c.in_ok-number_lead.ensures.heads ∙ c.loop-step.invariant.heads;
    }
