use Rattle.std.proofs.Common.{◌≡◌, ◌*◌, ◌∙◌, ℕ, Bool, List, length, map, All, sym, ap, subst, arith}
use Rattle.cr_path.specs.Begun.{numbers_in}
use Rattle.cr_path.specs.Numbers.{NumberParts, all_fitting, comes_round, IsNumbered}
use Rattle.cr_path.specs.Representatives.{AreRepresentatives, name_of, AreLike, AreNamed}
use Rattle.cr_path.specs.Rung.{IsRung}
use Rattle.cr_path.specs.declared.numbers.rung_leads.RungLead.{RungLead}
use Rattle.cr_path.proofs.Told.{told_whole}
use Rattle.cr_path.proofs.numbers.table.table_of.Goals as goal

pub invariant_of-result : goal.invariant_of-result
invariant_of-result c =
    let heads : ℕ = length c.in_ok-made.made.heads.rows.items in
    let rung : ℕ = length c.in_ok-made.made.records.items in
    let long : length c.in_ok-records.records.items ≡ rung = c.in_ok-records.ensures.long ∙ ap length c.deref-4.ensures.value in
    record {
      some = c.count-2.ensures.some;
      steps = c.count-2.ensures.few;
      records = long ∙ c.in_ok-made.ensures.recorded ∙ ap (λ (n : ℕ). heads * n) (sym c.count-2.ensures.is);
      numbers = c.in_ok-named.ensures.long ∙ ap (λ (n : ℕ). n * c.in_ok-named.named.width) (sym long);
    }

pub round_heads_of-requires : goal.round_heads_of-requires
round_heads_of-requires c =
    subst (All (λ head. length head ≡ c.args.leads.now.stage)) (sym c.deref-3.ensures.value) c.in_ok-made.ensures.staged

pub fittings_of-requires : goal.fittings_of-requires
fittings_of-requires c =
    subst (All (λ head. length head ≡ c.args.leads.now.stage)) (sym c.deref-6.ensures.value) c.in_ok-made.ensures.staged

pub returns : goal.returns
returns c =
    let p = c.args.leads.now in
    let made = c.in_ok-made.made in
    let cover : List ℕ = c.in_ok-cover.cover.items in
    let representatives : List (List ℕ) = c.in_ok-representatives.representatives.rows.items in
    let places : List ℕ = c.in_ok-representatives.representatives.places.items in
    let named = c.in_ok-named.named in
    let records = c.in_ok-records.records.items in
    let round_heads : List Bool = c.in_ok-round_heads.round_heads.items in
    let told : AreRepresentatives made.rows.rows cover representatives places (length made.rows.rows) =
    subst (λ (ns : List ℕ). AreRepresentatives made.rows.rows ns representatives places (length made.rows.rows)) c.deref.ensures.value c.in_ok-representatives.ensures in
    let are_named : AreNamed made.numbers.items (name_of cover places) (length representatives) named.width made.records.items named.numbers.items =
    subst (λ (ns : List ℕ). AreNamed made.numbers.items (name_of ns places) (length representatives) named.width made.records.items named.numbers.items)
    c.deref-2.ensures.value c.in_ok-named.ensures in
    let heads : List (List ℕ) = made.heads.rows.items in
    let heads_are : c.deref-3.result.now ≡ heads = c.deref-3.ensures.value in
    let like : AreLike (length p.leads) round_heads made.records.items records (length made.records.items) =
    subst (λ (steps : ℕ). AreLike steps round_heads made.records.items records (length made.records.items)) c.count.ensures.is
    (subst (λ (flags : List Bool). AreLike c.count.result flags made.records.items records (length made.records.items)) c.deref-5.ensures.value
    (subst (λ (rung : List RungLead). AreLike c.count.result c.deref-5.result.now rung records (length rung)) c.deref-4.ensures.value c.in_ok-records.ensures)) in
    let round_heads_are : round_heads ≡ map (comes_round p) heads =
    c.in_ok-round_heads.ensures ∙ ap (λ (rows : List (List ℕ)). map (comes_round p) rows) heads_are in
    let fitting : c.in_ok-fittings.fittings.items ≡ map (all_fitting p heads) p.query.patterns =
    c.in_ok-fittings.ensures ∙ ap (λ (rows : List (List ℕ)). map (all_fitting p rows) p.query.patterns) c.deref-6.ensures.value in
    let parts : ℕ → List (List ℕ) → ℕ → NumberParts = (λ steps heads rows. record {
      steps = steps;
      heads = heads;
      rows = rows;
      records = records;
      width = named.width;
      numbers = named.numbers.items;
      twice = c.in_ok-twice.twice.items;
      fittings = c.in_ok-fittings.fittings.items;
    }) in
    let counted : c.len.result ≡ length representatives = omega (arith, c.len.ensures, c.in_ok-representatives.representatives.rows.ok.0) in
    let rung : IsRung p c.in_ok-told.told (numbers_in p made) =
    subst (λ (rows : List (List (List ℕ))). IsRung p rows (numbers_in p made)) c.in_ok-told_rows.ensures.told c.in_ok-made.ensures in
    subst (λ (rows : ℕ). IsNumbered p (parts c.count-2.result heads rows)) (sym counted)
    (subst (λ (steps : ℕ). IsNumbered p (parts steps heads (length representatives))) (sym c.count-2.ensures.is)
    (told_whole p c.in_ok-told.told c.in_ok-told.ensures (numbers_in p made) rung cover c.in_ok-cover.ensures representatives places told records round_heads named.width named.numbers.items
    c.in_ok-twice.twice.items like round_heads_are are_named c.in_ok-twice.ensures c.in_ok-fittings.fittings.items fitting))
