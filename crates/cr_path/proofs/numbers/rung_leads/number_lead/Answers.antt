use Rattle.std.proofs.Common.{◌≡◌, ◌+◌, ◌*◌, ◌∙◌, ℕ, Bool, List, [], ◌∷◌, ◌++◌, length, get_or, cond, map, inl, refl, sym, ap, subst, arith}
use Rattle.cr_row.specs.Rows.{rounds, product}
use Rattle.cr_model.specs.Dead.{has_rounds}
use Rattle.cr_model.specs.Levels.{at_least}
use Rattle.cr_model.specs.Sizes.{most_rows}
use Rattle.cr_rowset.specs.Pushing.{StandsAt}
use Rattle.cr_path.specs.Numbers.{lead_from, head_after, brings_round}
use Rattle.cr_path.specs.RungLeads.{AreNumbered}
use Rattle.cr_path.specs.Rung.{RungParts, told_from, IsReached}
use Rattle.cr_path.specs.ToldRows.{ArePlaces}
use Rattle.cr_path.specs.Begun.{numbers_in}
use Rattle.cr_path.specs.declared.numbers.rung_leads.RungLead.{RungLead}
use Rattle.cr_path.proofs.Children.{lead_long}
use Rattle.cr_path.proofs.Grown.{kept_all, numbered_first}
use Rattle.cr_path.proofs.Placed.{named_lead, placed_numbered}
use Rattle.cr_path.proofs.Recorded.{reached_after, begun_more}
use Rattle.cr_path.proofs.Telling.{some_told}
use Rattle.cr_path.proofs.numbers.rung_leads.number_lead.Goals as goal

pub returns-clause-begun : goal.returns-clause-begun
returns-clause-begun c =
    let p = c.args.leads.now in
    let told = c.args.told.now.told in
    let made = c.args.made.now in
    let place = c.args.place in
    let step = c.args.step in
    let start = c.len-start.result in
    let next = c.next_of-next.result in
    let names = c.args.names.now in
    let places = c.places_of.result.now in
    let old : RungParts = numbers_in p made in
    let new : RungParts = record {
      steps = length p.leads;
      heads = made.heads.rows.items;
      rows = made.rows.rows;
      records = c.push.new.self.items;
      numbers = c.add_first_if.new.numbers.items;
    } in
    let lead : RungLead = record {
      next = next;
      start = c.in_ok-narrow.field-0;
      end = c.in_ok-narrow-2.field-0;
      limit = c.limit.result;
      length = c.length_of.result;
    } in
    let begun = c.requires.begun in
    let named = c.requires.named in
    let head : List ℕ = get_or old.heads place [] in
    let reached : IsReached p head = begun.heads.reached place [] named.within in
    let has_is : c.has_round.result ≡ has_rounds p (lead_from p head step) = c.has_round.ensures head reached named.inverse in
    let round_is : c.brings_round.result ≡ brings_round p (lead_from p head step) = c.brings_round.ensures head reached named.inverse in
    let some : List (List ℕ) = map (product head) (get_or told step []) in
    let by_places : ArePlaces c.args.told.now.rows (get_or told step []) places =
    subst (ArePlaces c.args.told.now.rows (get_or told step [])) (sym c.places_of.ensures) (c.requires.rows.each step c.requires.step) in
    let by_names : ArePlaces old.rows some (map (λ k. get_or names k 0) places) =
    named_lead old.rows head c.args.told.now.rows names named.names (get_or told step []) places by_places in
    let rows : AreNumbered old.rows old.numbers some old.rows c.add_named.new.numbers.items =
    placed_numbered old.rows some old.numbers c.add_named.new.numbers.items (map (λ k. get_or names k 0) places) by_names c.in_ok-add_named.ensures (kept_all old.rows) in
    let all : AreNumbered old.rows old.numbers (told_from p told head step) old.rows new.numbers =
    subst (λ (has : Bool). AreNumbered old.rows old.numbers (some ++ cond has (rounds p.stage ∷ []) []) old.rows new.numbers) has_is
    (numbered_first old.rows old.rows old.numbers c.add_named.new.numbers.items new.numbers some (rounds p.stage) c.has_round.result rows
    begun.some_row begun.first_row c.in_ok-add_first_if.ensures) in
    let stands : StandsAt old.heads (head_after p head step) next = c.next_of-next.ensures in
    let from : start ≡ length old.numbers = omega (arith, c.len-start.ensures, made.numbers.ok.0) in
    begun_more p told old new place step (place * length p.leads + step) lead begun refl named.within c.requires.step (record {
      steps = refl;
      rows = all;
      differ = begun.differ;
      next = record { grown = inl refl; stands = stands };
      long = sym (ap length stands.is) ∙ begun.heads.staged next [] stands.within;
      reached = reached_after p head step reached c.requires.step;
      start = omega (arith, c.in_ok-narrow.ensures, from);
      end = omega (arith, c.in_ok-narrow-2.ensures, c.len.ensures, c.add_first_if.new.numbers.ok.0);
      limit = c.limit.ensures head (c.level_of-level.ensures ∙ ap (at_least p most_rows) stands.is) round_is;
      counted = c.length_of.ensures.is;
      some = some_told p told c.requires.telling head step reached c.requires.step (omega (arith, c.length_of.ensures.some, c.length_of.ensures.is, lead_long p head step));
      records = c.in_ok-push.ensures.items;
    })
