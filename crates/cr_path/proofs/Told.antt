-- Representative rows of leads that were rung are numbers of the problem.
use Rattle.std.proofs.Common.{◌≡◌, ℕ, ◌+◌, ◌-◌, ◌*◌, ◌<◌, Bool, true, false, nat_eq, nat_lt, List, [], ◌∷◌, length, get_or, map, take, drop, refl, sym, ap, ap₂, ◌∙◌, subst, arith, eq-eqb, eqb-true}
use Rattle.std.specs.Prelude.{All}
use Rattle.std.specs.List.{list_any}
use Rattle.std.proofs.lemmas.List.{get_or-map}
use Rattle.std.proofs.lemmas.List.Elements.{All-take, All-drop, All-weaker}
use Rattle.cr_row.specs.Rows.{rounds}
use Rattle.cr_model.specs.Problems.{ProblemParts}
use Rattle.cr_model.specs.Levels.{is_listed}
use Rattle.cr_leads.specs.Tables.{lead_table}
use Rattle.cr_false.specs.Telling.{AreTelling}
use Rattle.cr_rowset.specs.Pushing.{StandsAt}
use Rattle.cr_path.specs.Covers.{CoversItself, IsCovered, StaysWithin, IsCover}
use Rattle.cr_path.specs.Numbers.{NumberParts, lead_from, all_fitting, comes_round, is_seen, IsRecord, IsTold, IsNumbered}
use Rattle.cr_path.specs.PathLimits.{false_leads}
use Rattle.cr_path.specs.Rung.{RungParts, rung_numbers, told_from, IsReached, IsRungLead, IsRung}
use Rattle.cr_path.specs.Representatives.{AreRepresentatives, AreSame, name_of, HasName, IsLike, AreLike, AreNamed}
use Rattle.cr_path.specs.declared.numbers.rung_leads.RungLead.{RungLead}
use Rattle.cr_path.specs.declared.numbers.table.LeadRecord.{LeadRecord}
use Rattle.cr_path.proofs.Covering.{both_pass, IsAmong, holds_among, any_from, any_at, among_listed, listed_among}
use Rattle.cr_path.proofs.Names.{no_lead}
use Rattle.cr_path.proofs.Listed.{seen_alone, any_same, any_mapped}
use Rattle.cr_path.proofs.Places.{record_within}
use Rattle.cr_path.proofs.Telling.{rounds_told, shared_told}

module _ (p : ProblemParts) (told_rows : List (List (List ℕ))) (tells : AreTelling (lead_table p) told_rows) (t : RungParts) (rung : IsRung p told_rows t) (cover : List ℕ) (covers : IsCover (length t.rows) t.numbers t.records cover)
    (representatives : List (List ℕ)) (places : List ℕ) (told : AreRepresentatives t.rows cover representatives places (length t.rows)) where
  abbrev at : ℕ → List ℕ
  at n = get_or t.rows n []

  abbrev told_at : ℕ → List ℕ
  told_at n = get_or representatives n []

  abbrev name : ℕ → ℕ
  name n = name_of cover places n

  -- what covers a row covers itself, and stands at the row's name
  own : (n : ℕ) → n < length t.rows → CoversItself cover (get_or cover n 0)
  own n inside = covers.themselves n 0 (omega (arith, inside, covers.long))

  stands : (n : ℕ) → n < length t.rows → StandsAt representatives (at (get_or cover n 0)) (name n)
  stands n inside =
      let itself : CoversItself cover (get_or cover n 0) = own n inside in
      told.placed (get_or cover n 0) (omega (arith, itself.0, covers.long)) itself.1

  pub all_have_names : All (HasName cover places (length representatives)) t.numbers
  all_have_names = All-weaker (λ n. n < length t.rows) (HasName cover places (length representatives)) (λ n inside.
      let itself : CoversItself cover (get_or cover n 0) = own n inside in
      (omega (arith, inside, covers.long), omega (arith, itself.0, covers.long, told.long), (stands n inside).within)) t.numbers rung.within

  -- the numbers of one lead
  module _ (ns : List ℕ) (within : All (λ n. n < length t.rows) ns) (stays : StaysWithin cover ns) where
    cover_among : (n : ℕ) → IsAmong n ns → IsAmong (get_or cover n 0) ns
    cover_among n among = (holds_among (IsCovered cover ns) ns n stays among).1

    inside_of : (n : ℕ) → IsAmong n ns → n < length t.rows
    inside_of n among = holds_among (λ m. m < length t.rows) ns n within among

    named_from : (k : ℕ) → IsAmong k (map name ns) → (n : ℕ) × IsAmong n ns × (k ≡ name n)
    named_from k among =
        let found = any_from (nat_eq k) name ns among in
        (found.0, found.1, eqb-true k (name found.0) found.2)

    name_among : (n : ℕ) → IsAmong n ns → IsAmong (name n) (map name ns)
    name_among n among = any_at (nat_eq (name n)) name ns n among (eq-eqb (name n) (name n) refl)

    row_of_name : (n : ℕ) → IsAmong n ns → told_at (name n) ≡ at (get_or cover n 0)
    row_of_name n among = (stands n (inside_of n among)).is

    -- a representative row stands in the lead where its number is a name there
    names_listed : (k : ℕ) → k < length representatives → list_any (nat_eq k) (map name ns) ≡ is_listed (map at ns) (told_at k)
    names_listed k inside = both_pass (list_any (nat_eq k) (map name ns)) (is_listed (map at ns) (told_at k))
        (λ among.
        let from = named_from k among in
        subst (λ (row : List ℕ). is_listed (map at ns) row ≡ true) (sym (ap told_at from.2 ∙ row_of_name from.0 from.1))
        (among_listed t.rows rung.differ ns (get_or cover from.0 0) (cover_among from.0 from.1)))
        (λ listed.
        let from = told.each k inside in
        let row : ℕ = from.0 in
        let is : told_at k ≡ at row = ap told_at (sym from.3) ∙ (told.placed row from.1 from.2).is in
        let among : IsAmong row ns = listed_among t.rows rung.differ ns row within from.1 (subst (λ (r : List ℕ). is_listed (map at ns) r ≡ true) is listed) in
        let same : name row ≡ k = ap (λ n. get_or places n 0) from.2 ∙ from.3 in
        subst (λ m. IsAmong m (map name ns)) same (name_among row among))

  -- two leads have a row in common where they have a representative row in common
  module _ (ns ms names : List ℕ) (ns_in : All (λ n. n < length t.rows) ns) (ms_in : All (λ n. n < length t.rows) ms) (ns_stay : StaysWithin cover ns) (ms_stay : StaysWithin cover ms)
      (same : (k : ℕ) → list_any (nat_eq k) names ≡ list_any (nat_eq k) (map name ns)) where
    abbrev in_other : List ℕ → Bool
    in_other row = is_listed (map at ms) row

    names_tell : list_any in_other (map at ns) ≡ list_any in_other (map told_at names)
    names_tell = both_pass (list_any in_other (map at ns)) (list_any in_other (map told_at names))
        (λ shared.
        let found = any_from in_other at ns shared in
        let n : ℕ = found.0 in
        let other : IsAmong n ms = listed_among t.rows rung.differ ms n ms_in (inside_of ns ns_in ns_stay n found.1) found.2 in
        let listed : in_other (at (get_or cover n 0)) ≡ true = among_listed t.rows rung.differ ms (get_or cover n 0) (cover_among ms ms_in ms_stay n other) in
        any_at in_other told_at names (name n) (same (name n) ∙ name_among ns ns_in ns_stay n found.1)
        (ap in_other (row_of_name ns ns_in ns_stay n found.1) ∙ listed))
        (λ shared.
        let found = any_from in_other told_at names shared in
        let from = named_from ns ns_in ns_stay found.0 (sym (same found.0) ∙ found.1) in
        let n : ℕ = from.0 in
        any_at in_other at ns (get_or cover n 0) (cover_among ns ns_in ns_stay n from.1)
        (ap in_other (sym (ap told_at from.2 ∙ row_of_name ns ns_in ns_stay n from.1)) ∙ found.2))

  module _ (records : List LeadRecord) (round_heads : List Bool) (width : ℕ) (names : List ℕ) (twice : List Bool)
      (like : AreLike t.steps round_heads t.records records (length t.records)) (round_heads_are : round_heads ≡ map (comes_round p) t.heads)
      (named : AreNamed t.numbers name (length representatives) width t.records names) (twice_is : twice ≡ false_leads p (length p.leads))
      (fittings : List (List ℕ)) (fitting : fittings ≡ map (all_fitting p t.heads) p.query.patterns) where
    abbrev whole : NumberParts
    whole = record { steps = t.steps; heads = t.heads; rows = length representatives; records = records; width = width; numbers = names; twice = twice; fittings = fittings }

    -- the lead of a step from a head
    module _ (head step : ℕ) (head_in : head < length t.heads) (step_in : step < t.steps) where
      abbrev place : ℕ
      place = head * t.steps + step

      low : place < length t.records
      low = omega (arith, rung.recorded, record_within head step (length t.heads) t.steps head_in step_in)

      abbrev lead_rung : RungLead
      lead_rung = get_or t.records place no_lead

      abbrev lead_numbers : List ℕ
      lead_numbers = rung_numbers t.numbers lead_rung

      numbers_in : All (λ n. n < length t.rows) lead_numbers
      numbers_in = All-take (λ n. n < length t.rows) (lead_rung.end - lead_rung.start) (drop lead_rung.start t.numbers)
          (All-drop (λ n. n < length t.rows) lead_rung.start t.numbers rung.within)

      numbers_stay : StaysWithin cover lead_numbers
      numbers_stay = covers.stays place no_lead low

      is_rung : IsRungLead p told_rows t (get_or t.heads head []) step lead_rung
      is_rung = rung.each head step no_lead head_in step_in

      are_named : AreSame (map name lead_numbers) (take width (drop (place * width) names))
      are_named = named.each place no_lead low

      module _ (d : LeadRecord) where
        abbrev lead : LeadRecord
        lead = get_or records place d

        is_like : IsLike t.steps round_heads lead_rung lead
        is_like = like.each place no_lead d low

        is_record : IsRecord p whole (get_or t.heads head []) step place lead
        is_record = record {
          next = record { number = lead_rung.next; numbered = is_rung.next; starts = is_like.next; is = is_rung.leads_to };
          round = is_like.round ∙ ap (λ (flags : List Bool). get_or flags lead_rung.next false) round_heads_are
              ∙ get_or-map (comes_round p) t.heads lead_rung.next [] false is_rung.next ∙ ap (comes_round p) is_rung.leads_to;
          limit = λ changes. ap (nat_lt changes) is_like.limit ∙ is_rung.limit changes;
          long = is_like.long ∙ is_rung.long;
        }

      -- its names
      abbrev lead_names : List ℕ
      lead_names = take width (drop (place * width) names)

      names_in : All (λ n. n < length representatives) lead_names
      names_in = All-take (λ n. n < length representatives) width (drop (place * width) names) (All-drop (λ n. n < length representatives) (place * width) names named.within)

      -- a name is one of them where its row is one of those that tell the lead
      names_are : (k : ℕ) → k < length representatives → is_seen whole (place ∷ []) k ≡ is_listed (told_from p told_rows (get_or t.heads head []) step) (told_at k)
      names_are k inside =
          seen_alone whole place k ∙ are_named.same k ∙ names_listed lead_numbers numbers_in numbers_stay k inside
          ∙ ap (λ (rows : List (List ℕ)). is_listed rows (told_at k)) is_rung.are

      step_known : step < length p.leads
      step_known = subst (λ n. step < n) rung.counted step_in

      head_reached : IsReached p (get_or t.heads head [])
      head_reached = rung.reached head [] head_in

    -- rounds is the first
    some_representative : 0 < length representatives
    some_representative =
        let first = told.placed 0 rung.some_row covers.first.1 in
        omega (arith, first.within, told.first rung.some_row)

    first_is : told_at 0 ≡ rounds p.stage
    first_is = ap told_at (sym (told.first rung.some_row)) ∙ (told.placed 0 rung.some_row covers.first.1).is ∙ rung.first_row

    lead_told : (head step : ℕ) → head < length t.heads → step < t.steps → IsTold p whole ((head * t.steps + step) ∷ []) (lead_from p (get_or t.heads head []) step)
    lead_told head step head_in step_in =
        let here : List ℕ = get_or t.heads head [] in
        let mine : map at (lead_numbers head step head_in step_in) ≡ told_from p told_rows here step = (is_rung head step head_in step_in).are in
        let known : step < length p.leads = step_known head step head_in step_in in
        record {
          first = names_are head step head_in step_in 0 some_representative
              ∙ ap (is_listed (told_from p told_rows here step)) first_is
              ∙ rounds_told p told_rows tells here step known;
          each = λ other its other_in its_in.
              let there : List ℕ = get_or t.heads other [] in
              let theirs : map at (lead_numbers other its other_in its_in) ≡ told_from p told_rows there its = (is_rung other its other_in its_in).are in
              any_same (length representatives) (is_seen whole ((head * t.steps + step) ∷ [])) (λ k. is_listed (told_from p told_rows here step) (told_at k))
              (lead_names other its other_in its_in) (names_are head step head_in step_in) (names_in other its other_in its_in)
              ∙ any_mapped (is_listed (told_from p told_rows here step)) told_at (lead_names other its other_in its_in)
              ∙ ap (λ (rows : List (List ℕ)). list_any (is_listed rows) (map told_at (lead_names other its other_in its_in))) (sym mine)
              ∙ sym (names_tell (lead_numbers other its other_in its_in) (lead_numbers head step head_in step_in) (lead_names other its other_in its_in)
              (numbers_in other its other_in its_in) (numbers_in head step head_in step_in) (numbers_stay other its other_in its_in) (numbers_stay head step head_in step_in)
              (are_named other its other_in its_in).same)
              ∙ ap₂ (λ (rows more : List (List ℕ)). list_any (is_listed rows) more) mine theirs
              ∙ shared_told p told_rows tells here there step its (head_reached head step head_in step_in) (head_reached other its other_in its_in) known (step_known other its other_in its_in);
        }

    pub told_whole : IsNumbered p whole
    told_whole = record {
      counted = rung.counted;
      some_head = rung.some_head;
      first_head = rung.first_head;
      staged = rung.staged;
      some_row = some_representative;
      within = named.within;
      each = λ head step d head_in step_in. is_record head step head_in step_in d;
      told = lead_told;
      twice = twice_is;
      fitting = fitting;
    }
