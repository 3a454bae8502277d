-- Leads by their heads: whether one more brings a row again, and where rounds stands.
use Rattle.std.proofs.Common.{◌≡◌, ℕ, ◌+◌, ◌-◌, ◌<◌, ◌≤◌, List, [], ◌∷◌, ◌++◌, length, get_or, map, take, drop, Contains, Option, Some, None, inl, inr, refl, sym, ap, ◌∙◌, subst, arith, append-nil, length-append}
use Rattle.std.specs.Prelude.{IfSome, IsNone}
use Rattle.std.proofs.lemmas.Bool.{cases_eq}
use Rattle.std.proofs.lemmas.List.{get_or-map, get_or-take, get_or_append_left, get_or-append-add, get_or_default, get_or_push, length-map, length-take-le, map_push, take-append-drop, take-map, take-take, take_all, take_more}
use Rattle.std.proofs.lemmas.List.Elements.{All-push, All-take, Contains-append_cases, Contains-append_left, Contains-append_right}
use Rattle.cr_row.specs.Rows.{IsInverse, rounds, product}
use Rattle.cr_row.proofs.Inverses.{IsRow-inverse}
use Rattle.cr_row.proofs.RowLaws.{length-product, length-rounds, product_left}
use Rattle.cr_model.specs.Problems.{ProblemParts}
use Rattle.cr_model.specs.Callings.{changes_of, changes_of_all, rows_from, last_of, rows_of, length_of, head_of, AllDiffer, HasSteps}
use Rattle.cr_model.specs.Sizes.{child}
use Rattle.cr_model.proofs.Bells.{IsRowOf, rows_are_rows, last_is_row}
use Rattle.cr_model.proofs.NewRows.{differ_joined}
use Rattle.cr_model.proofs.Ringing.{rows_on, rung_from}
use Rattle.cr_leads.specs.Tables.{TableParts, lead_table, lead_rows, rows_of_step, leads_counted}
use Rattle.cr_rowset.specs.Pushing.{StandsAt}
use Rattle.cr_false.specs.Sets.{FalseParts, IsFalseTable, HasTwice, ShareARow, steps_counted}
use Rattle.cr_prune.specs.Heads.{IsFound, AreHeads, steps_of}
use Rattle.cr_prune.specs.Parts.{AreNew}
use Rattle.cr_prune.specs.declared.heads.Earlier.{Earlier}
use Rattle.cr_prune.proofs.Leads.{child_rows, child_before, rows_counted}
use Rattle.cr_prune.proofs.Multiplied.{row_laws, products_differ, new_from_differ}

-- a table has the steps of its problem
pub known_steps : (p : ProblemParts) (table : FalseParts) → IsFalseTable (lead_table p) table → length table.twice ≡ length p.leads
known_steps p table is = steps_counted (lead_table p) table is ∙ leads_counted (lead_table p) p refl

-- a head is a row of the stage, and so is its inverse
pub head_row : (p : ProblemParts) (calling : List ℕ) → IsRowOf p.stage (head_of p calling)
head_row p calling = last_is_row row_laws p.stage (changes_of_all p calling)

pub inverse_row : (p : ProblemParts) (head inverse : List ℕ) → IsRowOf p.stage head → IsInverse head inverse → IsRowOf p.stage inverse
inverse_row p head inverse is undoes = record {
  is = IsRow-inverse head inverse is.is undoes;
  long = sym (length-product head inverse) ∙ ap length undoes.right ∙ length-rounds (length head) ∙ is.long;
}

-- the rows of a lead, rung from rounds and from a row
module _ (p : ProblemParts) (step : ℕ) (inside : step < length p.leads) where
  lead_rung : lead_rows (lead_table p) step ≡ rows_from (rounds p.stage) (changes_of p step)
  lead_rung =
      rows_of_step (lead_table p) p step refl (subst (λ n. step < n) (sym (leads_counted (lead_table p) p refl)) inside)
      ∙ ap (rows_from (rounds p.stage)) (append-nil (changes_of p step))

  lead_moved : (head : List ℕ) → length head ≡ p.stage → rows_from head (changes_of p step) ≡ map (product head) (lead_rows (lead_table p) step)
  lead_moved head long = rung_from row_laws.after_product row_laws.rounds_right p.stage head (changes_of p step) long ∙ ap (map (product head)) (sym lead_rung)

  -- they differ where no row of the lead stands twice
  pub lead_differs : (head : List ℕ) → IsRowOf p.stage head → (HasTwice (lead_rows (lead_table p) step) → ⊥) → AllDiffer (rows_from head (changes_of p step))
  lead_differs head is once =
      let differ : AllDiffer (rows_from (rounds p.stage) (changes_of p step)) =
      subst AllDiffer lead_rung (λ i j low under same. once (record { first = i; second = j; before = low; within = under; same = same })) in
      subst AllDiffer (sym (rung_from row_laws.after_product row_laws.rounds_right p.stage head (changes_of p step) is.long))
      (products_differ p.stage head (rows_from (rounds p.stage) (changes_of p step)) is (rows_are_rows row_laws p.stage (changes_of p step)) differ)

  pub lead_repeats : (head : List ℕ) → length head ≡ p.stage → HasTwice (lead_rows (lead_table p) step) → AllDiffer (rows_from head (changes_of p step)) → ⊥
  lead_repeats head long twice differ =
      let rows = lead_rows (lead_table p) step in
      let counted = length-map rows (product head) in
      subst AllDiffer (lead_moved head long) differ twice.first twice.second twice.before (omega (arith, twice.within, counted))
      (get_or-map (product head) rows twice.first [] [] (omega (arith, twice.before, twice.within)) ∙ ap (product head) twice.same
      ∙ sym (get_or-map (product head) rows twice.second [] [] twice.within))

  -- rounds stands where the inverse of the head stands in the lead
  round_inside : (head inverse : List ℕ) (place : ℕ) → IsRowOf p.stage head → IsInverse head inverse → StandsAt (lead_rows (lead_table p) step) inverse place →
      StandsAt (rows_from head (changes_of p step)) (rounds p.stage) place
  round_inside head inverse place is undoes at =
      let rows = lead_rows (lead_table p) step in
      subst (λ rs. StandsAt rs (rounds p.stage) place) (sym (lead_moved head is.long)) (record {
        within = omega (arith, at.within, length-map rows (product head));
        is = get_or-map (product head) rows place [] [] at.within ∙ ap (product head) at.is ∙ undoes.right ∙ ap rounds is.long;
      })

  no_round_inside : (head inverse : List ℕ) → IsRowOf p.stage head → IsInverse head inverse → (Contains (lead_rows (lead_table p) step) inverse → ⊥) →
      Contains (rows_from head (changes_of p step)) (rounds p.stage) → ⊥
  no_round_inside head inverse is undoes away held =
      let rows = lead_rows (lead_table p) step in
      let (k, low, at) = subst (λ rs. Contains rs (rounds p.stage)) (lead_moved head is.long) held in
      let under : k < length rows = omega (arith, low, length-map rows (product head)) in
      let row = get_or rows k [] in
      let row_is : IsRowOf p.stage row = subst (λ rs. IsRowOf p.stage (get_or rs k [])) (sym lead_rung)
      (rows_are_rows row_laws p.stage (changes_of p step) k [] (omega (arith, under, ap length lead_rung))) in
      let other : IsRowOf p.stage inverse = inverse_row p head inverse is undoes in
      let same : product head row ≡ product head inverse =
      sym (get_or-map (product head) rows k [] _ under) ∙ at ∙ sym (undoes.right ∙ ap rounds is.long) in
      let one : row ≡ inverse = product_left head row inverse is.is row_is.is other.is (row_is.long ∙ sym is.long) (other.long ∙ sym is.long) same in
      away (k, under, get_or_default rows k inverse [] under ∙ one)

-- rows behind others that differ do so too
differ_behind : (rows more : List (List ℕ)) → AllDiffer (rows ++ more) → AllDiffer more
differ_behind rows more differ i j low inside same =
    differ (length rows + i) (length rows + j) (omega (arith, low)) (omega (arith, inside, length-append rows more))
    (get_or-append-add rows more i [] ∙ same ∙ sym (get_or-append-add rows more j []))

-- one lead more, rung from the head of others
module _ (p : ProblemParts) (leads : List ℕ) (step : ℕ) (from : List ℕ) (inside : step < length p.leads) (head : from ≡ head_of p leads) where
  from_row : IsRowOf p.stage from
  from_row = subst (IsRowOf p.stage) (sym head) (head_row p leads)

  moved : rows_of p (child leads step) ≡ rows_of p leads ++ rows_from from (changes_of p step)
  moved = child_rows p leads step ∙ ap (λ row. rows_of p leads ++ rows_from row (changes_of p step)) (sym head)

  pub all_differ : (HasTwice (lead_rows (lead_table p) step) → ⊥) → AreNew (rows_of p leads) (rows_from from (changes_of p step)) → AllDiffer (rows_of p leads) →
      AllDiffer (rows_of p (child leads step))
  all_differ once new differ =
      subst AllDiffer (sym moved) (differ_joined (rows_of p leads) (rows_from from (changes_of p step)) differ (lead_differs p step inside from from_row once)
      (λ row here there. new there.0 row there.1 (subst (Contains (rows_of p leads)) (sym there.2) here)))

  pub twice_again : HasTwice (lead_rows (lead_table p) step) → AllDiffer (rows_of p (child leads step)) → ⊥
  twice_again twice differ =
      lead_repeats p step inside from from_row.long twice (differ_behind (rows_of p leads) (rows_from from (changes_of p step)) (subst AllDiffer moved differ))

  pub shared_again : (AreNew (rows_of p leads) (rows_from from (changes_of p step)) → ⊥) → AllDiffer (rows_of p (child leads step)) → ⊥
  shared_again old differ = old (new_from_differ (rows_of p leads) (rows_from from (changes_of p step)) (subst AllDiffer moved differ))

  -- rounds stands where it stood
  pub round_stays : (place : ℕ) → StandsAt (rows_of p leads) (rounds p.stage) place → StandsAt (rows_of p (child leads step)) (rounds p.stage) place
  round_stays place at =
      subst (λ rows. StandsAt rows (rounds p.stage) place) (sym moved) (record {
        within = omega (arith, at.within, length-append (rows_of p leads) (rows_from from (changes_of p step)));
        is = get_or_append_left (rows_of p leads) (rows_from from (changes_of p step)) [] place at.within ∙ at.is;
      })

  -- or it comes in the lead, or stands nowhere
  round_comes : (inverse : List ℕ) (rung place : ℕ) → IsInverse from inverse → rung ≡ length_of p leads → rung ≤ place →
      StandsAt (lead_rows (lead_table p) step) inverse (place - rung) → StandsAt (rows_of p (child leads step)) (rounds p.stage) place
  round_comes inverse rung place undoes counted high at =
      let more = rows_from from (changes_of p step) in
      let here = round_inside p step inside from inverse (place - rung) from_row undoes at in
      let sum : length (rows_of p leads) + (place - rung) ≡ place = omega (arith, counted, high, rows_counted p leads) in
      subst (λ rows. StandsAt rows (rounds p.stage) place) (sym moved) (record {
        within = omega (arith, here.within, sum, length-append (rows_of p leads) more);
        is = ap (λ k. get_or (rows_of p leads ++ more) k []) (sym sum) ∙ get_or-append-add (rows_of p leads) more (place - rung) [] ∙ here.is;
      })

  round_nowhere : (inverse : List ℕ) → IsInverse from inverse → (Contains (rows_of p leads) (rounds p.stage) → ⊥) →
      (Contains (lead_rows (lead_table p) step) inverse → ⊥) → Contains (rows_of p (child leads step)) (rounds p.stage) → ⊥
  round_nowhere inverse undoes before away held =
      elim (Contains-append_cases (rows_of p leads) (rows_from from (changes_of p step)) (rounds p.stage) (subst (λ rows. Contains rows (rounds p.stage)) moved held)) [
        | inl here ↦ before here
        | inr there ↦ no_round_inside p step inside from inverse from_row undoes away there
      ]

  pub round_found : (inverse : List ℕ) (rung : ℕ) (result : Option ℕ) → IsInverse from inverse → rung ≡ length_of p leads → (Contains (rows_of p leads) (rounds p.stage) → ⊥) →
      IfSome result (λ place. (rung ≤ place) × StandsAt (lead_rows (lead_table p) step) inverse (place - rung)) →
      (IsNone result → Contains (lead_rows (lead_table p) step) inverse → ⊥) → IsFound (rows_of p (child leads step)) (rounds p.stage) result
  round_found inverse rung (Some place) undoes counted before some none = round_comes inverse rung place undoes counted some.0 some.1
  round_found inverse rung None undoes counted before some none = round_nowhere inverse undoes before (none refl)

-- the leads one after another, and rows that may share some of theirs
module _ (p : ProblemParts) (leads : List ℕ) (more : List (List ℕ)) (index step : ℕ) (inside : index < length leads) (at : step ≡ get_or leads index 0) where
  one_further : take (index + 1) leads ≡ child (take index leads) step
  one_further = take_more leads index 0 inside ∙ ap (λ s. take index leads ++ s ∷ []) (sym at)

  further : rows_of p (take (index + 1) leads) ≡ rows_of p (take index leads) ++ rows_from (head_of p (take index leads)) (changes_of p step)
  further = ap (rows_of p) one_further ∙ child_rows p (take index leads) step

  pub new_further : AreNew (rows_of p (take index leads)) more → (ShareARow (rows_from (head_of p (take index leads)) (changes_of p step)) more → ⊥) →
      AreNew (rows_of p (take (index + 1) leads)) more
  new_further new apart = λ k d low held.
      elim (Contains-append_cases (rows_of p (take index leads)) (rows_from (head_of p (take index leads)) (changes_of p step)) (get_or more k d)
      (subst (λ rows. Contains rows (get_or more k d)) further held)) [
        | inl before ↦ new k d low before
        | inr here ↦ apart (record { shared = get_or more k d; has_first = here; has_second = (k, low, get_or_default more k (get_or more k d) d low) })
      ]

  pub shared_old : ShareARow (rows_from (head_of p (take index leads)) (changes_of p step)) more → AreNew (rows_of p leads) more → ⊥
  shared_old both new =
      let (k, low, is) = both.has_second in
      let first : Contains (rows_of p (take (index + 1) leads)) both.shared =
      subst (λ rows. Contains rows both.shared) (sym further) (Contains-append_right (rows_of p (take index leads)) (rows_from (head_of p (take index leads)) (changes_of p step)) both.shared both.has_first) in
      let all : Contains (rows_of p leads) both.shared =
      subst (λ rows. Contains rows both.shared) (sym (rows_on p (take (index + 1) leads) (drop (index + 1) leads)) ∙ ap (rows_of p) (take-append-drop (index + 1) leads))
      (Contains-append_left (rows_of p (take (index + 1) leads)) _ both.shared first) in
      new k both.shared low (subst (Contains (rows_of p leads)) (sym is) all)

-- a lead more
pub heads_more : (p : ProblemParts) (leads : TableParts) (table : FalseParts) (earlier : List Earlier) (lead : Earlier) → AreHeads p leads table earlier → lead.step < length p.leads →
    IsInverse (head_of p (steps_of earlier)) lead.inverse → IsFound (rows_of p (child (steps_of earlier) lead.step)) (rounds p.stage) lead.round →
    AreHeads p leads table (earlier ++ lead ∷ [])
heads_more p leads table earlier lead are known undoes found =
    let steps = steps_of earlier in
    let counted : length steps ≡ length earlier = length-map earlier (λ (e : Earlier). e.step) in
    let grown : steps_of (earlier ++ lead ∷ []) ≡ child steps lead.step = map_push (λ (e : Earlier). e.step) earlier lead in
    let long : length (earlier ++ lead ∷ []) ≡ length earlier + 1 = length-append earlier (lead ∷ []) in
    record {
      leads_are = are.leads_are;
      table_is = are.table_is;
      steps = subst (HasSteps p) (sym grown) (All-push (λ s. s < length p.leads) steps lead.step are.steps known);
      inverses = λ i d low. elim (cases_eq i (length earlier)) [
        | inl last ↦
            subst (λ calling. IsInverse (head_of p calling) (get_or (earlier ++ lead ∷ []) i d).inverse)
            (sym (ap (take i) grown ∙ child_before steps lead.step i (omega (arith, last, counted)) ∙ take_all i steps (omega (arith, last, counted))))
            (subst (λ (e : Earlier). IsInverse (head_of p steps) e.inverse) (sym (get_or_push earlier lead d i (sym last))) undoes)
        | inr before ↦
            let under : i < length earlier = omega (arith, low, long, before) in
            subst (λ calling. IsInverse (head_of p calling) (get_or (earlier ++ lead ∷ []) i d).inverse)
            (sym (ap (take i) grown ∙ child_before steps lead.step i (omega (arith, under, counted))))
            (subst (λ (e : Earlier). IsInverse (head_of p (take i steps)) e.inverse) (sym (get_or_append_left earlier (lead ∷ []) d i under)) (are.inverses i d under))
      ];
      round_heads = λ i d low. elim (cases_eq i (length earlier)) [
        | inl last ↦
            subst (λ calling. IsFound (rows_of p calling) (rounds p.stage) (get_or (earlier ++ lead ∷ []) i d).round)
            (sym (ap (take (i + 1)) grown ∙ take_all (i + 1) (child steps lead.step) (omega (arith, last, counted, length-append steps (lead.step ∷ [])))))
            (subst (λ (e : Earlier). IsFound (rows_of p (child steps lead.step)) (rounds p.stage) e.round) (sym (get_or_push earlier lead d i (sym last))) found)
        | inr before ↦
            let under : i < length earlier = omega (arith, low, long, before) in
            subst (λ calling. IsFound (rows_of p calling) (rounds p.stage) (get_or (earlier ++ lead ∷ []) i d).round)
            (sym (ap (take (i + 1)) grown ∙ child_before steps lead.step (i + 1) (omega (arith, under, counted))))
            (subst (λ (e : Earlier). IsFound (rows_of p (take (i + 1) steps)) (rounds p.stage) e.round) (sym (get_or_append_left earlier (lead ∷ []) d i under)) (are.round_heads i d under))
      ];
    }

-- a lead less
pub heads_less : (p : ProblemParts) (leads : TableParts) (table : FalseParts) (earlier : List Earlier) (left : ℕ) → AreHeads p leads table earlier → left ≤ length earlier →
    AreHeads p leads table (take left earlier)
heads_less p leads table earlier left are few =
    let steps = steps_of earlier in
    let counted : length (take left earlier) ≡ left = length-take-le left earlier few in
    let cut : steps_of (take left earlier) ≡ take left steps = sym (take-map (λ (e : Earlier). e.step) left earlier) in
    record {
      leads_are = are.leads_are;
      table_is = are.table_is;
      steps = subst (HasSteps p) (sym cut) (All-take (λ s. s < length p.leads) left steps are.steps);
      inverses = λ i d low.
          let under : i < left = omega (arith, low, counted) in
          subst (λ calling. IsInverse (head_of p calling) (get_or (take left earlier) i d).inverse) (sym (ap (take i) cut ∙ take-take i left steps (omega (arith, under))))
          (subst (λ (e : Earlier). IsInverse (head_of p (take i steps)) e.inverse) (sym (get_or-take left earlier i d under)) (are.inverses i d (omega (arith, under, few))));
      round_heads = λ i d low.
          let under : i < left = omega (arith, low, counted) in
          subst (λ calling. IsFound (rows_of p calling) (rounds p.stage) (get_or (take left earlier) i d).round) (sym (ap (take (i + 1)) cut ∙ take-take (i + 1) left steps (omega (arith, under))))
          (subst (λ (e : Earlier). IsFound (rows_of p (take (i + 1) steps)) (rounds p.stage) e.round) (sym (get_or-take left earlier i d under)) (are.round_heads i d (omega (arith, under, few))));
    }

-- what is known of the lead at an index
pub record IsKnown (p : ProblemParts) (table : FalseParts) (leads : List ℕ) (index : ℕ) (lead : Earlier) : Type 0 where
  pub inside : index < length leads
  pub at : lead.step ≡ get_or leads index 0
  pub known : lead.step < length table.twice
  pub undoes : IsInverse (head_of p (take index leads)) lead.inverse
  pub round : IsFound (rows_of p (take (index + 1) leads)) (rounds p.stage) lead.round

pub known_at : (p : ProblemParts) (leads : TableParts) (table : FalseParts) (earlier : List Earlier) (index : ℕ) (lead : Earlier) → AreHeads p leads table earlier → index < length earlier →
    lead ≡ get_or earlier index lead → IsKnown p table (steps_of earlier) index lead
known_at p leads table earlier index lead are low is =
    let counted : length (steps_of earlier) ≡ length earlier = length-map earlier (λ (e : Earlier). e.step) in
    let at : lead.step ≡ get_or (steps_of earlier) index 0 =
    ap (λ (e : Earlier). e.step) is ∙ sym (get_or-map (λ (e : Earlier). e.step) earlier index lead 0 low) in
    let step : get_or (steps_of earlier) index 0 < length p.leads = are.steps index 0 (omega (arith, low, counted)) in
    record {
      inside = omega (arith, low, counted);
      at = at;
      known = omega (arith, at, step, known_steps p table are.table_is);
      undoes = subst (λ (e : Earlier). IsInverse (head_of p (take index (steps_of earlier))) e.inverse) (sym is) (are.inverses index lead low);
      round = subst (λ (e : Earlier). IsFound (rows_of p (take (index + 1) (steps_of earlier))) (rounds p.stage) e.round) (sym is) (are.round_heads index lead low);
    }

-- its step, as a lead of a table's
pub step_in : (p : ProblemParts) (leads : TableParts) (step : ℕ) → leads ≡ lead_table p → step < length p.leads → step < length leads.leads
step_in p leads step is inside = subst (λ n. step < n) (sym (leads_counted leads p is)) inside

-- the last of a lead rung from a row is that row times the last of the lead rung from rounds
last_mapped : (f : List ℕ → List ℕ) (row : List ℕ) (rows : List (List ℕ)) → last_of (f row) (map f rows) ≡ f (last_of row rows)
last_mapped f row [] = refl
last_mapped f row (next ∷ rows) = last_mapped f next rows

pub last_moved : (p : ProblemParts) (step : ℕ) (head : List ℕ) → length head ≡ p.stage → product head (head_of p (step ∷ [])) ≡ last_of head (rows_from head (changes_of p step))
last_moved p step head long =
    sym (last_mapped (product head) (rounds p.stage) (rows_of p (step ∷ [])))
    ∙ ap (λ row. last_of row (map (product head) (rows_of p (step ∷ [])))) (ap (λ n. product head (rounds n)) (sym long) ∙ row_laws.rounds_right head)
    ∙ ap (λ changes. last_of head (map (product head) (rows_from (rounds p.stage) changes))) (append-nil (changes_of p step))
    ∙ ap (last_of head) (sym (rung_from row_laws.after_product row_laws.rounds_right p.stage head (changes_of p step) long))
