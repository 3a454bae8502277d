-- The rows of each level are those that so many leads, and no fewer, lead from to rounds.
use Rattle.std.proofs.Common.{◌≡◌, ℕ, zero, suc, ◌<◌, ◌≤◌, ◌↔◌, List, [], ◌∷◌, length, Contains, inl, inr, refl, sym, ap, ◌∙◌, subst, arith}
use Rattle.std.proofs.lemmas.Bool.{cases_lt}
use Rattle.std.proofs.lemmas.List.Elements.{All-nil, All-cons, All-head, All-tail, Contains-append_left, Contains-append_right, Contains-append_cases}
use Rattle.cr_row.specs.Rows.{Places, rounds, after}
use Rattle.cr_model.specs.Problems.{ProblemParts}
use Rattle.cr_model.specs.Callings.{HasSteps, changes_of, changes_of_all, AllDiffer}
use Rattle.cr_model.specs.Levels.{head_from, LeadsToRounds, IsLevel, rows_before, new_rows, Spread, further, spread, level, up_to_level}
use Rattle.cr_model.proofs.InOrder.{contains_cases, none_held}
use Rattle.cr_model.proofs.Listed.{held_first}
use Rattle.cr_model.proofs.NewRows.{held_or_not, new_rows_are, new_rows_differ, differ_joined, rows_before_are}
use Rattle.cr_model.proofs.RingingBack.{head_onward, there_and_back, back_and_there}

-- no leads lead to rounds from rounds alone
none_lead_to_rounds : (p : ProblemParts) (row : List ℕ) → LeadsToRounds p 0 row → row ≡ rounds p.stage
none_lead_to_rounds p row h = by h.calling h.number h.round
  where
    by : (calling : List ℕ) → length calling ≡ 0 → head_from row (changes_of_all p calling) ≡ rounds p.stage → row ≡ rounds p.stage
    by [] number round = round
    by (step ∷ calling) number round = absurd (omega arith)

rounds_are_round : (p : ProblemParts) → LeadsToRounds p 0 (rounds p.stage)
rounds_are_round p = record { calling = []; steps = All-nil (λ step. step < length p.leads); number = refl; round = refl }

-- one lead more in front
one_more_lead : (p : ProblemParts) (leads step : ℕ) (row : List ℕ) → step < length p.leads → LeadsToRounds p leads (head_from row (changes_of p step)) → LeadsToRounds p (suc leads) row
one_more_lead p leads step row inside h = record {
  calling = step ∷ h.calling;
  steps = All-cons (λ s. s < length p.leads) step h.calling inside h.steps;
  number = let number : length h.calling ≡ leads = h.number in omega arith;
  round = head_onward row (changes_of p step) (changes_of_all p h.calling) ∙ h.round;
}

-- and one less
one_less_lead : (p : ProblemParts) (leads : ℕ) (row : List ℕ) → LeadsToRounds p (suc leads) row → (step : ℕ) × (step < length p.leads) × LeadsToRounds p leads (head_from row (changes_of p step))
one_less_lead p leads row h = by h.calling h.steps h.number h.round
  where
    by : (calling : List ℕ) → HasSteps p calling → length calling ≡ suc leads → head_from row (changes_of_all p calling) ≡ rounds p.stage → (step : ℕ) × (step < length p.leads) × LeadsToRounds p leads (head_from row (changes_of p step))
    by [] steps number round = absurd (omega arith)
    by (step ∷ calling) steps number round = (
      step,
      All-head (λ s. s < length p.leads) step calling steps,
      record {
        calling = calling;
        steps = All-tail (λ s. s < length p.leads) step calling steps;
        number = omega arith;
        round = sym (head_onward row (changes_of p step) (changes_of_all p calling)) ∙ round;
      },
    )

-- so far the rows of the last level and all rows up to it are listed
record IsSpread (p : ProblemParts) (leads : ℕ) (so_far : Spread) : Type 0 where
  last : (row : List ℕ) → Contains so_far.last row ↔ IsLevel p leads row
  all : (row : List ℕ) → Contains so_far.all row ↔ ((number : ℕ) × (number ≤ leads) × LeadsToRounds p number row)
  differ : AllDiffer so_far.all

-- rounds alone
first_spread : (p : ProblemParts) → IsSpread p 0 (record { all = rounds p.stage ∷ []; last = rounds p.stage ∷ [] })
first_spread p = record {
  last = λ row. (
    λ held. elim (contains_cases (rounds p.stage) row [] held) [
      | inl e ↦ record { reached = subst (LeadsToRounds p 0) e (rounds_are_round p); least = λ fewer less round. absurd (omega arith) }
      | inr none ↦ absurd (none_held row none)
    ],
    λ is. subst (Contains (rounds p.stage ∷ [])) (sym (none_lead_to_rounds p row is.reached)) (held_first (rounds p.stage) []),
  );
  all = λ row. (
    λ held. elim (contains_cases (rounds p.stage) row [] held) [
      | inl e ↦ (0, omega arith, subst (LeadsToRounds p 0) e (rounds_are_round p))
      | inr none ↦ absurd (none_held row none)
    ],
    λ h. let none : h.0 ≡ 0 = omega arith in subst (Contains (rounds p.stage ∷ [])) (sym (none_lead_to_rounds p row (subst (λ (n : ℕ). LeadsToRounds p n row) none h.2))) (held_first (rounds p.stage) []),
  );
  differ = λ i j less inside. absurd (omega arith);
}

module _ (twice : (c : Places) (r : List ℕ) → after c (after c r) ≡ r) (p : ProblemParts) (leads : ℕ) (so_far : Spread) (is : IsSpread p leads so_far) where
  -- a new row leads to rounds by one lead more, and not sooner
  next_is : (row : List ℕ) → Contains (new_rows so_far.all (rows_before p so_far.last)) row → IsLevel p (suc leads) row
  next_is row held =
      let both = (new_rows_are so_far.all (rows_before p so_far.last) row).0 held in
      let (after_it, step, at, inside, before) = (rows_before_are p so_far.last row).0 both.0 in
      let on : head_from row (changes_of p step) ≡ after_it = ap (λ r. head_from r (changes_of p step)) (sym before) ∙ back_and_there twice after_it (changes_of p step) in
      record {
        reached = one_more_lead p leads step row inside (subst (LeadsToRounds p leads) (sym on) ((is.last after_it).0 at).reached);
        least = λ fewer less round. both.1 ((is.all row).1 (fewer, omega arith, round));
      }

  -- and each such row is new
  is_next : (row : List ℕ) → IsLevel p (suc leads) row → Contains (new_rows so_far.all (rows_before p so_far.last)) row
  is_next row is_level =
      let (step, inside, round) = one_less_lead p leads row is_level.reached in
      let on : IsLevel p leads (head_from row (changes_of p step)) = record {
        reached = round;
        least = λ fewer less sooner. is_level.least (suc fewer) (omega arith) (one_more_lead p fewer step row inside sooner);
      } in
      (new_rows_are so_far.all (rows_before p so_far.last) row).1 (
        (rows_before_are p so_far.last row).1 (head_from row (changes_of p step), step, (is.last (head_from row (changes_of p step))).1 on, inside, there_and_back twice row (changes_of p step)),
        λ old. let sooner = (is.all row).0 old in is_level.least sooner.0 (let few : sooner.0 ≤ leads = sooner.1 in omega arith) sooner.2,
      )

  -- one level more
  further_spread : IsSpread p (suc leads) (further p so_far)
  further_spread = record {
    last = λ row. (next_is row, is_next row);
    all = λ row. (
      λ held. elim (Contains-append_cases so_far.all (new_rows so_far.all (rows_before p so_far.last)) row held) [
        | inl old ↦ let h = (is.all row).0 old in (h.0, (let few : h.0 ≤ leads = h.1 in omega arith), h.2)
        | inr new ↦ (suc leads, omega arith, (next_is row new).reached)
      ],
      λ h. elim (held_or_not so_far.all row) [
        | inl old ↦ Contains-append_left so_far.all (new_rows so_far.all (rows_before p so_far.last)) row old
        | inr new ↦
            let later : h.0 ≡ suc leads = elim (cases_lt h.0 (suc leads)) [
              | inl few ↦ absurd (new ((is.all row).1 (h.0, omega arith, h.2)))
              | inr many ↦ (let most : h.0 ≤ suc leads = h.1 in omega arith)
            ] in
            Contains-append_right so_far.all (new_rows so_far.all (rows_before p so_far.last)) row (is_next row (record {
              reached = subst (λ (n : ℕ). LeadsToRounds p n row) later h.2;
              least = λ fewer less round. new ((is.all row).1 (fewer, omega arith, round));
            }))
      ],
    );
    differ = differ_joined so_far.all (new_rows so_far.all (rows_before p so_far.last)) is.differ (new_rows_differ so_far.all (rows_before p so_far.last))
        (λ row old new. ((new_rows_are so_far.all (rows_before p so_far.last) row).0 new).1 old);
  }

-- each level
module _ (twice : (c : Places) (r : List ℕ) → after c (after c r) ≡ r) (p : ProblemParts) where
  spread_is : (leads : ℕ) → IsSpread p leads (spread p leads)
  unfolding spread
  spread_is zero = first_spread p
  spread_is (suc leads) = further_spread twice p leads (spread p leads) (spread_is leads)

  -- the rows of a level
  pub level_is : (leads : ℕ) (row : List ℕ) → Contains (level p leads) row ↔ IsLevel p leads row
  level_is leads row = (spread_is leads).last row

  -- the rows up to it
  pub up_to_level_is : (leads : ℕ) (row : List ℕ) → Contains (up_to_level p leads) row ↔ ((number : ℕ) × (number ≤ leads) × LeadsToRounds p number row)
  up_to_level_is leads row = (spread_is leads).all row

  -- each once
  pub up_to_level_differ : (leads : ℕ) → AllDiffer (up_to_level p leads)
  up_to_level_differ leads = (spread_is leads).differ

  -- what leads to rounds does so by a least number of leads
  pub least_level : (most leads : ℕ) (row : List ℕ) → leads ≤ most → LeadsToRounds p leads row → (number : ℕ) × (number ≤ leads) × IsLevel p number row
  least_level zero leads row few round = (leads, omega arith, record { reached = round; least = λ fewer less sooner. absurd (omega arith) })
  least_level (suc most) leads row few round = elim (held_or_not (up_to_level p most) row) [
    | inl held ↦
        let (number, less, sooner) = (up_to_level_is most row).0 held in
        elim (cases_lt leads number) [
          | inl later ↦ least_level most leads row (omega arith) round
          | inr earlier ↦ let (least, below, is) = least_level most number row less sooner in (least, omega arith, is)
        ]
    | inr new ↦ (leads, omega arith, record { reached = round; least = λ fewer less sooner. new ((up_to_level_is most row).1 (fewer, omega arith, sooner)) })
  ]
