-- The depth of a listing, and how far a row is from rounds at least.
use Rattle.std.proofs.Common.{◌≡◌, ◌≢◌, ℕ, zero, suc, ◌+◌, ◌<◌, ◌≤◌, Bool, true, false, cond, List, [], ◌∷◌, length, get_or, nat_le, inl, inr, refl, sym, ap, ◌∙◌, subst, arith, le-leb, leb-true, length-append}
use Rattle.std.specs.List.{range_with_len}
use Rattle.std.proofs.lemmas.Bool.{cases_lt, false≢true, false_from_ne_true, and_parts, and_from}
use Rattle.std.proofs.lemmas.List.FromFn.{get_or-range_with_len, length-range_with_len}
use Rattle.std.proofs.lemmas.List.Sums.{position_or_len_is}
use Rattle.cr_row.specs.Rows.{Places, rounds, after}
use Rattle.cr_model.specs.Problems.{ProblemParts}
use Rattle.cr_model.specs.Callings.{HasSteps, changes_of_all}
use Rattle.cr_model.specs.Levels.{head_from, IsLevel, rows_before, is_listed, new_rows, spread, level, up_to_level, has_rows, has_room, greatest, depth, at_least, HasRoom}
use Rattle.cr_model.proofs.NewRows.{listed_decided}
use Rattle.cr_model.proofs.Reaching.{level_is, least_level}

-- the greatest number that passes
greatest_passes : (passes : ℕ → Bool) (n : ℕ) → passes 0 ≡ true → passes (greatest passes n) ≡ true
greatest_passes passes zero first = first
greatest_passes passes (suc n) first = by (passes (suc n)) refl (greatest_passes passes n first)
  where
    by : (b : Bool) → passes (suc n) ≡ b → passes (greatest passes n) ≡ true → passes (cond b (suc n) (greatest passes n)) ≡ true
    by true h rest = h
    by false h rest = rest

greatest_is : (passes : ℕ → Bool) (n k : ℕ) → k ≤ n → passes k ≡ true → k ≤ greatest passes n
greatest_is passes zero k few h = few
greatest_is passes (suc n) k few h = by (passes (suc n)) refl (λ less. greatest_is passes n k less h)
  where
    by : (b : Bool) → passes (suc n) ≡ b → (k ≤ n → k ≤ greatest passes n) → k ≤ cond b (suc n) (greatest passes n)
    by true last rest = few
    by false last rest = elim (cases_lt k (suc n)) [
      | inl less ↦ rest (omega arith)
      | inr more ↦ let same : k ≡ suc n = omega arith in absurd (false≢true (sym last ∙ ap passes (sym same) ∙ h))
    ]

-- some rows
rows_there : (rows : List (List ℕ)) → has_rows rows ≡ true → rows ≢ []
rows_there [] h e = false≢true h
rows_there (row ∷ rows) h e = absurd (cc)

there_are_rows : (rows : List (List ℕ)) → rows ≢ [] → has_rows rows ≡ true
there_are_rows [] some = absurd (some refl)
there_are_rows (row ∷ rows) some = refl

-- a level has rows only where the one before it has
rows_before_too : (p : ProblemParts) (leads : ℕ) → level p (suc leads) ≢ [] → level p leads ≢ []
unfolding spread
rows_before_too p leads some none = some (ap (λ rows. new_rows (up_to_level p leads) (rows_before p rows)) none)

-- so each earlier one has
rows_up_to : (p : ProblemParts) (leads number : ℕ) → number ≤ leads → level p leads ≢ [] → level p number ≢ []
rows_up_to p zero number few some = let same : number ≡ 0 = omega arith in subst (λ (n : ℕ). level p n ≢ []) (sym same) some
rows_up_to p (suc leads) number few some = elim (cases_lt number (suc leads)) [
  | inl less ↦ rows_up_to p leads number (omega arith) (rows_before_too p leads some)
  | inr more ↦ let same : number ≡ suc leads = omega arith in subst (λ (n : ℕ). level p n ≢ []) (sym same) some
]

-- and there are more rows than levels
some_length : (rows : List (List ℕ)) → rows ≢ [] → 1 ≤ length rows
some_length [] some = absurd (some refl)
some_length (row ∷ rows) some = omega arith

more_rows : (p : ProblemParts) (leads : ℕ) → level p leads ≢ [] → suc leads ≤ length (up_to_level p leads)
unfolding spread
more_rows p zero some = omega arith
more_rows p (suc leads) some =
    omega (arith, length-append (up_to_level p leads) (level p (suc leads)), more_rows p leads (rows_before_too p leads some), some_length (level p (suc leads)) some)

-- what the test of room says
room_from_test : (p : ProblemParts) (most leads : ℕ) → has_room p most leads ≡ true → HasRoom p most leads
room_from_test p most leads h =
    let both = and_parts (has_rows (level p leads)) (nat_le (length (up_to_level p leads)) most) h in
    record { rows = λ number few. rows_up_to p leads number few (rows_there (level p leads) both.0); few = leb-true (length (up_to_level p leads)) most both.1 }

test_from_room : (p : ProblemParts) (most leads : ℕ) → HasRoom p most leads → has_room p most leads ≡ true
test_from_room p most leads room =
    and_from (has_rows (level p leads)) (nat_le (length (up_to_level p leads)) most) (there_are_rows (level p leads) (room.rows leads (omega arith))) (le-leb (length (up_to_level p leads)) most room.few)

-- rounds has room
room_for_rounds : (p : ProblemParts) (most : ℕ) → 1 ≤ most → has_room p most 0 ≡ true
unfolding spread
room_for_rounds p most some = le-leb 1 most some

-- the depth has room
pub depth_has_room : (p : ProblemParts) (most : ℕ) → 1 ≤ most → HasRoom p most (depth p most)
unfolding depth
depth_has_room p most some = room_from_test p most (greatest (has_room p most) most) (greatest_passes (has_room p most) most (room_for_rounds p most some))

-- and no greater level has
pub depth_is_greatest : (p : ProblemParts) (most leads : ℕ) → HasRoom p most leads → leads ≤ depth p most
unfolding depth
depth_is_greatest p most leads room =
    let few : length (up_to_level p leads) ≤ most = room.few in
    greatest_is (has_room p most) most leads (omega (arith, more_rows p leads (room.rows leads (omega arith)))) (test_from_room p most leads room)

module _ (twice : (c : Places) (r : List ℕ) → after c (after c r) ≡ r) (p : ProblemParts) (most : ℕ) (row : List ℕ) where
  -- the test of a row's level, at a place of the listing
  at_place : (leads : ℕ) → leads ≤ depth p most → (b : Bool) → is_listed (level p leads) row ≡ b → is_listed (level p (get_or (range_with_len 0 (depth p most + 1)) leads 0)) row ≡ b
  at_place leads few b h =
      let at : get_or (range_with_len 0 (depth p most + 1)) leads 0 ≡ leads = get_or-range_with_len 0 (depth p most + 1) leads 0 (omega arith) ∙ omega arith in
      ap (λ n. is_listed (level p n) row) at ∙ h

  -- no row of a level is a row of another
  not_listed : (leads number : ℕ) → IsLevel p leads row → number < leads → is_listed (level p number) row ≡ false
  not_listed leads number is less = false_from_ne_true (is_listed (level p number) row) (λ h.
      is.least number less ((level_is twice p number row).0 ((listed_decided (level p number) row).0 h)).reached)

  -- a row of a listed level is that far away
  pub at_least_level : (leads : ℕ) → IsLevel p leads row → leads ≤ depth p most → at_least p most row ≡ leads
  unfolding at_least
  at_least_level leads is few =
      position_or_len_is (λ k. is_listed (level p k) row) (range_with_len 0 (depth p most + 1)) leads 0 (omega (arith, length-range_with_len 0 (depth p most + 1)))
      (λ k less. at_place k (omega arith) false (not_listed leads k is less))
      (λ inside. at_place leads few true ((listed_decided (level p leads) row).1 ((level_is twice p leads row).1 is)))

  -- any other row is one further than the depth
  pub at_least_beyond : ((leads : ℕ) → leads ≤ depth p most → IsLevel p leads row → ⊥) → at_least p most row ≡ depth p most + 1
  unfolding at_least
  at_least_beyond none =
      position_or_len_is (λ k. is_listed (level p k) row) (range_with_len 0 (depth p most + 1)) (depth p most + 1) 0 (omega (arith, length-range_with_len 0 (depth p most + 1)))
      (λ k less. at_place k (omega arith) false (false_from_ne_true (is_listed (level p k) row) (λ h. none k (omega arith) ((level_is twice p k row).0 ((listed_decided (level p k) row).0 h)))))
      (λ inside. absurd (omega (arith, length-range_with_len 0 (depth p most + 1))))

  -- so no calling of fewer leads leads to rounds
  pub at_least_leads : (calling : List ℕ) → HasSteps p calling → head_from row (changes_of_all p calling) ≡ rounds p.stage → at_least p most row ≤ length calling
  at_least_leads calling steps round =
      let (leads, few, is) = least_level twice p (length calling) (length calling) row (omega arith) (record { calling = calling; steps = steps; number = refl; round = round }) in
      elim (cases_lt (depth p most) leads) [
        | inl beyond ↦ omega (arith, at_least_beyond (λ number less other. is.least number (omega arith) other.reached))
        | inr within ↦ omega (arith, at_least_level leads is within)
      ]
