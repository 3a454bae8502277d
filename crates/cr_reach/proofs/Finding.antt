-- The level of a row, by its place.
use Rattle.std.proofs.Common.{◌≡◌, ℕ, zero, suc, ◌+◌, ◌-◌, ◌<◌, ◌≤◌, ◌↔◌, List, [], ◌++◌, length, get_or, replicate, Contains, inl, inr, refl, sym, ap, ap₂, ◌∙◌, subst, arith, length-append}
use Rattle.std.proofs.lemmas.Bool.{cases_lt, cases_eq}
use Rattle.std.proofs.lemmas.List.{length-replicate, get_or-replicate, get_or_append_left, get_or-append_right}
use Rattle.std.proofs.lemmas.List.Elements.{Contains-get_or, Contains-append_left, Contains-append_right}
use Rattle.cr_model.specs.Problems.{ProblemParts}
use Rattle.cr_model.specs.Levels.{IsLevel, level, up_to_level, depth, at_least}
use Rattle.cr_rowset.specs.Pushing.{StandsAt}
use Rattle.cr_reach.specs.Tables.{ReachParts, levels_up_to, reach_table}
use Rattle.cr_reach.proofs.Listing.{level_first, up_to_next}

-- each row has a level
pub levels_counted : (p : ProblemParts) (leads : ℕ) → length (levels_up_to p leads) ≡ length (up_to_level p leads)
levels_counted p zero = length-replicate (length (level p 0)) 0 ∙ ap length (level_first p).0 ∙ sym (ap length (level_first p).1)
levels_counted p (suc leads) =
    length-append (levels_up_to p leads) (replicate (length (level p (suc leads))) (suc leads))
    ∙ ap₂ (λ (m n : ℕ). m + n) (levels_counted p leads) (length-replicate (length (level p (suc leads))) (suc leads))
    ∙ sym (ap length (up_to_next p leads) ∙ length-append (up_to_level p leads) (level p (suc leads)))

-- a row's level, at its place
record IsFound (p : ProblemParts) (leads : ℕ) (row : List ℕ) (number : ℕ) : Type 0 where
  low : number ≤ leads
  held : Contains (level p number) row

found : (p : ProblemParts) (leads place : ℕ) (row : List ℕ) → place < length (up_to_level p leads) → get_or (up_to_level p leads) place [] ≡ row
    → IsFound p leads row (get_or (levels_up_to p leads) place 0)
found p zero place row within at =
    let one : length (level p 0) ≡ length (up_to_level p 0) = ap length ((level_first p).0 ∙ sym (level_first p).1) in
    let here : get_or (levels_up_to p 0) place 0 ≡ 0 = get_or-replicate (length (level p 0)) place 0 0 (omega (arith, one, within)) in
    subst (λ (n : ℕ). IsFound p 0 row n) (sym here) (record {
      low = omega arith;
      held = subst (Contains (level p 0)) (ap (λ rows. get_or rows place []) ((level_first p).0 ∙ sym (level_first p).1) ∙ at)
          (Contains-get_or (level p 0) place [] (omega (arith, one, within)));
    })
found p (suc leads) place row within at =
    let front = up_to_level p leads in
    let back = level p (suc leads) in
    let joined : up_to_level p (suc leads) ≡ front ++ back = up_to_next p leads in
    let long : length (up_to_level p (suc leads)) ≡ length front + length back = ap length joined ∙ length-append front back in
    let counted : length (levels_up_to p leads) ≡ length front = levels_counted p leads in
    let levels = levels_up_to p leads in
    let filled = replicate (length back) (suc leads) in
    elim (cases_lt place (length front)) [
      | inl before ↦
          let is : get_or (levels ++ filled) place 0 ≡ get_or levels place 0 = get_or_append_left levels filled 0 place (omega (arith, before, counted)) in
          let rest = found p leads place row before
          (sym (get_or_append_left front back [] place before) ∙ ap (λ rows. get_or rows place []) (sym joined) ∙ at) in
          subst (λ (n : ℕ). IsFound p (suc leads) row n) (sym is) (record { low = (let l = rest.low in omega arith); held = rest.held })
      | inr after ↦
          let low : place - length front < length back = omega (arith, after, long, within) in
          let is : get_or (levels ++ filled) place 0 ≡ suc leads =
          get_or-append_right levels filled (length levels) place 0 refl (omega (arith, after, counted))
          ∙ get_or-replicate (length back) (place - length levels) (suc leads) 0 (omega (arith, low, counted)) in
          subst (λ (n : ℕ). IsFound p (suc leads) row n) (sym is) (record {
            low = omega arith;
            held = subst (Contains back) (sym (get_or-append_right front back (length front) place [] refl after) ∙ ap (λ rows. get_or rows place []) (sym joined) ∙ at)
                (Contains-get_or back (place - length front) [] low);
          })
    ]

-- the rows of a level are among those up to a higher one
among : (p : ProblemParts) (leads high : ℕ) (row : List ℕ) → leads ≤ high → Contains (level p leads) row → Contains (up_to_level p high) row
among p leads zero row within held =
    let e : leads ≡ 0 = omega arith in
    subst (λ (rows : List (List ℕ)). Contains rows row) (ap (level p) e ∙ (level_first p).0 ∙ sym (level_first p).1) held
among p leads (suc high) row within held = subst (λ (rows : List (List ℕ)). Contains rows row) (sym (up_to_next p high)) (elim (cases_eq leads (suc high)) [
  | inl e ↦ Contains-append_right (up_to_level p high) (level p (suc high)) row (subst (λ (n : ℕ). Contains (level p n) row) e held)
  | inr e ↦ Contains-append_left (up_to_level p high) (level p (suc high)) row (among p leads high row (omega (arith, e)) held)
])

-- the laws that this rests on
pub record LevelLaws : Type 0 where
  pub level : (p : ProblemParts) (leads : ℕ) (row : List ℕ) → Contains (level p leads) row ↔ IsLevel p leads row
  pub listed : (p : ProblemParts) (most : ℕ) (row : List ℕ) (leads : ℕ) → IsLevel p leads row → leads ≤ depth p most → at_least p most row ≡ leads
  pub others : (p : ProblemParts) (most : ℕ) (row : List ℕ)
      → ((leads : ℕ) → leads ≤ depth p most → IsLevel p leads row → ⊥) → at_least p most row ≡ depth p most + 1

pub found_at : LevelLaws → (table : ReachParts) (row : List ℕ) (place answer : ℕ) → StandsAt table.rows row place
    → answer ≡ get_or table.levels place 0 → (p : ProblemParts) (most : ℕ) → table ≡ reach_table p most → answer ≡ at_least p most row
found_at laws table row place answer stands is p most table_is =
    let at = subst (λ (t : ReachParts). StandsAt t.rows row place) table_is stands in
    let level_is = found p (depth p most) place row at.within at.is in
    is ∙ ap (λ (t : ReachParts). get_or t.levels place 0) table_is
    ∙ sym (laws.listed p most row (get_or (levels_up_to p (depth p most)) place 0)
    ((laws.level p (get_or (levels_up_to p (depth p most)) place 0) row).0 level_is.held) level_is.low)

pub found_nowhere : LevelLaws → (table : ReachParts) (row : List ℕ) (answer : ℕ) → (Contains table.rows row → ⊥)
    → answer ≡ table.depth + 1 → (p : ProblemParts) (most : ℕ) → table ≡ reach_table p most → answer ≡ at_least p most row
found_nowhere laws table row answer away is p most table_is =
    let nowhere : Contains (up_to_level p (depth p most)) row → ⊥ = subst (λ (t : ReachParts). Contains t.rows row → ⊥) table_is away in
    is ∙ ap (λ (t : ReachParts). t.depth + 1) table_is
    ∙ sym (laws.others p most row (λ leads few is_level.
    nowhere (among p leads (depth p most) row few ((laws.level p leads row).1 is_level))))
