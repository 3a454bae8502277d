-- The end of a part, by powers one after another.
use Rattle.std.proofs.Common.{◌≡◌, ℕ, suc, ◌+◌, ◌<◌, ◌≤◌, Bool, true, false, List, length, nat_eq, inl, inr, refl, sym, ap, ◌∙◌, subst, arith}
use Rattle.std.specs.Cmp.Lexicographic.{pointwise}
use Rattle.std.proofs.lemmas.Bool.{true≢false, cases_eq}
use Rattle.std.proofs.lemmas.Bool.Decides.{same_from_decides}
use Rattle.cr_row.specs.Rows.{rounds, product}
use Rattle.cr_model.specs.Problems.{ProblemParts}
use Rattle.cr_model.specs.Dead.{parts_of}
use Rattle.cr_ahead.specs.Home.{power, is_round_after, is_part_end}
use Rattle.cr_ahead.proofs.Home.{round_decided, end_decided}

-- one power more
pub power_more : (stage : ℕ) (row : List ℕ) (passed : ℕ) → product row (power stage row passed) ≡ power stage row (passed + 1)
unfolding power
power_more stage row passed = let up : suc passed ≡ passed + 1 = omega arith in ap (power stage row) up

-- rounds came too early
pub ends_early : (p : ProblemParts) (row : List ℕ) (number : ℕ) → 0 < number → number < parts_of p → is_round_after p row number ≡ true → false ≡ is_part_end p row
ends_early p row number some less round = by (is_part_end p row) refl
  where
    by : (b : Bool) → is_part_end p row ≡ b → false ≡ b
    by false e = refl
    by true e = absurd (((end_decided p row).0 e).not_before number some less ((round_decided p row number).0 round))

-- or it did not
pub ends_late : (p : ProblemParts) (row : List ℕ) → ((fewer : ℕ) → 0 < fewer → fewer < parts_of p → is_round_after p row fewer ≡ false)
    → is_round_after p row (parts_of p) ≡ is_part_end p row
ends_late p row none =
    same_from_decides (is_round_after p row (parts_of p)) (is_part_end p row) (
      λ round. record {
        round = (round_decided p row (parts_of p)).0 round;
        not_before = λ fewer some less same. true≢false (sym ((round_decided p row fewer).1 same) ∙ none fewer some less);
      },
      λ end. (round_decided p row (parts_of p)).1 end.round,
    )
    (end_decided p row)

-- none of one power more
pub none_more : (p : ProblemParts) (row : List ℕ) (passed : ℕ) → ((fewer : ℕ) → 0 < fewer → fewer ≤ passed → is_round_after p row fewer ≡ false)
    → is_round_after p row (passed + 1) ≡ false → (fewer : ℕ) → 0 < fewer → fewer ≤ passed + 1 → is_round_after p row fewer ≡ false
none_more p row passed none last fewer some few = elim (cases_eq fewer (passed + 1)) [
  | inl same ↦ subst (λ (n : ℕ). is_round_after p row n ≡ false) (sym same) last
  | inr other ↦ none fewer some (omega (arith, few, other))
]

pub power_none : (stage : ℕ) (row : List ℕ) → rounds stage ≡ power stage row 0
unfolding power
power_none stage row = refl

-- what a test of one power says
pub tested : (p : ProblemParts) (row : List ℕ) (number : ℕ) (power' : List ℕ) (result : Bool) → power' ≡ power p.stage row number → length power' ≡ p.stage
    → result ≡ pointwise nat_eq power' (rounds (length power')) → result ≡ is_round_after p row number
tested p row number power' result is staged told = told ∙ ap (λ (n : ℕ). pointwise nat_eq power' (rounds n)) staged ∙ ap (λ (r : List ℕ). pointwise nat_eq r (rounds p.stage)) is
