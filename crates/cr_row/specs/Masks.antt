-- How a change stands in two numbers, four bits a place, the first place lowest: 15 at each place where the bell
-- stays, and 15 at the first place of each pair that swaps.
use Rattle.std.specs.Prelude.{◌≡◌, ℕ, zero, suc, ◌+◌, ◌*◌, ◌/◌, ◌%◌, ◌≤◌, cond, List, [], ◌∷◌, nat_eq}
use Rattle.std.specs.List.{list_any}
use Rattle.cr_row.specs.Rows.{IsChange}

-- of n places from p on, those where the bell stays
abbrev pub stay_of : ℕ → ℕ → List ℕ → ℕ
stay_of zero p made = 0
stay_of (suc zero) p made = 15
stay_of (suc (suc n)) p made =
    cond (list_any (nat_eq p) made) (15 + 16 * stay_of (suc n) (p + 1) made) (256 * stay_of n (p + 2) made)

-- of n places from p on, the first place of each pair that swaps
abbrev pub first_of : ℕ → ℕ → List ℕ → ℕ
first_of zero p made = 0
first_of (suc zero) p made = 0
first_of (suc (suc n)) p made =
    cond (list_any (nat_eq p) made) (16 * first_of (suc n) (p + 1) made) (15 + 256 * first_of n (p + 2) made)

-- of n places from p on, those whose four bits are set
abbrev pub made_of : ℕ → ℕ → ℕ → List ℕ
made_of zero p stay = []
made_of (suc n) p stay =
    cond (nat_eq (stay % 16) 15) (p ∷ made_of n (p + 1) (stay / 16)) (made_of n (p + 1) (stay / 16))

-- what the fields of a change keep
pub record IsMasked (stage stay first : ℕ) : Type 0 where
  pub at_least : 3 ≤ stage
  pub at_most : stage ≤ 16
  pub stays : stay_of stage 1 (made_of stage 1 stay) ≡ stay
  pub firsts : first_of stage 1 (made_of stage 1 stay) ≡ first
  pub is_change : IsChange (record { stage = stage; made = made_of stage 1 stay })
