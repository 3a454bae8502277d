use Rattle.std.proofs.Common.{◌≡◌, ℕ, zero, suc, ◌≤◌, [], ◌∷◌, Contains, Option, Some, refl, sym, ap, arith}
use Rattle.std.proofs.lemmas.Option.{none-some, same_Some}
use Rattle.cr_board.specs.ReplayStates.{Hold}
use Rattle.cr_board.proofs.laws.entries_are_allowed_where_they_stand.Goals as goal

-- job 1 is not where job 0 stands alone
not_there : Contains {X = ℕ} (0 ∷ []) 1 → ⊥
not_there (zero, inside, at) = absurd (omega (arith, at))
not_there (suc k, inside, at) = absurd (omega (arith, inside))

-- a hold that is job 1 with all turns has its number and its grant
hold_is : (hold : Hold) → ◌≡◌ {A = Option Hold} (Some (record { number = 1; grant = 4096 })) (Some hold) → (1 ≡ hold.number) × (4096 ≡ hold.grant)
hold_is hold same =
    let is = same_Some (record { number = 1; grant = 4096 }) hold same in
    (ap (λ g. g.number) is, ap (λ g. g.grant) is)

-- it can't be used for a turn more
not_over : (grant : ℕ) → ◌≡◌ {A = Option Hold} (Some (record { number = 1; grant = 4096 })) (Some (record { number = 1; grant = grant })) → 4097 ≤ grant → ⊥
not_over grant same enough = absurd (omega (arith, enough, (hold_is (record { number = 1; grant = grant }) same).1))

-- and is not job 0
not_other : (grant : ℕ) → ◌≡◌ {A = Option Hold} (Some (record { number = 1; grant = 4096 })) (Some (record { number = 0; grant = grant })) → ⊥
not_other grant same = absurd (omega (arith, (hold_is (record { number = 0; grant = grant }) same).0))

pub returns : goal.returns
returns c = record {
  taken = record { worker = omega arith; idle = refl; stands = (1, omega arith, refl); grant = refl; some = omega arith };
  grant = λ can. absurd (omega (arith, can.grant));
  lane = λ can. absurd (omega (arith, can.stands.1));
  worker = λ can. absurd (omega (arith, can.worker));
  hand = λ can. none-some _ can.0.1;
  back = λ can. none-some _ can.1;
  holding = λ can. none-some _ (sym can.idle);
  held = λ can. not_there can.stands;
  next = record { worker = omega arith; idle = refl; stands = (0, omega arith, refl); grant = refl; some = omega arith };
  used_up = ((4096, refl, omega arith), omega arith);
  too_many_turns = λ can. not_over can.0.0 can.0.1 can.0.2;
  three_opened = λ can. absurd (omega (arith, can.1));
  given_back = (4096, refl, omega arith);
  other_worker = λ can. none-some _ can.0.1;
  other_job = λ can. not_other can.0 can.1;
  no_turn = λ can. absurd (omega (arith, can.some));
  last_turn = record { worker = omega arith; idle = refl; stands = (0, omega arith, refl); grant = refl; some = omega arith };
  a_turn_of_another = λ can. absurd (omega (arith, can.grant));
}
