-- Turns, one after another.
use Rattle.std.proofs.Common.{◌≡◌, ℕ, zero, suc, ◌+◌, ◌-◌, ◌≤◌, List, [], ◌∷◌, ◌++◌, reverse, refl, sym, ap, ◌∙◌, arith}
use Rattle.std.proofs.lemmas.List.{reverse-append, reverse-reverse}
use Rattle.cr_model.specs.Problems.{ProblemParts}
use Rattle.cr_model.specs.OneTurn.{touch_found}
use Rattle.cr_model.specs.Sizes.{live_children}
use Rattle.cr_explore.specs.Turns.{begun, taken, one_turn, after_turns}

module _ (p : ProblemParts) (most : ℕ) where
  -- the last node is taken
  pub last_taken : (found below : List (List ℕ)) (node : List ℕ) (used : ℕ)
      → one_turn p most (record { found = found; rest = below ++ node ∷ []; used = used })
      ≡ record { found = found ++ touch_found p node; rest = below ++ reverse (live_children p most node); used = used + 1 }
  unfolding one_turn
  last_taken found below node used =
      ap (taken p most (record { found = found; rest = below ++ node ∷ []; used = used })) (reverse-append below (node ∷ []))
      ∙ ap (λ (nodes : List (List ℕ)). record { found = found ++ touch_found p node; rest = nodes ++ reverse (live_children p most node); used = used + 1 }) (reverse-reverse below)

  -- where no node is left, nothing changes
  pub none_taken : (found : List (List ℕ)) (used : ℕ) → one_turn p most (record { found = found; rest = []; used = used }) ≡ record { found = found; rest = []; used = used }
  unfolding one_turn
  none_taken found used = refl

  module _ (job : List (List ℕ)) where
    -- before the first turn
    pub no_turn : after_turns p most job 0 ≡ begun job
    unfolding after_turns
    no_turn = refl

    next : (number : ℕ) → after_turns p most job (suc number) ≡ one_turn p most (after_turns p most job number)
    unfolding after_turns
    next number = refl

    -- one turn more
    pub turn_more : (number : ℕ) (found below : List (List ℕ)) (node : List ℕ) (used : ℕ)
        → record { found = found; rest = below ++ node ∷ []; used = used } ≡ after_turns p most job number
        → record { found = found ++ touch_found p node; rest = below ++ reverse (live_children p most node); used = used + 1 } ≡ after_turns p most job (number + 1)
    turn_more number found below node used h =
        let one : suc number ≡ number + 1 = omega arith in
        sym (last_taken found below node used) ∙ ap (one_turn p most) h ∙ sym (next number) ∙ ap (after_turns p most job) one

    -- where no node is left, all further turns are the same
    stays_so : (number more : ℕ) (found : List (List ℕ)) (used : ℕ) → record { found = found; rest = []; used = used } ≡ after_turns p most job number
        → record { found = found; rest = []; used = used } ≡ after_turns p most job (number + more)
    stays_so number zero found used h = let same : number ≡ number + 0 = omega arith in h ∙ ap (after_turns p most job) same
    stays_so number (suc more) found used h =
        let one : suc (number + more) ≡ number + suc more = omega arith in
        sym (none_taken found used) ∙ ap (one_turn p most) (stays_so number more found used h) ∙ sym (next (number + more)) ∙ ap (after_turns p most job) one

    pub turns_end : (number more : ℕ) (found : List (List ℕ)) (used : ℕ) → number ≤ more → record { found = found; rest = []; used = used } ≡ after_turns p most job number
        → record { found = found; rest = []; used = used } ≡ after_turns p most job more
    turns_end number more found used few h =
        let others : number + (more - number) ≡ more = omega arith in
        stays_so number (more - number) found used h ∙ ap (after_turns p most job) others
