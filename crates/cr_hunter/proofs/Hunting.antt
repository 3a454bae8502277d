-- The plain hunt on three bells, turn by turn, from its root or from its two steps.
use Rattle.std.proofs.Common.{◌≡◌, ◌≢◌, ℕ, zero, suc, ◌+◌, ◌*◌, ◌<◌, ◌≤◌, true, false, cond, nat_lt, List, [], ◌∷◌, ◌++◌, length, get_or, All, Any, Option, Some, None, inl, inr, refl, sym, ap, ap₂, subst, arith, length-append}
use Rattle.std.specs.Prelude.{is_none}
use Rattle.std.specs.Bool.{◌==◌}
use Rattle.std.proofs.lemmas.Bool.{eqb-true}
use Rattle.std.specs.List.{position_or_len, range_with_len}
use Rattle.std.specs.List.Sorted.{IsStrictlySortedBy}
use Rattle.std.specs.declared.cmp.Ordering.{Ordering}
use Rattle.std.proofs.lemmas.List.Elements.{All-nil}
use Rattle.std.proofs.lemmas.List.{get_or_append_left}
use Rattle.std.proofs.lemmas.List.Sums.{sum_by-cons}
use Rattle.cr_row.specs.Rows.{rounds}
use Rattle.cr_model.specs.Problems.{ProblemParts}
use Rattle.cr_model.specs.Callings.{HasSteps, length_of}
use Rattle.cr_model.specs.Queries.{extent}
use Rattle.cr_model.specs.Touches.{Kept}
use Rattle.cr_model.specs.Nodes.{is_prefix, is_above, IsValid, Splits, Independent}
use Rattle.cr_model.specs.Sound.{IsSound}
use Rattle.cr_model.specs.Levels.{level, is_listed, spread, depth, at_least}
use Rattle.cr_model.specs.Dead.{dead}
use Rattle.cr_model.specs.Sizes.{most_rows, size, size_of_all, live_children}
use Rattle.cr_model.specs.OneTurn.{touch_found}
use Rattle.cr_model.specs.Books.{book_order}
use Rattle.cr_model.specs.declared.reason.Reason.TheVariants as reason
use Rattle.cr_node.specs.Work.{IsJob, IsDone}
use Rattle.cr_board.specs.Jobs.{IsOpening, opening_nodes}
use Rattle.cr_board.specs.Examples.{hunts}
use Rattle.cr_hunter.specs.Hunts.{IsHuntNode, touches_at, nodes_below, IsTurn, hunt_from, second_step, both_steps}

-- what laws of one turn, of sizes and of work say
abbrev pub OneTurnSplits : Type 0
OneTurnSplits = (p : ProblemParts) (most : ℕ) (node : List ℕ) → IsSound p → IsValid p node → Splits p (node ∷ []) (touch_found p node) (live_children p most node)

abbrev pub SizesAreSums : Type 0
SizesAreSums = (p : ProblemParts) (most : ℕ) (node : List ℕ) → IsSound p → size p most node ≡ 1 + size_of_all p most (live_children p most node)

abbrev pub SizesJoin : Type 0
SizesJoin = (p : ProblemParts) (most : ℕ) (nodes more : List (List ℕ)) → size_of_all p most (nodes ++ more) ≡ size_of_all p most nodes + size_of_all p most more

abbrev pub AmongOthers : Type 0
AmongOthers = (p : ProblemParts) (job found rest others : List (List ℕ)) → Splits p job found rest → All (IsValid p) others
    → Independent p [] (others ++ job) → Splits p (others ++ job) found (others ++ rest)

abbrev pub GoesOn : Type 0
GoesOn = (p : ProblemParts) (job found rest more left : List (List ℕ)) (used further : ℕ)
    → IsDone p job found rest used → IsDone p rest more left further → IsDone p job (found ++ more) left (used + further)

-- each step leads to rounds, whatever the depth of the levels is
round_at_once : (levels : ℕ) → position_or_len (λ leads. is_listed (level hunts leads) (rounds 3)) (range_with_len 0 (levels + 1)) ≡ 0
unfolding spread
round_at_once levels =
    let e : levels + 1 ≡ suc levels = omega arith in
    ap (λ n. position_or_len (λ leads. is_listed (level hunts leads) (rounds 3)) (range_with_len 0 n)) e

near : at_least hunts most_rows (rounds 3) ≡ 0
unfolding at_least
near = round_at_once (depth hunts most_rows)

-- so no step is dead
first_lives : dead hunts most_rows (0 ∷ []) ≡ None
unfolding extent dead
first_lives = ap (λ leads. cond (nat_lt 6 (6 + 6 * leads)) (Some reason.Far) None) near

second_lives : dead hunts most_rows (1 ∷ []) ≡ None
unfolding extent dead
second_lives = ap (λ leads. cond (nat_lt 6 (6 + 6 * leads)) (Some reason.Far) None) near

root_live : live_children hunts most_rows [] ≡ (0 ∷ []) ∷ (1 ∷ []) ∷ []
root_live = ap₂ (λ a b. cond (is_none a) ((0 ∷ []) ∷ cond (is_none b) ((1 ∷ []) ∷ []) []) (cond (is_none b) ((1 ∷ []) ∷ []) [])) first_lives second_lives

-- the nodes are valid, and each alone is a job
valid_root : IsValid hunts []
unfolding extent
valid_root = record { steps = λ k d inside. absurd (omega arith); short = omega arith }

valid_step : (step : ℕ) → step < 2 → length_of hunts (step ∷ []) ≡ 6 → IsValid hunts (step ∷ [])
unfolding extent
valid_step step known long = record { steps = steps; short = subst (λ n. n ≤ 6) (sym long) (omega arith) }
  where
    steps : HasSteps hunts (step ∷ [])
    steps zero d inside = known
    steps (suc k) d inside = absurd (omega arith)

valid_first : IsValid hunts (0 ∷ [])
valid_first = valid_step 0 (omega arith) refl

valid_second : IsValid hunts (1 ∷ [])
valid_second = valid_step 1 (omega arith) refl

all_alone : (P : List ℕ → Type 0) (node : List ℕ) → P node → All P (node ∷ [])
all_alone P node holds zero d inside = holds
all_alone P node holds (suc k) d inside = absurd (omega arith)

job_alone : (node : List ℕ) → IsValid hunts node → IsJob hunts (node ∷ [])
job_alone node valid = record {
  some = omega arith;
  valid = all_alone (IsValid hunts) node valid;
  independent = record {
    nodes_apart = λ i j inside within differ. absurd (differ (omega arith));
    found_apart = λ i j inside within. absurd (omega arith);
  };
}

-- two nodes that are left, in the other order
swapped : (job found : List (List ℕ)) (x y : List ℕ) → Splits hunts job found (x ∷ y ∷ []) → Splits hunts job found (y ∷ x ∷ [])
swapped job found x y splits = record {
  each = λ calling kept. omega (arith, splits.each calling kept);
  found_kept = splits.found_kept;
  rest_valid = valid;
  independent = record { nodes_apart = apart; found_apart = below };
}
  where
    valid : (k : ℕ) (d : List ℕ) → k < 2 → IsValid hunts (get_or (y ∷ x ∷ []) k d) × Any (λ above. is_prefix above (get_or (y ∷ x ∷ []) k d) ≡ true) job
    valid zero d inside = splits.rest_valid 1 d (omega arith)
    valid (suc zero) d inside = splits.rest_valid 0 d (omega arith)
    valid (suc (suc k)) d inside = absurd (omega arith)

    apart : (i j : ℕ) → i < 2 → j < 2 → i ≢ j → is_prefix (get_or (y ∷ x ∷ []) i []) (get_or (y ∷ x ∷ []) j []) ≡ false
    apart zero zero inside within differ = absurd (differ refl)
    apart zero (suc zero) inside within differ = splits.independent.nodes_apart 1 0 (omega arith) (omega arith) (λ e. omega arith)
    apart (suc zero) zero inside within differ = splits.independent.nodes_apart 0 1 (omega arith) (omega arith) (λ e. omega arith)
    apart (suc zero) (suc zero) inside within differ = absurd (differ refl)
    apart zero (suc (suc j)) inside within differ = absurd (omega arith)
    apart (suc zero) (suc (suc j)) inside within differ = absurd (omega arith)
    apart (suc (suc i)) j inside within differ = absurd (omega arith)

    below : (i j : ℕ) → i < 2 → j < length found → is_above hunts (get_or (y ∷ x ∷ []) i []) (get_or found j []) ≡ false
    below zero j inside within = splits.independent.found_apart 1 j (omega arith) within
    below (suc zero) j inside within = splits.independent.found_apart 0 j (omega arith) within
    below (suc (suc i)) j inside within = absurd (omega arith)

module _ (turns : OneTurnSplits) (sizes : SizesAreSums) (sound : IsSound hunts) where
  -- one turn on a node whose touches and live children are known
  done_from : (node : List ℕ) (found live : List (List ℕ)) → IsValid hunts node → touch_found hunts node ≡ found → live_children hunts most_rows node ≡ live
      → IsDone hunts (node ∷ []) found live 1
  done_from node found live valid finds leaves = record {
    job = job_alone node valid;
    splits = subst (λ l. Splits hunts (node ∷ []) found l) leaves (subst (λ f. Splits hunts (node ∷ []) f (live_children hunts most_rows node)) finds (turns hunts most_rows node sound valid));
    size =
        let left : size_of_all hunts most_rows (live_children hunts most_rows node) ≡ size_of_all hunts most_rows live = ap (size_of_all hunts most_rows) leaves in
        omega (arith, sizes hunts most_rows node sound, sum_by-cons (size hunts most_rows) node [], left);
  }

  root_done : IsDone hunts ([] ∷ []) [] ((1 ∷ []) ∷ (0 ∷ []) ∷ []) 1
  unfolding extent
  root_done =
      let done = done_from [] [] ((0 ∷ []) ∷ (1 ∷ []) ∷ []) valid_root refl root_live in
      record { job = done.job; splits = swapped ([] ∷ []) [] (0 ∷ []) (1 ∷ []) done.splits; size = omega (arith, done.size) }

  step_done : (step : ℕ) → step < 2 → IsDone hunts ((step ∷ []) ∷ []) ((step ∷ []) ∷ []) [] 1
  unfolding extent dead
  step_done zero known = done_from (0 ∷ []) ((0 ∷ []) ∷ []) [] valid_first refl refl
  step_done (suc zero) known = done_from (1 ∷ []) ((1 ∷ []) ∷ []) [] valid_second refl refl
  step_done (suc (suc step)) known = absurd (omega arith)

  turn_done : (node : List ℕ) → IsHuntNode node → IsDone hunts (node ∷ []) (touches_at node) (nodes_below node) 1
  turn_done node (inl root) = subst (λ n. IsDone hunts (n ∷ []) (touches_at n) (nodes_below n) 1) (sym root) root_done
  turn_done node (inr (step, known, is)) = subst (λ n. IsDone hunts (n ∷ []) (touches_at n) (nodes_below n) 1) (sym is) (step_done step known)

  module _ (among : AmongOthers) (joined : SizesJoin) (onward : GoesOn) where
    -- a turn on the last of some nodes
    last_done : (before : List (List ℕ)) (node : List ℕ) → IsHuntNode node → IsJob hunts (before ++ node ∷ [])
        → IsDone hunts (before ++ node ∷ []) (touches_at node) (before ++ nodes_below node) 1
    last_done before node known job = record {
      job = job;
      splits = among hunts (node ∷ []) (touches_at node) (nodes_below node) before (turn_done node known).splits valid job.independent;
      size = omega (arith, (turn_done node known).size, joined hunts most_rows before (node ∷ []), joined hunts most_rows before (nodes_below node));
    }
      where
        valid : All (IsValid hunts) before
        valid k d inside = subst (IsValid hunts) (get_or_append_left before (node ∷ []) d k inside) (job.valid k d (omega (arith, length-append before (node ∷ []))))

    -- what is left, if there is something, is a job
    left_job : (job found rest : List (List ℕ)) (used : ℕ) → IsDone hunts job found rest used → 0 < length rest → IsJob hunts rest
    left_job job found rest used done some = record {
      some = some;
      valid = λ k d inside. (done.splits.rest_valid k d inside).0;
      independent = record { nodes_apart = done.splits.independent.nodes_apart; found_apart = λ i j inside within. absurd (omega arith) };
    }

    -- a turn goes on with the work on a job
    pub turned : (job found rest now left : List (List ℕ)) (used : ℕ) → IsDone hunts job found rest used → IsTurn found rest now left → IsDone hunts job now left (used + 1)
    turned job found rest now left used done turn =
        let some : 0 < length (turn.before ++ turn.node ∷ []) = omega (arith, length-append turn.before (turn.node ∷ [])) in
        let here : IsDone hunts job found (turn.before ++ turn.node ∷ []) used = subst (λ r. IsDone hunts job found r used) turn.was done in
        let one = last_done turn.before turn.node turn.known (left_job job found (turn.before ++ turn.node ∷ []) used here some) in
        let all = onward hunts job found (turn.before ++ turn.node ∷ []) (touches_at turn.node) (turn.before ++ nodes_below turn.node) used 1 here one in
        subst (λ f. IsDone hunts job f left (used + 1)) (sym turn.found_is)
        (subst (λ l. IsDone hunts job (found ++ touches_at turn.node) l (used + 1)) (sym turn.left_is) all)

-- no touch stands in order
none_ascend : {K : Type 0} (cmp : K → K → Ordering) → IsStrictlySortedBy cmp []
unfolding IsStrictlySortedBy
none_ascend cmp = tt

-- some of the two steps may be searched as jobs of their own
opens : (jobs : List (List (List ℕ))) (budget : Option ℕ) (workers : ℕ) → All (λ job. 0 < length job) jobs → IsJob hunts (opening_nodes (hunt_from jobs budget workers))
    → 1 ≤ workers → workers ≤ 64 → IsOpening (hunt_from jobs budget workers)
opens jobs budget workers filled job some few = record {
  kept = All-nil (Kept hunts);
  ascending = none_ascend (book_order hunts);
  filled = filled;
  valid = job.valid;
  independent = job.independent;
  some = some;
  few = few;
}

pub second_opens : (budget : Option ℕ) (workers : ℕ) → 1 ≤ workers → workers ≤ 64 → IsOpening (hunt_from second_step budget workers)
second_opens budget workers some few = opens second_step budget workers filled (job_alone (1 ∷ []) valid_second) some few
  where
    filled : (k : ℕ) (d : List (List ℕ)) → k < 1 → 0 < length (get_or second_step k d)
    filled zero d inside = omega arith
    filled (suc k) d inside = absurd (omega arith)

-- one step is a job, and both are
pub step_job : (step : ℕ) → step < 2 → IsJob hunts ((step ∷ []) ∷ [])
step_job zero known = job_alone (0 ∷ []) valid_first
step_job (suc zero) known = job_alone (1 ∷ []) valid_second
step_job (suc (suc step)) known = absurd (omega arith)

pub both_job : IsJob hunts ((1 ∷ []) ∷ (0 ∷ []) ∷ [])
both_job = record { some = omega arith; valid = valid; independent = record { nodes_apart = apart; found_apart = λ i j inside within. absurd (omega arith) } }
  where
    valid : (k : ℕ) (d : List ℕ) → k < 2 → IsValid hunts (get_or ((1 ∷ []) ∷ (0 ∷ []) ∷ []) k d)
    valid zero d inside = valid_second
    valid (suc zero) d inside = valid_first
    valid (suc (suc k)) d inside = absurd (omega arith)

    apart : (i j : ℕ) → i < 2 → j < 2 → i ≢ j → is_prefix (get_or ((1 ∷ []) ∷ (0 ∷ []) ∷ []) i []) (get_or ((1 ∷ []) ∷ (0 ∷ []) ∷ []) j []) ≡ false
    apart zero zero inside within differ = absurd (differ refl)
    apart zero (suc zero) inside within differ = refl
    apart (suc zero) zero inside within differ = refl
    apart (suc zero) (suc zero) inside within differ = absurd (differ refl)
    apart zero (suc (suc j)) inside within differ = absurd (omega arith)
    apart (suc zero) (suc (suc j)) inside within differ = absurd (omega arith)
    apart (suc (suc i)) j inside within differ = absurd (omega arith)

-- told of the same problem and nodes
pub job_of : (p : ProblemParts) (nodes job : List (List ℕ)) → p ≡ hunts → nodes ≡ job → IsJob hunts job → IsJob p nodes
job_of p nodes job problem is here = subst (λ q. IsJob q nodes) (sym problem) (subst (IsJob hunts) (sym is) here)

pub both_open : (budget : Option ℕ) (workers : ℕ) → 1 ≤ workers → workers ≤ 64 → IsOpening (hunt_from both_steps budget workers)
both_open budget workers some few = opens both_steps budget workers filled both_job some few
  where
    filled : (k : ℕ) (d : List (List ℕ)) → k < 2 → 0 < length (get_or both_steps k d)
    filled zero d inside = omega arith
    filled (suc zero) d inside = omega arith
    filled (suc (suc k)) d inside = absurd (omega arith)

-- nothing is left, or all turns are used
pub no_items : (xs : List (List ℕ)) (number : ℕ) → number ≡ length xs → true ≡ (number == 0) → xs ≡ []
no_items [] number is none = refl
no_items (x ∷ xs) number is none = let zero_items : number ≡ 0 = eqb-true number 0 (sym none) in absurd (omega (arith, is, zero_items))

pub all_used : (used turns : ℕ) → used ≤ turns → turns ≤ used → used ≡ turns
all_used used turns few many = omega (arith, few, many)
