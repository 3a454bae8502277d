-- Boards at rest, and boards that were run.
use Rattle.std.proofs.Common.{◌≡◌, ℕ, zero, suc, ◌+◌, ◌<◌, ◌≤◌, ◌↔◌, List, [], ◌∷◌, ◌++◌, length, replicate, flat_map, All, Option, Some, None, inl, inr, refl, sym, ap, ◌∙◌, subst, arith}
use Rattle.std.proofs.lemmas.Bool.{cases_lt}
use Rattle.std.proofs.lemmas.Option.{same_Some, none-some}
use Rattle.std.proofs.lemmas.List.{length-append}
use Rattle.std.proofs.lemmas.List.Concat.{flat_map-cons}
use Rattle.cr_model.specs.Problems.{ProblemParts}
use Rattle.cr_model.specs.Touches.{Kept}
use Rattle.cr_model.specs.Nodes.{Covers, nodes_above, times_found}
use Rattle.cr_model.specs.Sizes.{most_rows, size_of_all}
use Rattle.cr_board.specs.Jobs.{JobParts, OpeningParts, opening_nodes}
use Rattle.cr_board.specs.Boards.{BoardParts, held_at, held_jobs, jobs_of, nodes_in, nodes_of}
use Rattle.cr_board.specs.Partitions.{Partition, IsKept}
use Rattle.cr_board.specs.declared.held.Held.{Held}
use Rattle.cr_board.proofs.Once.{at_most_once}
use Rattle.cr_run.specs.Runs.{IsRun, IsFinished, IsStopped, opening_size}
use Rattle.cr_run.proofs.Playing.{BudgetIsKept, some_size, spent_within}

-- where each place to hold a job is free, nobody holds one
pub all_free : (held : List (Option Held)) → ((worker : ℕ) → held_at held worker ≡ None) → flat_map held_jobs held ≡ []
all_free [] free = refl
all_free (None ∷ held) free = flat_map-cons held_jobs None held ∙ all_free held (λ worker. free (suc worker))
all_free (Some mine ∷ held) free = absurd (none-some mine (sym (free zero)))

pub none_hold : (workers : ℕ) → flat_map held_jobs (replicate workers None) ≡ []
none_hold zero = refl
none_hold (suc workers) = flat_map-cons held_jobs None (replicate workers None) ∙ none_hold workers

-- jobs without a node are none
no_job : (jobs : List JobParts) → All (λ job. 0 < length job.nodes) jobs → nodes_in jobs ≡ [] → jobs ≡ []
no_job [] filled none = refl
no_job (job ∷ jobs) filled none =
    let some : 0 < length job.nodes = filled zero job (omega arith) in
    let nothing : length (job.nodes ++ nodes_in jobs) ≡ 0 = ap length (sym (flat_map-cons (λ j. j.nodes) job jobs) ∙ none) in
    absurd (omega (arith, some, nothing, length-append job.nodes (nodes_in jobs)))

-- what an opening and a board say of its size
module _ (p : ProblemParts) where
  no_node : (nodes : List (List ℕ)) → size_of_all p most_rows nodes ≡ 0 → nodes ≡ []
  no_node [] none = refl
  no_node (node ∷ nodes) none = absurd (omega (arith, none, some_size p most_rows (node ∷ nodes) (omega arith)))

  pub some_node : (nodes : List (List ℕ)) → 0 < size_of_all p most_rows nodes → 0 < length nodes
  some_node [] some = let none : size_of_all p most_rows [] ≡ 0 = refl in absurd (omega (arith, some, none))
  some_node (node ∷ nodes) some = omega arith

-- a board without jobs is finished
finished_from : (b : BoardParts) → IsKept b → jobs_of b ≡ [] → IsFinished b.opening b
finished_from b is none = record {
  jobs = none;
  spent = omega (arith, is.partition.nodes.size, nothing);
  kept = is.partition.nodes.kept;
  each = each;
  once = λ calling kept. omega (arith, each calling kept, at_most_once b.opening.problem b.opening.found (opening_nodes b.opening) is.opening.ascending is.opening.independent calling);
}
  where
    nodes : nodes_of b ≡ []
    nodes = ap nodes_in none

    nothing : size_of_all b.opening.problem most_rows (nodes_of b) ≡ 0
    nothing = ap (size_of_all b.opening.problem most_rows) nodes

    nowhere : (calling : List ℕ) → nodes_above b.opening.problem (nodes_of b) calling ≡ 0
    nowhere calling = ap (λ ns. nodes_above b.opening.problem ns calling) nodes

    each : (calling : List ℕ) → Kept b.opening.problem calling
        → times_found b.found calling ≡ times_found b.opening.found calling + nodes_above b.opening.problem (opening_nodes b.opening) calling
    each calling kept = omega (arith, is.partition.nodes.each calling kept, nowhere calling)

pub finished : (o : OpeningParts) (b : BoardParts) → IsKept b → IsRun o b
    → ((budget : ℕ) → o.budget ≡ Some budget → opening_size o ≤ budget) → IsFinished o b
finished o b kept run enough = subst (λ o. IsFinished o b) run.opening (finished_from b kept done)
  where
    left : b.opening.budget ≡ Some b.spent → size_of_all b.opening.problem most_rows (nodes_of b) ≡ 0
    left spent =
        let most : opening_size b.opening ≤ b.spent = subst (λ o. opening_size o ≤ b.spent) (sym run.opening) (enough b.spent (sym (ap (λ o. o.budget) run.opening) ∙ spent)) in
        omega (arith, most, kept.partition.nodes.size)

    done : jobs_of b ≡ []
    done = elim run.ended [
      | inl none ↦ none
      | inr spent ↦ no_job (jobs_of b) kept.partition.filled (no_node b.opening.problem (nodes_of b) (left spent))
    ]

-- what a law of covers says
abbrev pub CoversTheSame : Type 0
CoversTheSame = (b : BoardParts) (calling : List ℕ) → Partition b
    → Covers b.opening.problem b.found (nodes_of b) calling ↔ Covers b.opening.problem b.opening.found (opening_nodes b.opening) calling

pub stopped : BudgetIsKept → CoversTheSame → (o : OpeningParts) (b : BoardParts) (budget : ℕ) → IsKept b → IsRun o b → o.budget ≡ Some budget
    → budget < opening_size o → IsStopped o budget b
stopped law covers o b budget kept run is less = subst (λ o. IsStopped o budget b) run.opening (record {
  some = some_node b.opening.problem (nodes_of b) (omega (arith, kept.partition.nodes.size, all, much));
  spent = all;
  size = omega (arith, kept.partition.nodes.size, all);
  covers = λ calling. covers b calling kept.partition;
})
  where
    budget_is : b.opening.budget ≡ Some budget
    budget_is = ap (λ o. o.budget) run.opening ∙ is

    much : budget < opening_size b.opening
    much = subst (λ o. budget < opening_size o) (sym run.opening) less

    all : b.spent ≡ budget
    all = elim run.ended [
      | inl none ↦ (
          let nothing : size_of_all b.opening.problem most_rows (nodes_of b) ≡ 0 = ap (λ jobs. size_of_all b.opening.problem most_rows (nodes_in jobs)) none in
          absurd (omega (arith, nothing, much, kept.partition.nodes.size, spent_within law b kept budget budget_is)))
      | inr spent ↦ sym (same_Some budget b.spent (sym budget_is ∙ spent))
    ]

-- a board is done exactly where its budget is enough
pub done_where_enough : BudgetIsKept → CoversTheSame → (o : OpeningParts) (b : BoardParts) → IsKept b → IsRun o b
    → (jobs_of b ≡ []) ↔ ((budget : ℕ) → o.budget ≡ Some budget → opening_size o ≤ budget)
done_where_enough law covers o b kept run = (enough, λ most. (finished o b kept run most).jobs)
  where
    enough : jobs_of b ≡ [] → (budget : ℕ) → o.budget ≡ Some budget → opening_size o ≤ budget
    enough none budget is = elim (cases_lt budget (opening_size o)) [
      | inl less ↦ absurd (omega (arith, (stopped law covers o b budget kept run is less).some, ap (λ jobs. length (nodes_in jobs)) none))
      | inr most ↦ most
    ]
