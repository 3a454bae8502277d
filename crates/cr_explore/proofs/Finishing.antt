-- Turns are finished work.
use Rattle.std.proofs.Common.{◌≡◌, ℕ, zero, suc, ◌+◌, ◌<◌, ◌≤◌, ◌↔◌, ◌⊎◌, List, [], ◌∷◌, ◌++◌, length, reverse, inl, inr, refl, sym, ap, ◌∙◌, subst, arith}
use Rattle.std.proofs.lemmas.List.{reverse-append, reverse-reverse, length_push}
use Rattle.std.proofs.lemmas.List.Sums.{sum_by-cons}
use Rattle.cr_model.specs.Problems.{ProblemParts}
use Rattle.cr_model.specs.Nodes.{Splits}
use Rattle.cr_model.specs.OneTurn.{touch_found}
use Rattle.cr_model.specs.Sizes.{most_rows, live_children, size, size_of_all}
use Rattle.cr_node.specs.Work.{IsJob, IsDone}
use Rattle.cr_explore.specs.Turns.{Searched, one_turn, after_turns}
use Rattle.cr_explore.proofs.Turning.{last_taken, none_taken}

-- a search so far is finished work on the job, in so many turns at most, and in fewer only where nothing is left
pub record IsFinished (p : ProblemParts) (job : List (List ℕ)) (number : ℕ) (after : Searched) : Type 0 where
  pub done : IsDone p job after.found after.rest after.used
  pub few : after.used ≤ number
  pub ends : (after.rest ≡ []) ⊎ (after.used ≡ number)

-- what is known of turns and of jobs, for one problem
pub record WorkLaws (p : ProblemParts) : Type 0 where
  pub turned : (job found below : List (List ℕ)) (node : List ℕ) → Splits p job found (below ++ node ∷ [])
      → Splits p job (found ++ touch_found p node) (below ++ reverse (live_children p most_rows node))
  pub turned_size : (below : List (List ℕ)) (node : List ℕ) → size_of_all p most_rows (below ++ reverse (live_children p most_rows node)) + 1 ≡ size_of_all p most_rows (below ++ node ∷ [])
  pub not_begun : (nodes : List (List ℕ)) → IsJob p nodes → IsDone p nodes [] nodes 0

module _ (p : ProblemParts) (laws : WorkLaws p) where
  -- one turn more, on the last node that is left
  one_more : (job found below : List (List ℕ)) (node : List ℕ) (used : ℕ) → IsDone p job found (below ++ node ∷ []) used
      → IsDone p job (found ++ touch_found p node) (below ++ reverse (live_children p most_rows node)) (used + 1)
  one_more job found below node used done = record {
    job = done.job;
    splits = laws.turned job found below node done.splits;
    size = omega (arith, done.size, laws.turned_size below node);
  }

  -- after one turn more
  finished_more : (job : List (List ℕ)) (number : ℕ) (after : Searched) → IsFinished p job number after → IsFinished p job (suc number) (one_turn p most_rows after)
  finished_more job number after finished = by (reverse after.rest) refl
    where
      by : (nodes : List (List ℕ)) → reverse after.rest ≡ nodes → IsFinished p job (suc number) (one_turn p most_rows after)
      by [] e =
          let none : after.rest ≡ [] = sym (reverse-reverse after.rest) ∙ ap reverse e in
          let same : one_turn p most_rows after ≡ after =
          ap (λ (r : List (List ℕ)). one_turn p most_rows (record { found = after.found; rest = r; used = after.used })) none
          ∙ none_taken p most_rows after.found after.used
          ∙ ap (λ (r : List (List ℕ)). record { found = after.found; rest = r; used = after.used }) (sym none) in
          subst (IsFinished p job (suc number)) (sym same) (record { done = finished.done; few = omega (arith, finished.few); ends = inl none })
      by (node ∷ below) e =
          let whole : after.rest ≡ reverse below ++ node ∷ [] = sym (reverse-reverse after.rest) ∙ ap reverse e ∙ reverse-append (node ∷ []) below in
          let turned = ap (λ (r : List (List ℕ)). one_turn p most_rows (record { found = after.found; rest = r; used = after.used })) whole
          ∙ last_taken p most_rows after.found (reverse below) node after.used in
          subst (IsFinished p job (suc number)) (sym turned) (record {
            done = one_more job after.found (reverse below) node after.used (subst (λ (r : List (List ℕ)). IsDone p job after.found r after.used) whole finished.done);
            few = omega (arith, finished.few);
            ends = inr (elim finished.ends [
              | inl none ↦ absurd (omega (arith, ap length none, ap length whole, length_push (reverse below) node))
              | inr all ↦ omega (arith, all)
            ]);
          })

  pub finished : (job : List (List ℕ)) (number : ℕ) → IsJob p job → IsFinished p job number (after_turns p most_rows job number)
  unfolding after_turns
  finished job zero is = record { done = laws.not_begun job is; few = omega arith; ends = inr refl }
  finished job (suc number) is = finished_more job number (after_turns p most_rows job number) (finished job number is)

-- nodes of no size are none
none_of_no_size : (p : ProblemParts) → ((node : List ℕ) → 1 ≤ size p most_rows node) → (nodes : List (List ℕ)) → size_of_all p most_rows nodes ≡ 0 → nodes ≡ []
none_of_no_size p some [] none = refl
none_of_no_size p some (node ∷ nodes) none = absurd (omega (arith, none, some node, sum_by-cons (size p most_rows) node nodes))

-- as many turns as the size
pub size_is_turns : (p : ProblemParts) (job : List (List ℕ)) (number : ℕ) (after : Searched) → ((node : List ℕ) → 1 ≤ size p most_rows node) → IsFinished p job number after
    → (after.rest ≡ []) ↔ (size_of_all p most_rows job ≤ number)
size_is_turns p job number after some is = (
  λ none.
      let no_size : size_of_all p most_rows after.rest ≡ 0 = ap (size_of_all p most_rows) none in
      omega (arith, is.done.size, is.few),
  λ enough. elim is.ends [
    | inl none ↦ none
    | inr all ↦ none_of_no_size p some after.rest (omega (arith, is.done.size, all))
  ],
)

-- what is left is a job
pub rest_is_job : (p : ProblemParts) (job found rest : List (List ℕ)) (used : ℕ) → IsDone p job found rest used → 0 < length rest → IsJob p rest
rest_is_job p job found rest used done some = record {
  some = some;
  valid = λ k d inside. (done.splits.rest_valid k d inside).0;
  independent = record { nodes_apart = done.splits.independent.nodes_apart; found_apart = λ i j inside within. absurd (omega (arith, within)) };
}
