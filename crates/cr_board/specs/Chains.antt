-- Boards one after another, where each goes on with what the one before it left.
use Rattle.std.specs.Prelude.{◌≡◌, ℕ, List, [], ◌∷◌, flat_map, sum_by}
use Rattle.cr_model.specs.Problems.{ProblemParts}
use Rattle.cr_board.specs.Boards.{BoardParts, board_jobs}
use Rattle.cr_board.specs.Partitions.{IsKept}

-- a board that was opened with these jobs of the problem, and no found touch
pub record IsOpenedWith (p : ProblemParts) (jobs : List (List (List ℕ))) (b : BoardParts) : Type 0 where
  pub kept : IsKept b
  pub problem_is : b.opening.problem ≡ p
  pub found_is : b.opening.found ≡ []
  pub jobs_are : b.opening.jobs ≡ jobs

-- boards, of which the first was opened with these jobs and each next one with those that the one before it left
abbrev pub FollowOn : ProblemParts → List (List (List ℕ)) → List BoardParts → Type 0
FollowOn p jobs [] = Unit {0}
FollowOn p jobs (b ∷ boards) = IsOpenedWith p jobs b × FollowOn p (board_jobs b) boards

-- what they found in all
abbrev pub found_by : List BoardParts → List (List ℕ)
found_by boards = flat_map (λ b. b.found) boards

-- the turns that they spent
abbrev pub spent_by : List BoardParts → ℕ
spent_by boards = sum_by (λ b. b.spent) boards

-- the jobs that the last one left, or those of the beginning where there is no board
abbrev pub left_by : List (List (List ℕ)) → List BoardParts → List (List (List ℕ))
left_by jobs [] = jobs
left_by jobs (b ∷ boards) = left_by (board_jobs b) boards
