-- Sums over the jobs and nodes of a board.
use Rattle.std.proofs.Common.{◌≡◌, ℕ, ◌+◌, ◌<◌, List, [], ◌∷◌, ◌++◌, length, get_or, set, sum_by, flat_map, Option, Some, None, refl, sym, ap, ap₂, ◌∙◌, arith}
use Rattle.std.specs.Prelude.{remove}
use Rattle.std.proofs.lemmas.List.Sums.{sum_by-append, sum_by-cons, sum_by-set, sum_by-remove}
use Rattle.std.proofs.lemmas.List.Concat.{flat_map-cons}
use Rattle.cr_board.specs.Jobs.{JobParts}
use Rattle.cr_board.specs.Boards.{lane_at, held_at, held_jobs, jobs_in, nodes_in}
use Rattle.cr_board.specs.declared.held.Held.{Held}

-- a sum over joined lists is a sum of sums
pub sum_joined : {X A : Type 0} (f : A → ℕ) (g : X → List A) (xs : List X)
    → sum_by f (flat_map g xs) ≡ sum_by (λ x. sum_by f (g x)) xs
sum_joined f g [] = refl
sum_joined f g (x ∷ xs) =
    ap (sum_by f) (flat_map-cons g x xs) ∙ sum_by-append f (g x) (flat_map g xs)
    ∙ ap (λ n. sum_by f (g x) + n) (sum_joined f g xs) ∙ sym (sum_by-cons (λ y. sum_by f (g y)) x xs)

-- lists have the same elements, each as often: all their sums agree
abbrev pub HaveSame : {X : Type 0} → List X → List X → Type 0
HaveSame {X} xs ys = (f : X → ℕ) → sum_by f ys ≡ sum_by f xs

-- jobs that are the same have the same nodes
pub same_nodes : (jobs more : List JobParts) → HaveSame jobs more → HaveSame (nodes_in jobs) (nodes_in more)
same_nodes jobs more same f =
    sum_joined f (λ job. job.nodes) more ∙ same (λ job. sum_by f job.nodes) ∙ sym (sum_joined f (λ job. job.nodes) jobs)

module _ (f : JobParts → ℕ) where
  -- the sum over what is held
  abbrev pub over_held : Option Held → ℕ
  over_held held = sum_by f (held_jobs held)

  -- the sum over a board's jobs
  pub jobs_sum : (lanes : List (List JobParts)) (held : List (Option Held))
      → sum_by f (jobs_in lanes held) ≡ sum_by (sum_by f) lanes + sum_by over_held held
  jobs_sum lanes held =
      sum_by-append f (flat_map (λ lane. lane) lanes) (flat_map held_jobs held)
      ∙ ap₂ (λ a b. a + b) (sum_joined f (λ lane. lane) lanes) (sum_joined f held_jobs held)

  -- after jobs were put to the end of a lane
  pub lane_put : (lanes : List (List JobParts)) (lane : ℕ) (more : List JobParts) → lane < length lanes
      → sum_by (sum_by f) (set lanes lane (lane_at lanes lane ++ more)) ≡ sum_by (sum_by f) lanes + sum_by f more
  lane_put lanes lane more inside =
      let changed = sum_by-set (sum_by f) lanes lane (lane_at lanes lane ++ more) [] inside in
      let joined = sum_by-append f (lane_at lanes lane) more in
      omega (arith, changed, joined)

  -- after the job at a place left its lane
  pub lane_left : (lanes : List (List JobParts)) (lane place : ℕ) (d : JobParts) → lane < length lanes → place < length (lane_at lanes lane)
      → sum_by (sum_by f) (set lanes lane (remove (lane_at lanes lane) place)) + f (get_or (lane_at lanes lane) place d) ≡ sum_by (sum_by f) lanes
  lane_left lanes lane place d inside within =
      let changed = sum_by-set (sum_by f) lanes lane (remove (lane_at lanes lane) place) [] inside in
      let removed = sum_by-remove f (lane_at lanes lane) place d within in
      omega (arith, changed, removed)

  -- after a worker that held nothing holds a job
  pub held_more : (held : List (Option Held)) (worker : ℕ) (mine : Held) → worker < length held → held_at held worker ≡ None
      → sum_by over_held (set held worker (Some mine)) ≡ sum_by over_held held + f mine.job
  held_more held worker mine inside idle =
      let changed = sum_by-set over_held held worker (Some mine) None inside in
      let before : over_held (held_at held worker) ≡ 0 = ap over_held idle in
      let one = sum_by-cons f mine.job [] in
      omega (arith, changed, before, one)

  -- after a worker let go what it held
  pub held_less : (held : List (Option Held)) (worker : ℕ) (mine : Held) → worker < length held → held_at held worker ≡ Some mine
      → sum_by over_held (set held worker None) + f mine.job ≡ sum_by over_held held
  held_less held worker mine inside holds =
      let changed = sum_by-set over_held held worker None None inside in
      let before : over_held (held_at held worker) ≡ over_held (Some mine) = ap over_held holds in
      let one = sum_by-cons f mine.job [] in
      omega (arith, changed, before, one)
