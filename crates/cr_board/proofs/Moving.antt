-- The partition after a take, a Back and a hand-in.
use Rattle.std.proofs.Common.{◌≡◌, ◌≢◌, ℕ, ◌+◌, ◌/◌, ◌<◌, ◌≤◌, Bool, true, false, cond, nat_eq, List, [], ◌∷◌, ◌++◌, length, get_or, set, take, drop, sum_by, count_by, All, Option, Some, None, inl, inr, refl, sym, ap, ◌∙◌, subst, arith, length-append, add-zero, eqb-true}
use Rattle.std.specs.Prelude.{remove}
use Rattle.std.proofs.lemmas.Bool.{cases_eq, cases_lt, true≢false, eqb-false}
use Rattle.std.proofs.lemmas.Option.{none-some}
use Rattle.std.proofs.lemmas.List.{length-set, get_or-set_same, get_or-set_other, get_or_past, set_past, take-append-drop, length-take-le, length-drop, get_or-append-add}
use Rattle.std.proofs.lemmas.List.Sums.{sum_by-append, sum_by-cons}
use Rattle.cr_model.specs.Nodes.{is_prefix, IsValid, Independent, Splits}
use Rattle.cr_model.specs.Sizes.{most_rows, size_of_all}
use Rattle.cr_model.proofs.Counting.{none_count, none_passes}
use Rattle.cr_model.proofs.Independence.{one_begins_each}
use Rattle.cr_node.specs.Work.{Work, IsJob}
use Rattle.cr_board.specs.Jobs.{JobParts, numbered, opening_nodes}
use Rattle.cr_board.specs.Boards.{BoardParts, lane_at, held_at, jobs_in, nodes_in, jobs_of, nodes_of}
use Rattle.cr_board.specs.Choices.{job_at, grant_now, Stands}
use Rattle.cr_board.specs.Partitions.{Partition}
use Rattle.cr_board.specs.Moves.{taken_at, put_back, handed_in, halves}
use Rattle.cr_board.specs.declared.held.Held.{Held}
use Rattle.cr_board.specs.declared.place.Place.{Place}
use Rattle.cr_board.proofs.Sums.{HaveSame, same_nodes, sum_joined, jobs_sum, lane_put, lane_left, held_more, held_less}
use Rattle.cr_board.proofs.Apart.{same_all, from_counts}
use Rattle.cr_board.proofs.Parting.{AmongOthers, moved, handed_over}

-- a job has no node
abbrev pub is_empty : JobParts → Bool
is_empty job = nat_eq (length job.nodes) 0

-- no job is empty where none is counted as empty
filled_count : (jobs : List JobParts) → All (λ job. 0 < length job.nodes) jobs → count_by is_empty jobs ≡ 0
filled_count jobs filled = none_count is_empty jobs (record { number = 0; nodes = [] })
    (λ i inside. let some = filled i (record { number = 0; nodes = [] }) inside in grind arith)

pub count_filled : (jobs : List JobParts) → count_by is_empty jobs ≡ 0 → All (λ job. 0 < length job.nodes) jobs
count_filled jobs none k d inside = let some = eqb-false (length (get_or jobs k d).nodes) 0 (none_passes is_empty jobs d none k inside) in omega (arith, some)

-- who holds something is one of the workers
pub holder_inside : (held : List (Option Held)) (worker : ℕ) (mine : Held) → held_at held worker ≡ Some mine → worker < length held
holder_inside held worker mine holds = elim (cases_lt worker (length held)) [
  | inl inside ↦ inside
  | inr past ↦ absurd (none-some mine (sym (get_or_past held worker None past) ∙ holds))
]

-- at another place of the list, or at this one
pub held_after : (held : List (Option Held)) (worker : ℕ) (new : Option Held) (other : ℕ) (P : Option Held → Type 0) → (worker ≡ other → worker < length held → P new)
    → (length held ≤ worker → P (held_at held other)) → (other ≢ worker → P (held_at held other)) → P (held_at (set held worker new) other)
held_after held worker new other P here past there = elim (cases_eq other worker) [
  | inl e ↦ elim (cases_lt worker (length held)) [
    | inl inside ↦ subst P (sym (ap (λ k. get_or (set held worker new) k None) e ∙ get_or-set_same held worker new None inside)) (here (sym e) inside)
    | inr out ↦ subst P (sym (ap (λ l. get_or l other None) (set_past held worker new out))) (past out)
  ]
  | inr differ ↦ subst P (sym (get_or-set_other held worker other new None differ)) (there differ)
]

-- the halves of a rest have its nodes
halves_sum : (f : List ℕ → ℕ) (next : ℕ) (rest : List (List ℕ)) → sum_by {X = JobParts} (λ job. sum_by f job.nodes) (numbered next (halves rest)) ≡ sum_by f rest
halves_sum f next [] = refl
halves_sum f next (node ∷ []) = sum_by-cons {X = JobParts} (λ job. sum_by f job.nodes) (record { number = next; nodes = node ∷ [] }) [] ∙ add-zero (sum_by f (node ∷ []))
halves_sum f next (node ∷ other ∷ rest) =
    let all = node ∷ other ∷ rest in
    let half = length all / 2 in
    let first : JobParts = record { number = next; nodes = take half all } in
    let second : JobParts = record { number = next + 1; nodes = drop half all } in
    let one = sum_by-cons {X = JobParts} (λ job. sum_by f job.nodes) first (second ∷ []) in
    let two = sum_by-cons {X = JobParts} (λ job. sum_by f job.nodes) second [] in
    let joined = sum_by-append f (take half all) (drop half all) in
    let whole : sum_by f (take half all ++ drop half all) ≡ sum_by f all = ap (sum_by f) (take-append-drop half all) in
    omega (arith, one, two, joined, whole)

-- a job with a node is not counted as empty
pub full : (job : JobParts) → 0 < length job.nodes → cond {A = ℕ} (is_empty job) 1 0 ≡ 0
full job some = by (is_empty job) refl
  where
    by : (e : Bool) → is_empty job ≡ e → cond {A = ℕ} e 1 0 ≡ 0
    by true e = absurd (omega (arith, some, eqb-true (length job.nodes) 0 e))
    by false e = refl

-- and none of them is empty
halves_filled : (next : ℕ) (rest : List (List ℕ)) → count_by is_empty (numbered next (halves rest)) ≡ 0
halves_filled next [] = refl
halves_filled next (node ∷ []) = sum_by-cons {X = JobParts} (λ job. cond (is_empty job) 1 0) (record { number = next; nodes = node ∷ [] }) []
halves_filled next (node ∷ other ∷ rest) =
    let all = node ∷ other ∷ rest in
    let half = length all / 2 in
    let first : JobParts = record { number = next; nodes = take half all } in
    let second : JobParts = record { number = next + 1; nodes = drop half all } in
    let many : 2 ≤ length all = omega arith in
    let one = sum_by-cons {X = JobParts} (λ job. cond (is_empty job) 1 0) first (second ∷ []) in
    let two = sum_by-cons {X = JobParts} (λ job. cond (is_empty job) 1 0) second [] in
    let taken : 0 < length (take half all) = omega (arith, length-take-le half all (omega arith), many) in
    let left : 0 < length (drop half all) = omega (arith, length-drop half all, many) in
    omega (arith, one, two, full first taken, full second left)

module _ (b : BoardParts) (part : Partition b) where
  -- a job that is taken is one of the same jobs
  pub take_same : (worker : ℕ) (place : Place) → worker < length b.held → held_at b.held worker ≡ None → Stands b.lanes place
      → HaveSame (jobs_of b) (jobs_of (taken_at b worker place))
  take_same worker place inside idle stands f =
      let job = job_at b.lanes place in
      let lanes = lane_left f b.lanes place.lane place.place (record { number = 0; nodes = [] }) stands.lane stands.place in
      let held = held_more f b.held worker (record { job = job; grant = grant_now b }) inside idle in
      omega (arith, lanes, held, jobs_sum f b.lanes b.held, jobs_sum f (taken_at b worker place).lanes (taken_at b worker place).held)

  pub after_take : (worker : ℕ) (place : Place) → worker < length b.held → held_at b.held worker ≡ None → get_or b.resigned worker false ≡ false → Stands b.lanes place
      → Partition (taken_at b worker place)
  after_take worker place inside idle stays stands =
      let same = take_same worker place inside idle stands in
      record {
        shape = record {
          lanes = length-set b.lanes place.lane (remove (lane_at b.lanes place.lane) place.place) ∙ part.shape.lanes;
          held = length-set b.held worker (Some (record { job = job_at b.lanes place; grant = grant_now b })) ∙ part.shape.held;
          resigned = part.shape.resigned;
        };
        nodes = moved b.opening.problem b.opening.found (opening_nodes b.opening) b.found (nodes_of b) (nodes_of (taken_at b worker place)) b.spent
            (same_nodes (jobs_of b) (jobs_of (taken_at b worker place)) same) part.nodes;
        filled = count_filled (jobs_of (taken_at b worker place)) (same (λ job. cond (is_empty job) 1 0) ∙ filled_count (jobs_of b) part.filled);
        resigned = λ other gone. held_after b.held worker (Some (record { job = job_at b.lanes place; grant = grant_now b })) other (λ h. h ≡ None)
            (λ e within. absurd (true≢false (sym gone ∙ ap (λ k. get_or b.resigned k false) (sym e) ∙ stays)))
            (λ past. part.resigned other gone)
            (λ differ. part.resigned other gone);
      }

  module _ (worker : ℕ) (mine : Held) (holds : held_at b.held worker ≡ Some mine) where
    inside : worker < length b.held
    inside = holder_inside b.held worker mine holds

    inside_lanes : worker < length b.lanes
    inside_lanes = omega (arith, inside, part.shape.held, part.shape.lanes)

    -- a job that goes back is one of the same jobs
    back_same : HaveSame (jobs_of b) (jobs_of (put_back b worker (Some mine)))
    back_same f =
        let lanes = lane_put f b.lanes worker (mine.job ∷ []) inside_lanes in
        let held = held_less f b.held worker mine inside holds in
        let one = sum_by-cons f mine.job [] in
        omega (arith, lanes, held, one, jobs_sum f b.lanes b.held, jobs_sum f (put_back b worker (Some mine)).lanes (put_back b worker (Some mine)).held)

    lets_go : (other : ℕ) → get_or b.resigned other false ≡ true → held_at (set b.held worker None) other ≡ None
    lets_go other gone = held_after b.held worker None other (λ h. h ≡ None) (λ e within. refl) (λ past. part.resigned other gone) (λ differ. part.resigned other gone)

    pub after_back : Partition (put_back b worker (Some mine))
    after_back = record {
      shape = record {
        lanes = length-set b.lanes worker (lane_at b.lanes worker ++ mine.job ∷ []) ∙ part.shape.lanes;
        held = length-set b.held worker None ∙ part.shape.held;
        resigned = part.shape.resigned;
      };
      nodes = moved b.opening.problem b.opening.found (opening_nodes b.opening) b.found (nodes_of b) (nodes_of (put_back b worker (Some mine))) b.spent
          (same_nodes (jobs_of b) (jobs_of (put_back b worker (Some mine))) back_same) part.nodes;
      filled = count_filled (jobs_of (put_back b worker (Some mine))) (back_same (λ job. cond (is_empty job) 1 0) ∙ filled_count (jobs_of b) part.filled);
      resigned = lets_go;
    }

    -- its nodes beside those of all other jobs
    beside : HaveSame (nodes_of b) (nodes_in (jobs_in b.lanes (set b.held worker None)) ++ mine.job.nodes)
    beside f =
        let rest = jobs_in b.lanes (set b.held worker None) in
        omega (
          arith,
          sum_by-append f (nodes_in rest) mine.job.nodes,
          sum_joined f (λ job. job.nodes) rest,
          sum_joined f (λ job. job.nodes) (jobs_of b),
          held_less (λ job. sum_by f job.nodes) b.held worker mine inside holds,
          jobs_sum (λ job. sum_by f job.nodes) b.lanes b.held,
          jobs_sum (λ job. sum_by f job.nodes) b.lanes (set b.held worker None),
        )

    -- what a worker holds is a job
    pub is_job : IsJob b.opening.problem mine.job.nodes
    is_job = record { some = some; valid = valid; independent = independent }
      where
        some : 0 < length mine.job.nodes
        some =
            let count : JobParts → ℕ = λ job. cond (is_empty job) 1 0 in
            let none = filled_count (jobs_of b) part.filled in
            let one : cond {A = ℕ} (is_empty mine.job) 1 0 ≡ 0 = omega (arith, none, held_less count b.held worker mine inside holds, jobs_sum count b.lanes b.held) in
            by (is_empty mine.job) refl one
          where
            by : (e : Bool) → is_empty mine.job ≡ e → cond {A = ℕ} e 1 0 ≡ 0 → 0 < length mine.job.nodes
            by true e one = absurd (omega (arith, one))
            by false e one = let differ = eqb-false (length mine.job.nodes) 0 e in omega (arith, differ)

        valid : All (IsValid b.opening.problem) mine.job.nodes
        valid k d within =
            let before = nodes_in (jobs_in b.lanes (set b.held worker None)) in
            let whole = same_all (IsValid b.opening.problem) (nodes_of b) (before ++ mine.job.nodes) beside part.nodes.valid in
            subst (IsValid b.opening.problem) (get_or-append-add before mine.job.nodes k d) (whole (length before + k) d (omega (arith, length-append before mine.job.nodes)))

        independent : Independent b.opening.problem [] mine.job.nodes
        independent = from_counts b.opening.problem [] mine.job.nodes
            (λ word.
            let before = nodes_in (jobs_in b.lanes (set b.held worker None)) in
            omega (
              arith,
              one_begins_each b.opening.problem b.found (nodes_of b) part.nodes.independent word,
              beside (λ node. cond (is_prefix node word) 1 0),
              sum_by-append (λ node. cond (is_prefix node word) 1 0) before mine.job.nodes,
            ))
            (λ j outside. absurd (omega arith))

    module _ (among : AmongOthers) (number : ℕ) (work : Work) (splits : Splits b.opening.problem mine.job.nodes work.found work.rest)
        (sizes : size_of_all b.opening.problem most_rows work.rest + work.used ≡ size_of_all b.opening.problem most_rows mine.job.nodes) where
      -- the jobs beside the one that is handed in
      abbrev others : List JobParts
      others = jobs_in b.lanes (set b.held worker None)

      abbrev after : BoardParts
      after = handed_in b worker number work

      -- sums over the jobs before
      before_sum : (f : JobParts → ℕ) → sum_by f (jobs_of b) ≡ sum_by f (jobs_in b.lanes (set b.held worker None)) + f mine.job
      before_sum f = omega (arith, held_less f b.held worker mine inside holds, jobs_sum f b.lanes b.held, jobs_sum f b.lanes (set b.held worker None))

      -- and over those after
      after_sum : (f : JobParts → ℕ) → sum_by f (jobs_of (handed_in b worker number work))
          ≡ sum_by f (jobs_in b.lanes (set b.held worker None)) + sum_by f (numbered b.next (halves work.rest))
      after_sum f = omega (
        arith,
        lane_put f b.lanes worker (numbered b.next (halves work.rest)) inside_lanes,
        jobs_sum f (handed_in b worker number work).lanes (handed_in b worker number work).held,
        jobs_sum f b.lanes (set b.held worker None),
      )

      pub after_hand : Partition (handed_in b worker number work)
      after_hand = record {
        shape = record {
          lanes = length-set b.lanes worker (lane_at b.lanes worker ++ numbered b.next (halves work.rest)) ∙ part.shape.lanes;
          held = length-set b.held worker None ∙ part.shape.held;
          resigned = part.shape.resigned;
        };
        nodes = moved b.opening.problem b.opening.found (opening_nodes b.opening) (b.found ++ work.found) (nodes_in others ++ work.rest) (nodes_of after) (b.spent + work.used)
            (λ f. let joined = sum_by-append f (nodes_in others) work.rest in
            let left = sum_joined f (λ job. job.nodes) others in
            let whole = sum_joined f (λ job. job.nodes) (jobs_of after) in
            omega (arith, joined, left, whole, after_sum (λ job. sum_by f job.nodes), halves_sum f b.next work.rest))
            (handed_over among b.opening.problem b.opening.found (opening_nodes b.opening) b.found mine.job.nodes work.found work.rest (nodes_in others) b.spent work.used
            (moved b.opening.problem b.opening.found (opening_nodes b.opening) b.found (nodes_of b) (nodes_in others ++ mine.job.nodes) b.spent
            (λ f. let joined = sum_by-append f (nodes_in others) mine.job.nodes in
            let left = sum_joined f (λ job. job.nodes) others in
            let whole = sum_joined f (λ job. job.nodes) (jobs_of b) in
            omega (arith, joined, left, whole, before_sum (λ job. sum_by f job.nodes)))
            part.nodes)
            splits sizes);
        filled = count_filled (jobs_of after)
            (let none = filled_count (jobs_of b) part.filled in
            omega (arith, after_sum (λ job. cond (is_empty job) 1 0), before_sum (λ job. cond (is_empty job) 1 0), halves_filled b.next work.rest, none));
        resigned = lets_go;
      }
