-- How many checkpoints a trail has.
use Rattle.std.proofs.Common.{◌≡◌, ℕ, zero, suc, ◌+◌, ◌-◌, ◌*◌, ◌^◌, ◌<◌, ◌≤◌, List, [], ◌∷◌, length, get_or, inl, inr, sym, ap, ◌∙◌, subst, arith}
use Rattle.std.proofs.lemmas.Bool.{cases_lt}
use Rattle.std.proofs.Math.Nat.{suc-mul}
use Rattle.cr_model.specs.Problems.{ProblemParts}
use Rattle.cr_model.specs.Sound.{IsSound}
use Rattle.cr_model.specs.Sizes.{most_rows, size, size_of_all, live_children}
use Rattle.cr_model.specs.ProblemFiles.{ProblemFile}
use Rattle.cr_model.specs.Checkpoints.{CanGoOn, CheckFile, nodes_of_jobs}
use Rattle.cr_store.specs.Progress.{Progress}
use Rattle.cr_trail.specs.Runs.{size_of_jobs}
use Rattle.cr_trail.specs.Trails.{IsTrailFrom, LeavesNone}
use Rattle.cr_trail.proofs.Going.{some_nodes}

-- what the law says on what stands in a checkpoint
abbrev pub OneCheckpoint : Type 0
OneCheckpoint = (bytes : List ℕ) (c other : Progress) → length bytes < 2 ^ 63
    → CheckFile bytes c.bytes c.problem c.found c.jobs → CheckFile bytes other.bytes other.problem other.found other.jobs → c ≡ other

module _ (one : OneCheckpoint) (p : ProblemParts) (bytes : List ℕ) (found : List (List ℕ)) (jobs : List (List (List ℕ))) (every : ℕ) (trail : List (List ℕ))
    (on : CanGoOn p found jobs) (from : IsTrailFrom p bytes found jobs every trail) where
  abbrev element : ℕ → List ℕ
  element i = get_or trail i []

  file : ProblemFile bytes p
  file = (from.covers 0 [] from.some).file.problem

  same_jobs : (i : ℕ) → i < length trail → (these : List (List ℕ)) (one_jobs : List (List (List ℕ))) (those : List (List ℕ)) (other_jobs : List (List (List ℕ)))
      → CheckFile (element i) bytes p these one_jobs → CheckFile (element i) bytes p those other_jobs → one_jobs ≡ other_jobs
  same_jobs i inside these one_jobs those other_jobs this that =
      let same : record { bytes = bytes; problem = p; found = these; jobs = one_jobs } ≡ record { bytes = bytes; problem = p; found = those; jobs = other_jobs } =
      one (element i) (record { bytes = bytes; problem = p; found = these; jobs = one_jobs }) (record { bytes = bytes; problem = p; found = those; jobs = other_jobs })
      (from.bodies i [] inside).1 this that in
      ap (λ (c : Progress). c.jobs) same

  first : CheckFile (element 0) bytes p found jobs
  first = record { problem = file; is = inl from.first; goes_on = on }

  -- a checkpoint, and so many turns before it
  record IsAfter (i : ℕ) : Type 0 where
    now : List (List ℕ)
    left : List (List (List ℕ))
    stands : CheckFile (element i) bytes p now left
    size_is : size_of_jobs p left + i * every ≡ size_of_jobs p jobs

  after : (i : ℕ) → i + 1 < length trail → IsAfter i
  after zero inside = record { now = found; left = jobs; stands = first; size_is = omega arith }
  after (suc i) inside =
      let before = after i (omega (arith, inside)) in
      let step = from.steps i (omega (arith, inside)) in
      let here = from.steps (suc i) inside in
      let next : i + 1 ≡ suc i = omega arith in
      let to : CheckFile (element (suc i)) bytes p step.now step.left = subst (λ k. CheckFile (element k) bytes p step.now step.left) next step.to in
      let left_is = same_jobs (suc i) (omega (arith, inside)) step.now step.left here.found here.jobs to here.from in
      let jobs_are = same_jobs i (omega (arith, inside)) before.now before.left step.found step.jobs before.stands step.from in
      let has : 0 < length (nodes_of_jobs step.left) = subst (λ js. 0 < length (nodes_of_jobs js)) (sym left_is) here.some in
      record {
        now = step.now;
        left = step.left;
        stands = to;
        size_is = omega (arith, step.falls has, ap (size_of_jobs p) jobs_are, before.size_is, suc-mul i every);
      }

  -- where no node is, one checkpoint is all
  pub one_checkpoint : jobs ≡ [] → length trail ≡ 1
  one_checkpoint none = elim (cases_lt 1 (length trail)) [
    | inl more ↦
        let step = from.steps 0 (omega (arith, more)) in
        let jobs_are = same_jobs 0 from.some step.found step.jobs found jobs step.from first in
        absurd (omega (arith, step.some, ap (λ js. length (nodes_of_jobs js)) (jobs_are ∙ none)))
    | inr few ↦ omega (arith, few, from.some)
  ]

  module _ (none : (p : ProblemParts) (most : ℕ) → size_of_all p most [] ≡ 0) where
    module _ (ends : LeavesNone p bytes trail) where
      over : (i : ℕ) → length trail ≡ i + 1 → (now : List (List ℕ)) (left : List (List (List ℕ))) → CheckFile (element i) bytes p now left → left ≡ []
      over i count now left stands =
          let place : length trail - 1 ≡ i = omega (arith, count) in
          same_jobs i (omega (arith, count)) now left ends.found [] stands (subst (λ k. CheckFile (element k) bytes p ends.found []) place ends.file)

      pub at_most : (turns : ℕ) → length trail ≡ turns + 1 → size_of_jobs p jobs ≤ turns * every
      at_most zero count = omega (arith, ap (size_of_jobs p) (over zero count found jobs first), none p most_rows)
      at_most (suc i) count =
          let inside : i + 1 < length trail = omega (arith, count) in
          let before = after i inside in
          let step = from.steps i inside in
          let next : i + 1 ≡ suc i = omega arith in
          let jobs_are = same_jobs i (omega (arith, inside)) before.now before.left step.found step.jobs before.stands step.from in
          let left_is = over (suc i) count step.now step.left (subst (λ k. CheckFile (element k) bytes p step.now step.left) next step.to) in
          omega (arith, step.ends (ap nodes_of_jobs left_is), ap (size_of_jobs p) jobs_are, before.size_is, suc-mul i every)

    pub at_least : ((p : ProblemParts) (most : ℕ) (node : List ℕ) → IsSound p → size p most node ≡ 1 + size_of_all p most (live_children p most node))
        → ((p : ProblemParts) (most : ℕ) (node : List ℕ) (nodes : List (List ℕ)) → size_of_all p most (node ∷ nodes) ≡ size p most node + size_of_all p most nodes)
        → (turns : ℕ) → length trail ≡ turns + 2 → turns * every < size_of_jobs p jobs
    at_least of_node of_first i count =
        let inside : i + 1 < length trail = omega (arith, count) in
        let before = after i inside in
        let step = from.steps i inside in
        let jobs_are = same_jobs i (omega (arith, inside)) before.now before.left step.found step.jobs before.stands step.from in
        omega (arith, some_nodes p file.sound of_node of_first none (nodes_of_jobs step.jobs) step.some, ap (size_of_jobs p) jobs_are, before.size_is)
