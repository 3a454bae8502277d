-- A trail grows by a checkpoint.
use Rattle.std.proofs.Common.{◌≡◌, ℕ, ◌+◌, ◌-◌, ◌<◌, ◌↔◌, List, [], ◌∷◌, ◌++◌, length, get_or, Some, inl, inr, refl, sym, ap, ◌∙◌, subst, arith, length-append}
use Rattle.std.proofs.lemmas.Bool.{cases_lt}
use Rattle.std.proofs.lemmas.List.{get_or_append_left}
use Rattle.std.proofs.lemmas.List.Elements.{All-push, All-nil}
use Rattle.std.proofs.Math.Seq.{get_or-append_seam}
use Rattle.cr_model.specs.Problems.{ProblemParts}
use Rattle.cr_model.specs.Nodes.{Covers}
use Rattle.cr_model.specs.Sizes.{most_rows, size_of_all}
use Rattle.cr_model.specs.ProblemFiles.{ProblemFile}
use Rattle.cr_model.specs.Checkpoints.{CanGoOn, CheckFile, checkpoint_text, nodes_of_jobs}
use Rattle.cr_store.specs.Blocks.{IsBody}
use Rattle.cr_trail.specs.Runs.{RunsTo}
use Rattle.cr_trail.specs.Trails.{IsStep, IsCoverOf, IsTrailFrom, LeavesNone}
use Rattle.cr_trail.specs.Writing.{WentBy, IsSoFar}

-- what the law on sizes says of no node
abbrev pub NoSize : Type 0
NoSize = (p : ProblemParts) (most : ℕ) → size_of_all p most [] ≡ 0

-- a search that ran on so many turns, with what it found put in order
pub went_by : (p : ProblemParts) (found : List (List ℕ)) (jobs : List (List (List ℕ))) (every : ℕ) (now : List (List ℕ)) (left : List (List (List ℕ))) (ordered : List (List ℕ))
    → RunsTo p found jobs (Some every) now left → CanGoOn p ordered left
    → ((calling : List ℕ) → Covers p ordered (nodes_of_jobs left) calling ↔ Covers p found (nodes_of_jobs jobs) calling)
    → WentBy p found jobs every ordered left
went_by p found jobs every now left ordered run on covers = record {
  goes_on = on;
  covers = covers;
  used = run.used;
  size = run.way.nodes.size;
  keeps = run.keeps;
  ends = elim run.ends [
    | inl none ↦ inl none
    | inr is ↦ inr (cc)
  ];
}

module _ (p : ProblemParts) (bytes : List ℕ) (file : ProblemFile bytes p) (found : List (List ℕ)) (jobs : List (List (List ℕ))) (every : ℕ) where
  abbrev text_of : List (List ℕ) → List (List (List ℕ)) → List ℕ
  text_of now left = checkpoint_text p bytes now left

  check : (now : List (List ℕ)) (left : List (List (List ℕ))) → CanGoOn p now left → CheckFile (text_of now left) bytes p now left
  check now left on = record { problem = file; is = inl refl; goes_on = on }

  -- one checkpoint more
  abbrev AreCovers : List (List ℕ) → List (List (List ℕ)) → Type 0
  AreCovers now left = (calling : List ℕ) → Covers p found (nodes_of_jobs jobs) calling ↔ Covers p now (nodes_of_jobs left) calling

  covers_too : (now : List (List ℕ)) (left : List (List (List ℕ))) → CanGoOn p now left → AreCovers now left
      → IsCoverOf p bytes found (nodes_of_jobs jobs) (text_of now left)
  covers_too now left on same = record { now = now; left = left; file = check now left on; covers = same }

  -- the trail of a search that has not begun
  pub begins : CanGoOn p found jobs → IsSoFar p bytes found jobs every [] found jobs
  begins on = record {
    goes_on = on;
    covers = λ calling. (λ h. h, λ h. h);
    so_far = inl refl;
    next = λ body. record {
      some = omega arith;
      first = refl;
      bodies = All-push IsBody [] (text_of found jobs) (All-nil IsBody) body;
      covers = All-push (IsCoverOf p bytes found (nodes_of_jobs jobs)) [] (text_of found jobs) (All-nil (IsCoverOf p bytes found (nodes_of_jobs jobs)))
          (covers_too found jobs on (λ calling. (λ h. h, λ h. h)));
      steps = λ i inside. absurd (omega (arith, inside));
    };
  }

  module _ (trail : List (List ℕ)) (now : List (List ℕ)) (left : List (List (List ℕ))) (so_far : IsSoFar p bytes found jobs every trail now left)
      (body : IsBody (text_of now left)) where
    abbrev longer : List (List ℕ)
    longer = trail ++ text_of now left ∷ []

    long : length longer ≡ length trail + 1
    long = length-append trail (text_of now left ∷ [])

    at_end : get_or longer (length trail) [] ≡ text_of now left
    at_end = get_or-append_seam trail (text_of now left) [] []

    -- where no job is left, the last checkpoint has no node
    pub leaves_none : left ≡ [] → LeavesNone p bytes longer
    leaves_none none =
        let place : length longer - 1 ≡ length trail = omega (arith, long) in
        record {
          found = now;
          file = subst (λ js. CheckFile (get_or longer (length longer - 1) []) bytes p now js) none
              (subst (λ t. CheckFile t bytes p now left) (sym (ap (λ i. get_or longer i []) place ∙ at_end)) (check now left so_far.goes_on));
        }

    module _ (none : NoSize) (some : 0 < length (nodes_of_jobs left)) (more : List (List ℕ)) (rest : List (List (List ℕ))) (went : WentBy p now left every more rest) where
      abbrev trail_now : IsTrailFrom p bytes found jobs every longer
      trail_now = so_far.next body

      covered : AreCovers more rest
      covered calling = let before = so_far.covers calling in let after = went.covers calling in
          (λ h. after.1 (before.0 h), λ h. before.1 (after.0 h))

      step : IsStep p bytes every (text_of now left) (text_of more rest)
      step = record {
        found = now;
        jobs = left;
        now = more;
        left = rest;
        from = check now left so_far.goes_on;
        to = check more rest went.goes_on;
        some = some;
        falls = λ has. elim went.ends [
          | inl over ↦ absurd (omega (arith, has, ap (λ js. length (nodes_of_jobs js)) over))
          | inr same ↦ omega (arith, same, went.size)
        ];
        ends = λ over. omega (arith, ap (size_of_all p most_rows) over, none p most_rows, went.size, went.keeps);
      }

      abbrev longest : List (List ℕ)
      longest = longer ++ text_of more rest ∷ []

      steps_more : (i : ℕ) → i + 1 < length longest → IsStep p bytes every (get_or longest i []) (get_or longest (i + 1) [])
      steps_more i inside = elim (cases_lt (i + 1) (length longer)) [
        | inl low ↦ subst (λ t. IsStep p bytes every t (get_or longest (i + 1) [])) (sym (get_or_append_left longer (text_of more rest ∷ []) [] i (omega (arith, low))))
            (subst (λ t. IsStep p bytes every (get_or longer i []) t) (sym (get_or_append_left longer (text_of more rest ∷ []) [] (i + 1) low)) (trail_now.steps i low))
        | inr high ↦
            let last : i + 1 ≡ length longer = omega (arith, high, inside, length-append longer (text_of more rest ∷ [])) in
            let before : i ≡ length trail = omega (arith, last, long) in
            subst (λ t. IsStep p bytes every t (get_or longest (i + 1) []))
            (sym (get_or_append_left longer (text_of more rest ∷ []) [] i (omega (arith, last)) ∙ ap (λ k. get_or longer k []) before ∙ at_end))
            (subst (λ t. IsStep p bytes every (text_of now left) t) (sym (ap (λ k. get_or longest k []) last ∙ get_or-append_seam longer (text_of more rest) [] [])) step)
      ]

      -- one checkpoint more
      pub goes_further : IsSoFar p bytes found jobs every longer more rest
      goes_further = record {
        goes_on = went.goes_on;
        covers = covered;
        so_far = inr trail_now;
        next = λ fits. record {
          some = omega (arith, length-append longer (text_of more rest ∷ []));
          first = get_or_append_left longer (text_of more rest ∷ []) [] 0 trail_now.some ∙ trail_now.first;
          bodies = All-push IsBody longer (text_of more rest) trail_now.bodies fits;
          covers = All-push (IsCoverOf p bytes found (nodes_of_jobs jobs)) longer (text_of more rest) trail_now.covers (covers_too more rest went.goes_on covered);
          steps = steps_more;
        };
      }
