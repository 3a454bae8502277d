-- Searches that go on from what others left.
use Rattle.std.proofs.Common.{◌≡◌, ℕ, zero, suc, ◌+◌, ◌-◌, ◌<◌, ◌≤◌, ◌⊎◌, List, [], ◌∷◌, length, Option, Some, None, Ordering, inl, inr, refl, sym, ap, ◌∙◌, subst, arith}
use Rattle.std.specs.Prelude.{◌++◌, All, sum_by, map}
use Rattle.std.specs.List.Sorted.{IsPermutation, IsSorted, IsStrictlySortedBy}
use Rattle.std.proofs.lemmas.List.Elements.{All-nil, All-map}
use Rattle.cr_model.specs.Problems.{ProblemParts}
use Rattle.cr_model.specs.Callings.{HasSteps}
use Rattle.cr_model.specs.Touches.{Kept}
use Rattle.cr_model.specs.Nodes.{IsValid, Independent, nodes_above, times_found}
use Rattle.cr_model.specs.Books.{IsBook, book_order}
use Rattle.cr_model.specs.Sizes.{most_rows, size, size_of_all, live_children}
use Rattle.cr_model.specs.Sound.{IsSound}
use Rattle.cr_model.specs.Checkpoints.{CanGoOn, nodes_of_jobs}
use Rattle.cr_board.specs.Jobs.{JobParts, OpeningParts, opening_nodes, opening_from}
use Rattle.cr_board.specs.Boards.{BoardParts, jobs_of, nodes_in}
use Rattle.cr_board.specs.ReplayStates.{AreAllowed, start, replay, grant_of}
use Rattle.cr_board.specs.Partitions.{IsPartition, IsKept}
use Rattle.cr_board.specs.declared.entry.Entry.{Entry}
use Rattle.cr_run.specs.Runs.{HasEnded}
use Rattle.cr_store.specs.Searches.{WentOn}
use Rattle.cr_store.specs.Written.{board_jobs}
use Rattle.cr_trail.specs.Runs.{size_of_jobs, KeepsTo, RunsTo, BoardRan, UnderWay, board_turns, turns_after}

-- what the law on what was found whole says, and the one on touches that are covered
abbrev pub FoundWhole : Type 0
FoundWhole = (p : ProblemParts) (before nodes found sorted : List (List ℕ)) → All (Kept p) found
    → ((calling : List ℕ) → Kept p calling → times_found found calling ≡ times_found before calling + nodes_above p nodes calling)
    → ((calling : List ℕ) → Kept p calling → times_found before calling + nodes_above p nodes calling ≤ 1)
    → IsPermutation found sorted → IsSorted (book_order p) sorted → IsBook p before nodes sorted

abbrev pub CoveredOnce : Type 0
CoveredOnce = (p : ProblemParts) (found : List (List ℕ)) (jobs : List (List (List ℕ))) → CanGoOn p found jobs → (calling : List ℕ)
    → times_found found calling + nodes_above p (nodes_of_jobs jobs) calling ≤ 1

-- where no job is left, what was found is in order the book of what was to be searched
pub book_found : FoundWhole → CoveredOnce → (p : ProblemParts) (found : List (List ℕ)) (jobs : List (List (List ℕ)))
    (now : List (List ℕ)) (left : List (List (List ℕ))) (used : ℕ) → WentOn p found jobs now left used → left ≡ []
    → (book : List (List ℕ)) → IsPermutation now book → IsSorted (book_order p) book → IsBook p found (nodes_of_jobs jobs) book
book_found whole once p found jobs now left used way none book same up =
    whole p found (nodes_of_jobs jobs) now book way.nodes.kept each (λ calling kept. once p found jobs way.began calling) same up
  where
    each : (calling : List ℕ) → Kept p calling → times_found now calling ≡ times_found found calling + nodes_above p (nodes_of_jobs jobs) calling
    each calling kept =
        let nothing : nodes_above p (nodes_of_jobs left) calling ≡ 0 = ap (λ js. nodes_above p (nodes_of_jobs js) calling) none in
        omega (arith, nothing, way.nodes.each calling kept)

-- what the law on partitions says of their beginning, and of one after another
abbrev pub Begun : Type 0
Begun = (p : ProblemParts) (found nodes : List (List ℕ)) → All (Kept p) found → All (IsValid p) nodes → Independent p found nodes
    → IsPartition p found nodes found nodes 0

abbrev pub Onward : Type 0
Onward = (p : ProblemParts) (found nodes now left more rest : List (List ℕ)) (spent used : ℕ) → IsPartition p found nodes now left spent
    → IsPartition p [] left more rest used → IsPartition p found nodes (now ++ more) rest (spent + used)

-- a search that has not begun
not_begun : Begun → (p : ProblemParts) (found : List (List ℕ)) (jobs : List (List (List ℕ))) → CanGoOn p found jobs → WentOn p found jobs found jobs 0
not_begun begun p found jobs on = record {
  began = on;
  nodes = begun p found (nodes_of_jobs jobs) on.kept on.valid on.independent;
  filled = on.filled;
}

-- no touch is in order
pub none_ascend : {K : Type 0} (cmp : K → K → Ordering) → IsStrictlySortedBy cmp []
unfolding IsStrictlySortedBy
none_ascend cmp = tt

-- a board is opened with what is left, and no found touch
pub can_open : (p : ProblemParts) (found : List (List ℕ)) (jobs : List (List (List ℕ))) (now : List (List ℕ)) (left : List (List (List ℕ))) (used : ℕ)
    → WentOn p found jobs now left used → CanGoOn p [] left
can_open p found jobs now left used way = record {
  kept = All-nil (Kept p);
  ascending = none_ascend (book_order p);
  filled = way.filled;
  valid = way.nodes.valid;
  independent = record { nodes_apart = way.nodes.independent.nodes_apart; found_apart = λ i j inside within. absurd (omega arith) };
}

-- so it is where nothing was searched yet
pub without_found : (p : ProblemParts) (found : List (List ℕ)) (jobs : List (List (List ℕ))) → CanGoOn p found jobs → CanGoOn p [] jobs
without_found p found jobs on = record {
  kept = All-nil (Kept p);
  ascending = none_ascend (book_order p);
  filled = on.filled;
  valid = on.valid;
  independent = record { nodes_apart = on.independent.nodes_apart; found_apart = λ i j inside within. absurd (omega arith) };
}

keeps_more : (turns : Option ℕ) (most used more : ℕ) → KeepsTo turns used → more ≤ board_turns (turns_after turns used) most
    → KeepsTo turns (used + more)
keeps_more None most used more keeps few = tt
keeps_more (Some turns) most used more keeps few = omega (arith, keeps, few)

after_more : (turns : Option ℕ) (used more : ℕ) → KeepsTo turns (used + more) → turns_after (turns_after turns used) more ≡ turns_after turns (used + more)
after_more None used more keeps = refl
after_more (Some turns) used more keeps = ap Some (omega (arith, keeps))

-- no board takes more turns than are allowed
pub board_keeps : (turns : Option ℕ) (most used : ℕ) → used ≤ board_turns turns most → KeepsTo turns used
board_keeps None most used few = tt
board_keeps (Some turns) most used few = omega (arith, few)

module _ (p : ProblemParts) (found : List (List ℕ)) (jobs : List (List (List ℕ))) (turns : Option ℕ) where
  pub begins : Begun → CanGoOn p found jobs → UnderWay p found jobs turns found jobs turns
  begins begun on = record { used = 0; way = not_begun begun p found jobs on; keeps = none turns; rest = all turns }
    where
      none : (turns : Option ℕ) → KeepsTo turns 0
      none None = tt
      none (Some most) = omega arith

      all : (turns : Option ℕ) → turns ≡ turns_after turns 0
      all None = refl
      all (Some most) = ap Some (omega arith)

  -- one board more
  pub goes_on : Onward → (now more : List (List ℕ)) (left rest : List (List (List ℕ))) (allowed : Option ℕ) (most used : ℕ)
      → UnderWay p found jobs turns now left allowed → BoardRan p left (board_turns allowed most) more rest used
      → UnderWay p found jobs turns (now ++ more) rest (turns_after allowed used)
  goes_on onward now more left rest allowed most used way ran =
      let keeps : KeepsTo turns (way.used + used) =
      keeps_more turns most way.used used way.keeps (subst (λ x. used ≤ board_turns x most) way.rest ran.keeps) in
      record {
        used = way.used + used;
        way = record {
          began = way.way.began;
          nodes = onward p found (nodes_of_jobs jobs) now (nodes_of_jobs left) more (nodes_of_jobs rest) way.used used way.way.nodes ran.nodes;
          filled = ran.filled;
        };
        keeps = keeps;
        rest = ap (λ x. turns_after x used) way.rest ∙ after_more turns way.used used keeps;
      }

  all_used : (turns : Option ℕ) (used : ℕ) → KeepsTo turns used → turns_after turns used ≡ Some 0 → turns ≡ Some used
  all_used None used keeps is = absurd (cc)
  all_used (Some most) used keeps is =
      let none : most - used ≡ 0 = cc in
      ap Some (omega (arith, none, keeps))

  -- no job is left, or no turn is allowed
  pub is_run : (now : List (List ℕ)) (left : List (List (List ℕ))) (allowed : Option ℕ) → UnderWay p found jobs turns now left allowed
      → (left ≡ []) ⊎ (allowed ≡ Some 0) → RunsTo p found jobs turns now left
  is_run now left allowed way over = record {
    used = way.used;
    way = way.way;
    keeps = way.keeps;
    ends = elim over [
      | inl none ↦ inl none
      | inr none ↦ inr (all_used turns way.used way.keeps (sym way.rest ∙ none))
    ];
  }

-- jobs that there are have nodes
pub some_jobs : (jobs : List (List (List ℕ))) → All (λ job. 0 < length job) jobs → (jobs ≡ [] → ⊥) → 0 < length (nodes_of_jobs jobs)
some_jobs [] filled some = absurd (some refl)
some_jobs ([] ∷ jobs) filled some = let none : 0 < 0 = filled 0 [] (omega arith) in absurd (omega (arith, none))
some_jobs ((node ∷ job) ∷ jobs) filled some = omega arith

-- what jobs are has a size, as each job has a node
module _ (p : ProblemParts) (sound : IsSound p)
    (of_node : (p : ProblemParts) (most : ℕ) (node : List ℕ) → IsSound p → size p most node ≡ 1 + size_of_all p most (live_children p most node))
    (of_first : (p : ProblemParts) (most : ℕ) (node : List ℕ) (nodes : List (List ℕ)) → size_of_all p most (node ∷ nodes) ≡ size p most node + size_of_all p most nodes)
    (of_none : (p : ProblemParts) (most : ℕ) → size_of_all p most [] ≡ 0) where
  pub some_nodes : (nodes : List (List ℕ)) → 0 < length nodes → 1 ≤ size_of_all p most_rows nodes
  some_nodes [] some = absurd (omega (arith, some))
  some_nodes (node ∷ nodes) some = omega (arith, of_first p most_rows node nodes, of_node p most_rows node sound)

  -- a board makes the size less
  pub shrinks : (left rest : List (List (List ℕ))) (more : List (List ℕ)) (allowed : Option ℕ) (most used : ℕ) → 0 < most
      → All (λ job. 0 < length job) left → (((left ≡ []) ⊎ (allowed ≡ Some 0)) → ⊥) → BoardRan p left (board_turns allowed most) more rest used
      → size_of_jobs p rest < size_of_jobs p left
  shrinks left rest more allowed most used some filled going ran = elim ran.ends [
    | inl none ↦ let nothing : size_of_jobs p rest ≡ 0 = ap (size_of_jobs p) none ∙ of_none p most_rows in omega (arith, nothing, before)
    | inr is ↦ omega (arith, is, ran.nodes.size, allows allowed (λ none. going (inr none)))
  ]
    where
      before : 1 ≤ size_of_jobs p left
      before = some_nodes (nodes_of_jobs left) (some_jobs left filled (λ none. going (inl none)))

      allows : (allowed : Option ℕ) → (allowed ≡ Some 0 → ⊥) → 1 ≤ board_turns allowed most
      allows None not = omega (arith, some)
      allows (Some zero) not = absurd (not refl)
      allows (Some (suc turns)) not = omega (arith, some)

-- no board spends more than its budget
pub keeps_budget : (b : BoardParts) → IsKept b
    → ((o : OpeningParts) (journal : List Entry) (budget : ℕ) → 1 ≤ o.workers → AreAllowed o (start o) journal
    → o.budget ≡ Some budget → (replay o journal).spent + sum_by grant_of (replay o journal).held ≤ budget)
    → (budget : ℕ) → b.opening.budget ≡ Some budget → b.spent ≤ budget
keeps_budget b kept within budget is =
    let same : b.spent ≡ (replay b.opening b.journal).spent = ap (λ h. h.spent) kept.replayed.replay_state in
    omega (arith, same, within b.opening b.journal budget kept.opening.some kept.replayed.allowed is)

-- the jobs that a board leaves are none where it has none
leaves_none : (b : BoardParts) (left : List (List (List ℕ))) → left ≡ board_jobs b → HasEnded b
    → (left ≡ []) ⊎ (b.opening.budget ≡ Some b.spent)
leaves_none b left is (inl none) = inl (is ∙ ap (map (λ job. job.nodes)) none)
leaves_none b left is (inr spent) = inr spent

-- the nodes of jobs
nodes_are : (jobs : List JobParts) → nodes_of_jobs (map (λ job. job.nodes) jobs) ≡ nodes_in jobs
nodes_are [] = refl
nodes_are (job ∷ jobs) = ap (λ l. job.nodes ++ l) (nodes_are jobs)

-- a board that was opened from jobs goes on from there
pub board_ran : (p : ProblemParts) (jobs : List (List (List ℕ))) (turns workers : ℕ) (b : BoardParts) (now : List (List ℕ)) (left : List (List (List ℕ))) (spent : ℕ)
    → IsKept b → HasEnded b → spent ≤ turns → spent ≡ b.spent → now ≡ b.found → left ≡ board_jobs b → b.opening ≡ opening_from p [] jobs (Some turns) workers
    → BoardRan p jobs turns now left spent
board_ran p jobs turns workers b now left spent kept ended few spent_is now_is left_is opened = record {
  nodes = subst (λ o. IsPartition o.problem o.found (opening_nodes o) now (nodes_of_jobs left) spent) opened
      (subst (λ s. IsPartition b.opening.problem b.opening.found (opening_nodes b.opening) now (nodes_of_jobs left) s) (sym spent_is)
      (subst (λ f. IsPartition b.opening.problem b.opening.found (opening_nodes b.opening) f (nodes_of_jobs left) b.spent) (sym now_is)
      (subst (λ ns. IsPartition b.opening.problem b.opening.found (opening_nodes b.opening) b.found ns b.spent) (sym (ap nodes_of_jobs left_is ∙ nodes_are (jobs_of b)))
      kept.partition.nodes)));
  filled = subst (All (λ job. 0 < length job)) (sym left_is) (All-map (λ job. 0 < length job) (λ job. job.nodes) (jobs_of b) kept.partition.filled);
  keeps = few;
  ends = elim (leaves_none b left left_is ended) [
    | inl none ↦ inl none
    | inr all ↦ inr (same (sym (ap (λ o. o.budget) opened) ∙ all) ∙ sym spent_is)
  ];
}
  where
    same : Some turns ≡ Some b.spent → turns ≡ b.spent
    same is = cc

-- kept touches have steps of their problem alone
pub steps_of_kept : (p : ProblemParts) (found : List (List ℕ)) → All (Kept p) found → All (HasSteps p) found
steps_of_kept p found kept = λ i d within. (kept i d within).wanted.steps
