-- Shards without what they found: their problem and jobs are the same, and they are joined with what was taken out.
use Rattle.std.proofs.Common.{◌≡◌, ℕ, zero, suc, ◌+◌, ◌<◌, List, [], ◌∷◌, ◌++◌, length, get_or, set, map, take, drop, refl, sym, ap, ap₂, ◌∙◌, subst, arith, append_assoc}
use Rattle.std.specs.Prelude.{All}
use Rattle.std.specs.List.Sorted.{IsPermutation, IsSorted}
use Rattle.cr_model.specs.Problems.{ProblemParts}
use Rattle.cr_model.specs.Callings.{HasSteps}
use Rattle.cr_model.specs.ProblemFiles.{ProblemFile}
use Rattle.cr_model.specs.Books.{book_order}
use Rattle.cr_model.specs.Checkpoints.{CanGoOn}
use Rattle.cr_store.specs.Progress.{Progress}
use Rattle.cr_store.specs.Written.{IsTextOfLeft}
use Rattle.cr_shard.specs.Joins.{all_found, all_jobs}
use Rattle.cr_shard.specs.Reads.{CanJoin, IsJoinOf, without_found}
use Rattle.cr_shard.proofs.JoinedFacts.{found_steps, goes_on_sorted, is_joined_of}

-- the first ones emptied
abbrev emptied : ℕ → List Progress → List Progress
emptied i shards = map without_found (take i shards) ++ drop i shards

stands : (shards : List Progress) (i : ℕ) (d : Progress) → i < length shards → get_or (emptied i shards) i d ≡ get_or shards i d
stands [] i d inside = absurd (omega arith)
stands (c ∷ shards) zero d inside = refl
stands (c ∷ shards) (suc i) d inside = stands shards i d (omega arith)

one_more : (shards : List Progress) (i : ℕ) (d : Progress) → i < length shards
    → set (emptied i shards) i (without_found (get_or shards i d)) ≡ emptied (suc i) shards
one_more [] i d inside = absurd (omega arith)
one_more (c ∷ shards) zero d inside = refl
one_more (c ∷ shards) (suc i) d inside = ap (λ l. without_found c ∷ l) (one_more shards i d (omega arith))

found_of_more : (shards : List Progress) (i : ℕ) (d : Progress) → i < length shards
    → all_found (drop i shards) ≡ (get_or shards i d).found ++ all_found (drop (suc i) shards)
found_of_more [] i d inside = absurd (omega arith)
found_of_more (c ∷ shards) zero d inside = refl
found_of_more (c ∷ shards) (suc i) d inside = found_of_more shards i d (omega arith)

jobs_stay : (shards : List Progress) → all_jobs (map without_found shards) ≡ all_jobs shards
jobs_stay [] = refl
jobs_stay (c ∷ shards) = ap (λ l. c.jobs ++ l) (jobs_stay shards)

first_stays : (shards : List Progress) (d : Progress) → 0 < length shards → get_or (map without_found shards) 0 d ≡ without_found (get_or shards 0 d)
first_stays [] d some = absurd (omega arith)
first_stays (c ∷ shards) d some = refl

-- shards that can be joined, without what they found, and what the first of them has
module _ (shards : List Progress) (some : 0 < length shards) (can : CanJoin shards) (now : List Progress) (left : now ≡ map without_found shards)
    (first : Progress) (is : first ≡ get_or now 0 first) (bytes : List ℕ) (p : ProblemParts) (bytes_are : bytes ≡ first.bytes) (problem_is : p ≡ first.problem)
    (found : List (List ℕ)) (taken : found ≡ all_found shards) (jobs : List (List (List ℕ))) (jobs_are : jobs ≡ all_jobs now) where
  whole : first ≡ without_found (get_or shards 0 first)
  whole = is ∙ ap (λ l. get_or l 0 first) left ∙ first_stays shards first some

  same_bytes : can.bytes ≡ bytes
  same_bytes = sym (bytes_are ∙ ap (λ c. c.bytes) whole ∙ (can.of_one 0 first some).0)

  same_problem : can.p ≡ p
  same_problem = sym (problem_is ∙ ap (λ c. c.problem) whole ∙ (can.of_one 0 first some).1)

  same_jobs : jobs ≡ all_jobs shards
  same_jobs = jobs_are ∙ ap all_jobs left ∙ jobs_stay shards

  pub first_file : ProblemFile bytes p
  first_file = subst (λ (b : List ℕ). ProblemFile b p) same_bytes (subst (ProblemFile can.bytes) same_problem can.file)

  pub first_touches : All (HasSteps p) found
  first_touches = subst (λ (q : ProblemParts). All (HasSteps q) found) same_problem (found_steps can.p shards can.can_meet found taken)

  pub first_goes_on : (book : List (List ℕ)) → IsPermutation found book → IsSorted (book_order p) book → CanGoOn p book jobs
  first_goes_on = subst (λ (q : ProblemParts). (book : List (List ℕ)) → IsPermutation found book → IsSorted (book_order q) book → CanGoOn q book jobs) same_problem
      (λ book same up. goes_on_sorted can.p shards can.can_meet can.apart book jobs (subst (λ (l : List (List ℕ)). IsPermutation l book) taken same) up same_jobs)

  pub rest_joined : (text : List ℕ) → IsTextOfLeft p bytes found jobs text → IsJoinOf shards text
  rest_joined text of =
      let told : IsTextOfLeft can.p can.bytes found jobs text =
      subst (λ (b : List ℕ). IsTextOfLeft can.p b found jobs text) (sym same_bytes)
      (subst (λ (q : ProblemParts). IsTextOfLeft q bytes found jobs text) (sym same_problem) of) in
      record {
        bytes = can.bytes;
        p = can.p;
        joined_is = is_joined_of can.p can.bytes shards can.can_meet can.apart can.of_one told.book jobs
            (subst (λ (l : List (List ℕ)). IsPermutation l told.book) taken told.same) told.ascending same_jobs text told.is;
        apart = can.apart;
      }

-- what was taken out of one more shard
module _ (shards now : List Progress) (i : ℕ) (old : Progress) (inside : i < length shards) (so_far : now ≡ map without_found (take i shards) ++ drop i shards)
    (is : old ≡ get_or now i old) where
  own : old ≡ get_or shards i old
  own = is ∙ ap (λ l. get_or l i old) so_far ∙ stands shards i old inside

  pub emptied_more : set now i (without_found old) ≡ map without_found (take (i + 1) shards) ++ drop (i + 1) shards
  emptied_more =
      let next : suc i ≡ i + 1 = omega arith in
      ap₂ (λ l c. set l i (without_found c)) so_far own ∙ one_more shards i old inside ∙ ap (λ n. emptied n shards) next

  pub taken_more : (found : List (List ℕ)) → found ++ all_found (drop i shards) ≡ all_found shards
      → (found ++ old.found) ++ all_found (drop (i + 1) shards) ≡ all_found shards
  taken_more found far =
      let next : suc i ≡ i + 1 = omega arith in
      append_assoc found old.found (all_found (drop (i + 1) shards))
      ∙ ap₂ (λ c n. found ++ (c.found ++ all_found (drop n shards))) own (sym next)
      ∙ ap (λ l. found ++ l) (sym (found_of_more shards i old inside))
      ∙ far
