-- What was written of a trail.
use Rattle.std.proofs.Common.{◌≡◌, ℕ, ◌+◌, ◌<◌, ◌≤◌, List, [], ◌∷◌, ◌++◌, Result, Ok, Err, inl, inr, refl, sym, ap, ◌∙◌, subst, arith, append-nil}
use Rattle.std.specs.Prelude.{IsErrAnd}
use Rattle.std.proofs.lemmas.Grind.{flat_map-append}
use Rattle.cr_io.specs.Causes.{Rose}
use Rattle.cr_io.specs.Grown.{GrowsByFront}
use Rattle.cr_model.specs.Problems.{ProblemParts}
use Rattle.cr_model.specs.Sound.{IsSound}
use Rattle.cr_model.specs.Sizes.{most_rows, size, size_of_all, live_children}
use Rattle.cr_model.specs.ProblemFiles.{ProblemFile}
use Rattle.cr_model.specs.Checkpoints.{CanGoOn, checkpoint_text, nodes_of_jobs}
use Rattle.cr_store.specs.Blocks.{block, blocks}
use Rattle.cr_trail.specs.Runs.{size_of_jobs}
use Rattle.cr_trail.specs.Trails.{EndsTrail}
use Rattle.cr_trail.specs.Writing.{end_of, WritesBlock, WentBy, WroteSoFar}
use Rattle.cr_trail.specs.declared.trail.TrailEnd.TheVariants as ended
use Rattle.cr_trail.specs.declared.trail.Unwritten.{Unwritten}
use Rattle.cr_trail.specs.declared.trail.Unwritten.TheVariants as unwritten
use Rattle.cr_trail.proofs.Fronts.{front_of_both}
use Rattle.cr_trail.proofs.Going.{some_jobs, some_nodes}
use Rattle.cr_trail.proofs.Trailing.{NoSize, begins, leaves_none, goes_further}

-- one block more
pub blocks_more : (before : List (List ℕ)) (body : List ℕ) → blocks (before ++ body ∷ []) ≡ blocks before ++ block body
blocks_more before body = flat_map-append block before (body ∷ []) ∙ ap (λ t. blocks before ++ t) (append-nil (block body))

-- a search that went on has fewer nodes left
pub falls : (p : ProblemParts) → IsSound p
    → ((p : ProblemParts) (most : ℕ) (node : List ℕ) → IsSound p → size p most node ≡ 1 + size_of_all p most (live_children p most node))
    → ((p : ProblemParts) (most : ℕ) (node : List ℕ) (nodes : List (List ℕ)) → size_of_all p most (node ∷ nodes) ≡ size p most node + size_of_all p most nodes)
    → NoSize → (found : List (List ℕ)) (jobs : List (List (List ℕ))) (every : ℕ) (now : List (List ℕ)) (left : List (List (List ℕ)))
    → 1 ≤ every → CanGoOn p found jobs → (jobs ≡ [] → ⊥) → WentBy p found jobs every now left → size_of_jobs p left < size_of_jobs p jobs
falls p sound of_node of_first none found jobs every now left turns on some went =
    let before : 1 ≤ size_of_jobs p jobs = some_nodes p sound of_node of_first none (nodes_of_jobs jobs) (some_jobs jobs on.filled some) in
    elim went.ends [
      | inl over ↦ let nothing : size_of_jobs p left ≡ 0 = ap (size_of_jobs p) over ∙ none p most_rows in omega (arith, nothing, before)
      | inr same ↦ omega (arith, same, turns, went.size)
    ]

module _ {K : Type 0} (grew : K → K → List ℕ → Type 0) (faults : K → ℕ) (chains : (a b c : K) (x y : List ℕ) → grew a b x → grew b c y → grew a c (x ++ y))
    (p : ProblemParts) (bytes : List ℕ) (file : ProblemFile bytes p) (found : List (List ℕ)) (jobs : List (List (List ℕ))) (every : ℕ) (old : K) where
  -- there was no memory for the first checkpoint
  pub nothing_written : grew old old [] → (result : Result (Unit {0}) Unwritten) → IsErrAnd result (λ w. w ≡ unwritten.NoMemory)
      → EndsTrail grew faults old old p bytes found jobs every (end_of result)
  nothing_written starts (Ok done) same = absurd same
  nothing_written starts (Err w) same = subst (λ w. EndsTrail grew faults old old p bytes found jobs every (end_of (Err w))) (sym same) ([], inl refl, starts, refl)

  -- nothing was written yet
  pub not_begun : grew old old [] → CanGoOn p found jobs → WroteSoFar grew faults old old p bytes found jobs every found jobs
  not_begun starts on = record { trail = []; under_way = begins p bytes file found jobs every on; grown = starts; calm = refl }

  module _ (mid : K) (now : List (List ℕ)) (left : List (List (List ℕ))) (so_far : WroteSoFar grew faults old mid p bytes found jobs every now left) (new : K) where
    abbrev text : List ℕ
    text = checkpoint_text p bytes now left

    abbrev longer : List (List ℕ)
    longer = so_far.trail ++ text ∷ []

    -- the next checkpoint was not written whole
    pub refused : (why : Unwritten) → WritesBlock grew faults mid new text (Err why) → EndsTrail grew faults old new p bytes found jobs every (end_of (Err why))
    refused unwritten.WriteFault is = (
      longer,
      so_far.under_way.next is.0,
      subst (GrowsByFront grew old new) (sym (blocks_more so_far.trail text)) (front_of_both grew chains old mid new (blocks so_far.trail) (block text) so_far.grown is.1),
      subst (λ n. Rose n (faults new)) so_far.calm is.2,
    )
    refused unwritten.NoMemory is = (
      so_far.trail,
      so_far.under_way.so_far,
      subst (λ k. grew old k (blocks so_far.trail)) (sym is) so_far.grown,
      ap faults is ∙ so_far.calm,
    )

    pub refused_as : (body : List ℕ) (why : Unwritten) (result : Result (Unit {0}) Unwritten) → body ≡ text → WritesBlock grew faults mid new body (Err why)
        → IsErrAnd result (λ w. w ≡ why) → EndsTrail grew faults old new p bytes found jobs every (end_of result)
    refused_as body why (Ok done) is wrote same = absurd same
    refused_as body why (Err w) is wrote same =
        subst (λ w. EndsTrail grew faults old new p bytes found jobs every (end_of (Err w))) (sym same)
        (refused why (subst (λ t. WritesBlock grew faults mid new t (Err why)) is wrote))

    module _ (is : WritesBlock grew faults mid new text (Ok tt)) where
      grown : grew old new (blocks longer)
      grown = subst (grew old new) (sym (blocks_more so_far.trail text)) (chains old mid new (blocks so_far.trail) (block text) so_far.grown is.1)

      calm : faults new ≡ faults old
      calm = is.2 ∙ so_far.calm

      -- it was, and no job is left
      pub done : left ≡ [] → EndsTrail grew faults old new p bytes found jobs every ended.Done
      done none = (longer, so_far.under_way.next is.0, leaves_none p bytes file found jobs every so_far.trail now left so_far.under_way is.0 none, grown, calm)

      -- it was, and there was no memory to go on
      pub no_memory : EndsTrail grew faults old new p bytes found jobs every ended.NoMemory
      no_memory = (longer, inr (so_far.under_way.next is.0), grown, calm)

      pub no_memory_as : (result : Result (Unit {0}) Unwritten) → IsErrAnd result (λ w. w ≡ unwritten.NoMemory)
          → EndsTrail grew faults old new p bytes found jobs every (end_of result)
      no_memory_as (Ok done) same = absurd same
      no_memory_as (Err w) same = subst (λ w. EndsTrail grew faults old new p bytes found jobs every (end_of (Err w))) (sym same) no_memory

      -- it was, and the search went on
      pub further : NoSize → (left ≡ [] → ⊥) → (more : List (List ℕ)) (rest : List (List (List ℕ))) → WentBy p now left every more rest
          → WroteSoFar grew faults old new p bytes found jobs every more rest
      further none some more rest went = record {
        trail = longer;
        under_way = goes_further p bytes file found jobs every so_far.trail now left so_far.under_way is.0 none
            (some_jobs left so_far.under_way.goes_on.filled some) more rest went;
        grown = grown;
        calm = calm;
      }
