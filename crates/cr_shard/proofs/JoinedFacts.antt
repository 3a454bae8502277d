-- What shards that do not overlap make together: a search can go on from it, and it covers what they cover.
use Rattle.std.proofs.Common.{◌≡◌, ℕ, suc, zero, ◌+◌, ◌<◌, ◌↔◌, Bool, true, false, nat_eq, List, [], ◌∷◌, ◌++◌, length, get_or, inl, inr, refl, sym, ap, ap₂, ◌∙◌, subst, arith}
use Rattle.std.specs.Prelude.{Contains, All, flat_map}
use Rattle.std.specs.Cmp.Lexicographic.{slice_cmp, pointwise}
use Rattle.std.specs.List.{IsDistinct}
use Rattle.std.specs.List.Sorted.{IsPermutation, IsSorted, IsStrictlySortedBy}
use Rattle.std.specs.Ordering.{nat_cmp, ordering_then, ordering_reverse, is_lt}
use Rattle.std.specs.declared.cmp.Ordering.{Ordering}
use Rattle.std.specs.declared.cmp.Ordering.TheVariants.{Less, Equal, Greater}
use Rattle.std.proofs.lemmas.Bool.{true≢false, or_from, false_from_ne_true, cases_order}
use Rattle.std.proofs.lemmas.Grind.{flat_map-append}
use Rattle.std.proofs.lemmas.List.{get_or_default}
use Rattle.std.proofs.lemmas.List.Elements.{Contains-get_or, All-nil}
use Rattle.std.proofs.lemmas.List.Sorted.{All-permutation, Contains-permutation, IsPermutation-sym}
use Rattle.std.proofs.lemmas.Map.Keys.{IsDistinct-from_apart, IsDistinct-IsPermutation, apart_from_distinct, sorted_from_all_adjacent}
use Rattle.cr_model.specs.Problems.{ProblemParts}
use Rattle.cr_model.specs.Callings.{HasSteps, length_of}
use Rattle.cr_model.specs.ProblemFiles.{ProblemFile}
use Rattle.cr_model.specs.Touches.{Kept}
use Rattle.cr_model.specs.Nodes.{is_above, IsValid, Covers, Independent}
use Rattle.cr_model.specs.Books.{book_order, IsBook}
use Rattle.cr_model.specs.Checkpoints.{CanGoOn, CheckFile, checkpoint_text, nodes_of_jobs}
use Rattle.cr_model.proofs.BookExists.{book_order_total}
use Rattle.cr_model.proofs.Rotations.{same_when_equal}
use Rattle.cr_model.proofs.InOrder.{none_held}
use Rattle.cr_model.proofs.Listed.{all_from_held}
use Rattle.cr_store.specs.Progress.{Progress}
use Rattle.cr_shard.specs.Joins.{IsRead, AreRead, AreOfOne, IsJoinedOf, all_found, all_jobs, nodes_of, NoneOverlap}
use Rattle.cr_shard.specs.Reads.{CanMeet}
use Rattle.cr_shard.proofs.Apart.{alike, nodes_distinct, above_none, independent_from}
use Rattle.cr_shard.proofs.Meeting.{same_words, words_same}
use Rattle.cr_shard.proofs.Overlapping.{differ_in_order, Apart, apart_parts}
use Rattle.cr_shard.proofs.Spreading.{held_all, flat_held, held_flat, spread_from}

-- the nodes of all jobs of all shards
pub joined_nodes : (shards : List Progress) → nodes_of_jobs (all_jobs shards) ≡ flat_map nodes_of shards
joined_nodes [] = refl
joined_nodes (c ∷ shards) = flat_map-append (λ job. job) c.jobs (all_jobs shards) ∙ ap (λ l. nodes_of c ++ l) (joined_nodes shards)

-- callings that tie in the book's order are one
ties : (p : ProblemParts) (calling other : List ℕ) → book_order p calling other ≡ Equal → calling ≡ other
ties p calling other h = same_when_equal calling other (by (nat_cmp (length_of p calling) (length_of p other)) (slice_cmp nat_cmp calling other) h)
  where
    by : (first second : Ordering) → ordering_then first second ≡ Equal → second ≡ Equal
    by Ordering.Equal second h = h
    by Ordering.Less second h = absurd (cc)
    by Ordering.Greater second h = absurd (cc)

-- what does not fall and has nothing twice rises
rise : (p : ProblemParts) (found : List (List ℕ)) → IsSorted (book_order p) found → IsDistinct (pointwise nat_eq) found → IsStrictlySortedBy (book_order p) found
rise p found up distinct = sorted_from_all_adjacent (book_order_total p) found [] (λ k inside. by k inside (book_order p (get_or found k []) (get_or found (k + 1) [])) refl)
  where
    by : (k : ℕ) → k + 1 < length found → (answer : Ordering) → book_order p (get_or found k []) (get_or found (k + 1) []) ≡ answer
        → book_order p (get_or found k []) (get_or found (k + 1) []) ≡ Less
    by k inside Less is = is
    by k inside Equal is = absurd (true≢false (
        sym (words_same (get_or found k []) (get_or found (k + 1) []) (ties p (get_or found k []) (get_or found (k + 1) []) is))
        ∙ apart_from_distinct (pointwise nat_eq) found k (k + 1) [] distinct (omega arith) inside))
    by k inside Greater is = absurd (true≢false (
        sym (ap is_lt ((book_order_total p).antisymm (get_or found (k + 1) []) (get_or found k []) ∙ ap ordering_reverse is)) ∙ up k [] (omega arith) inside))

same_turned : (one other : List ℕ) → pointwise nat_eq one other ≡ pointwise nat_eq other one
same_turned one other = by (pointwise nat_eq one other) (pointwise nat_eq other one) refl refl
  where
    by : (first second : Bool) → pointwise nat_eq one other ≡ first → pointwise nat_eq other one ≡ second → first ≡ second
    by true true h k = refl
    by true false h k = absurd (true≢false (sym (words_same other one (sym (same_words one other h))) ∙ k))
    by false true h k = absurd (true≢false (sym (words_same one other (sym (same_words other one k))) ∙ h))
    by false false h k = refl

module _ (p : ProblemParts) (shards : List Progress) (can : CanMeet p shards) (apart : NoneOverlap p shards) where
  between : (i j : ℕ) (d : Progress) → i < j → j < length shards → Apart p (get_or shards i d) (get_or shards j d)
  between i j d less inside = apart_parts p (get_or shards i d) (get_or shards j d) (apart i j d less inside)

  blank : Progress
  blank = record { bytes = []; problem = p; found = []; jobs = [] }

  found_kept : All (Kept p) (all_found shards)
  found_kept = all_from_held (Kept p) (all_found shards) (λ touch held.
      let at = flat_held (λ c. c.found) shards touch held in
      held_all (Kept p) (get_or shards at.0 blank).found (can at.0 blank at.1).kept touch (at.2 blank))

  -- no touch was found twice
  found_distinct : IsDistinct (pointwise nat_eq) (all_found shards)
  found_distinct = spread_from (pointwise nat_eq) (λ c. c.found) shards
      (λ k d inside. IsDistinct-from_apart (pointwise nat_eq) (get_or shards k d).found (λ i j e less within.
      let found = (get_or shards k d).found in
      let before : i < length found = omega arith in
      ap₂ (pointwise nat_eq) (get_or_default found i e [] before) (get_or_default found j e [] within)
      ∙ false_from_ne_true (pointwise nat_eq (get_or found i []) (get_or found j [])) (λ h.
      differ_in_order p found (can k d inside).ascending i j less within (same_words (get_or found i []) (get_or found j []) h))))
      (λ i j d less inside one two held there. false_from_ne_true (pointwise nat_eq one two) (λ h.
      (between i j d less inside).touches one two held there (same_words one two h)))

  all_filled : All (λ job. 0 < length job) (all_jobs shards)
  all_filled = all_from_held (λ job. 0 < length job) (all_jobs shards) (λ job held.
      let at = flat_held (λ c. c.jobs) shards job held in
      held_all (λ j. 0 < length j) (get_or shards at.0 blank).jobs (can at.0 blank at.1).filled job (at.2 blank))

  all_valid : All (IsValid p) (flat_map nodes_of shards)
  all_valid = all_from_held (IsValid p) (flat_map nodes_of shards) (λ node held.
      let at = flat_held nodes_of shards node held in
      held_all (IsValid p) (nodes_of (get_or shards at.0 blank)) (can at.0 blank at.1).valid node (at.2 blank))

  nodes_apart : IsDistinct alike (flat_map nodes_of shards)
  nodes_apart = spread_from alike nodes_of shards
      (λ k d inside. nodes_distinct p (get_or shards k d).found (nodes_of (get_or shards k d)) (can k d inside).independent)
      (λ i j d less inside one two held there.
      or_from _ _ ((between i j d less inside).before one two held there) ((between i j d less inside).behind two one there held))

  -- no node of any shard is above a touch that any found
  above_apart : (node touch : List ℕ) → Contains (flat_map nodes_of shards) node → Contains (all_found shards) touch → is_above p node touch ≡ false
  above_apart node touch held seen =
      let at = flat_held nodes_of shards node held in
      let there = flat_held (λ c. c.found) shards touch seen in
      elim (cases_order at.0 there.0) [
        | inl same ↦
            let here : Contains (get_or shards at.0 blank).found touch = subst (λ (k : ℕ). Contains (get_or shards k blank).found touch) (sym same) (there.2 blank) in
            false_from_ne_true (is_above p node touch)
            (above_none p (get_or shards at.0 blank).found (nodes_of (get_or shards at.0 blank)) (can at.0 blank at.1).independent node touch (at.2 blank) here)
        | inr (inl before) ↦ (between at.0 there.0 blank before there.1).above node touch (at.2 blank) (there.2 blank)
        | inr (inr after) ↦ (between there.0 at.0 blank after at.1).below node touch (at.2 blank) (there.2 blank)
      ]

  module _ (found : List (List ℕ)) (same : IsPermutation (all_found shards) found) where
    joined_independent : Independent p found (nodes_of_jobs (all_jobs shards))
    joined_independent = subst (Independent p found) (sym (joined_nodes shards))
        (independent_from p found (flat_map nodes_of shards) nodes_apart
        (all_from_held (λ node. (j : ℕ) → j < length found → is_above p node (get_or found j []) ≡ false) (flat_map nodes_of shards) (λ node held j within.
        above_apart node (get_or found j []) held
        (Contains-permutation found (all_found shards) (get_or found j []) (IsPermutation-sym (all_found shards) found same) (Contains-get_or found j [] within)))))

    pub goes_on_in_order : IsStrictlySortedBy (book_order p) found → CanGoOn p found (all_jobs shards)
    goes_on_in_order up = record {
      kept = All-permutation (Kept p) (all_found shards) found same found_kept;
      ascending = up;
      filled = all_filled;
      valid = subst (All (IsValid p)) (sym (joined_nodes shards)) all_valid;
      independent = joined_independent;
    }

    pub joined_rises : IsSorted (book_order p) found → IsStrictlySortedBy (book_order p) found
    joined_rises up = rise p found up (IsDistinct-IsPermutation (pointwise nat_eq) same_turned (all_found shards) found same found_distinct)

-- the joined shards cover a calling exactly where some shard does
pub covered_by_some : (p : ProblemParts) (shards : List Progress) (found : List (List ℕ)) → IsPermutation (all_found shards) found → (calling : List ℕ)
    → Covers p found (nodes_of_jobs (all_jobs shards)) calling
    ↔ ((k : ℕ) × (k < length shards) × ((d : Progress) → Covers p (get_or shards k d).found (nodes_of (get_or shards k d)) calling))
covered_by_some p shards found same calling = (
  λ covers. elim covers.reached [
    | inl seen ↦
        let at = flat_held (λ c. c.found) shards calling (Contains-permutation found (all_found shards) calling (IsPermutation-sym (all_found shards) found same) seen) in
        (at.0, at.1, λ d. record { kept = covers.kept; reached = inl (at.2 d) })
    | inr held ↦
        let at = flat_held nodes_of shards held.0 (subst (λ (l : List (List ℕ)). Contains l held.0) (joined_nodes shards) held.1) in
        (at.0, at.1, λ d. record { kept = covers.kept; reached = inr (held.0, at.2 d, held.2) })
  ],
  λ some.
      let d : Progress = record { bytes = []; problem = p; found = []; jobs = [] } in
      let covers = some.2 d in
      record {
        kept = covers.kept;
        reached = elim covers.reached [
          | inl seen ↦ inl (Contains-permutation (all_found shards) found calling same (held_flat (λ c. c.found) shards some.0 d calling some.1 seen))
          | inr held ↦ inr (held.0, subst (λ (l : List (List ℕ)). Contains l held.0) (sym (joined_nodes shards)) (held_flat nodes_of shards some.0 d held.0 some.1 held.1), held.2)
        ];
      },
)

-- all found touches have steps of the problem
pub found_steps : (p : ProblemParts) (shards : List Progress) → CanMeet p shards → (found : List (List ℕ)) → found ≡ all_found shards → All (HasSteps p) found
found_steps p shards can found is = subst (All (HasSteps p)) (sym is) (all_from_held (HasSteps p) (all_found shards) (λ touch held.
    let d : Progress = record { bytes = []; problem = p; found = []; jobs = [] } in
    let at = flat_held (λ c. c.found) shards touch held in
    (held_all (Kept p) (get_or shards at.0 d).found (can at.0 d at.1).kept touch (at.2 d)).wanted.steps))

-- a search can go on from the sorted touches and the jobs of all
pub goes_on_sorted : (p : ProblemParts) (shards : List Progress) → CanMeet p shards → NoneOverlap p shards
    → (found : List (List ℕ)) (jobs : List (List (List ℕ))) → IsPermutation (all_found shards) found → IsSorted (book_order p) found → jobs ≡ all_jobs shards
    → CanGoOn p found jobs
goes_on_sorted p shards can apart found jobs same up is =
    subst (CanGoOn p found) (sym is) (goes_on_in_order p shards can apart found same (joined_rises p shards can apart found same up))

-- the text of these is that of the joined shards
pub is_joined_of : (p : ProblemParts) (bytes : List ℕ) (shards : List Progress) → CanMeet p shards → NoneOverlap p shards → AreOfOne bytes p shards
    → (found : List (List ℕ)) (jobs : List (List (List ℕ))) → IsPermutation (all_found shards) found → IsSorted (book_order p) found → jobs ≡ all_jobs shards
    → (text : List ℕ) → text ≡ checkpoint_text p bytes found jobs → IsJoinedOf shards bytes p text
is_joined_of p bytes shards can apart of_one found jobs same up is text written = record {
  of_one = of_one;
  found = found;
  same = same;
  ascending = joined_rises p shards can apart found same up;
  is = written ∙ ap (checkpoint_text p bytes found) is;
}

-- the body of a shard that was read
pub read_at : (bodies : List (List ℕ)) (shards : List Progress) (k : ℕ) (d : Progress) → AreRead bodies shards → k < length shards
    → (body : List ℕ) × IsRead body (get_or shards k d)
read_at [] [] k d read inside = absurd (omega (arith, inside))
read_at [] (c ∷ shards) k d read inside = absurd read
read_at (body ∷ bodies) [] k d read inside = absurd read
read_at (body ∷ bodies) (c ∷ shards) zero d read inside = (body, read.0)
read_at (body ∷ bodies) (c ∷ shards) (suc k) d read inside = read_at bodies shards k d read.1 (omega (arith, inside))

pub read_many : (bodies : List (List ℕ)) (shards : List Progress) → AreRead bodies shards → length bodies ≡ length shards
read_many [] [] read = refl
read_many [] (c ∷ shards) read = absurd read
read_many (body ∷ bodies) [] read = absurd read
read_many (body ∷ bodies) (c ∷ shards) read = omega (arith, read_many bodies shards read.1)

-- the problem's file
file_of_first : (bodies : List (List ℕ)) (shards : List Progress) (bytes : List ℕ) (p : ProblemParts) → 0 < length bodies → AreRead bodies shards
    → AreOfOne bytes p shards → ProblemFile bytes p
file_of_first bodies shards bytes p some read of_one =
    let d : Progress = record { bytes = []; problem = p; found = []; jobs = [] } in
    let inside : 0 < length shards = omega (arith, some, read_many bodies shards read) in
    let (body, file) = read_at bodies shards 0 d read inside in
    subst₂' (of_one 0 d inside).0 (of_one 0 d inside).1 file.problem
  where
    subst₂' : {one other : List ℕ} {q r : ProblemParts} → one ≡ other → q ≡ r → ProblemFile one q → ProblemFile other r
    subst₂' {one} {other} {q} {r} same problem file = subst (ProblemFile other) problem (subst (λ (b : List ℕ). ProblemFile b q) same file)

-- shards that are read can meet
pub read_can_meet : (bytes : List ℕ) (p : ProblemParts) (bodies : List (List ℕ)) (shards : List Progress) → AreRead bodies shards → AreOfOne bytes p shards → CanMeet p shards
read_can_meet bytes p bodies shards read of_one = λ k d inside.
    let (body, file) = read_at bodies shards k d read inside in
    subst (λ (q : ProblemParts). CanGoOn q (get_or shards k d).found (get_or shards k d).jobs) (of_one k d inside).1 file.goes_on

-- the joined text is a checkpoint, and it covers what some shard covers
pub joined_covers : (bodies : List (List ℕ)) (shards : List Progress) (bytes : List ℕ) (p : ProblemParts) (text : List ℕ) → 0 < length bodies
    → AreRead bodies shards → NoneOverlap p shards → (joined : IsJoinedOf shards bytes p text)
    → CheckFile text bytes p joined.found (all_jobs shards)
joined_covers bodies shards bytes p text some read apart joined =
    let can = read_can_meet bytes p bodies shards read joined.of_one in
    record {
      problem = file_of_first bodies shards bytes p some read joined.of_one;
      is = inl joined.is;
      goes_on = goes_on_in_order p shards can apart joined.found joined.same joined.ascending;
    }

-- a book's touches, and nothing left, cover what the book is of
pub book_goes_on : (p : ProblemParts) (found nodes book : List (List ℕ)) → IsBook p found nodes book → CanGoOn p book []
book_goes_on p found nodes book is = record {
  kept = all_from_held (Kept p) book (λ calling held. ((is.covered calling).0 held).kept);
  ascending = is.ascending;
  filled = All-nil (λ job. 0 < length job);
  valid = All-nil (IsValid p);
  independent = record {
    nodes_apart = λ i j inside within other. absurd (omega (arith, inside));
    found_apart = λ i j inside within. absurd (omega (arith, inside));
  };
}

pub book_covers : (p : ProblemParts) (found nodes book : List (List ℕ)) → IsBook p found nodes book → (calling : List ℕ)
    → Covers p book [] calling ↔ Covers p found nodes calling
book_covers p found nodes book is calling = (
  λ covers. elim covers.reached [ inl held ↦ (is.covered calling).0 held | inr held ↦ absurd (none_held held.0 held.1) ],
  λ covers. record { kept = covers.kept; reached = inl ((is.covered calling).1 covers) },
)
