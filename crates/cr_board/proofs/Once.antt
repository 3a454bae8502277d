-- Each kept touch stands once: in what was found, or below one node.
use Rattle.std.proofs.Common.{◌≡◌, ◌≢◌, ℕ, ◌+◌, ◌<◌, ◌≤◌, List, [], ◌∷◌, ◌++◌, length, get_or, map, All, Less, Greater, inl, inr, refl, sym, ap, ◌∙◌, subst, bytes_eq, arith}
use Rattle.std.specs.Cmp.{IsTotalOrder}
use Rattle.std.specs.Ordering.{ordering_reverse}
use Rattle.std.specs.List.Sorted.{IsStrictlySortedBy}
use Rattle.std.proofs.lemmas.Bool.{cases_lt}
use Rattle.std.proofs.lemmas.Cmp.{nat_cmp_total, nat_list_cmp_total, on_total, then_total}
use Rattle.std.proofs.lemmas.List.{append_assoc, append-nil, get_or_default}
use Rattle.std.proofs.lemmas.List.Elements.{All-map}
use Rattle.std.proofs.lemmas.List.Sums.{sum_by-cons}
use Rattle.std.proofs.lemmas.Map.Keys.{Less-from_sorted}
use Rattle.std.proofs.lemmas.Slice.Eq.{bytes_eq-Decides}
use Rattle.cr_model.specs.Problems.{ProblemParts}
use Rattle.cr_model.specs.Callings.{length_of}
use Rattle.cr_model.specs.Touches.{Kept}
use Rattle.cr_model.specs.Nodes.{part_of, nodes_above, times_found, Independent, Covers}
use Rattle.cr_model.specs.Books.{book_order}
use Rattle.cr_model.specs.Checkpoints.{CanGoOn, nodes_of_jobs}
use Rattle.cr_model.proofs.Counting.{few_count, passing}
use Rattle.cr_model.proofs.Independence.{one_begins_each, none_above_found}
use Rattle.cr_board.specs.Jobs.{JobParts, OpeningParts, opening_nodes}
use Rattle.cr_board.specs.Boards.{BoardParts, jobs_of, board_jobs, nodes_in, nodes_of}
use Rattle.cr_board.specs.Partitions.{IsPartition, EachOnce, IsKept}
use Rattle.cr_board.specs.Chains.{IsOpenedWith, FollowOn, found_by, spent_by, left_by}
use Rattle.cr_board.proofs.Covering.{AreCounted, covers_same}
use Rattle.cr_board.proofs.Parting.{begun, onward}

order_total : (p : ProblemParts) → IsTotalOrder (book_order p)
order_total p = then_total (on_total (length_of p) nat_cmp_total) nat_list_cmp_total

-- touches in strict order differ
differ_in_order : (p : ProblemParts) (found : List (List ℕ)) → IsStrictlySortedBy (book_order p) found → (i j : ℕ) → i < j → j < length found
    → get_or found i [] ≢ get_or found j []
differ_in_order p found ascending i j before inside same =
    let less : book_order p (get_or found i []) (get_or found j []) ≡ Less = Less-from_sorted (book_order p) found i j [] ascending before inside in
    let itself : book_order p (get_or found j []) (get_or found j []) ≡ Less = subst (λ c. book_order p c (get_or found j []) ≡ Less) same less in
    let turned : Less ≡ Greater = sym itself ∙ (order_total p).antisymm (get_or found j []) (get_or found j []) ∙ ap ordering_reverse itself in
    absurd (cc)

module _ (p : ProblemParts) (found nodes : List (List ℕ)) (ascending : IsStrictlySortedBy (book_order p) found) (apart : Independent p found nodes) (calling : List ℕ) where
  found_few : times_found found calling ≤ 1
  found_few = few_count (bytes_eq calling) found [] (λ i j before inside one two.
      differ_in_order p found ascending i j before inside
      (sym ((bytes_eq-Decides calling (get_or found i [])).0 one) ∙ (bytes_eq-Decides calling (get_or found j [])).0 two))

  above_few : nodes_above p nodes calling ≤ 1
  above_few = one_begins_each p found nodes apart (part_of p calling)

  -- a touch that was found has no node above it
  not_both : 1 ≤ times_found found calling → nodes_above p nodes calling ≡ 0
  not_both some =
      let (touch, (j, inside, at), same) = passing (bytes_eq calling) found some in
      let is : get_or found j [] ≡ calling = get_or_default found j [] touch inside ∙ at ∙ sym ((bytes_eq-Decides calling touch).0 same) in
      sym (ap (nodes_above p nodes) is) ∙ none_above_found p found nodes apart j inside

  pub at_most_once : times_found found calling + nodes_above p nodes calling ≤ 1
  at_most_once = elim (cases_lt 0 (times_found found calling)) [
    | inl some ↦ omega (arith, found_few, not_both (omega arith))
    | inr none ↦ omega (arith, above_few)
  ]

-- a partition of touches in strict order and nodes apart from them has each touch once
pub parts_once : AreCounted → (p : ProblemParts) (found nodes now left : List (List ℕ)) (spent : ℕ) → IsStrictlySortedBy (book_order p) found
    → Independent p found nodes → IsPartition p found nodes now left spent → EachOnce p found nodes now left
parts_once counted p found nodes now left spent ascending apart part = record { covered = covered; uncovered = uncovered; unfound = unfound }
  where
    covered : (calling : List ℕ) → Covers p found nodes calling → times_found now calling + nodes_above p left calling ≡ 1
    covered calling covers =
        let (kept, some) = (counted p found nodes calling).0 covers in
        omega (arith, some, part.each calling kept, at_most_once p found nodes ascending apart calling)

    uncovered : (calling : List ℕ) → Kept p calling → (Covers p found nodes calling → ⊥) → times_found now calling + nodes_above p left calling ≡ 0
    uncovered calling kept not = elim (cases_lt 0 (times_found found calling + nodes_above p nodes calling)) [
      | inl some ↦ absurd (not ((counted p found nodes calling).1 (kept, omega arith)))
      | inr none ↦ omega (arith, part.each calling kept)
    ]

    unfound : (calling : List ℕ) → (Covers p found nodes calling → ⊥) → times_found now calling ≡ 0
    unfound calling not = elim (cases_lt 0 (times_found now calling)) [
      | inl some ↦
          let (touch, (j, inside, at), same) = passing (bytes_eq calling) now (omega arith) in
          let kept : Kept p calling = subst (Kept p) (at ∙ sym ((bytes_eq-Decides calling touch).0 same)) (part.kept j touch inside) in
          let covers : Covers p now left calling = (counted p now left calling).1 (kept, omega arith) in
          absurd (not ((covers_same counted p found nodes now left spent part calling).0 covers))
      | inr none ↦ omega arith
    ]

-- and so has a board
pub board_once : AreCounted → (b : BoardParts) → IsKept b → EachOnce b.opening.problem b.opening.found (opening_nodes b.opening) b.found (nodes_of b)
board_once counted b kept = parts_once counted b.opening.problem b.opening.found (opening_nodes b.opening) b.found (nodes_of b) b.spent
    kept.opening.ascending kept.opening.independent kept.partition.nodes

-- which was opened from this
pub board_from_once : AreCounted → (o : OpeningParts) (b : BoardParts) → b.opening ≡ o → IsKept b
    → EachOnce o.problem o.found (opening_nodes o) b.found (nodes_of b)
board_from_once counted o b same kept = subst (λ o. EachOnce o.problem o.found (opening_nodes o) b.found (nodes_of b)) same (board_once counted b kept)

-- the nodes of jobs
nodes_are : (jobs : List JobParts) → nodes_of_jobs (map (λ job. job.nodes) jobs) ≡ nodes_in jobs
nodes_are [] = refl
nodes_are (job ∷ jobs) = ap (λ l. job.nodes ++ l) (nodes_are jobs)

-- a board that was opened with jobs alone has a partition of them
module _ (p : ProblemParts) (jobs : List (List (List ℕ))) (b : BoardParts) (goes : IsOpenedWith p jobs b) where
  of_jobs : IsPartition p [] (nodes_of_jobs jobs) b.found (nodes_of_jobs (board_jobs b)) b.spent
  of_jobs =
      let one = goes.kept.partition.nodes in
      let two = subst (λ q. IsPartition q b.opening.found (opening_nodes b.opening) b.found (nodes_of b) b.spent) goes.problem_is one in
      let three = subst (λ f. IsPartition p f (opening_nodes b.opening) b.found (nodes_of b) b.spent) goes.found_is two in
      let four = subst (λ j. IsPartition p [] (nodes_of_jobs j) b.found (nodes_of b) b.spent) goes.jobs_are three in
      subst (λ left. IsPartition p [] (nodes_of_jobs jobs) b.found left b.spent) (sym (nodes_are (jobs_of b))) four

-- boards one after another go on with a partition
chained : (p : ProblemParts) (found nodes now : List (List ℕ)) (jobs : List (List (List ℕ))) (spent : ℕ) (boards : List BoardParts)
    → IsPartition p found nodes now (nodes_of_jobs jobs) spent → FollowOn p jobs boards
    → IsPartition p found nodes (now ++ found_by boards) (nodes_of_jobs (left_by jobs boards)) (spent + spent_by boards)
chained p found nodes now jobs spent [] part on =
    let same : spent ≡ spent + 0 = omega arith in
    subst (λ l. IsPartition p found nodes l (nodes_of_jobs jobs) (spent + 0)) (sym (append-nil now)) (subst (IsPartition p found nodes now (nodes_of_jobs jobs)) same part)
chained p found nodes now jobs spent (b ∷ boards) part (goes, on) =
    let next = onward p found nodes now (nodes_of_jobs jobs) b.found (nodes_of_jobs (board_jobs b)) spent b.spent part (of_jobs p jobs b goes) in
    let all = chained p found nodes (now ++ b.found) (board_jobs b) (spent + b.spent) boards next on in
    let turns : spent + b.spent + spent_by boards ≡ spent + spent_by (b ∷ boards) = omega (arith, sum_by-cons (λ one. one.spent) b boards) in
    subst (λ l. IsPartition p found nodes l (nodes_of_jobs (left_by (board_jobs b) boards)) (spent + spent_by (b ∷ boards))) (append_assoc now b.found (found_by boards))
    (subst (IsPartition p found nodes ((now ++ b.found) ++ found_by boards) (nodes_of_jobs (left_by (board_jobs b) boards))) turns all)

pub boards_part : (p : ProblemParts) (found : List (List ℕ)) (jobs : List (List (List ℕ))) (boards : List BoardParts) → CanGoOn p found jobs → FollowOn p jobs boards
    → IsPartition p found (nodes_of_jobs jobs) (found ++ found_by boards) (nodes_of_jobs (left_by jobs boards)) (spent_by boards)
boards_part p found jobs boards can on =
    let all = chained p found (nodes_of_jobs jobs) found jobs 0 boards (begun p found (nodes_of_jobs jobs) can.kept can.valid can.independent) on in
    let turns : 0 + spent_by boards ≡ spent_by boards = omega arith in
    subst (IsPartition p found (nodes_of_jobs jobs) (found ++ found_by boards) (nodes_of_jobs (left_by jobs boards))) turns all

-- and leave no job empty
pub boards_filled : (p : ProblemParts) (jobs : List (List (List ℕ))) (boards : List BoardParts) → All (λ job. 0 < length job) jobs → FollowOn p jobs boards
    → All (λ job. 0 < length job) (left_by jobs boards)
boards_filled p jobs [] filled on = filled
boards_filled p jobs (b ∷ boards) filled (goes, on) =
    boards_filled p (board_jobs b) boards (All-map (λ job. 0 < length job) (λ job. job.nodes) (jobs_of b) goes.kept.partition.filled) on

-- and have each touch once
pub boards_once : AreCounted → (p : ProblemParts) (found : List (List ℕ)) (jobs : List (List (List ℕ))) (boards : List BoardParts) → CanGoOn p found jobs → FollowOn p jobs boards
    → EachOnce p found (nodes_of_jobs jobs) (found ++ found_by boards) (nodes_of_jobs (left_by jobs boards))
boards_once counted p found jobs boards can on =
    parts_once counted p found (nodes_of_jobs jobs) (found ++ found_by boards) (nodes_of_jobs (left_by jobs boards)) (spent_by boards)
    can.ascending can.independent (boards_part p found jobs boards can on)
