-- Bytes are a checkpoint, or have a first fault.
use Rattle.std.proofs.Common.{◌≡◌, ℕ, zero, suc, ◌+◌, ◌<◌, ◌⊎◌, ◌↔◌, Bool, true, false, List, [], ◌∷◌, ◌++◌, length, map, get_or, take, drop, flat_map, Ordering, inl, inr, refl, sym, ap, ap₂, ◌∙◌, subst, arith, length-append, take-append-drop}
use Rattle.std.specs.declared.cmp.Ordering.TheVariants.{Less}
use Rattle.std.proofs.lemmas.Bool.{cases_Bool, cases_lt, false≢true, true≢false}
use Rattle.std.proofs.lemmas.List.{length-take, length-drop}
use Rattle.cr_model.specs.declared.file_fault.ProblemFault.{ProblemFault}
use Rattle.cr_model.specs.Problems.{ProblemParts}
use Rattle.cr_model.specs.Callings.{HasSteps, length_of}
use Rattle.cr_model.specs.Queries.{part_cap}
use Rattle.cr_model.specs.Touches.{Kept}
use Rattle.cr_model.specs.Nodes.{Independent}
use Rattle.cr_model.specs.Decided.{is_kept}
use Rattle.cr_model.specs.Books.{book_order}
use Rattle.cr_model.specs.Checks.{IsFirstWrong, AllHold, IsFirstFailure}
use Rattle.cr_model.specs.Checkpoints.{CheckFile}
use Rattle.cr_model.specs.ProblemFiles.{ProblemFile, FirstProblemFault}
use Rattle.cr_model.specs.Sound.{IsSound}
use Rattle.cr_node.specs.Overlaps.{Item, items, item_at, overlaps, ApartBelow, IsFirstOverlap}
use Rattle.cr_store.specs.declared.fault.CheckFault.{CheckFault}
use Rattle.cr_store.specs.declared.fault.CheckFault.TheVariants as fault
use Rattle.cr_store.specs.Shapes.{FoundParts, NodeParts, ShapeParts, HasShape}
use Rattle.cr_store.specs.ShapeFaults.{IsFormFault}
use Rattle.cr_store.specs.Lines.{outline_of, node_lines_of, line_of, IsTouchOf, IsNodeOf}
use Rattle.cr_store.specs.Reading.{ReadsTouches, ReadsNodes}
use Rattle.cr_store.specs.Faults.{IsShortNode, IsKeptAt, Follows, HasProblem, HasLines, item_checks, FirstCheckFault}
use Rattle.cr_store.specs.Progress.{Progress, AreJobs}
use Rattle.cr_store.proofs.StepTexts.{OneCalling}
use Rattle.cr_store.proofs.LineReads.{as_many}
use Rattle.cr_store.proofs.ReadUpTo.{touch_unread, touches_read, node_unread, all_read}
use Rattle.cr_store.proofs.Accepting.{accepted}
use Rattle.cr_store.proofs.FaultKinds.{of_problem, of_line, of_items}
use Rattle.cr_store.proofs.DecidingLines.{Decided, Told, low_or_not, touch_or_none, node_or_none}

-- all below a number are right, or one is the first that is wrong
first_or_none : (P : ℕ → Type 0) (number : ℕ) → ((i : ℕ) → i < number → Decided (P i)) → ((i : ℕ) → i < number → P i) ⊎ ((i : ℕ) × IsFirstWrong P number i)
first_or_none P zero each = inl (λ i low. absurd (omega arith))
first_or_none P (suc number) each = by (first_or_none P number (λ i low. each i (omega arith))) (each number (omega arith))
  where
    by : ((i : ℕ) → i < number → P i) ⊎ ((i : ℕ) × IsFirstWrong P number i) → Decided (P number) → ((i : ℕ) → i < suc number → P i) ⊎ ((i : ℕ) × IsFirstWrong P (suc number) i)
    by (inr first) here = inr (first.0, record { within = omega (arith, first.1.within); before = first.1.before; wrong = first.1.wrong })
    by (inl all) (inr wrong) = inr (number, record { within = omega arith; before = all; wrong = wrong })
    by (inl all) (inl here) = inl (λ i low. elim (cases_lt i number) [
      | inl less ↦ all i less
      | inr more ↦ let last : number ≡ i = omega arith in subst P last here
    ])

false_or_not : (b : Bool) → Decided (b ≡ false)
false_or_not true = inr (λ e. true≢false e)
false_or_not false = inl refl

less_or_not : (o : Ordering) → Decided (o ≡ Less)
less_or_not Ordering.Less = inl refl
less_or_not Ordering.Equal = inr (λ e. absurd (cc))
less_or_not Ordering.Greater = inr (λ e. absurd (cc))

-- items are apart, or not
apart_or_not : (all : List Item) → Decided (ApartBelow all (length all))
apart_or_not all = by (first_or_none (λ j. (i : ℕ) → i < j → overlaps (item_at all i) (item_at all j) ≡ false) (length all) (λ j inside. with j (first_or_none (λ i. overlaps (item_at all i) (item_at all j) ≡ false) j (λ i low. false_or_not (overlaps (item_at all i) (item_at all j))))))
  where
    with : (j : ℕ) → ((i : ℕ) → i < j → overlaps (item_at all i) (item_at all j) ≡ false) ⊎ ((i : ℕ) × IsFirstWrong (λ i. overlaps (item_at all i) (item_at all j) ≡ false) j i)
        → Decided ((i : ℕ) → i < j → overlaps (item_at all i) (item_at all j) ≡ false)
    with j (inl none) = inl none
    with j (inr some) = inr (λ none. some.1.wrong (none some.0 some.1.within))

    by : ((j : ℕ) → j < length all → (i : ℕ) → i < j → overlaps (item_at all i) (item_at all j) ≡ false)
        ⊎ ((j : ℕ) × IsFirstWrong (λ j. (i : ℕ) → i < j → overlaps (item_at all i) (item_at all j) ≡ false) (length all) j) → Decided (ApartBelow all (length all))
    by (inl none) = inl (λ i j before inside. none j inside i before)
    by (inr some) = inr (λ apart. some.1.wrong (λ i low. apart i some.0 low some.1.within))

-- nodes as jobs, each of as many as it has lines
cut : (lines : List (List NodeParts)) (nodes : List (List ℕ)) → length nodes ≡ length (flat_map (λ job. job) lines) → (jobs : List (List (List ℕ))) × AreJobs (map length lines) nodes jobs
cut [] [] long = ([], record { nodes_are = refl; lengths_are = refl })
cut [] (node ∷ nodes) long = absurd (omega arith)
cut (line ∷ lines) nodes long =
    let whole = length-append line (flat_map (λ job. job) lines) in
    let (jobs, are) = cut lines (drop (length line) nodes) (omega (arith, long, whole, length-drop (length line) nodes)) in (
      take (length line) nodes ∷ jobs,
      record {
        nodes_are = ap (λ l. take (length line) nodes ++ l) are.nodes_are ∙ take-append-drop (length line) nodes;
        lengths_are = ap₂ ◌∷◌ (omega (arith, long, whole, length-take (length line) nodes)) are.lengths_are;
      },
    )

-- the laws that this rests on
pub record Laws : Type 0 where
  pub shape_or_fault : (text : List ℕ) → ((s : ShapeParts) × HasShape text s) ⊎ ((line : ℕ) × IsFormFault text line)
  pub file_or_fault : (bytes : List ℕ) → ((p : ProblemParts) × ProblemFile bytes p) ⊎ ((why : ProblemFault) × FirstProblemFault bytes why)
  pub one_calling : (p : ProblemParts) → IsSound p → OneCalling p
  pub kept_test : (p : ProblemParts) (calling : List ℕ) → (is_kept p calling ≡ true) ↔ Kept p calling
  pub apart : (p : ProblemParts) (found nodes : List (List ℕ)) → Independent p found nodes ↔ ApartBelow (items p found nodes) (length (items p found nodes))
  pub first_overlap : (p : ProblemParts) (found nodes : List (List ℕ)) → (Independent p found nodes → ⊥) → (i j : ℕ) × IsFirstOverlap (items p found nodes) i j

module _ (laws : Laws) (p : ProblemParts) (sound : IsSound p) where
  one : OneCalling p
  one = laws.one_calling p sound

  -- touches are read from all lines, or up to one
  read_touches : (lines : List FoundParts) → (found : List (List ℕ)) × (whole : Bool) × ReadsTouches p lines found whole
  read_touches [] = ([], true, record { are = tt; ends = λ _. refl; stops = λ e. absurd (true≢false e) })
  read_touches (line ∷ lines) = by (touch_or_none p sound one line) (read_touches lines)
    where
      by : Told (IsTouchOf p line) → (found : List (List ℕ)) × (whole : Bool) × ReadsTouches p lines found whole
          → (found : List (List ℕ)) × (whole : Bool) × ReadsTouches p (line ∷ lines) found whole
      by (inr none) later = ([], false, record { are = tt; ends = λ e. absurd (false≢true e); stops = λ _. record { within = omega arith; none = none } })
      by (inl some) later = (
        some.0 ∷ later.0,
        later.1,
        record {
          are = (some.1, later.2.are);
          ends = λ e. omega (arith, later.2.ends e);
          stops = λ e. let stop = later.2.stops e in record { within = omega (arith, stop.within); none = stop.none };
        },
      )

  -- nodes are read from all lines, or up to one
  read_nodes : (version : ℕ) (before : List ℕ) (lines : List NodeParts) → HasSteps p before → (nodes : List (List ℕ)) × (whole : Bool) × ReadsNodes p version before lines nodes whole
  read_nodes version before [] known = ([], true, record { are = refl; ends = λ _. refl; stops = λ e. absurd (true≢false e) })
  read_nodes version before (line ∷ lines) known = by (node_or_none p sound one version before line known) (λ node steps. read_nodes version node lines steps)
    where
      by : Told (IsNodeOf p version before line) → ((node : List ℕ) → HasSteps p node → (nodes : List (List ℕ)) × (whole : Bool) × ReadsNodes p version node lines nodes whole)
          → (nodes : List (List ℕ)) × (whole : Bool) × ReadsNodes p version before (line ∷ lines) nodes whole
      by (inr none) later = ([], false, record { are = refl; ends = λ e. absurd (false≢true e); stops = λ _. record { within = omega arith; none = none } })
      by (inl some) later =
          let rest = later some.0 some.1.steps in (
            some.0 ∷ rest.0,
            rest.1,
            record {
              are = (some.1, rest.2.are);
              ends = λ e. omega (arith, rest.2.ends e);
              stops = λ e. let stop = rest.2.stops e in record { within = omega (arith, stop.within); none = stop.none };
            },
          )

  -- touches that follow
  follow_or_not : (found : List (List ℕ)) (i : ℕ) → Decided (Follows p found i)
  follow_or_not found zero = inl (λ before next. absurd (omega arith))
  follow_or_not found (suc i) = elim (less_or_not (book_order p (get_or found i []) (get_or found (suc i) []))) [
    | inl less ↦ inl (λ before next. let same : i ≡ before = omega arith in subst (λ k. book_order p (get_or found k []) (get_or found (suc i) []) ≡ Less) same less)
    | inr other ↦ inr (λ follows. other (follows i (omega arith)))
  ]

  kept_or_not : (calling : List ℕ) → Decided (Kept p calling)
  kept_or_not calling = elim (cases_Bool (is_kept p calling)) [
    | inl is ↦ inl ((laws.kept_test p calling).0 is)
    | inr other ↦ inr (λ kept. false≢true (sym other ∙ (laws.kept_test p calling).1 kept))
  ]

  -- all checks hold, or one is the first that does not
  check_items : (shape : ShapeParts) (found nodes : List (List ℕ)) → AllHold (item_checks p (outline_of shape) found nodes) ⊎ ((why : CheckFault) × IsFirstFailure (item_checks p (outline_of shape) found nodes) why)
  check_items shape found nodes = by_length
      (first_or_none (IsShortNode p nodes) (length nodes) (λ i inside. low_or_not (length_of p (get_or nodes i [])) (part_cap p)))
      (first_or_none (IsKeptAt p found) (length found) (λ i inside. kept_or_not (get_or found i [])))
      (first_or_none (Follows p found) (length found) (λ i inside. follow_or_not found i))
      (apart_or_not (items p found nodes))
    where
      Shape : Type 0
      Shape = AllHold (item_checks p (outline_of shape) found nodes) ⊎ ((why : CheckFault) × IsFirstFailure (item_checks p (outline_of shape) found nodes) why)

      by_length : ((i : ℕ) → i < length nodes → IsShortNode p nodes i) ⊎ ((i : ℕ) × IsFirstWrong (IsShortNode p nodes) (length nodes) i)
          → ((i : ℕ) → i < length found → IsKeptAt p found i) ⊎ ((i : ℕ) × IsFirstWrong (IsKeptAt p found) (length found) i)
          → ((i : ℕ) → i < length found → Follows p found i) ⊎ ((i : ℕ) × IsFirstWrong (Follows p found) (length found) i)
          → Decided (ApartBelow (items p found nodes) (length (items p found nodes)))
          → AllHold (item_checks p (outline_of shape) found nodes) ⊎ ((why : CheckFault) × IsFirstFailure (item_checks p (outline_of shape) found nodes) why)
      by_length (inr long) kept follow apart = inr (fault.NodeLong (line_of shape (length found + long.0)), inl (long.0, refl, long.1))
      by_length (inl short) (inr unkept) follow apart = inr (fault.NotKept (line_of shape unkept.0), inr (short, inl (unkept.0, refl, unkept.1)))
      by_length (inl short) (inl kept) (inr behind) apart = inr (fault.FoundOrder (line_of shape behind.0), inr (short, inr (kept, inl (behind.0, refl, behind.1))))
      by_length (inl short) (inl kept) (inl follow) (inr meet) =
          let pair = laws.first_overlap p found nodes (λ holds. meet ((laws.apart p found nodes).0 holds)) in
          inr (fault.Overlap (line_of shape pair.0) (line_of shape pair.1), inr (short, inr (kept, inr (follow, inl (pair.0, pair.1, refl, pair.2)))))
      by_length (inl short) (inl kept) (inl follow) (inl apart) = inl (short, (kept, (follow, ((laws.apart p found nodes).1 apart, tt))))

-- a checkpoint, or a first fault
abbrev pub Answered : List ℕ → Type 0
Answered bytes = ((c : Progress) × CheckFile bytes c.bytes c.problem c.found c.jobs) ⊎ ((why : CheckFault) × FirstCheckFault bytes why)

module _ (laws : Laws) (bytes : List ℕ) where
  with_items : (shape : ShapeParts) (p : ProblemParts) (found nodes : List (List ℕ)) → HasLines bytes shape p found nodes
      → AllHold (item_checks p (outline_of shape) found nodes) ⊎ ((why : CheckFault) × IsFirstFailure (item_checks p (outline_of shape) found nodes) why) → Answered bytes
  with_items shape p found nodes lines (inr wrong) = inr (wrong.0, of_items bytes shape p found nodes wrong.0 lines wrong.1)
  with_items shape p found nodes lines (inl hold) =
      let (jobs, are) = cut shape.jobs nodes (sym (as_many p shape.version [] (node_lines_of shape) nodes lines.items.nodes_are)) in
      inl (
        record { bytes = shape.problem; problem = p; found = found; jobs = jobs },
        accepted p shape found nodes lines.items hold bytes jobs lines.problem.shape_is lines.problem.problem are,
      )

  with_nodes : (shape : ShapeParts) (p : ProblemParts) (found nodes : List (List ℕ)) (whole : Bool) → HasProblem bytes shape p → ReadsTouches p shape.found found true
      → ReadsNodes p shape.version [] (node_lines_of shape) nodes whole → Answered bytes
  with_nodes shape p found nodes true problem touches reads =
      let has = all_read p shape found nodes (touches_read p shape.found found touches) reads in
      with_items shape p found nodes (record { problem = problem; items = has }) (check_items laws p problem.problem.sound shape found nodes)
  with_nodes shape p found nodes false problem touches reads =
      let sound = problem.problem.sound in
      let unread = node_unread p sound (laws.one_calling p sound) shape found nodes (touches.ends refl) (touches_read p shape.found found touches) reads in
      let line = line_of shape (length found + length nodes) in
      inr (fault.Calling line, of_line bytes shape p (fault.Calling line) problem (line, refl, record { item = length found + length nodes; wrong = unread; line_is = refl }))

  with_touches : (shape : ShapeParts) (p : ProblemParts) (found : List (List ℕ)) (whole : Bool) → HasProblem bytes shape p → ReadsTouches p shape.found found whole → Answered bytes
  with_touches shape p found false problem reads =
      let line = line_of shape (length found) in
      inr (fault.Calling line, of_line bytes shape p (fault.Calling line) problem (line, refl, record { item = length found; wrong = touch_unread p shape found reads; line_is = refl }))
  with_touches shape p found true problem reads =
      let next = read_nodes laws p problem.problem.sound shape.version [] (node_lines_of shape) (λ k d inside. absurd (omega arith)) in
      with_nodes shape p found next.0 next.1 problem reads next.2

  with_problem : (shape : ShapeParts) (p : ProblemParts) → HasProblem bytes shape p → Answered bytes
  with_problem shape p problem =
      let first = read_touches laws p problem.problem.sound shape.found in
      with_touches shape p first.0 first.1 problem first.2

  pub answered : Answered bytes
  answered = by (laws.shape_or_fault bytes)
    where
      with_shape : (shape : ShapeParts) → HasShape bytes shape → ((p : ProblemParts) × ProblemFile shape.problem p) ⊎ ((why : ProblemFault) × FirstProblemFault shape.problem why) → Answered bytes
      with_shape shape shape_is (inl file) = with_problem shape file.0 (record { shape_is = shape_is; problem = file.1 })
      with_shape shape shape_is (inr wrong) = inr (fault.Problem wrong.0, of_problem bytes shape (fault.Problem wrong.0) shape_is (wrong.0, refl, wrong.1))

      by : ((s : ShapeParts) × HasShape bytes s) ⊎ ((line : ℕ) × IsFormFault bytes line) → Answered bytes
      by (inl some) = with_shape some.0 some.1 (laws.file_or_fault some.0.problem)
      by (inr wrong) = inr (fault.Form wrong.0, wrong.1)
