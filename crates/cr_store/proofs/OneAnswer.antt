-- Bytes are one checkpoint at most, have one first fault at most, and never both.
use Rattle.std.proofs.Common.{◌≡◌, ℕ, ◌+◌, ◌^◌, ◌<◌, ◌⊎◌, ◌↔◌, List, [], ◌∷◌, length, map, take, drop, inl, inr, refl, sym, ap, ap₂, ◌∙◌, subst}
use Rattle.std.proofs.lemmas.List.{take_at, drop_at}
use Rattle.cr_model.specs.declared.file_fault.ProblemFault.{ProblemFault}
use Rattle.cr_model.specs.Problems.{ProblemParts}
use Rattle.cr_model.specs.Nodes.{Independent}
use Rattle.cr_model.specs.Checks.{AllHold, IsFirstFailure}
use Rattle.cr_model.specs.Checkpoints.{CheckFile, nodes_of_jobs}
use Rattle.cr_model.specs.ProblemFiles.{ProblemFile, FirstProblemFault}
use Rattle.cr_model.specs.Sound.{IsSound}
use Rattle.cr_node.specs.Overlaps.{Item, items, ApartBelow, IsFirstOverlap}
use Rattle.cr_store.specs.declared.fault.CheckFault.{CheckFault}
use Rattle.cr_store.specs.declared.fault.CheckFault.TheVariants as fault
use Rattle.cr_store.specs.Shapes.{ShapeParts, HasShape}
use Rattle.cr_store.specs.ShapeFaults.{IsFormFault}
use Rattle.cr_store.specs.Lines.{outline_of, node_lines_of, line_of, HasItems, CanBeRead}
use Rattle.cr_store.specs.Faults.{IsShortNode, IsKeptAt, Follows, overlap_check, item_checks, IsProblemFaultOf, IsUnread, FirstCheckFault}
use Rattle.cr_store.specs.Progress.{Progress}
use Rattle.cr_store.proofs.StepTexts.{OneCalling}
use Rattle.cr_store.proofs.ReadUpTo.{one_items, each_can_be_read}
use Rattle.cr_model.proofs.FirstFailure.{IsExact, AreExact, one_first, exact_each_index, none_fails, one_failure}
use Rattle.cr_store.proofs.Printed.{IsPrinted, printed_as}

-- the laws that this rests on
pub record Laws : Type 0 where
  pub one_shape : (text : List ℕ) (s t : ShapeParts) → HasShape text s → HasShape text t → s ≡ t
  pub one_line : (text : List ℕ) (line other : ℕ) → IsFormFault text line → IsFormFault text other → line ≡ other
  pub no_form : (text : List ℕ) (s : ShapeParts) (line : ℕ) → HasShape text s → IsFormFault text line → ⊥
  pub one_problem : (bytes : List ℕ) (one other : ProblemParts) → ProblemFile bytes one → ProblemFile bytes other → one ≡ other
  pub one_wrong : (bytes : List ℕ) (one other : ProblemFault) → FirstProblemFault bytes one → FirstProblemFault bytes other → one ≡ other
  pub no_wrong : (bytes : List ℕ) (p : ProblemParts) (why : ProblemFault) → ProblemFile bytes p → FirstProblemFault bytes why → ⊥
  pub one_calling : (p : ProblemParts) → IsSound p → OneCalling p
  pub apart : (p : ProblemParts) (found nodes : List (List ℕ)) → Independent p found nodes ↔ ApartBelow (items p found nodes) (length (items p found nodes))
  pub one_overlap : (all : List Item) (i j k m : ℕ) → IsFirstOverlap all i j → IsFirstOverlap all k m → (i ≡ k) × (j ≡ m)
  pub no_overlap : (all : List Item) (i j : ℕ) → ApartBelow all (length all) → IsFirstOverlap all i j → ⊥

-- found touches and nodes that are wrong
record ItemsWrong (p : ProblemParts) (shape : ShapeParts) (why : CheckFault) : Type 0 where
  found : List (List ℕ)
  nodes : List (List ℕ)
  has : HasItems p shape found nodes
  wrong : IsFirstFailure (item_checks p (outline_of shape) found nodes) why

-- a problem's lines that are wrong
record LinesWrong (shape : ShapeParts) (why : CheckFault) : Type 0 where
  p : ProblemParts
  problem : ProblemFile shape.problem p
  wrong : IsUnread p shape why ⊎ ItemsWrong p shape why

-- what is wrong with what a shape holds
record HeldWrong (bytes : List ℕ) (why : CheckFault) : Type 0 where
  shape : ShapeParts
  shape_is : HasShape bytes shape
  wrong : IsProblemFaultOf shape.problem why ⊎ LinesWrong shape why

-- a fault of the form
FormWrong : List ℕ → CheckFault → Type 0
FormWrong bytes why = (line : ℕ) × (why ≡ fault.Form line) × IsFormFault bytes line

-- a fault, level by level
by_level : (bytes : List ℕ) (why : CheckFault) → FirstCheckFault bytes why → FormWrong bytes why ⊎ HeldWrong bytes why
unfolding FormWrong
by_level bytes (fault.Form line) first = inl (line, refl, first)
by_level bytes (fault.Problem why) first = inr (record { shape = first.shape; shape_is = first.shape_is; wrong = inl (why, refl, first.wrong) })
by_level bytes (fault.Calling line) first = inr (record {
  shape = first.shape;
  shape_is = first.problem.shape_is;
  wrong = inr (record { p = first.p; problem = first.problem.problem; wrong = inl (line, refl, first.wrong) });
})
by_level bytes why first = inr (record {
  shape = first.shape;
  shape_is = first.lines.problem.shape_is;
  wrong = inr (record { p = first.p; problem = first.lines.problem.problem; wrong = inr (record { found = first.found; nodes = first.nodes; has = first.lines.items; wrong = first.wrong }) });
})

-- jobs of as many nodes that have the same nodes are the same
same_jobs : (jobs others : List (List (List ℕ))) → map length jobs ≡ map length others → nodes_of_jobs jobs ≡ nodes_of_jobs others → jobs ≡ others
same_jobs [] [] long same = refl
same_jobs [] (other ∷ others) long same = absurd (cc)
same_jobs (job ∷ jobs) [] long same = absurd (cc)
same_jobs (job ∷ jobs) (other ∷ others) long same =
    let first : length job ≡ length other = cc in
    let later : map length jobs ≡ map length others = cc in
    ap₂ ◌∷◌ (sym (take_at job (nodes_of_jobs jobs) (length job) refl) ∙ ap₂ take first same ∙ take_at other (nodes_of_jobs others) (length other) refl)
    (same_jobs jobs others later (sym (drop_at job (nodes_of_jobs jobs) (length job) refl) ∙ ap₂ drop first same ∙ drop_at other (nodes_of_jobs others) (length other) refl))

-- where a search stands, from its parts
from_parts : List ℕ → ProblemParts → List (List ℕ) → List (List (List ℕ)) → Progress
from_parts bytes problem found jobs = record { bytes = bytes; problem = problem; found = found; jobs = jobs }

same_parts : (c other : Progress) → c.bytes ≡ other.bytes → c.problem ≡ other.problem → c.found ≡ other.found → c.jobs ≡ other.jobs → c ≡ other
unfolding from_parts
same_parts c other bytes problem found jobs =
    ap₂ (λ b p. from_parts b p c.found c.jobs) bytes problem ∙ ap₂ (λ f j. from_parts other.bytes other.problem f j) found jobs

module _ (laws : Laws) where
  -- each of the checks of found touches and nodes
  exact : (p : ProblemParts) (shape : ShapeParts) (found nodes : List (List ℕ)) → AreExact (item_checks p (outline_of shape) found nodes)
  exact p shape found nodes = (
    exact_each_index (IsShortNode p nodes) (length nodes) (λ i. fault.NodeLong (line_of shape (length found + i))),
    (
      exact_each_index (IsKeptAt p found) (length found) (λ i. fault.NotKept (line_of shape i)),
      (
        exact_each_index (Follows p found) (length found) (λ i. fault.FoundOrder (line_of shape i)),
        (overlaps, tt),
      ),
    ),
  )
    where
      overlaps : IsExact (overlap_check p (outline_of shape) found nodes)
      overlaps = record {
        apart = λ f h holds. laws.no_overlap (items p found nodes) h.0 h.1 ((laws.apart p found nodes).0 holds) h.3;
        single = λ f g a b.
            let (first, second) = laws.one_overlap (items p found nodes) a.0 a.1 b.0 b.1 a.3 b.3 in
            a.2 ∙ ap₂ (λ i j. fault.Overlap (line_of shape i) (line_of shape j)) first second ∙ sym b.2;
      }

  module _ (p : ProblemParts) (sound : IsSound p) (shape : ShapeParts) where
    one_call : OneCalling p
    one_call = laws.one_calling p sound

    items_one : (f g : CheckFault) → ItemsWrong p shape f → ItemsWrong p shape g → f ≡ g
    items_one f g a b =
        let (found, nodes) = one_items p sound one_call shape b.found b.nodes a.found a.nodes b.has a.has in
        one_failure (item_checks p (outline_of shape) a.found a.nodes) (exact p shape a.found a.nodes) f g a.wrong
        (subst (λ ns. IsFirstFailure (item_checks p (outline_of shape) a.found ns) g) nodes (subst (λ fs. IsFirstFailure (item_checks p (outline_of shape) fs b.nodes) g) found b.wrong))

    -- lines that are those of touches and nodes have no first that is not
    all_are_read : (f : CheckFault) (found nodes : List (List ℕ)) → IsUnread p shape f → HasItems p shape found nodes → ⊥
    all_are_read f found nodes a has = a.2.wrong.wrong (each_can_be_read p sound one_call shape found nodes (a.2.item + 1) has)

    lines_one : (f g : CheckFault) → IsUnread p shape f ⊎ ItemsWrong p shape f → IsUnread p shape g ⊎ ItemsWrong p shape g → f ≡ g
    lines_one f g (inl a) (inl b) =
        let item = one_first (λ i. CanBeRead p shape (i + 1)) (length shape.found + length (node_lines_of shape)) a.2.item b.2.item a.2.wrong b.2.wrong in
        a.1 ∙ ap fault.Calling (a.2.line_is ∙ ap (line_of shape) item ∙ sym b.2.line_is) ∙ sym b.1
    lines_one f g (inl a) (inr b) = absurd (all_are_read f b.found b.nodes a b.has)
    lines_one f g (inr a) (inl b) = absurd (all_are_read g a.found a.nodes b a.has)
    lines_one f g (inr a) (inr b) = items_one f g a b

    -- a checkpoint has no such fault
    none_wrong : (c : Progress) (f : CheckFault) (found nodes : List (List ℕ)) → HasItems p shape found nodes → AllHold (item_checks p (outline_of shape) found nodes)
        → IsUnread p shape f ⊎ ItemsWrong p shape f → ⊥
    none_wrong c f found nodes has hold (inl a) = all_are_read f found nodes a has
    none_wrong c f found nodes has hold (inr a) =
        let (founds, rest) = one_items p sound one_call shape a.found a.nodes found nodes a.has has in
        none_fails (item_checks p (outline_of shape) found nodes) (exact p shape found nodes) f hold
        (subst (λ ns. IsFirstFailure (item_checks p (outline_of shape) found ns) f) rest (subst (λ fs. IsFirstFailure (item_checks p (outline_of shape) fs a.nodes) f) founds a.wrong))

  held_one : (shape : ShapeParts) (f g : CheckFault) → IsProblemFaultOf shape.problem f ⊎ LinesWrong shape f → IsProblemFaultOf shape.problem g ⊎ LinesWrong shape g → f ≡ g
  held_one shape f g (inl a) (inl b) = a.1 ∙ ap fault.Problem (laws.one_wrong shape.problem a.0 b.0 a.2 b.2) ∙ sym b.1
  held_one shape f g (inl a) (inr b) = absurd (laws.no_wrong shape.problem b.p a.0 b.problem a.2)
  held_one shape f g (inr a) (inl b) = absurd (laws.no_wrong shape.problem a.p b.0 a.problem b.2)
  held_one shape f g (inr a) (inr b) =
      let same = laws.one_problem shape.problem b.p a.p b.problem a.problem in
      lines_one a.p a.problem.sound shape f g a.wrong (subst (λ p. IsUnread p shape g ⊎ ItemsWrong p shape g) same b.wrong)

  wrong_one : (bytes : List ℕ) (f g : CheckFault) → FormWrong bytes f ⊎ HeldWrong bytes f → FormWrong bytes g ⊎ HeldWrong bytes g → f ≡ g
  unfolding FormWrong
  wrong_one bytes f g (inl a) (inl b) = a.1 ∙ ap fault.Form (laws.one_line bytes a.0 b.0 a.2 b.2) ∙ sym b.1
  wrong_one bytes f g (inl a) (inr b) = absurd (laws.no_form bytes b.shape a.0 b.shape_is a.2)
  wrong_one bytes f g (inr a) (inl b) = absurd (laws.no_form bytes a.shape b.0 a.shape_is b.2)
  wrong_one bytes f g (inr a) (inr b) =
      let same = laws.one_shape bytes b.shape a.shape b.shape_is a.shape_is in
      held_one a.shape f g a.wrong (subst (λ s. IsProblemFaultOf s.problem g ⊎ LinesWrong s g) same b.wrong)

  pub one_fault : (bytes : List ℕ) (f g : CheckFault) → FirstCheckFault bytes f → FirstCheckFault bytes g → f ≡ g
  one_fault bytes f g a b = wrong_one bytes f g (by_level bytes f a) (by_level bytes g b)

  never : (bytes : List ℕ) (c : Progress) (f : CheckFault) → IsPrinted bytes c → ProblemFile c.bytes c.problem → FormWrong bytes f ⊎ HeldWrong bytes f → ⊥
  unfolding FormWrong
  never bytes c f is problem (inl a) = laws.no_form bytes is.shape a.0 is.shape_is a.2
  never bytes c f is problem (inr a) = by (subst (λ s. IsProblemFaultOf s.problem f ⊎ LinesWrong s f) (laws.one_shape bytes a.shape is.shape a.shape_is is.shape_is) a.wrong)
    where
      file : ProblemFile is.shape.problem c.problem
      file = subst (λ b. ProblemFile b c.problem) (sym is.bytes_are) problem

      by : IsProblemFaultOf is.shape.problem f ⊎ LinesWrong is.shape f → ⊥
      by (inl b) = laws.no_wrong is.shape.problem c.problem b.0 file b.2
      by (inr b) =
          let same = laws.one_problem is.shape.problem b.p c.problem b.problem file in
          none_wrong c.problem problem.sound is.shape c f c.found (nodes_of_jobs c.jobs) is.items is.hold (subst (λ p. IsUnread p is.shape f ⊎ ItemsWrong p is.shape f) same b.wrong)

  pub never_both : (bytes : List ℕ) (c : Progress) (f : CheckFault) → length bytes < 2 ^ 63 → CheckFile bytes c.bytes c.problem c.found c.jobs
      → FirstCheckFault bytes f → ⊥
  never_both bytes c f few file first = never bytes c f (printed_as bytes c few file) file.problem (by_level bytes f first)

  printed_one : (bytes : List ℕ) (c other : Progress) → IsPrinted bytes c → IsPrinted bytes other → ProblemFile c.bytes c.problem → ProblemFile other.bytes other.problem → c ≡ other
  printed_one bytes c other is also file problem =
      let shape = laws.one_shape bytes is.shape also.shape is.shape_is also.shape_is in
      let text : c.bytes ≡ other.bytes = sym is.bytes_are ∙ ap (λ s. s.problem) shape ∙ also.bytes_are in
      let same : c.problem ≡ other.problem = laws.one_problem other.bytes c.problem other.problem (subst (λ b. ProblemFile b c.problem) text file) problem in
      let has : HasItems other.problem also.shape c.found (nodes_of_jobs c.jobs) =
      subst (λ p. HasItems p also.shape c.found (nodes_of_jobs c.jobs)) same (subst (λ s. HasItems c.problem s c.found (nodes_of_jobs c.jobs)) shape is.items) in
      let (found, nodes) = one_items other.problem problem.sound (laws.one_calling other.problem problem.sound) also.shape c.found (nodes_of_jobs c.jobs) other.found (nodes_of_jobs other.jobs) has also.items in
      let long : map length c.jobs ≡ map length other.jobs = is.jobs.lengths_are ∙ ap (λ s. map length s.jobs) shape ∙ sym also.jobs.lengths_are in
      same_parts c other text same found (same_jobs c.jobs other.jobs long nodes)

  pub one_checkpoint : (bytes : List ℕ) (c other : Progress) → length bytes < 2 ^ 63 → CheckFile bytes c.bytes c.problem c.found c.jobs
      → CheckFile bytes other.bytes other.problem other.found other.jobs → c ≡ other
  one_checkpoint bytes c other few file also = printed_one bytes c other (printed_as bytes c few file) (printed_as bytes other few also) file.problem also.problem
