-- Lines stand on the lines of their numbers.
use Rattle.std.proofs.Common.{◌≡◌, ℕ, ◌+◌, ◌-◌, ◌<◌, List, [], ◌∷◌, ◌++◌, length, get_or, map, take, drop, flat_map, codes, All, inl, inr, refl, sym, ap, ◌∙◌, arith, append_assoc, length-append, take-append-drop}
use Rattle.std.proofs.lemmas.Bool.{cases_lt}
use Rattle.std.proofs.lemmas.List.{drop_more, length-take, get_or_append_left, get_or-append_right}
use Rattle.std.proofs.lemmas.List.Concat.{flat_map-append}
use Rattle.std.proofs.lemmas.List.Elements.{All-head, All-tail, All-take}
use Rattle.cr_model.specs.Checkpoints.{number_line}
use Rattle.cr_model.specs.Texts.{IsNumber}
use Rattle.cr_store.specs.Shapes.{FoundParts, NodeParts, ShapeParts, IsFoundLine, IsNodeLine, IsJobLines, IsShape, found_text, node_text, job_text, HasShape, line_feeds, found_line}
use Rattle.cr_store.specs.Lines.{outline_of, node_lines_of, node_numbers, line_of, StandsOn}
use Rattle.cr_store.specs.Reading.{touch_line_at, node_line_at}
use Rattle.cr_store.proofs.ShapeBytes.{feeds_joined, feeds_lacking}
use Rattle.cr_store.proofs.ShapeBodies.{found_lacks, node_lacks, node_ends}
use Rattle.cr_store.specs.ShapeSteps.{found_body, node_body}
use Rattle.cr_store.proofs.ShapeLaws.{number_feeds}
use Rattle.cr_store.proofs.LineNumbers.{in_first, in_others, of_touch, of_node}

-- the text of one of some, with what stands before and after it
split_at : {X : Type 0} (f : X → List ℕ) (xs : List X) (i : ℕ) (d : X) → i < length xs
    → flat_map f xs ≡ flat_map f (take i xs) ++ (f (get_or xs i d) ++ flat_map f (drop (i + 1) xs))
split_at f xs i d inside =
    ap (flat_map f) (sym (take-append-drop i xs)) ∙ flat_map-append f (take i xs) (drop i xs)
    ∙ ap (λ l. flat_map f (take i xs) ++ flat_map f l) (drop_more xs i d inside)

-- as many line feeds as lines
feeds_of_all : {X : Type 0} (f : X → List ℕ) (xs : List X) → All (λ x. line_feeds (f x) ≡ 1) xs → line_feeds (flat_map f xs) ≡ length xs
feeds_of_all f [] one = refl
feeds_of_all f (x ∷ xs) one =
    omega (arith, feeds_joined (f x) (flat_map f xs), All-head (λ y. line_feeds (f y) ≡ 1) x xs one, feeds_of_all f xs (All-tail (λ y. line_feeds (f y) ≡ 1) x xs one))

one_feed : (body : List ℕ) → line_feeds body ≡ 0 → line_feeds (body ++ codes "\n") ≡ 1
one_feed body none = omega (arith, feeds_joined body (codes "\n"), none, newline)
  where
    newline : line_feeds (codes "\n") ≡ 1
    newline = refl

touch_feeds : (line : FoundParts) → IsFoundLine line → line_feeds (found_text line) ≡ 1
touch_feeds line is = one_feed (found_body line) (feeds_lacking (found_body line) (found_lacks line is))

touches_feeds : (lines : List FoundParts) → All IsFoundLine lines → line_feeds (flat_map found_text lines) ≡ length lines
touches_feeds lines are = feeds_of_all found_text lines (λ k d inside. touch_feeds (get_or lines k d) (are k d inside))

module _ (version : ℕ) where
  node_feeds : (line : NodeParts) → IsNodeLine version line → line_feeds (node_text version line) ≡ 1
  node_feeds line is = ap line_feeds (node_ends version line) ∙ one_feed (node_body version line) (feeds_lacking (node_body version line) (node_lacks version line is))

  nodes_feeds : (lines : List NodeParts) → All (IsNodeLine version) lines → line_feeds (flat_map (node_text version) lines) ≡ length lines
  nodes_feeds lines are = feeds_of_all (node_text version) lines (λ k d inside. node_feeds (get_or lines k d) (are k d inside))

  job_count_feeds : (job : List NodeParts) → IsJobLines version job → line_feeds (number_line (codes "job") (length job)) ≡ 1
  job_count_feeds job is = number_feeds (codes "job") (length job) refl is.few

  job_feeds : (job : List NodeParts) → IsJobLines version job → line_feeds (job_text version job) ≡ 1 + length job
  job_feeds job is =
      omega (arith, feeds_joined (number_line (codes "job") (length job)) (flat_map (node_text version) job), job_count_feeds job is, nodes_feeds job is.nodes)

  -- where the line of a node stands among the lines of jobs
  record StandsIn (line : ℕ) (jobs : List (List NodeParts)) (node : ℕ) : Type 0 where
    front : List ℕ
    rest : List ℕ
    is : flat_map (job_text version) jobs ≡ front ++ (node_text version (node_line_at (flat_map (λ job. job) jobs) node) ++ rest)
    number_is : get_or (node_numbers line (map length jobs)) node 0 ≡ line + line_feeds front

  -- in the first job
  in_job : (line : ℕ) (job : List NodeParts) (jobs : List (List NodeParts)) (node : ℕ) → IsJobLines version job → node < length job → StandsIn line (job ∷ jobs) node
  in_job line job jobs node is inside =
      let count = number_line (codes "job") (length job) in
      let before = flat_map (node_text version) (take node job) in
      let here = node_text version (node_line_at job node) in
      let after = flat_map (node_text version) (drop (node + 1) job) in
      let others = flat_map (job_text version) jobs in
      let same : node_line_at (job ++ flat_map (λ j. j) jobs) node ≡ node_line_at job node =
      get_or_append_left job (flat_map (λ j. j) jobs) (record { shared = 0; steps = [] }) node inside in
      let feeds : line_feeds before ≡ node = nodes_feeds (take node job) (All-take (IsNodeLine version) node job is.nodes) ∙ omega (arith, inside, length-take node job) in
      record {
        front = count ++ before;
        rest = after ++ others;
        is = ap (λ l. count ++ l ++ others) (split_at (node_text version) job node (record { shared = 0; steps = [] }) inside)
            ∙ regroup count before here after others
            ∙ ap (λ l. count ++ before ++ (node_text version l ++ (after ++ others))) (sym same);
        number_is = in_first line (length job) (map length jobs) node inside ∙ omega (arith, feeds_joined count before, job_count_feeds job is, feeds);
      }
    where
      regroup : (a b c d e : List ℕ) → a ++ (b ++ (c ++ d)) ++ e ≡ a ++ b ++ (c ++ (d ++ e))
      regroup a b c d e = simp append_assoc

  -- in any job
  in_jobs : (line : ℕ) (jobs : List (List NodeParts)) (node : ℕ) → All (IsJobLines version) jobs → node < length (flat_map (λ job. job) jobs) → StandsIn line jobs node
  in_jobs line [] node are inside = absurd (omega arith)
  in_jobs line (job ∷ jobs) node are inside = elim (cases_lt node (length job)) [
    | inl here ↦ in_job line job jobs node (All-head (IsJobLines version) job jobs are) here
    | inr past ↦
        let later = in_jobs (line + 1 + length job) jobs (node - length job) (All-tail (IsJobLines version) job jobs are)
        (omega (arith, inside, past, length-append job (flat_map (λ j. j) jobs))) in
        let text = node_text version (node_line_at (flat_map (λ j. j) jobs) (node - length job)) in
        let same : node_line_at (job ++ flat_map (λ j. j) jobs) node ≡ node_line_at (flat_map (λ j. j) jobs) (node - length job) =
        get_or-append_right job (flat_map (λ j. j) jobs) (length job) node (record { shared = 0; steps = [] }) refl past in
        record {
          front = job_text version job ++ later.front;
          rest = later.rest;
          is = ap (λ l. job_text version job ++ l) later.is ∙ sym (append_assoc (job_text version job) later.front (text ++ later.rest))
              ∙ ap (λ l. job_text version job ++ later.front ++ (node_text version l ++ later.rest)) (sym same);
          number_is = in_others line (length job) (map length jobs) node past ∙ later.number_is
              ∙ omega (arith, feeds_joined (job_text version job) later.front, job_feeds job (All-head (IsJobLines version) job jobs are));
        }
  ]

small_version : (s : ShapeParts) → IsShape s → IsNumber s.version
small_version s is = elim is.version [ inl one ↦ omega (arith, one) | inr two ↦ omega (arith, two) ]

module _ (text : List ℕ) (s : ShapeParts) (has : HasShape text s) where
  -- the lines up to the line `found`
  abbrev head : List ℕ
  head = number_line (codes "ringsearch checkpoint") s.version ++ number_line (codes "problem") (length s.problem) ++ s.problem ++ codes "\n"
      ++ number_line (codes "found") (length s.found)

  five_feeds : (a b c d e : List ℕ) → line_feeds (a ++ b ++ c ++ d ++ e) ≡ line_feeds a + line_feeds b + line_feeds c + line_feeds d + line_feeds e
  five_feeds a b c d e =
      omega (arith, feeds_joined (a ++ b ++ c ++ d) e, feeds_joined (a ++ b ++ c) d, feeds_joined (a ++ b) c, feeds_joined a b)

  head_feeds : line_feeds head ≡ found_line s
  head_feeds =
      let newline : line_feeds (codes "\n") ≡ 1 = refl in
      omega (
        arith,
        five_feeds (number_line (codes "ringsearch checkpoint") s.version) (number_line (codes "problem") (length s.problem)) s.problem (codes "\n") (number_line (codes "found") (length s.found)),
        number_feeds (codes "ringsearch checkpoint") s.version refl (small_version s has.shape),
        number_feeds (codes "problem") (length s.problem) refl has.shape.problem,
        number_feeds (codes "found") (length s.found) refl has.shape.found_few,
      )

  -- a found line
  pub touch_stands : (i : ℕ) → i < length s.found → StandsOn text (found_text (touch_line_at s.found i)) (line_of s i)
  touch_stands i inside =
      let before = flat_map found_text (take i s.found) in
      let here = found_text (touch_line_at s.found i) in
      let after = flat_map found_text (drop (i + 1) s.found) in
      let count = number_line (codes "jobs") (length s.jobs) in
      let jobs = flat_map (job_text s.version) s.jobs in
      let feeds : line_feeds before ≡ i = touches_feeds (take i s.found) (All-take IsFoundLine i s.found has.shape.found) ∙ omega (arith, inside, length-take i s.found) in
      record {
        front = head ++ before;
        rest = after ++ (count ++ (jobs ++ codes "end\n"));
        is = has.is ∙ ap (λ l. head ++ l ++ count ++ jobs ++ codes "end\n") (split_at found_text s.found i (record { length = 0; calling = [] }) inside)
            ∙ regroup head before here after count jobs (codes "end\n");
        number_is = of_touch (outline_of s) i inside ∙ omega (arith, feeds_joined head before, head_feeds, feeds);
      }
    where
      regroup : (a b c d e f g : List ℕ) → a ++ (b ++ (c ++ d)) ++ e ++ f ++ g ≡ a ++ b ++ (c ++ (d ++ (e ++ (f ++ g))))
      regroup a b c d e f g = simp append_assoc

  -- a node line
  pub node_stands : (i : ℕ) → i < length (node_lines_of s) → StandsOn text (node_text s.version (node_line_at (node_lines_of s) i)) (line_of s (length s.found + i))
  node_stands i inside =
      let found = flat_map found_text s.found in
      let count = number_line (codes "jobs") (length s.jobs) in
      let here = node_text s.version (node_line_at (node_lines_of s) i) in
      let at = in_jobs s.version (found_line s + length s.found + 2) s.jobs i has.shape.jobs inside in
      let place : length s.found + i - length s.found ≡ i = omega arith in
      record {
        front = head ++ found ++ count ++ at.front;
        rest = at.rest ++ codes "end\n";
        is = has.is ∙ ap (λ l. head ++ found ++ count ++ l ++ codes "end\n") at.is ∙ regroup (head ++ found ++ count) at.front here at.rest (codes "end\n");
        number_is = of_node (outline_of s) (length s.found + i) (omega arith) ∙ ap (λ k. get_or (node_numbers (found_line s + length s.found + 2) (map length s.jobs)) k 0) place ∙ at.number_is
            ∙ omega (
              arith,
              feeds_joined (head ++ found ++ count) at.front,
              feeds_joined (head ++ found) count,
              feeds_joined head found,
              head_feeds,
              touches_feeds s.found has.shape.found,
              number_feeds (codes "jobs") (length s.jobs) refl has.shape.jobs_few,
            );
      }
    where
      regroup : (a b c d e : List ℕ) → a ++ (b ++ (c ++ d)) ++ e ≡ a ++ b ++ (c ++ (d ++ e))
      regroup a b c d e = simp append_assoc
