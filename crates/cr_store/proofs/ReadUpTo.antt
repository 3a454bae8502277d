-- How far lines can be read.
use Rattle.std.proofs.Common.{◌≡◌, ℕ, zero, suc, ◌+◌, ◌-◌, ◌<◌, ◌≤◌, true, false, List, [], ◌∷◌, ◌++◌, length, get_or, map, take, refl, sym, ap, ap₂, ◌∙◌, subst, arith}
use Rattle.std.specs.List.{AllZip}
use Rattle.std.proofs.lemmas.List.{take-take, take_all, take_more, length-map, get_or-map}
use Rattle.std.proofs.lemmas.Slice.Zip.{all_zipped_more}
use Rattle.cr_store.specs.declared.shape.FoundLine.{FoundLine}
use Rattle.cr_store.specs.ShapeReads.{found_parts}
use Rattle.cr_model.specs.Problems.{ProblemParts}
use Rattle.cr_model.specs.Callings.{length_of}
use Rattle.cr_book.specs.Readings.{IsCallingText}
use Rattle.cr_model.specs.Checks.{IsFirstWrong}
use Rattle.cr_model.specs.Sound.{IsSound}
use Rattle.cr_store.specs.Shapes.{FoundParts, ShapeParts}
use Rattle.cr_query.specs.Meeting.{HasParts}
use Rattle.cr_store.specs.Lines.{node_lines_of, IsTouchOf, AreNodesOf, HasItems, CanBeRead}
use Rattle.cr_store.specs.Reading.{StopsAtTouch, ReadsTouches, ReadsNodes}
use Rattle.cr_store.proofs.StepTexts.{OneCalling}
use Rattle.cr_store.proofs.LineReads.{first_nodes, one_nodes, stopped}

module _ (p : ProblemParts) where
  pub first_touches : (lines : List FoundParts) (found : List (List ℕ)) (number : ℕ) → AllZip (IsTouchOf p) lines found → AllZip (IsTouchOf p) (take number lines) (take number found)
  first_touches lines found zero are = tt
  first_touches [] [] (suc number) are = tt
  first_touches [] (touch ∷ found) (suc number) are = absurd are
  first_touches (line ∷ lines) [] (suc number) are = absurd are
  first_touches (line ∷ lines) (touch ∷ found) (suc number) are = (are.0, first_touches lines found number are.1)

  -- with the line where reading stops, the lines are those of no touches
  touches_stopped : (lines : List FoundParts) (found others : List (List ℕ)) → AllZip (IsTouchOf p) (take (length found) lines) found
      → StopsAtTouch p lines (length found) → AllZip (IsTouchOf p) (take (length found + 1) lines) others → ⊥
  touches_stopped [] found others are stops also = absurd (omega (arith, stops.within))
  touches_stopped (line ∷ lines) [] [] are stops also = also
  touches_stopped (line ∷ lines) [] (other ∷ others) are stops also = stops.none other also.0
  touches_stopped (line ∷ lines) (touch ∷ found) others are stops also =
      let more : length (touch ∷ found) + 1 ≡ suc (length found + 1) = omega arith in
      by others (λ rest are_rest. touches_stopped lines found rest are.1 (record { within = omega (arith, stops.within); none = stops.none }) are_rest)
      (subst (λ k. AllZip (IsTouchOf p) (take k (line ∷ lines)) others) more also)
    where
      by : (others : List (List ℕ)) → ((rest : List (List ℕ)) → AllZip (IsTouchOf p) (take (length found + 1) lines) rest → ⊥)
          → AllZip (IsTouchOf p) (line ∷ take (length found + 1) lines) others → ⊥
      by [] later also = also
      by (other ∷ others) later also = later others also.1

  -- the first lines, where these were read
  can_be_read : (shape : ShapeParts) (touches nodes number : ℕ) (found rest : List (List ℕ)) → AllZip (IsTouchOf p) (take touches shape.found) found
      → AreNodesOf p shape.version [] (take nodes (node_lines_of shape)) rest → number ≤ touches → number - length shape.found ≤ nodes → CanBeRead p shape number
  can_be_read shape touches nodes number found rest are nodes_are low few =
      let left = number - length shape.found in (
        take number found,
        take left rest,
        record {
          touches_are = subst (λ lines. AllZip (IsTouchOf p) lines (take number found)) (take-take number touches shape.found low) (first_touches (take touches shape.found) found number are);
          nodes_are = subst (λ lines. AreNodesOf p shape.version [] lines (take left rest)) (take-take left nodes (node_lines_of shape) few) (first_nodes p shape.version [] (take nodes (node_lines_of shape)) rest left nodes_are);
        },
      )

  -- a found line is the first that is that of none
  pub touch_unread : (shape : ShapeParts) (found : List (List ℕ)) → ReadsTouches p shape.found found false
      → IsFirstWrong (λ i. CanBeRead p shape (i + 1)) (length shape.found + length (node_lines_of shape)) (length found)
  touch_unread shape found reads =
      let stops = reads.stops refl in record {
        within = omega (arith, stops.within);
        before = λ i low. can_be_read shape (length found) 0 (i + 1) found [] reads.are refl (omega arith) (omega (arith, stops.within));
        wrong = λ can. touches_stopped shape.found found can.0 reads.are stops can.2.touches_are;
      }

  -- all found lines are read
  pub touches_read : (lines : List FoundParts) (found : List (List ℕ)) → ReadsTouches p lines found true → AllZip (IsTouchOf p) lines found
  touches_read lines found reads =
      subst (λ l. AllZip (IsTouchOf p) l found) (take_all (length found) lines (omega (arith, reads.ends refl))) reads.are

  -- all lines are read
  pub all_read : (shape : ShapeParts) (found nodes : List (List ℕ)) → AllZip (IsTouchOf p) shape.found found
      → ReadsNodes p shape.version [] (node_lines_of shape) nodes true → HasItems p shape found nodes
  all_read shape found nodes are reads = record {
    touches_are = are;
    nodes_are = subst (λ l. AreNodesOf p shape.version [] l nodes) (take_all (length nodes) (node_lines_of shape) (omega (arith, reads.ends refl))) reads.are;
  }

module _ (p : ProblemParts) (sound : IsSound p) (one : OneCalling p) where
  -- a node line is the first that is that of none
  pub node_unread : (shape : ShapeParts) (found nodes : List (List ℕ)) → length found ≡ length shape.found → AllZip (IsTouchOf p) shape.found found
      → ReadsNodes p shape.version [] (node_lines_of shape) nodes false
      → IsFirstWrong (λ i. CanBeRead p shape (i + 1)) (length shape.found + length (node_lines_of shape)) (length found + length nodes)
  node_unread shape found nodes many are reads =
      let stops = reads.stops refl in
      let last : length found + length nodes + 1 - length shape.found ≡ length nodes + 1 = omega arith in record {
        within = omega (arith, stops.within);
        before = λ i low. can_be_read p shape (length found + length nodes) (length nodes) (i + 1) found nodes
            (subst (λ l. AllZip (IsTouchOf p) l found) (sym (take_all (length found + length nodes) shape.found (omega arith))) are) reads.are (omega arith) (omega arith);
        wrong = λ can. stopped p sound one shape.version [] (node_lines_of shape) nodes can.1 reads.are stops
            (subst (λ k. AreNodesOf p shape.version [] (take k (node_lines_of shape)) can.1) last can.2.nodes_are);
      }

  -- lines are those of one list of touches and one of nodes
  one_touch : (line : FoundParts) (touch other : List ℕ) → IsTouchOf p line touch → IsTouchOf p line other → touch ≡ other
  one_touch line touch other is also = one touch other is.calling.readable.steps also.calling.readable.steps (is.calling.is ∙ sym also.calling.is)

  one_found : (lines : List FoundParts) (found others : List (List ℕ)) → AllZip (IsTouchOf p) lines found → AllZip (IsTouchOf p) lines others → found ≡ others
  one_found [] [] [] are also = refl
  one_found [] [] (other ∷ others) are also = absurd also
  one_found [] (touch ∷ found) others are also = absurd are
  one_found (line ∷ lines) [] others are also = absurd are
  one_found (line ∷ lines) (touch ∷ found) [] are also = absurd also
  one_found (line ∷ lines) (touch ∷ found) (other ∷ others) are also = ap₂ ◌∷◌ (one_touch line touch other are.0 also.0) (one_found lines found others are.1 also.1)

  pub one_items : (shape : ShapeParts) (found nodes others more : List (List ℕ)) → HasItems p shape found nodes → HasItems p shape others more
      → (found ≡ others) × (nodes ≡ more)
  one_items shape found nodes others more has also = (
    one_found shape.found found others has.touches_are also.touches_are,
    one_nodes p sound one shape.version [] (node_lines_of shape) nodes more has.nodes_are also.nodes_are,
  )

  -- where all lines can be read, so can the first ones
  pub each_can_be_read : (shape : ShapeParts) (found nodes : List (List ℕ)) (number : ℕ) → HasItems p shape found nodes → CanBeRead p shape number
  each_can_be_read shape found nodes number has = (
    take number found,
    take (number - length shape.found) nodes,
    record {
      touches_are = first_touches p shape.found found number has.touches_are;
      nodes_are = first_nodes p shape.version [] (node_lines_of shape) nodes (number - length shape.found) has.nodes_are;
    },
  )

-- a calling whose line tells another length, or that has other parts, is no touch
pub not_told : (p : ProblemParts) → OneCalling p → (line : FoundParts) (calling : List ℕ) → IsCallingText p line.calling calling
    → ((line.length ≡ length_of p calling) × HasParts p calling → ⊥) → (touch : List ℕ) → IsTouchOf p line touch → ⊥
not_told p one line calling is other touch told =
    let same : touch ≡ calling = one touch calling told.calling.readable.steps is.readable.steps (told.calling.is ∙ sym is.is) in
    other (subst (λ c. (line.length ≡ length_of p c) × HasParts p c) same (told.long, told.parts))

-- one touch more
pub touch_more : (p : ProblemParts) (lines : List FoundLine) (i : ℕ) (d : FoundLine) (found : List (List ℕ)) (touch : List ℕ) → i < length lines
    → AllZip (IsTouchOf p) (take i (map found_parts lines)) found → IsTouchOf p (found_parts (get_or lines i d)) touch
    → AllZip (IsTouchOf p) (take (i + 1) (map found_parts lines)) (found ++ touch ∷ [])
touch_more p lines i d found touch inside are is =
    let line : get_or (map found_parts lines) i (found_parts d) ≡ found_parts (get_or lines i d) = get_or-map found_parts lines i d (found_parts d) inside in
    let more = take_more (map found_parts lines) i (found_parts d) (omega (arith, inside, length-map lines found_parts)) ∙ ap (λ l. take i (map found_parts lines) ++ l ∷ []) line in
    subst (λ ls. AllZip (IsTouchOf p) ls (found ++ touch ∷ [])) (sym more) (all_zipped_more (IsTouchOf p) (take i (map found_parts lines)) found (found_parts (get_or lines i d)) touch are is)
