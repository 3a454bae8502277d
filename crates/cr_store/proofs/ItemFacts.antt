-- What is known of found touches and nodes that lines are those of.
use Rattle.std.proofs.Common.{◌≡◌, ℕ, ◌+◌, ◌^◌, ◌<◌, List, [], ◌∷◌, length, map, All, refl, sym, ◌∙◌, arith, length-append}
use Rattle.std.specs.List.{AllZip}
use Rattle.std.proofs.lemmas.List.{length-map}
use Rattle.std.proofs.lemmas.List.Elements.{All-nil, All-cons}
use Rattle.cr_model.specs.Problems.{ProblemParts}
use Rattle.cr_model.specs.Callings.{HasSteps}
use Rattle.cr_node.specs.Overlaps.{of_found, of_node, items}
use Rattle.cr_store.specs.Shapes.{FoundParts, ShapeParts}
use Rattle.cr_store.specs.Lines.{outline_of, last_line, node_lines_of, IsTouchOf, HasItems}
use Rattle.cr_store.specs.Reading.{AreOutlined}
use Rattle.cr_store.proofs.LineReads.{as_many, nodes_known}
use Rattle.cr_store.proofs.LineNumbers.{all_nodes}

touches_have_steps : (p : ProblemParts) (lines : List FoundParts) (found : List (List ℕ)) → AllZip (IsTouchOf p) lines found → All (HasSteps p) found
touches_have_steps p [] [] are = All-nil (HasSteps p)
touches_have_steps p [] (touch ∷ found) are = absurd are
touches_have_steps p (line ∷ lines) [] are = absurd are
touches_have_steps p (line ∷ lines) (touch ∷ found) are = All-cons (HasSteps p) touch found are.0.calling.readable.steps (touches_have_steps p lines found are.1)

pub as_many_touches : (p : ProblemParts) (lines : List FoundParts) (found : List (List ℕ)) → AllZip (IsTouchOf p) lines found → length lines ≡ length found
as_many_touches p [] [] are = refl
as_many_touches p [] (touch ∷ found) are = absurd are
as_many_touches p (line ∷ lines) [] are = absurd are
as_many_touches p (line ∷ lines) (touch ∷ found) are = omega (arith, as_many_touches p lines found are.1)

module _ (p : ProblemParts) (shape : ShapeParts) (found nodes : List (List ℕ)) (has : HasItems p shape found nodes) where
  found_count : length found ≡ length shape.found
  found_count = sym (as_many_touches p shape.found found has.touches_are)

  node_count : length nodes ≡ length (node_lines_of shape)
  node_count = sym (as_many p shape.version [] (node_lines_of shape) nodes has.nodes_are)

  -- they have the problem's steps, and are as many as the outline has
  pub outlined : last_line shape < 2 ^ 64 → AreOutlined p (outline_of shape) found nodes
  outlined few = record {
    few = few;
    as_many_touches = sym found_count;
    as_many_nodes = all_nodes shape.jobs ∙ sym node_count;
    touches_known = touches_have_steps p shape.found found has.touches_are;
    nodes_known = nodes_known p shape.version [] (node_lines_of shape) nodes has.nodes_are;
  }

pub item_count : (p : ProblemParts) (found nodes : List (List ℕ)) → length (items p found nodes) ≡ length found + length nodes
item_count p found nodes =
    omega (arith, length-append (map (of_found p) found) (map of_node nodes), length-map found (of_found p), length-map nodes of_node)
