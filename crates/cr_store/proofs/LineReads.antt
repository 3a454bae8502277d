-- Which touches and nodes lines are those of.
use Rattle.std.proofs.Common.{◌≡◌, ℕ, zero, suc, ◌+◌, ◌<◌, List, [], ◌∷◌, ◌++◌, length, take, drop, All, refl, sym, ap₂, ◌∙◌, subst, arith}
use Rattle.std.proofs.lemmas.List.Elements.{All-nil, All-cons, All-head, All-tail, All-drop}
use Rattle.cr_model.specs.Problems.{ProblemParts}
use Rattle.cr_model.specs.Callings.{HasSteps}
use Rattle.cr_model.specs.Checkpoints.{last_node}
use Rattle.cr_model.specs.Sound.{IsSound}
use Rattle.cr_store.specs.Shapes.{NodeParts}
use Rattle.cr_store.specs.Lines.{left_out, IsNodeOf, AreNodesOf}
use Rattle.cr_store.specs.Reading.{StopsAtNode}
use Rattle.cr_store.proofs.StepTexts.{OneCalling, node_is}

module _ (p : ProblemParts) (version : ℕ) where
  -- as many nodes as lines, all of the problem's steps
  pub as_many : (before : List ℕ) (lines : List NodeParts) (nodes : List (List ℕ)) → AreNodesOf p version before lines nodes → length lines ≡ length nodes
  as_many before [] [] are = refl
  as_many before [] (node ∷ nodes) are = absurd (cc)
  as_many before (line ∷ lines) [] are = absurd are
  as_many before (line ∷ lines) (node ∷ nodes) are = omega (arith, as_many node lines nodes are.1)

  pub nodes_known : (before : List ℕ) (lines : List NodeParts) (nodes : List (List ℕ)) → AreNodesOf p version before lines nodes → All (HasSteps p) nodes
  nodes_known before [] [] are = All-nil (HasSteps p)
  nodes_known before [] (node ∷ nodes) are = absurd (cc)
  nodes_known before (line ∷ lines) [] are = absurd are
  nodes_known before (line ∷ lines) (node ∷ nodes) are = All-cons (HasSteps p) node nodes are.0.steps (nodes_known node lines nodes are.1)

  -- some lines after others
  pub joined : (before : List ℕ) (lines : List NodeParts) (nodes : List (List ℕ)) (others : List NodeParts) (more : List (List ℕ))
      → AreNodesOf p version before lines nodes → AreNodesOf p version (last_node before nodes) others more → AreNodesOf p version before (lines ++ others) (nodes ++ more)
  joined before [] [] others more are next = next
  joined before [] (node ∷ nodes) others more are next = absurd (cc)
  joined before (line ∷ lines) [] others more are next = absurd are
  joined before (line ∷ lines) (node ∷ nodes) others more are next = (are.0, joined node lines nodes others more are.1 next)

  -- the first of them
  pub first_nodes : (before : List ℕ) (lines : List NodeParts) (nodes : List (List ℕ)) (number : ℕ) → AreNodesOf p version before lines nodes
      → AreNodesOf p version before (take number lines) (take number nodes)
  first_nodes before lines nodes zero are = refl
  first_nodes before [] [] (suc number) are = refl
  first_nodes before [] (node ∷ nodes) (suc number) are = absurd (cc)
  first_nodes before (line ∷ lines) [] (suc number) are = absurd are
  first_nodes before (line ∷ lines) (node ∷ nodes) (suc number) are = (are.0, first_nodes node lines nodes number are.1)

  -- the last of nodes of lines after others
  pub last_joined : (before : List ℕ) (nodes more : List (List ℕ)) → last_node before (nodes ++ more) ≡ last_node (last_node before nodes) more
  last_joined before [] more = refl
  last_joined before (node ∷ nodes) more = last_joined node nodes more

  pub last_known : (before : List ℕ) (nodes : List (List ℕ)) → HasSteps p before → All (HasSteps p) nodes → HasSteps p (last_node before nodes)
  last_known before [] first known = first
  last_known before (node ∷ nodes) first known = last_known node nodes (All-head (HasSteps p) node nodes known) (All-tail (HasSteps p) node nodes known)

module _ (p : ProblemParts) (sound : IsSound p) (one : OneCalling p) (version : ℕ) where
  -- a line after a node is that of one node
  pub one_node : (before : List ℕ) (line : NodeParts) (node other : List ℕ) → IsNodeOf p version before line node → IsNodeOf p version before line other → node ≡ other
  one_node before line node other is also =
      let rest = drop (left_out version before other) other in
      let known : HasSteps p rest = All-drop (λ s. s < length p.leads) (left_out version before other) other also.steps in
      node_is p sound one version before node rest line.shared is.steps is.shared known (sym also.rest ∙ is.rest)
      ∙ sym (node_is p sound one version before other rest line.shared also.steps also.shared known refl)

  pub one_nodes : (before : List ℕ) (lines : List NodeParts) (nodes others : List (List ℕ)) → AreNodesOf p version before lines nodes
      → AreNodesOf p version before lines others → nodes ≡ others
  one_nodes before [] nodes others are also = are ∙ sym also
  one_nodes before (line ∷ lines) [] others are also = absurd are
  one_nodes before (line ∷ lines) (node ∷ nodes) [] are also = absurd also
  one_nodes before (line ∷ lines) (node ∷ nodes) (other ∷ others) are also =
      let same : other ≡ node = one_node before line other node also.0 are.0 in
      ap₂ ◌∷◌ (sym same) (one_nodes node lines nodes others are.1 (subst (λ n. AreNodesOf p version n lines others) same also.1))

  -- with the line where reading stops, the lines are those of no nodes
  pub stopped : (before : List ℕ) (lines : List NodeParts) (nodes others : List (List ℕ)) → AreNodesOf p version before (take (length nodes) lines) nodes
      → StopsAtNode p version before lines nodes → AreNodesOf p version before (take (length nodes + 1) lines) others → ⊥
  stopped before [] nodes others are stops also = absurd (omega (arith, stops.within))
  stopped before (line ∷ lines) [] [] are stops also = also
  stopped before (line ∷ lines) [] (other ∷ others) are stops also = stops.none other also.0
  stopped before (line ∷ lines) (node ∷ nodes) others are stops also =
      let more : length (node ∷ nodes) + 1 ≡ suc (length nodes + 1) = omega arith in
      by others (λ rest are_rest. stopped node lines nodes rest are.1 (record { within = omega (arith, stops.within); none = stops.none }) are_rest)
      (subst (λ k. AreNodesOf p version before (take k (line ∷ lines)) others) more also)
    where
      by : (others : List (List ℕ)) → ((rest : List (List ℕ)) → AreNodesOf p version node (take (length nodes + 1) lines) rest → ⊥)
          → AreNodesOf p version before (line ∷ take (length nodes + 1) lines) others → ⊥
      by [] later also = also
      by (other ∷ others) later also =
          let same : other ≡ node = one_node before line other node also.0 are.0 in
          later others (subst (λ n. AreNodesOf p version n (take (length nodes + 1) lines) others) same also.1)
