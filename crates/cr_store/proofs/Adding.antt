-- Nodes that are added, line by line.
use Rattle.std.proofs.Common.{◌≡◌, ℕ, ◌+◌, ◌<◌, ◌≤◌, true, false, List, [], ◌∷◌, ◌++◌, length, get_or, map, take, All, refl, sym, ap, ◌∙◌, subst, arith, append_assoc, append-nil}
use Rattle.std.proofs.lemmas.Bool.{true≢false, false≢true}
use Rattle.std.proofs.lemmas.List.{take_more, take_all, length-map, length-take, get_or-map}
use Rattle.std.proofs.lemmas.List.Elements.{All-append}
use Rattle.cr_model.specs.Problems.{ProblemParts}
use Rattle.cr_model.specs.Callings.{HasSteps}
use Rattle.cr_model.specs.Checkpoints.{last_node}
use Rattle.cr_store.specs.declared.shape.NodeLine.{NodeLine}
use Rattle.cr_store.specs.Shapes.{NodeParts}
use Rattle.cr_store.specs.ShapeReads.{node_parts}
use Rattle.cr_store.specs.Lines.{IsNodeOf, AreNodesOf}
use Rattle.cr_store.specs.Reading.{AddsNodes}
use Rattle.cr_store.proofs.LineReads.{as_many, nodes_known, joined, last_joined, last_known}

-- to some nodes, those of the first lines were added
pub record AreAdded (p : ProblemParts) (version : ℕ) (lines : List NodeParts) (old now : List (List ℕ)) (index : ℕ) : Type 0 where
  pub more : List (List ℕ)
  pub is : now ≡ old ++ more
  pub are : AreNodesOf p version (last_node [] old) (take index lines) more

module _ (p : ProblemParts) (version : ℕ) (lines : List NodeLine) (old : List (List ℕ)) where
  pub none_added : AreAdded p version (map node_parts lines) old old 0
  none_added = record { more = []; is = sym (append-nil old); are = refl }

  module _ (now : List (List ℕ)) (index : ℕ) (added : AreAdded p version (map node_parts lines) old now index) where
    -- all have the problem's steps, and so has the last
    pub all_known : All (HasSteps p) old → All (HasSteps p) now
    all_known known =
        subst (All (HasSteps p)) (sym added.is)
        (All-append (HasSteps p) old added.more known (nodes_known p version (last_node [] old) (take index (map node_parts lines)) added.more added.are))

    pub last_is_known : All (HasSteps p) old → HasSteps p (last_node [] now)
    last_is_known known = last_known p version [] now (λ k d inside. absurd (omega arith)) (all_known known)

    last_now : last_node (last_node [] old) added.more ≡ last_node [] now
    last_now = sym (last_joined p version [] old added.more) ∙ ap (last_node []) (sym added.is)

    count : index ≤ length lines → length added.more ≡ index
    count low = omega (arith, low, as_many p version (last_node [] old) (take index (map node_parts lines)) added.more added.are, length-take index (map node_parts lines), length-map lines node_parts)

    -- one node more
    pub one_added : (d : NodeLine) (node : List ℕ) → index < length lines → IsNodeOf p version (last_node [] now) (node_parts (get_or lines index d)) node
        → (next : List (List ℕ)) → next ≡ now ++ node ∷ [] → AreAdded p version (map node_parts lines) old next (index + 1)
    one_added d node inside is next next_is = record {
      more = added.more ++ node ∷ [];
      is = next_is ∙ ap (λ l. l ++ node ∷ []) added.is ∙ append_assoc old added.more (node ∷ []);
      are = subst (λ ls. AreNodesOf p version (last_node [] old) ls (added.more ++ node ∷ []))
          (sym (take_more (map node_parts lines) index (node_parts d) (omega (arith, inside, length-map lines node_parts)) ∙ ap (λ l. take index (map node_parts lines) ++ l ∷ []) (get_or-map node_parts lines index d (node_parts d) inside)))
          (joined p version (last_node [] old) (take index (map node_parts lines)) added.more (node_parts (get_or lines index d) ∷ []) (node ∷ []) added.are
          (subst (λ b. IsNodeOf p version b (node_parts (get_or lines index d)) node) (sym last_now) is, refl));
    }

    -- the next line is that of none
    pub stopped_there : (d : NodeLine) → index < length lines → ((node : List ℕ) → IsNodeOf p version (last_node [] now) (node_parts (get_or lines index d)) node → ⊥)
        → AddsNodes p version (map node_parts lines) old now false
    stopped_there d inside none =
        let many = count (omega arith) in record {
          more = added.more;
          is = added.is;
          reads = record {
            are = subst (λ k. AreNodesOf p version (last_node [] old) (take k (map node_parts lines)) added.more) (sym many) added.are;
            ends = λ e. absurd (false≢true e);
            stops = λ _. record {
              within = omega (arith, many, inside, length-map lines node_parts);
              none = λ node is. none node (subst (λ l. IsNodeOf p version (last_node [] now) l node)
                  (ap (λ k. get_or (map node_parts lines) k (record { shared = 0; steps = [] })) many ∙ get_or-map node_parts lines index d (record { shared = 0; steps = [] }) inside)
                  (subst (λ b. IsNodeOf p version b (get_or (map node_parts lines) (length added.more) (record { shared = 0; steps = [] })) node) last_now is));
            };
          };
        }

  -- all lines are read
  pub all_added : (now : List (List ℕ)) (index : ℕ) → length lines ≤ index → AreAdded p version (map node_parts lines) old now index → AddsNodes p version (map node_parts lines) old now true
  all_added now index past added =
      let all : take index (map node_parts lines) ≡ map node_parts lines = take_all index (map node_parts lines) (omega (arith, past, length-map lines node_parts)) in
      let many = as_many p version (last_node [] old) (take index (map node_parts lines)) added.more added.are in
      record {
        more = added.more;
        is = added.is;
        reads = record {
          are = subst (λ ls. AreNodesOf p version (last_node [] old) ls added.more)
              (all ∙ sym (take_all (length added.more) (map node_parts lines) (omega (arith, many, ap length all)))) added.are;
          ends = λ _. omega (arith, many, ap length all);
          stops = λ e. absurd (true≢false e);
        };
      }
