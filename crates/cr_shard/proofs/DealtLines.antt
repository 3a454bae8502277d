-- Nodes dealt to shards one after another.
use Rattle.std.proofs.Common.{◌≡◌, ◌≢◌, ℕ, ◌+◌, ◌*◌, ◌/◌, ◌%◌, ◌<◌, cond, nat_eq, List, [], ◌∷◌, ◌++◌, length, get_or, set, inl, inr, sym, ap, ap₂, ◌∙◌, subst, arith, append-nil, append_assoc}
use Rattle.std.specs.Prelude.{All}
use Rattle.std.proofs.lemmas.Bool.{cases_eq, eq-eqb, false_from_ne_true, eqb-true}
use Rattle.std.proofs.lemmas.Nat.{mod-mul-add, div-add-mod', mod_below}
use Rattle.std.proofs.lemmas.List.{get_or-set_same, get_or-set_other, length-set, length-append}
use Rattle.std.proofs.lemmas.List.Elements.{All-get_or}
use Rattle.cr_model.specs.Problems.{ProblemParts}
use Rattle.cr_model.specs.Checkpoints.{node_line}
use Rattle.cr_store.proofs.HandedNodes.{node_lines_more}
use Rattle.cr_store.proofs.LineReads.{last_joined}
use Rattle.cr_shard.specs.declared.dealer.NodeLines.{NodeLines}
use Rattle.cr_shard.specs.Deals.{dealt_from, dealt_nodes}
use Rattle.cr_shard.specs.Dealers.{AreLinesOf, HaveLines}

module _ (p : ProblemParts) where
  -- the line of one node more
  pub line_more : (nodes : List (List ℕ)) (node : List ℕ) (old new : NodeLines) → AreLinesOf p nodes old → new.text.items ≡ old.text.items ++ node_line p 2 old.last node
      → new.nodes ≡ old.nodes + 1 → new.last ≡ node → AreLinesOf p (nodes ++ node ∷ []) new
  line_more nodes node old new are text many last = record {
    text_is = text ∙ ap₂ (λ lines before. lines ++ node_line p 2 before node) are.text_is are.last_is ∙ sym (node_lines_more p [] nodes node);
    many = omega (arith, many, are.many, length-append nodes (node ∷ []));
    last_is = last ∙ sym (last_joined p 2 [] nodes (node ∷ []));
  }

-- what is dealt of one node more
dealt_more : (into shard at : ℕ) (nodes : List (List ℕ)) (node : List ℕ)
    → dealt_from into shard at (nodes ++ node ∷ []) ≡ dealt_from into shard at nodes ++ cond (nat_eq ((at + length nodes) % into) shard) (node ∷ []) []
dealt_more into shard at [] node =
    let sum : at ≡ at + 0 = omega arith in
    append-nil (cond (nat_eq (at % into) shard) (node ∷ []) []) ∙ ap (λ n. cond (nat_eq (n % into) shard) (node ∷ []) []) sum
dealt_more into shard at (first ∷ nodes) node =
    let sum : at + 1 + length nodes ≡ at + length (first ∷ nodes) = omega arith in
    let here = cond (nat_eq (at % into) shard) (first ∷ []) [] in
    let others = dealt_from into shard (at + 1) nodes in
    ap (λ l. here ++ l) (dealt_more into shard (at + 1) nodes node ∙ ap (λ n. others ++ cond (nat_eq (n % into) shard) (node ∷ []) []) sum)
    ∙ sym (append_assoc here others (cond (nat_eq ((at + length (first ∷ nodes)) % into) shard) (node ∷ []) []))

module _ (into shard : ℕ) (nodes : List (List ℕ)) (node : List ℕ) where
  at_end : 0 + length nodes ≡ length nodes
  at_end = omega arith

  -- its shard has it
  pub dealt_here : length nodes % into ≡ shard → dealt_nodes into shard (nodes ++ node ∷ []) ≡ dealt_nodes into shard nodes ++ node ∷ []
  dealt_here is =
      dealt_more into shard 0 nodes node
      ∙ ap (λ b. dealt_nodes into shard nodes ++ cond b (node ∷ []) []) (eq-eqb ((0 + length nodes) % into) shard (ap (λ n. n % into) at_end ∙ is))

  -- and the others have what they had
  pub dealt_elsewhere : length nodes % into ≢ shard → dealt_nodes into shard (nodes ++ node ∷ []) ≡ dealt_nodes into shard nodes
  dealt_elsewhere other =
      dealt_more into shard 0 nodes node
      ∙ ap (λ b. dealt_nodes into shard nodes ++ cond b (node ∷ []) []) (false_from_ne_true (nat_eq ((0 + length nodes) % into) shard) (λ same. other (sym (ap (λ n. n % into) at_end) ∙ eqb-true ((0 + length nodes) % into) shard same)))
      ∙ append-nil (dealt_nodes into shard nodes)

-- the shard after the one of a position
next_of : (n into : ℕ) → 0 < into → (n % into + 1 ≡ into → (n + 1) % into ≡ 0) × (n % into + 1 ≢ into → (n + 1) % into ≡ n % into + 1)
next_of n into some =
    let q : ℕ = n / into in
    let r : ℕ = n % into in
    let whole : q * into + r ≡ n = div-add-mod' n into in
    let below : r < into = mod_below n into some in (
      λ last.
          let more : (q + 1) * into ≡ q * into + into = omega arith in
          let sum : n + 1 ≡ (q + 1) * into + 0 = omega (arith, whole, last, more) in
          ap (λ k. k % into) sum ∙ mod-mul-add (q + 1) into 0 some,
      λ other.
          let sum : n + 1 ≡ q * into + (r + 1) = omega (arith, whole) in
          ap (λ k. k % into) sum ∙ mod-mul-add q into (r + 1) (omega (arith, below, other)),
    )

module _ (p : ProblemParts) (nodes : List (List ℕ)) (node : List ℕ) (lines : List NodeLines) (next : ℕ) (new : NodeLines)
    (inside : next < length lines) (next_is : next ≡ length nodes % length lines) (each : HaveLines p nodes lines)
    (adds : AreLinesOf p (dealt_nodes (length lines) next nodes) (get_or lines next new) → AreLinesOf p (dealt_nodes (length lines) next nodes ++ node ∷ []) new) where
  pub lines_more : HaveLines p (nodes ++ node ∷ []) (set lines next new)
  lines_more shard d within =
      let into : length (set lines next new) ≡ length lines = length-set lines next new in
      let low : shard < length lines = omega (arith, within, into) in
      subst (λ k. AreLinesOf p (dealt_nodes k shard (nodes ++ node ∷ [])) (get_or (set lines next new) shard d)) (sym into)
      (elim (cases_eq shard next) [
        | inl same ↦
            let here : dealt_nodes (length lines) shard (nodes ++ node ∷ []) ≡ dealt_nodes (length lines) next nodes ++ node ∷ [] =
            dealt_here (length lines) shard nodes node (sym next_is ∙ sym same) ∙ ap (λ k. dealt_nodes (length lines) k nodes ++ node ∷ []) same in
            let it : get_or (set lines next new) shard d ≡ new = ap (λ k. get_or (set lines next new) k d) same ∙ get_or-set_same lines next new d inside in
            subst (λ (l : NodeLines). AreLinesOf p (dealt_nodes (length lines) shard (nodes ++ node ∷ [])) l) (sym it)
            (subst (λ (ns : List (List ℕ)). AreLinesOf p ns new) (sym here) (adds (each next new inside)))
        | inr other ↦
            let same : dealt_nodes (length lines) shard (nodes ++ node ∷ []) ≡ dealt_nodes (length lines) shard nodes =
            dealt_elsewhere (length lines) shard nodes node (λ is. other (sym is ∙ sym next_is)) in
            subst (λ (l : NodeLines). AreLinesOf p (dealt_nodes (length lines) shard (nodes ++ node ∷ [])) l) (sym (get_or-set_other lines next shard new d other))
            (subst (λ (ns : List (List ℕ)). AreLinesOf p ns (get_or lines shard d)) (sym same) (each shard d low))
      ])

  -- the next node comes to the next shard, or to the first
  pub next_more : (after : ℕ) → (next + 1 ≡ length lines → after ≡ 0) → (next + 1 ≢ length lines → after ≡ next + 1)
      → after ≡ length (nodes ++ node ∷ []) % length (set lines next new)
  next_more after last others =
      let many : length (nodes ++ node ∷ []) ≡ length nodes + 1 = length-append nodes (node ∷ []) in
      let turn = next_of (length nodes) (length lines) (omega (arith, inside)) in
      let same : length nodes % length lines ≡ next = sym next_is in
      (elim (cases_eq (next + 1) (length lines)) [
        | inl end ↦ last end ∙ sym (turn.0 (ap (λ k. k + 1) same ∙ end))
        | inr more ↦ others more ∙ ap (λ k. k + 1) next_is ∙ sym (turn.1 (λ end. more (sym (ap (λ k. k + 1) same) ∙ end)))
      ])
      ∙ sym (ap₂ (λ n k. n % k) many (length-set lines next new))

-- no node is dealt yet
pub none_dealt : (p : ProblemParts) (lines : List NodeLines) → 0 < length lines → All (AreLinesOf p []) lines → HaveLines p [] lines × (0 ≡ length {A = List ℕ} [] % length lines)
none_dealt p lines some all = (λ shard d inside. All-get_or (AreLinesOf p []) lines shard d inside all, let zero_is : 0 ≡ 0 * length lines + 0 = omega arith in sym (ap (λ n. n % length lines) zero_is ∙ mod-mul-add 0 (length lines) 0 some))
