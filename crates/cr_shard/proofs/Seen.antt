-- Nodes that were come to overlap nowhere.
use Rattle.std.proofs.Common.{◌≡◌, ◌≢◌, ℕ, ◌+◌, ◌<◌, ◌≤◌, Bool, true, false, List, [], ◌∷◌, ◌++◌, length, get_or, set, take, inl, inr, refl, sym, ap, ◌∙◌, subst, arith, append-nil}
use Rattle.std.proofs.lemmas.Bool.{cases_lt, cases_eq, true≢false, false_from_ne_true}
use Rattle.std.proofs.lemmas.List.{take_at, get_or_append_left, get_or-append-add, get_or-set_same, get_or-set_other, length-append, nil_from_length}
use Rattle.std.proofs.lemmas.List.Elements.{All-nil, All-push, All-weaker, All-get_or}
use Rattle.cr_model.specs.Problems.{ProblemParts}
use Rattle.cr_model.specs.Nodes.{part_of, is_prefix, Independent}
use Rattle.cr_model.proofs.Prefixes.{prefix_iff}
use Rattle.cr_shard.specs.Hashes.{hash_of, IsMissing, IsClean, IsClear, KnownParts, ComesTo, IsSeen, AreSeen}
use Rattle.cr_shard.specs.Dealers.{AreClear}

pub none_seen : (hashes : List ℕ) (seen : List Bool) → AreSeen hashes seen []
none_seen hashes seen = record {
  each = All-nil (IsSeen hashes seen);
  clean = All-nil (IsClean hashes);
  apart = λ i j less inside. absurd (omega (arith, inside));
}

module _ (old new : KnownParts) (hash : ℕ) (comes : ComesTo old hash new) (node : List ℕ) (is : hash ≡ hash_of node) where
  seen_still : (other : List ℕ) → IsSeen old.hashes old.seen other → IsSeen old.hashes (set old.seen comes.place true) other
  seen_still other seen = record {
    place = seen.place;
    inside = seen.inside;
    is = seen.is;
    come = elim (cases_eq seen.place comes.place) [
      | inl same ↦ ap (λ k. get_or (set old.seen comes.place true) k false) same ∙ get_or-set_same old.seen comes.place true false comes.within
      | inr other ↦ get_or-set_other old.seen comes.place seen.place true false other ∙ seen.come
    ];
  }

  seen_here : IsSeen old.hashes (set old.seen comes.place true) node
  seen_here = record {
    place = comes.place;
    inside = comes.inside;
    is = comes.is ∙ is;
    come = get_or-set_same old.seen comes.place true false comes.within;
  }

  -- a node that was come to before is another one
  other_node : (other : List ℕ) → IsSeen old.hashes old.seen other → other ≢ node
  other_node other seen = λ same.
      let place : seen.place ≡ comes.place = comes.one seen.place seen.inside (seen.is ∙ ap hash_of same ∙ sym is) in
      true≢false (sym seen.come ∙ ap (λ k. get_or old.seen k false) place ∙ comes.fresh)

  here_seen : (nodes : List (List ℕ)) → IsClean old.hashes node → AreSeen old.hashes old.seen nodes → AreSeen old.hashes (set old.seen comes.place true) (nodes ++ node ∷ [])
  here_seen nodes clean seen = record {
    each = All-push (IsSeen old.hashes (set old.seen comes.place true)) nodes node (All-weaker (IsSeen old.hashes old.seen) (IsSeen old.hashes (set old.seen comes.place true)) seen_still nodes seen.each) seen_here;
    clean = All-push (IsClean old.hashes) nodes node seen.clean clean;
    apart = λ i j less inside.
        let long = length-append nodes (node ∷ []) in
        let low : i < length nodes = omega (arith, less, inside, long) in
        let first : get_or (nodes ++ node ∷ []) i [] ≡ get_or nodes i [] = get_or_append_left nodes (node ∷ []) [] i low in
        elim (cases_lt j (length nodes)) [
          | inl within ↦ λ same. seen.apart i j less within (sym first ∙ same ∙ get_or_append_left nodes (node ∷ []) [] j within)
          | inr past ↦
              let at : j ≡ length nodes + 0 = omega (arith, past, inside, long) in
              let second : get_or (nodes ++ node ∷ []) j [] ≡ node = ap (λ k. get_or (nodes ++ node ∷ []) k []) at ∙ get_or-append-add nodes (node ∷ []) 0 [] in
              λ same. other_node (get_or nodes i []) (All-get_or (IsSeen old.hashes old.seen) nodes i [] low seen.each) (sym first ∙ same ∙ second)
        ];
  }

  -- one node more
  pub seen_more : (nodes : List (List ℕ)) → IsClean old.hashes node → AreSeen old.hashes old.seen nodes → AreSeen new.hashes new.seen (nodes ++ node ∷ [])
  seen_more nodes clean seen =
      subst (λ (hashes : List ℕ). AreSeen hashes new.seen (nodes ++ node ∷ [])) (sym comes.hashes_are)
      (subst (λ (marks : List Bool). AreSeen old.hashes marks (nodes ++ node ∷ [])) (sym comes.seen_are) (here_seen nodes clean seen))

-- a node that begins steps is the first of them
front_is : (node steps : List ℕ) → is_prefix node steps ≡ true → (take (length node) steps ≡ node) × (length node ≤ length steps)
front_is node steps begins =
    let (rest, is) = (prefix_iff node steps).0 begins in
    (ap (take (length node)) is ∙ take_at node rest (length node) refl, omega (arith, ap length is, length-append node rest))

module _ (hashes : List ℕ) (seen : List Bool) (nodes : List (List ℕ)) (are : AreSeen hashes seen nodes) where
  -- the hash of steps that are a node is not missing
  not_missing : (i : ℕ) (steps : List ℕ) → i < length nodes → steps ≡ get_or nodes i [] → IsMissing hashes (hash_of steps) → ⊥
  not_missing i steps inside is missing =
      let known = All-get_or (IsSeen hashes seen) nodes i [] inside are.each in
      missing known.place known.inside (known.is ∙ ap hash_of (sym is))

  begins_none : (i j : ℕ) → i < length nodes → j < length nodes → i ≢ j → is_prefix (get_or nodes i []) (get_or nodes j []) ≡ true → ⊥
  begins_none i j inside within other begins =
      let node = get_or nodes i [] in
      let steps = get_or nodes j [] in
      let (front, few) = front_is node steps begins in
      elim (cases_lt (length node) (length steps)) [
        | inl less ↦ not_missing i (take (length node) steps) inside front (All-get_or (IsClean hashes) nodes j [] within are.clean (length node) less)
        | inr past ↦
            let (rest, is) = (prefix_iff node steps).0 begins in
            let none : rest ≡ [] = nil_from_length rest (omega (arith, past, ap length is, length-append node rest)) in
            let same : steps ≡ node = is ∙ ap (λ l. node ++ l) none ∙ append-nil node in
            elim (cases_lt i j) [
              | inl before ↦ are.apart i j before within (sym same)
              | inr after ↦ elim (cases_eq i j) [
                | inl equal ↦ other equal
                | inr apart ↦ are.apart j i (omega (arith, after, apart)) inside same
              ]
            ]
      ]

  pub independent_of_seen : (p : ProblemParts) (found : List (List ℕ)) → AreClear p hashes found → Independent p found nodes
  independent_of_seen p found clear = record {
    nodes_apart = λ i j inside within other. false_from_ne_true (is_prefix (get_or nodes i []) (get_or nodes j [])) (begins_none i j inside within other);
    found_apart = λ i j inside within.
        let node = get_or nodes i [] in
        let part = part_of p (get_or found j []) in
        false_from_ne_true (is_prefix node part) (λ begins.
        let (front, few) = front_is node part begins in
        not_missing i (take (length node) part) inside front (All-get_or (λ touch. IsClear hashes (part_of p touch)) found j [] within clear (length node) few));
  }
