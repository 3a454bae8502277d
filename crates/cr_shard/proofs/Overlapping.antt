-- Shards overlap exactly where two of their items meet.
use Rattle.std.proofs.Common.{◌≡◌, ◌≢◌, ℕ, ◌<◌, false, ◌||◌, nat_eq, List, [], length, get_or, map, inl, inr, refl, sym, ap, ap₂, ◌∙◌, subst, arith}
use Rattle.std.specs.Prelude.{Contains, nat_abs}
use Rattle.std.specs.Cmp.Lexicographic.{pointwise}
use Rattle.std.specs.List.Sorted.{IsStrictlySortedBy}
use Rattle.std.specs.Ordering.{ordering_reverse}
use Rattle.std.specs.declared.cmp.Ordering.TheVariants.{Less, Greater}
use Rattle.std.proofs.lemmas.Bool.{true≢false, or_parts, or_from, false_from_ne_true}
use Rattle.std.proofs.lemmas.List.{get_or-map, length-map}
use Rattle.std.proofs.lemmas.List.Elements.{Contains-append_left, Contains-append_right, Contains-append_cases}
use Rattle.std.proofs.lemmas.Map.Keys.{IsDistinct-from_apart, apart_from_distinct, Less-from_sorted}
use Rattle.cr_model.specs.Problems.{ProblemParts}
use Rattle.cr_model.specs.Queries.{repeated}
use Rattle.cr_model.specs.Touches.{Kept}
use Rattle.cr_model.specs.Nodes.{part_of, is_prefix, is_above}
use Rattle.cr_model.specs.Books.{book_order}
use Rattle.cr_model.specs.Checkpoints.{CanGoOn}
use Rattle.cr_model.proofs.BookExists.{book_order_total}
use Rattle.cr_model.proofs.Parts.{part_repeated}
use Rattle.cr_node.specs.Overlaps.{Item, of_found, of_node}
use Rattle.cr_store.specs.Progress.{Progress}
use Rattle.cr_shard.specs.Joins.{nodes_of, share_a_touch, has_above, has_before, shards_overlap, NoneOverlap}
use Rattle.cr_shard.specs.Reads.{meet, shard_items, all_items, NoneMeet, CanMeet}
use Rattle.cr_shard.proofs.Apart.{alike, nodes_distinct, above_none}
use Rattle.cr_shard.proofs.Meeting.{same_words, words_same}
use Rattle.cr_shard.proofs.Spreading.{no_pair, pair_none, map_held, held_map, held_all, distinct_joined, spread_from, spread_cross}

-- touches in strict order differ
pub differ_in_order : (p : ProblemParts) (found : List (List ℕ)) → IsStrictlySortedBy (book_order p) found → (i j : ℕ) → i < j → j < length found
    → get_or found i [] ≢ get_or found j []
differ_in_order p found ascending i j before inside same =
    let less : book_order p (get_or found i []) (get_or found j []) ≡ Less = Less-from_sorted (book_order p) found i j [] ascending before inside in
    let itself : book_order p (get_or found j []) (get_or found j []) ≡ Less = subst (λ c. book_order p c (get_or found j []) ≡ Less) same less in
    let turned : Less ≡ Greater = sym itself ∙ (book_order_total p).antisymm (get_or found j []) (get_or found j []) ∙ ap ordering_reverse itself in
    absurd (cc)

module _ (p : ProblemParts) where
  -- a kept touch is told by its part
  part_tells : (touch other : List ℕ) → Kept p touch → Kept p other → part_of p touch ≡ part_of p other → touch ≡ other
  part_tells touch other one two same =
      part_repeated p touch one.wanted.meets ∙ ap (repeated (nat_abs p.query.parts)) same ∙ sym (part_repeated p other two.wanted.meets)

  parts_differ : (touch other : List ℕ) → Kept p touch → Kept p other → touch ≢ other → pointwise nat_eq (part_of p touch) (part_of p other) ≡ false
  parts_differ touch other one two differ =
      false_from_ne_true (pointwise nat_eq (part_of p touch) (part_of p other)) (λ h.
      differ (part_tells touch other one two (same_words (part_of p touch) (part_of p other) h)))

  -- two found touches, a found touch and a node, a node and a found touch, two nodes
  found_found : (touch other : List ℕ) → Kept p touch → Kept p other → touch ≢ other → meet (of_found p touch) (of_found p other) ≡ false
  found_found touch other one two differ =
      or_from (pointwise nat_eq (part_of p touch) (part_of p other)) (pointwise nat_eq (part_of p other) (part_of p touch))
      (parts_differ touch other one two differ) (parts_differ other touch two one (λ same. differ (sym same)))

  found_node : (touch node : List ℕ) → is_above p node touch ≡ false → meet (of_found p touch) (of_node node) ≡ false
  found_node touch node none = or_from (is_above p node touch) false none refl

  node_found : (node touch : List ℕ) → is_above p node touch ≡ false → meet (of_node node) (of_found p touch) ≡ false
  node_found node touch none = or_from (is_above p node touch || false) false (or_from (is_above p node touch) false none refl) refl

  node_node : (node other : List ℕ) → alike node other ≡ false → meet (of_node node) (of_node other) ≡ false
  node_node node other none =
      let both = or_parts (is_prefix node other) (is_prefix other node) none in
      or_from (is_prefix node other || false) (is_prefix other node || false)
      (or_from (is_prefix node other) false both.0 refl) (or_from (is_prefix other node) false both.1 refl)

  -- the items of one shard
  own_apart : (c : Progress) → CanGoOn p c.found c.jobs → NoneMeet (shard_items p c)
  own_apart c goes_on =
      let found = map (of_found p) c.found in
      let nodes = map of_node (nodes_of c) in
      distinct_joined meet found nodes
      (IsDistinct-from_apart meet found (λ i j d less inside.
      let within : j < length c.found = omega (arith, inside, length-map c.found (of_found p)) in
      let before : i < length c.found = omega arith in
      ap₂ meet (get_or-map (of_found p) c.found i [] d before) (get_or-map (of_found p) c.found j [] d within)
      ∙ found_found (get_or c.found i []) (get_or c.found j []) (goes_on.kept i [] before) (goes_on.kept j [] within)
      (differ_in_order p c.found goes_on.ascending i j less within)))
      (IsDistinct-from_apart meet nodes (λ i j d less inside.
      let within : j < length (nodes_of c) = omega (arith, inside, length-map (nodes_of c) of_node) in
      let before : i < length (nodes_of c) = omega arith in
      ap₂ meet (get_or-map of_node (nodes_of c) i [] d before) (get_or-map of_node (nodes_of c) j [] d within)
      ∙ node_node (get_or (nodes_of c) i []) (get_or (nodes_of c) j [])
      (apart_from_distinct alike (nodes_of c) i j [] (nodes_distinct p c.found (nodes_of c) goes_on.independent) less within)))
      (λ x y held there.
      let (touch, seen, is) = map_held (of_found p) c.found x held in
      let (node, stands, are) = map_held of_node (nodes_of c) y there in
      ap₂ meet (sym is) (sym are) ∙ found_node touch node
      (false_from_ne_true (is_above p node touch) (λ h. above_none p c.found (nodes_of c) goes_on.independent node touch stands seen h)))

  module _ (c other : Progress) where
    -- the five parts of an overlap
    pub record Apart : Type 0 where
      pub touches : (one two : List ℕ) → Contains c.found one → Contains other.found two → one ≢ two
      pub above : (node touch : List ℕ) → Contains (nodes_of c) node → Contains other.found touch → is_above p node touch ≡ false
      pub below : (node touch : List ℕ) → Contains (nodes_of other) node → Contains c.found touch → is_above p node touch ≡ false
      pub before : (node later : List ℕ) → Contains (nodes_of c) node → Contains (nodes_of other) later → is_prefix node later ≡ false
      pub behind : (node later : List ℕ) → Contains (nodes_of other) node → Contains (nodes_of c) later → is_prefix node later ≡ false

    pub apart_parts : shards_overlap p c other ≡ false → Apart
    apart_parts none =
        let one = or_parts (share_a_touch c other) (has_above p c other || (has_above p other c || (has_before c other || has_before other c))) none in
        let two = or_parts (has_above p c other) (has_above p other c || (has_before c other || has_before other c)) one.1 in
        let three = or_parts (has_above p other c) (has_before c other || has_before other c) two.1 in
        let four = or_parts (has_before c other) (has_before other c) three.1 in
        record {
          touches = λ touch found seen there same.
              true≢false (sym (words_same touch found same) ∙ no_pair (pointwise nat_eq) c.found other.found one.0 touch found seen there);
          above = no_pair (is_above p) (nodes_of c) other.found two.0;
          below = no_pair (is_above p) (nodes_of other) c.found three.0;
          before = no_pair is_prefix (nodes_of c) (nodes_of other) four.0;
          behind = no_pair is_prefix (nodes_of other) (nodes_of c) four.1;
        }

    parts_apart : Apart → shards_overlap p c other ≡ false
    parts_apart apart =
        or_from (share_a_touch c other) (has_above p c other || (has_above p other c || (has_before c other || has_before other c)))
        (pair_none (pointwise nat_eq) c.found other.found (λ touch found seen there.
        false_from_ne_true (pointwise nat_eq touch found) (λ h. apart.touches touch found seen there (same_words touch found h))))
        (or_from (has_above p c other) (has_above p other c || (has_before c other || has_before other c))
        (pair_none (is_above p) (nodes_of c) other.found apart.above)
        (or_from (has_above p other c) (has_before c other || has_before other c)
        (pair_none (is_above p) (nodes_of other) c.found apart.below)
        (or_from (has_before c other) (has_before other c)
        (pair_none is_prefix (nodes_of c) (nodes_of other) apart.before)
        (pair_none is_prefix (nodes_of other) (nodes_of c) apart.behind))))

    abbrev pub ItemsApart : Type 0
    ItemsApart = (x y : Item) → Contains (shard_items p c) x → Contains (shard_items p other) y → meet x y ≡ false

    items_apart : CanGoOn p c.found c.jobs → CanGoOn p other.found other.jobs → Apart → ItemsApart
    items_apart one two apart x y held there =
        elim (Contains-append_cases (map (of_found p) c.found) (map of_node (nodes_of c)) x held) [
          | inl seen ↦
              let (touch, found, is) = map_held (of_found p) c.found x seen in
              ap (λ z. meet z y) (sym is) ∙ elim (Contains-append_cases (map (of_found p) other.found) (map of_node (nodes_of other)) y there) [
                | inl also ↦
                    let (second, too, are) = map_held (of_found p) other.found y also in
                    ap (meet (of_found p touch)) (sym are) ∙ found_found touch second
                    (held_all (Kept p) c.found one.kept touch found) (held_all (Kept p) other.found two.kept second too) (apart.touches touch second found too)
                | inr also ↦
                    let (node, too, are) = map_held of_node (nodes_of other) y also in
                    ap (meet (of_found p touch)) (sym are) ∙ found_node touch node (apart.below node touch too found)
              ]
          | inr seen ↦
              let (node, stands, is) = map_held of_node (nodes_of c) x seen in
              ap (λ z. meet z y) (sym is) ∙ elim (Contains-append_cases (map (of_found p) other.found) (map of_node (nodes_of other)) y there) [
                | inl also ↦
                    let (touch, too, are) = map_held (of_found p) other.found y also in
                    ap (meet (of_node node)) (sym are) ∙ node_found node touch (apart.above node touch stands too)
                | inr also ↦
                    let (second, too, are) = map_held of_node (nodes_of other) y also in
                    ap (meet (of_node node)) (sym are) ∙ node_node node second
                    (or_from (is_prefix node second) (is_prefix second node) (apart.before node second stands too) (apart.behind second node too stands))
              ]
        ]

    touch_item : (d : Progress) (touch : List ℕ) → Contains d.found touch → Contains (shard_items p d) (of_found p touch)
    touch_item d touch held =
        Contains-append_left (map (of_found p) d.found) (map of_node (nodes_of d)) (of_found p touch) (held_map (of_found p) d.found touch held)

    node_item : (d : Progress) (node : List ℕ) → Contains (nodes_of d) node → Contains (shard_items p d) (of_node node)
    node_item d node held =
        Contains-append_right (map (of_found p) d.found) (map of_node (nodes_of d)) (of_node node) (held_map of_node (nodes_of d) node held)

    apart_of_items : ItemsApart → Apart
    apart_of_items items = record {
      touches = λ one two held there same.
          let none = items (of_found p one) (of_found p two) (touch_item c one held) (touch_item other two there) in
          let parts = or_parts (pointwise nat_eq (part_of p one) (part_of p two)) (pointwise nat_eq (part_of p two) (part_of p one)) none in
          true≢false (sym (words_same (part_of p one) (part_of p two) (ap (part_of p) same)) ∙ parts.0);
      above = λ node touch held there.
          let none = items (of_node node) (of_found p touch) (node_item c node held) (touch_item other touch there) in
          (or_parts (is_above p node touch) false (or_parts (is_above p node touch || false) false none).0).0;
      below = λ node touch held there.
          let none = items (of_found p touch) (of_node node) (touch_item c touch there) (node_item other node held) in
          (or_parts (is_above p node touch) false none).0;
      before = λ node later held there.
          let none = items (of_node node) (of_node later) (node_item c node held) (node_item other later there) in
          (or_parts (is_prefix node later) false (or_parts (is_prefix node later || false) (is_prefix later node || false) none).0).0;
      behind = λ node later held there.
          let none = items (of_node later) (of_node node) (node_item c later there) (node_item other node held) in
          (or_parts (is_prefix node later) false (or_parts (is_prefix later node || false) (is_prefix node later || false) none).1).0;
    }

  -- no two shards overlap exactly where no two of their items meet
  pub none_overlap : (shards : List Progress) → NoneMeet (all_items p shards) → NoneOverlap p shards
  none_overlap shards none i j d less inside =
      parts_apart (get_or shards i d) (get_or shards j d)
      (apart_of_items (get_or shards i d) (get_or shards j d) (spread_cross meet (shard_items p) shards none i j d less inside))

  pub none_meet : (shards : List Progress) → CanMeet p shards → NoneOverlap p shards → NoneMeet (all_items p shards)
  none_meet shards can apart =
      spread_from meet (shard_items p) shards (λ k d inside. own_apart (get_or shards k d) (can k d inside))
      (λ i j d less inside.
      let before : i < length shards = omega arith in
      items_apart (get_or shards i d) (get_or shards j d) (can i d before) (can j d inside)
      (apart_parts (get_or shards i d) (get_or shards j d) (apart i j d less inside)))
