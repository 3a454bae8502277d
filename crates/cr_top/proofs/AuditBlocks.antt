-- A text that is asked from block to block has one last answer.
use Rattle.std.proofs.Common.{◌≡◌, ℕ, ◌+◌, ◌<◌, ◌≤◌, ◌⊎◌, inl, inr, List, [], ◌∷◌, ◌++◌, length, drop, refl, sym, ap, ap₂, ◌∙◌, subst, arith, length-append, append_assoc, append-nil}
use Rattle.std.specs.Prelude.{All, codes}
use Rattle.std.proofs.lemmas.List.Elements.{All-head, All-tail}
use Rattle.std.proofs.Math.Seq.{drop-append_seam}
use Rattle.cr_model.specs.Checkpoints.{number_line}
use Rattle.cr_store.specs.Blocks.{block, blocks, IsBody, IsNext}
use Rattle.cr_store.specs.declared.blocks.Next.{Next}
use Rattle.cr_store.specs.declared.blocks.Next.TheVariants as next
use Rattle.cr_shard.specs.JoinFaults.{AreBodies}
use Rattle.cr_trail.proofs.Cutting.{OneAnswer, one_body}
use Rattle.cr_top.specs.Audited.{IsLastAnswer, EndsBehind, IsWrongPlace, NotThree}

-- blocks and what is behind them go on with blocks to other blocks and what is behind those
abbrev GoesOn : List (List ℕ) → List (List ℕ) → List ℕ → List ℕ → Type 0
GoesOn xs ys r s = (after : List (List ℕ)) × (ys ≡ xs ++ after) × (r ≡ blocks after ++ s) × All IsBody after

-- the answer at the block of a body
abbrev block_at : ℕ → List ℕ → Next
block_at at body = next.Block (at + length (number_line (codes "block") (length body))) (length body)

at_most_three : (many : ℕ) (last : Next) → IsLastAnswer many last → many ≤ 3
at_most_three many (next.Block place size) is = omega (arith, is)
at_most_three many next.End is = is
at_most_three many next.Torn is = is
at_most_three many (next.Form place) is = is

module _ (law : OneAnswer) where
  -- of two readings of a text as blocks, one goes on with more of them
  front : (xs ys : List (List ℕ)) (r s : List ℕ) → All IsBody xs → All IsBody ys → blocks xs ++ r ≡ blocks ys ++ s
      → GoesOn xs ys r s ⊎ GoesOn ys xs s r
  front [] ys r s are all same = inl (ys, refl, same, all)
  front (x ∷ xs) [] r s are all same = inr (x ∷ xs, refl, sym same, are)
  front (x ∷ xs) (y ∷ ys) r s are all same =
      let both = one_body law x y (blocks xs ++ r) (blocks ys ++ s) (All-head IsBody x xs are) (All-head IsBody y ys all)
      (sym (append_assoc (block x) (blocks xs) r) ∙ same ∙ append_assoc (block y) (blocks ys) s) in
      elim (front xs ys r s (All-tail IsBody x xs are) (All-tail IsBody y ys all) both.1) [
        | inl more ↦ inl (more.0, ap₂ (λ z zs. z ∷ zs) (sym both.0) more.1, more.2, more.3)
        | inr more ↦ inr (more.0, ap₂ (λ z zs. z ∷ zs) both.0 more.1, more.2, more.3)
      ]

  module _ (text : List ℕ) where
    -- behind fewer blocks stands a block
    longer : (xs ys : List (List ℕ)) (a b : Next) (one : EndsBehind text xs a) (other : EndsBehind text ys b) → GoesOn xs ys one.rest other.rest
        → (xs ≡ ys) × (a ≡ b)
    longer xs ys a b one other ([], same, rest, are) =
        let lists : xs ≡ ys = sym (same ∙ append-nil xs) in
        (lists, law text (length (blocks ys)) a b (subst (λ (zs : List (List ℕ)). IsNext text (length (blocks zs)) a) lists one.here) other.here)
    longer xs ys a b one other (c ∷ after, same, rest, are) =
        absurd (omega (arith, three, at_most_three (length ys) b other.asked, ap length same, length-append xs (c ∷ after)))
      where
        there : drop (length (blocks xs)) text ≡ block c ++ (blocks after ++ other.rest)
        there = ap (drop (length (blocks xs))) one.is ∙ drop-append_seam (blocks xs) one.rest ∙ rest ∙ append_assoc (block c) (blocks after) other.rest

        is_block : a ≡ block_at (length (blocks xs)) c
        is_block = law text (length (blocks xs)) a (block_at (length (blocks xs)) c) one.here
            (c, record { size = All-head IsBody c after are; rest = blocks after ++ other.rest; is = there }, refl, refl)

        three : length xs ≡ 3
        three = subst (IsLastAnswer (length xs)) is_block one.asked

    pub one_end : (xs ys : List (List ℕ)) (a b : Next) → EndsBehind text xs a → EndsBehind text ys b → (xs ≡ ys) × (a ≡ b)
    one_end xs ys a b one other =
        elim (front xs ys one.rest other.rest one.are other.are (sym one.is ∙ other.is)) [
          | inl more ↦ longer xs ys a b one other more
          | inr more ↦ let same = longer ys xs b a other one more in (sym same.0, sym same.1)
        ]

    -- three blocks end behind the third
    ends_three : (x y z : List ℕ) → AreBodies text (x ∷ y ∷ z ∷ []) → EndsBehind text (x ∷ y ∷ z ∷ []) next.End
    ends_three x y z are = record {
      are = are.are;
      rest = [];
      is = are.is ∙ sym (append-nil (blocks (x ∷ y ∷ z ∷ [])));
      here = sym (ap length are.is);
      asked = omega arith;
    }

    pub one_three : (x y z u v w : List ℕ) → AreBodies text (x ∷ y ∷ z ∷ []) → AreBodies text (u ∷ v ∷ w ∷ [])
        → (x ∷ y ∷ z ∷ []) ≡ (u ∷ v ∷ w ∷ [])
    one_three x y z u v w one other =
        (one_end (x ∷ y ∷ z ∷ []) (u ∷ v ∷ w ∷ []) next.End next.End (ends_three x y z one) (ends_three u v w other)).0

    -- they are no text that is not three blocks
    right : (many at size place : ℕ) (last : Next) → many ≡ 3 → last ≡ next.End → IsWrongPlace many at size last place → ⊥
    right many at size place last three is wrong =
        let early : (many < 3) × (place ≡ size) = subst (λ l. IsWrongPlace many at size l place) is wrong in
        omega (arith, early.0, three)

    pub three_or_not : (x y z : List ℕ) (place : ℕ) → AreBodies text (x ∷ y ∷ z ∷ []) → NotThree text place → ⊥
    three_or_not x y z place are not =
        let same = one_end not.before (x ∷ y ∷ z ∷ []) not.last next.End not.ends (ends_three x y z are) in
        right (length not.before) (length (blocks not.before)) (length text) place not.last (ap length same.0) same.1 not.wrong

    same_place : (many at size place other : ℕ) (last : Next) → IsWrongPlace many at size last place → IsWrongPlace many at size last other → place ≡ other
    same_place many at size place other (next.Block behind long) one two = one ∙ sym two
    same_place many at size place other next.End one two = one.1 ∙ sym two.1
    same_place many at size place other next.Torn one two = one ∙ sym two
    same_place many at size place other (next.Form wrong) one two = one ∙ sym two

    pub one_place : (place other : ℕ) → NotThree text place → NotThree text other → place ≡ other
    one_place place other one two =
        let same = one_end one.before two.before one.last two.last one.ends two.ends in
        let moved : IsWrongPlace (length two.before) (length (blocks two.before)) (length text) one.last place =
        subst (λ (zs : List (List ℕ)). IsWrongPlace (length zs) (length (blocks zs)) (length text) one.last place) same.0 one.wrong in
        same_place (length two.before) (length (blocks two.before)) (length text) place other two.last
        (subst (λ l. IsWrongPlace (length two.before) (length (blocks two.before)) (length text) l place) same.1 moved) two.wrong
