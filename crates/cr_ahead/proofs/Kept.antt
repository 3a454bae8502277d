-- The kept touches below a node come home.
use Rattle.std.proofs.Common.{◌≡◌, ℕ, zero, suc, ◌*◌, ◌≤◌, true, ℤ, pos, ◌≤ℤ◌, ◌<ℤ◌, List, ◌++◌, inl, inr, sym, ap, ◌∙◌, subst, arith}
use Rattle.std.proofs.lemmas.Int.{ints}
use Rattle.std.proofs.lemmas.List.Elements.{All-contains}
use Rattle.cr_model.specs.Problems.{ProblemParts}
use Rattle.cr_model.specs.Callings.{rows_of, length_of, head_of, AllDiffer}
use Rattle.cr_model.specs.Queries.{cap}
use Rattle.cr_model.specs.Touches.{Kept}
use Rattle.cr_model.specs.Nodes.{IsAbove}
use Rattle.cr_model.specs.Sound.{IsSound, sound_range}
use Rattle.cr_model.specs.Dead.{HasNoneBelow, parts_of}
use Rattle.cr_model.proofs.Below.{Below, below, words_length, rest_steps}
use Rattle.cr_ahead.specs.Home.{touch_with, IsWayHome, HasNoWayHome}
use Rattle.cr_ahead.specs.Items.{Item, items_of, number_with, CannotMeet, cannot_come, CannotCome}
use Rattle.cr_ahead.proofs.Home.{come_decided}
use Rattle.cr_ahead.proofs.Items.{Within, items_within}
use Rattle.cr_ahead.proofs.Powers.{HeadsMultiply, repeated_head, round_at_end}

-- a part has some changes
some_changes : (least : ℤ) (all parts long : ℕ) → pos 1 ≤ℤ least → least ≤ℤ pos all → all ≡ parts * long → 1 ≤ long
some_changes least all parts zero from reached long = absurd (omega (arith, ints))
some_changes least all parts (suc n) from reached long = omega arith

-- below a node
module _ (joined : HeadsMultiply) (p : ProblemParts) (node calling : List ℕ) (sound : IsSound p) (is : Below p node calling) where
  pub kept_way : IsWayHome p node is.rest
  kept_way =
      let long : length_of p calling ≡ parts_of p * length_of p (node ++ is.rest) = ap (length_of p) is.whole ∙ words_length p 0 (parts_of p) (node ++ is.rest) in
      let some : 1 ≤ length_of p (node ++ is.rest) =
      some_changes p.query.min (length_of p calling) (parts_of p) (length_of p (node ++ is.rest)) (sound_range p sound).from is.kept.wanted.meets.long long in
      record {
        steps = rest_steps p node calling sound is;
        long = subst (λ (c : List ℕ). p.query.min ≤ℤ pos (length_of p c)) is.whole is.kept.wanted.meets.long;
        short = subst (λ (c : List ℕ). length_of p c ≤ cap p) is.whole is.kept.wanted.meets.short;
        ends = record {
          round = sym (repeated_head joined p (node ++ is.rest) (parts_of p)) ∙ ap (head_of p) (sym is.whole) ∙ is.kept.wanted.touch.round;
          not_before = round_at_end joined p (node ++ is.rest) (parts_of p) some
              (ap (head_of p) (sym is.whole) ∙ is.kept.wanted.touch.round) (subst (λ (c : List ℕ). AllDiffer (rows_of p c)) is.whole is.kept.wanted.touch.differ);
        };
      }

  -- no item that it cannot meet is one of the query's
  pub not_cannot_meet : (item : Item) → Within calling item → CannotMeet p node item → ⊥
  not_cannot_meet item within cannot =
      let same : item.number_of calling ≡ number_with p node item is.rest = omega (arith, ap item.number_of is.whole) in
      elim cannot [
        | inl above ↦ let over : item.max <ℤ pos (number_with p node item is.rest) = above is.rest kept_way in
            let under : pos (item.number_of calling) ≤ℤ item.max = within.at_most in absurd (omega (arith, ints))
        | inr below_it ↦ let under : pos (number_with p node item is.rest) <ℤ item.min = below_it is.rest kept_way in
            let over : item.min ≤ℤ pos (item.number_of calling) = within.at_least in absurd (omega (arith, ints))
      ]

  pub not_cannot_come : CannotCome p node → ⊥
  not_cannot_come cannot = elim cannot [
    | inl none ↦ none is.rest kept_way
    | inr any ↦ not_cannot_meet any.1 (All-contains (Within calling) (items_of p) any.1 (items_within p calling is.kept.wanted.meets) (any.0, any.2, any.3)) any.4
  ]

-- a kept touch comes home
pub comes_home : HeadsMultiply → (p : ProblemParts) (node calling : List ℕ) → IsSound p → Kept p calling → IsAbove p node calling
    → (way : List ℕ) × IsWayHome p node way × (calling ≡ touch_with p node way)
comes_home joined p node calling sound kept above =
    let is = below p node calling sound kept above in
    (is.rest, kept_way joined p node calling sound is, is.whole)

-- so none is below a node without a way home, or that cannot come to what is asked
pub none_without_way : HeadsMultiply → (p : ProblemParts) (node : List ℕ) → IsSound p → HasNoWayHome p node → HasNoneBelow p node
none_without_way joined p node sound none calling kept above =
    let is = below p node calling sound kept above in
    none is.rest (kept_way joined p node calling sound is)

pub none_below : HeadsMultiply → (p : ProblemParts) (node : List ℕ) → IsSound p → cannot_come p node ≡ true → HasNoneBelow p node
none_below joined p node sound cannot calling kept above =
    not_cannot_come joined p node calling sound (below p node calling sound kept above) ((come_decided p node sound).0 cannot)
