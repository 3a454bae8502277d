-- The first item, from the first of each kind.
use Rattle.std.proofs.Common.{◌≡◌, ℕ, ◌+◌, ◌-◌, ◌*◌, ◌<◌, Bool, true, false, cond, ◌&&◌, nat_lt, List, [], length, get_or, refl, sym, ◌∙◌, subst, inl, inr}
use Rattle.std.proofs.lemmas.List.{get_or_default}
use Rattle.cr_model.specs.Problems.{PatternParts, ProblemParts}
use Rattle.cr_model.specs.Callings.{rows_of, length_of}
use Rattle.cr_model.specs.Queries.{cap, leads_marked, rows_fitting}
use Rattle.cr_model.specs.Dead.{parts_of, leads_left}
use Rattle.cr_model.specs.Right.{count_at, pattern_at}
use Rattle.std.specs.Prelude.{Some, None, pos, int_lt}
use Rattle.std.proofs.lemmas.Bool.{false≢true, ltb-true, cases_lt, lt-ltb, le-ltb}
use Rattle.cr_audit.specs.declared.verdict.Item.{Item}
use Rattle.cr_audit.specs.declared.verdict.Item.TheVariants as item
use Rattle.cr_log.specs.FirstVerdicts.{comes_first, IsLeast, IsFirstItem, is_missed}

module _ (test : Item → Bool) where
  pub first_by_count : (i : ℕ) → IsLeast (λ n. test (item.Count n)) (Some i) → IsFirstItem test (Some (item.Count i))
  first_by_count i least = (least.0, none)
    where
      none : (other : Item) → comes_first other (item.Count i) ≡ true → test other ≡ false
      none (item.Count j) h = least.1 j h
      none (item.Leads j) h = absurd (false≢true h)
      none (item.Rows j) h = absurd (false≢true h)
      none item.Com h = absurd (false≢true h)

  module _ (no_count : (n : ℕ) → test (item.Count n) ≡ false) where
    pub first_by_method : (i : ℕ) → IsLeast (λ n. test (item.Leads n)) (Some i) → IsFirstItem test (Some (item.Leads i))
    first_by_method i least = (least.0, none)
      where
        none : (other : Item) → comes_first other (item.Leads i) ≡ true → test other ≡ false
        none (item.Count j) h = no_count j
        none (item.Leads j) h = least.1 j h
        none (item.Rows j) h = absurd (false≢true h)
        none item.Com h = absurd (false≢true h)

    module _ (no_method : (n : ℕ) → test (item.Leads n) ≡ false) where
      pub first_by_pattern : (i : ℕ) → IsLeast (λ n. test (item.Rows n)) (Some i) → IsFirstItem test (Some (item.Rows i))
      first_by_pattern i least = (least.0, none)
        where
          none : (other : Item) → comes_first other (item.Rows i) ≡ true → test other ≡ false
          none (item.Count j) h = no_count j
          none (item.Leads j) h = no_method j
          none (item.Rows j) h = least.1 j h
          none item.Com h = absurd (false≢true h)

      module _ (no_pattern : (n : ℕ) → test (item.Rows n) ≡ false) where
        pub first_by_com : test item.Com ≡ true → IsFirstItem test (Some item.Com)
        first_by_com here = (here, none)
          where
            none : (other : Item) → comes_first other item.Com ≡ true → test other ≡ false
            none (item.Count j) h = no_count j
            none (item.Leads j) h = no_method j
            none (item.Rows j) h = no_pattern j
            none item.Com h = absurd (false≢true h)

        pub no_item : test item.Com ≡ false → IsFirstItem test None
        no_item none (item.Count j) = no_count j
        no_item none (item.Leads j) = no_method j
        no_item none (item.Rows j) = no_pattern j
        no_item none item.Com = none

-- an item at an index is one of the list's, and the side of it that is asked decides
pub missed_at : (few inside one other answer : Bool) → inside ≡ true → answer ≡ cond few one other → cond few (inside && one) (inside && other) ≡ answer
missed_at true true one other answer h is = sym is
missed_at false true one other answer h is = sym is
missed_at few false one other answer h is = absurd (false≢true h)

pub missed_past : (few inside one other : Bool) → inside ≡ false → cond few (inside && one) (inside && other) ≡ false
missed_past true false one other h = refl
missed_past false false one other h = refl
missed_past few true one other h = absurd (false≢true (sym h))

-- the least number that passes, where none before it does, and none passes
pub least_at : (test : ℕ → Bool) (i : ℕ) → test i ≡ true → ((j : ℕ) → j < i → test j ≡ false) → IsLeast test (Some i)
least_at test i here before = (here, λ j h. before j (ltb-true j i h))

pub least_none : (test : ℕ → Bool) (n : ℕ) → ((j : ℕ) → j < n → test j ≡ false) → ((j : ℕ) → nat_lt j n ≡ false → test j ≡ false) → IsLeast test None
least_none test n below beyond j = elim (cases_lt j n) [
  | inl less ↦ below j less
  | inr more ↦ beyond j (le-ltb j n more)
]

module _ (p : ProblemParts) (node : List ℕ) (few : Bool) where
  pub count_kept : (i : ℕ) (answer : Bool) → i < length p.query.counts
      → answer ≡ cond few (int_lt (pos (parts_of p * (leads_marked p (count_at p.query.counts i).mark node + leads_left p node))) (count_at p.query.counts i).min)
      (int_lt (count_at p.query.counts i).max (pos (parts_of p * leads_marked p (count_at p.query.counts i).mark node)))
      → answer ≡ false → is_missed p node few (item.Count i) ≡ false
  count_kept i answer inside told fails = missed_at few (nat_lt i (length p.query.counts)) _ _ answer (lt-ltb i (length p.query.counts) inside) told ∙ fails

  pub pattern_kept : (i : ℕ) (answer : Bool) (pattern : PatternParts) → i < length p.query.patterns → pattern ≡ get_or p.query.patterns i pattern
      → answer ≡ cond few (int_lt (pos (rows_fitting pattern.cells (rows_of p node) + (cap p - length_of p node))) pattern.min) (int_lt pattern.max (pos (rows_fitting pattern.cells (rows_of p node))))
      → answer ≡ false → is_missed p node few (item.Rows i) ≡ false
  pattern_kept i answer pattern inside is told fails =
      let same : pattern ≡ pattern_at p.query.patterns i = is ∙ get_or_default p.query.patterns i pattern (record { cells = []; min = pos 0; max = pos 0 }) inside in
      missed_at few (nat_lt i (length p.query.patterns)) _ _ answer (lt-ltb i (length p.query.patterns) inside)
      (subst (λ (q : PatternParts). answer ≡ cond few (int_lt (pos (rows_fitting q.cells (rows_of p node) + (cap p - length_of p node))) q.min) (int_lt q.max (pos (rows_fitting q.cells (rows_of p node))))) same told)
      ∙ fails
