-- The numbers of a node's leads tell of its rows.
use Rattle.std.proofs.Common.{◌≡◌, ℕ, zero, suc, ◌+◌, ◌*◌, ◌<◌, ◌≤◌, ◌||◌, Bool, List, [], ◌∷◌, ◌++◌, length, get_or, take, refl, sym, ap, ap₂, ◌∙◌, subst, arith}
use Rattle.std.specs.Cmp.Lexicographic.{pointwise}
use Rattle.std.specs.List.{list_any}
use Rattle.std.specs.Prelude.{nat_eq}
use Rattle.std.proofs.lemmas.List.{take_more, take_all}
use Rattle.std.proofs.lemmas.List.Folds.{list_any-append}
use Rattle.cr_row.specs.Rows.{rounds}
use Rattle.cr_model.specs.Problems.{ProblemParts}
use Rattle.cr_model.specs.Callings.{rows_of, head_of}
use Rattle.cr_model.specs.Levels.{is_listed}
use Rattle.cr_model.specs.Nodes.{IsValid}
use Rattle.cr_path.specs.declared.walks.ends.LeadEnd.{LeadEnd}
use Rattle.cr_path.specs.declared.numbers.table.LeadRecord.{LeadRecord}
use Rattle.cr_path.specs.Ends.{IsEnd, AreEnds}
use Rattle.cr_path.specs.Marks.{IsLead, AreOf, TellOf}
use Rattle.cr_path.specs.Numbers.{NumberParts, lead_from, numbers_of, places_of, base_of, is_seen, IsTold, IsNumbered}
use Rattle.cr_path.proofs.Chained.{places_more}
use Rattle.cr_path.proofs.Children.{child_rows}
use Rattle.cr_path.proofs.Listed.{any_none, listed_joined, or_mixed, seen_joined, any_seen, some_are}
use Rattle.cr_path.proofs.Marking.{within_in}
use Rattle.cr_path.proofs.Places.{record_at, lead_is_told, told_at}

-- what is read past the last end
no_end : LeadEnd
no_end = record { base = 0; rung = 0; left = 0; round = 0 }

-- one of some rows stands among joined rows where it stands among the first or the later ones
any_joined : (rows more others : List (List ℕ)) → list_any (is_listed (rows ++ more)) others ≡ (list_any (is_listed rows) others || list_any (is_listed more) others)
any_joined rows more [] = refl
any_joined rows more (row ∷ others) =
    ap₂ (λ a b. a || b) (listed_joined rows more row) (any_joined rows more others)
    ∙ or_mixed (is_listed rows row) (is_listed more row) (list_any (is_listed rows) others) (list_any (is_listed more) others)

module _ (p : ProblemParts) (t : NumberParts) where
  told_none : IsTold p t [] []
  told_none = record {
    first = refl;
    each = λ head step inside known.
        any_none (numbers_of t (head * t.steps + step)) ∙ sym (any_none (lead_from p (get_or t.heads head []) step));
  }

  told_joined : (places later : List ℕ) (rows more : List (List ℕ)) → IsTold p t places rows → IsTold p t later more → IsTold p t (places ++ later) (rows ++ more)
  told_joined places later rows more one two = record {
    first = seen_joined t places later 0 ∙ ap₂ (λ a b. a || b) one.first two.first ∙ sym (list_any-append (pointwise nat_eq (rounds p.stage)) rows more);
    each = λ head step inside known.
        any_seen t places later (numbers_of t (head * t.steps + step))
        ∙ ap₂ (λ a b. a || b) (one.each head step inside known) (two.each head step inside known)
        ∙ sym (any_joined rows more (lead_from p (get_or t.heads head []) step));
  }

  -- what is told of the rows of leads is told by marks of their numbers
  pub marks_tell : IsNumbered p t → (places : List ℕ) (rows : List (List ℕ)) (marks : List Bool) → IsTold p t places rows → AreOf t places marks → TellOf p t rows marks
  marks_tell numbered places rows marks told are = λ head step inside known.
      some_are t.rows (is_seen t places) marks (numbers_of t (head * t.steps + step)) are (within_in p t numbered (head * t.steps + step))
      ∙ told.each head step inside known

  module _ (numbered : IsNumbered p t) (node : List ℕ) (next : ℕ) (ends : List LeadEnd) (at : AreEnds p t node next ends) (valid : IsValid p node) where
    -- the rows of one lead more
    told_more : (n : ℕ) → n < length node → IsTold p t (places_of t (take n node)) (rows_of p (take n node))
        → IsTold p t (places_of t (take (n + 1) node)) (rows_of p (take (n + 1) node))
    told_more n inside told =
        let step = get_or node n 0 in
        let end = get_or ends n no_end in
        let at_end : IsEnd p t (take n node) end = at.each n no_end (omega (arith, inside)) in
        let known : step < length p.leads = valid.steps n 0 inside in
        let place : end.base + step ≡ base_of t (take n node) + step = ap (λ b. b + step) at_end.by_records in
        subst (λ word. IsTold p t (places_of t word) (rows_of p word)) (sym (take_more node n 0 inside))
        (subst (λ places. IsTold p t places (rows_of p (take n node ++ step ∷ []))) (sym (places_more t 0 (take n node) step))
        (subst (IsTold p t (places_of t (take n node) ++ (base_of t (take n node) + step) ∷ [])) (sym (child_rows p (take n node) step))
        (told_joined (places_of t (take n node)) ((base_of t (take n node) + step) ∷ []) (rows_of p (take n node)) (lead_from p (head_of p (take n node)) step) told
        (subst (λ (k : ℕ). IsTold p t (k ∷ []) (lead_from p (head_of p (take n node)) step)) place
        (lead_is_told t (head_of p (take n node)) end.base at_end.from step p numbered known)))))

    told_first : (n : ℕ) → n ≤ length node → IsTold p t (places_of t (take n node)) (rows_of p (take n node))
    told_first zero within = told_none
    told_first (suc n) within =
        let one : n + 1 ≡ suc n = omega arith in
        subst (λ m. IsTold p t (places_of t (take m node)) (rows_of p (take m node))) one (told_more n (omega (arith, within)) (told_first n (omega (arith, within))))

    pub told_all : IsTold p t (places_of t node) (rows_of p node)
    told_all = subst (λ word. IsTold p t (places_of t word) (rows_of p word)) (take_all (length node) node (omega arith)) (told_first (length node) (omega arith))

    pub told_after : (end : LeadEnd) (step : ℕ) → IsEnd p t node end → step < length p.leads
        → list_any (is_seen t (places_of t node)) (numbers_of t (end.base + step)) ≡ list_any (is_listed (rows_of p node)) (lead_from p (head_of p node) step)
    told_after end step at_end inside = told_at t (head_of p node) end.base at_end.from step p numbered inside (places_of t node) (rows_of p node) told_all

    pub lead_found : (end : LeadEnd) (step place : ℕ) (lead : LeadRecord) → IsEnd p t node end → step < length p.leads → place ≡ end.base + step
        → lead ≡ get_or t.records place lead → IsLead p t node step (end.base + step) lead
    lead_found end step place lead at_end inside place_is is = record {
      known = record_at t (head_of p node) end.base at_end.from step p numbered inside lead lead (is ∙ ap (λ (n : ℕ). get_or t.records n lead) place_is);
      told = told_after end step at_end inside;
    }
