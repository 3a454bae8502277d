-- What a log proves is the book: each kept touch is that of an open node.
use Rattle.std.proofs.Common.{◌≡◌, ℕ, ◌<◌, ◌⊎◌, ◌↔◌, ◌/◌, zero, suc, true, List, [], ◌∷◌, ◌++◌, length, get_or, All, Contains, inl, inr, refl, sym, ap, ◌∙◌, subst, arith, append-nil, append_assoc, length-append}
use Rattle.std.specs.List.{range_with_len}
use Rattle.std.proofs.lemmas.List.{get_or-map, length-map}
use Rattle.std.proofs.lemmas.List.Elements.{All-head, All-tail, All-take, Contains-append_left, Contains-append_right, Contains-append_cases}
use Rattle.std.proofs.lemmas.List.FromFn.{get_or-range_with_len, length-range_with_len}
use Rattle.cr_model.specs.Problems.{ProblemParts}
use Rattle.cr_model.specs.Callings.{HasSteps}
use Rattle.cr_model.specs.Queries.{repeated, Meets}
use Rattle.cr_model.specs.Touches.{Kept}
use Rattle.cr_model.specs.Nodes.{part_of, is_prefix, IsAbove, Covers}
use Rattle.cr_model.specs.Books.{IsBook}
use Rattle.cr_model.specs.Sizes.{child, children}
use Rattle.cr_model.specs.Dead.{parts_of}
use Rattle.cr_audit.specs.declared.verdict.Verdict.{Verdict}
use Rattle.cr_audit.specs.declared.verdict.Verdict.TheVariants as verdict
use Rattle.cr_audit.specs.Verdicts.{HoldsVerdict}
use Rattle.cr_audit.specs.Logs.{LineParts, opened_by, AreDue, IsTrueLine, IsOpened, Proves}
use Rattle.cr_audit.proofs.Cutting.{Reasons, closed}

-- what stands in a list
pub none_held : {X : Type 0} (x : X) → Contains [] x → ⊥
none_held x held = let inside : held.0 < 0 = held.1 in absurd (omega arith)

pub one_held : {X : Type 0} (y x : X) → Contains (y ∷ []) x → y ≡ x
one_held y x held = by held.0 held.1 held.2
  where
    by : (k : ℕ) → k < 1 → get_or (y ∷ []) k x ≡ x → y ≡ x
    by zero inside e = e
    by (suc k) inside e = absurd (omega arith)

pub first_held : {X : Type 0} (y x : X) (xs : List X) → y ≡ x → Contains (y ∷ xs) x
first_held y x xs e = (0, omega arith, e)

-- each step's child is one of the children
child_held : (p : ProblemParts) (node : List ℕ) (step : ℕ) → step < length p.leads → Contains (children p node) (child node step)
child_held p node step inside = (
  step,
  omega (arith, length-map (range_with_len 0 (length p.leads)) (child node), length-range_with_len 0 (length p.leads)),
  get_or-map (child node) (range_with_len 0 (length p.leads)) step step (child node step) (omega (arith, length-range_with_len 0 (length p.leads)))
      ∙ ap (child node) (get_or-range_with_len 0 (length p.leads) step step (omega arith) ∙ omega arith),
)

-- what stands behind a list
step_behind : (front : List ℕ) (step : ℕ) (rest : List ℕ) → get_or (front ++ step ∷ rest) (length front) 0 ≡ step
step_behind [] step rest = refl
step_behind (x ∷ front) step rest = step_behind front step rest

-- a verdict is `open`, or it is not
open_or_not : (why : Verdict) → (why ≡ verdict.Open) ⊎ (why ≡ verdict.Open → ⊥)
open_or_not verdict.Open = inl refl
open_or_not verdict.Long = inr (λ e. absurd (cc))
open_or_not (verdict.Again i j) = inr (λ e. absurd (cc))
open_or_not (verdict.Home i) = inr (λ e. absurd (cc))
open_or_not (verdict.Many of) = inr (λ e. absurd (cc))
open_or_not (verdict.Few of) = inr (λ e. absurd (cc))
open_or_not (verdict.Back k) = inr (λ e. absurd (cc))

-- what the model says of nodes above touches
pub record Touching (p : ProblemParts) : Type 0 where
  pub reasons : Reasons p
  pub begins : (node steps : List ℕ) → (is_prefix node steps ≡ true) ↔ ((rest : List ℕ) × (steps ≡ node ++ rest))
  pub whole : (calling : List ℕ) → Meets p calling → calling ≡ repeated (parts_of p) (part_of p calling)

-- of more lines
opened_later : (p : ProblemParts) (line : LineParts) (lines : List LineParts) (calling : List ℕ) → IsOpened p lines calling → IsOpened p (line ∷ lines) calling
opened_later p line lines calling opened = record {
  node = opened.node;
  stands = Contains-append_right (line ∷ []) lines (record { node = opened.node; verdict = verdict.Open }) opened.stands;
  is = opened.is;
}

module _ (p : ProblemParts) (facts : Touching p) (calling : List ℕ) (kept : Kept p calling) where
  -- an open node above the touch is the touch's part, or a child of it is above the touch
  opened_here : (node : List ℕ) (line : LineParts) (lines : List LineParts) → line.node ≡ node → line.verdict ≡ verdict.Open → IsAbove p node calling
      → ((next : List ℕ) → Contains (children p node) next → IsAbove p next calling → IsOpened p lines calling) → IsOpened p (line ∷ lines) calling
  opened_here node line lines same opens above onward =
      let (rest, part) = (facts.begins node (part_of p calling)).0 above in
      by rest part
    where
      by : (rest : List ℕ) → part_of p calling ≡ node ++ rest → IsOpened p (line ∷ lines) calling
      by [] part = record {
        node = node;
        stands = first_held line (record { node = node; verdict = verdict.Open }) lines (λ i. record { node = same i; verdict = opens i });
        is = facts.whole calling kept.wanted.meets ∙ ap (repeated (parts_of p)) (part ∙ append-nil node);
      }
      by (step ∷ rest) part =
          let steps : HasSteps p (node ++ step ∷ rest) = subst (HasSteps p) part (All-take (λ s. s < length p.leads) (length calling / parts_of p) calling kept.wanted.steps) in
          let at : get_or (node ++ step ∷ rest) (length node) 0 ≡ step = step_behind node step rest in
          let known : step < length p.leads = subst (λ (s : ℕ). s < length p.leads) at (steps (length node) 0 (omega (arith, length-append node (step ∷ rest)))) in
          opened_later p line lines calling (onward (child node step) (child_held p node step known)
          ((facts.begins (child node step) (part_of p calling)).1 (rest, part ∙ sym (append_assoc node (step ∷ []) rest))))

  -- where a node that is due is above the touch, an open line has its part
  found : (due : List (List ℕ)) (lines : List LineParts) → AreDue p due lines [] → All (IsTrueLine p) lines
      → (node : List ℕ) → Contains due node → IsAbove p node calling → IsOpened p lines calling
  found due [] order true_lines node held above = absurd (none_held node (subst (λ (l : List (List ℕ)). Contains l node) order held))
  found [] (line ∷ lines) order true_lines node held above = absurd order
  found (first ∷ due) (line ∷ lines) order true_lines node held above =
      by (found (opened_by p first line.verdict ++ due) lines order.1 (All-tail (IsTrueLine p) line lines true_lines)) (Contains-append_cases (first ∷ []) due node held)
    where
      by : ((next : List ℕ) → Contains (opened_by p first line.verdict ++ due) next → IsAbove p next calling → IsOpened p lines calling)
          → Contains (first ∷ []) node ⊎ Contains due node → IsOpened p (line ∷ lines) calling
      by later (inr behind) = opened_later p line lines calling (later node (Contains-append_right (opened_by p first line.verdict) due node behind) above)
      by later (inl here) =
          let same : line.node ≡ node = order.0 ∙ one_held first node here in
          let holds : HoldsVerdict p node line.verdict = subst (λ n. HoldsVerdict p n line.verdict) same (All-head (IsTrueLine p) line lines true_lines) in
          elim (open_or_not line.verdict) [
            | inl opens ↦ opened_here node line lines same opens above (λ next one over.
                later next (Contains-append_left (opened_by p first line.verdict) due next
                (subst (λ (l : List (List ℕ)). Contains l next) (ap (children p) (sym (one_held first node here)) ∙ sym (ap (opened_by p first) opens)) one)) over)
            | inr closes ↦ absurd (closed p node facts.reasons line.verdict holds closes calling kept above)
          ]

-- the law
pub proved_is_book : (p : ProblemParts) → Touching p → ((calling : List ℕ) → Covers p [] ([] ∷ []) calling ↔ Kept p calling)
    → (log : List ℕ) (touches : List (List ℕ)) → Proves p log touches → IsBook p [] ([] ∷ []) touches
proved_is_book p facts covered log touches proved = record {
  ascending = proved.ascending;
  covered = λ calling. (
    λ held. (covered calling).1 ((proved.each calling).0 held).1,
    λ covers.
        let kept : Kept p calling = (covered calling).0 covers in
        (proved.each calling).1 (
          found p facts calling kept ([] ∷ []) proved.lines proved.whole proved.verdicts [] (first_held [] [] [] refl) refl,
          kept,
        ),
  );
}
