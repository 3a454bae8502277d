-- The texts of steps: whose they are, and what two nodes share.
use Rattle.std.proofs.Common.{◌≡◌, ℕ, zero, suc, ◌+◌, ◌-◌, ◌<◌, ◌≤◌, ◌⊎◌, Bool, true, false, cond, nat_eq, List, [], ◌∷◌, ◌++◌, length, get_or, take, drop, map, min, All, Some, inl, inr, refl, sym, ap, ap₂, ◌∙◌, subst, arith, codes, eqb-true, take-append-drop}
use Rattle.std.specs.List.{slice_get}
use Rattle.std.proofs.lemmas.Bool.{cases_lt}
use Rattle.std.proofs.lemmas.List.{take_at, drop_at, drop_all, length-take, length-drop}
use Rattle.std.proofs.lemmas.List.Elements.{All-head, All-take, All-drop, All-append}
use Rattle.cr_model.specs.Problems.{ProblemParts}
use Rattle.cr_model.specs.Callings.{HasSteps, method_of, mark_of, letter_of}
use Rattle.cr_model.specs.Books.{calling_text}
use Rattle.cr_model.specs.Checkpoints.{steps_text, steps_shared, last_node, nodes_of_jobs}
use Rattle.cr_model.specs.Sound.{IsSound, sound_leads, sound_letters}
use Rattle.cr_model.specs.Limits.{most_leads}
use Rattle.cr_store.specs.Shapes.{NodeParts}
use Rattle.cr_store.specs.Lines.{left_out, IsNodeOf}
use Rattle.cr_store.specs.Reading.{IsStepsText}

-- callings of a problem differ in their texts
abbrev pub OneCalling : ProblemParts → Type 0
OneCalling p = (calling other : List ℕ) → HasSteps p calling → HasSteps p other → calling_text p calling ≡ calling_text p other → calling ≡ other

-- a lead's text begins with a letter
not_dash : (b : Bool) (x y : ℕ) (rest : List ℕ) → 65 ≤ x → 65 ≤ y → cond b (x ∷ y ∷ []) (y ∷ []) ++ rest ≡ codes "-" → ⊥
not_dash true x y rest large other e = let first : x ≡ 45 = ap (λ l. get_or l 0 0) e in absurd (omega arith)
not_dash false x y rest large other e = let first : y ≡ 45 = ap (λ l. get_or l 0 0) e in absurd (omega arith)

module _ (p : ProblemParts) (sound : IsSound p) where
  large_mark : (step : ℕ) → step < length p.leads → 65 ≤ mark_of p step
  large_mark step inside = omega (arith, ((sound_leads p sound).each step inside).from)

  large_letter : (step : ℕ) → step < length p.leads → 65 ≤ letter_of p step
  large_letter step inside = ((sound_letters p sound).each (method_of p step) ((sound_leads p sound).each step inside).known).from

  dash_apart : (step : ℕ) (rest : List ℕ) → HasSteps p (step ∷ rest) → calling_text p (step ∷ rest) ≡ codes "-" → ⊥
  dash_apart step rest known e =
      let inside : step < length p.leads = All-head (λ s. s < length p.leads) step rest known in
      not_dash _ (letter_of p step) (mark_of p step) (calling_text p rest) (large_letter step inside) (large_mark step inside) e

  -- a text is that of one list of steps
  pub one_steps : OneCalling p → (a b : List ℕ) → HasSteps p a → HasSteps p b → steps_text p a ≡ steps_text p b → a ≡ b
  one_steps one [] [] known also e = refl
  one_steps one [] (y ∷ b) known also e = absurd (dash_apart y b also (sym e))
  one_steps one (x ∷ a) [] known also e = absurd (dash_apart x a known e)
  one_steps one (x ∷ a) (y ∷ b) known also e = one (x ∷ a) (y ∷ b) known also e

-- what two nodes share is no longer than either, and begins both
pub record AreShared (before node : List ℕ) (number : ℕ) : Type 0 where
  pub few : number ≤ length before
  pub fits : number ≤ length node
  pub same : take number node ≡ take number before

pub shared : (before node : List ℕ) → AreShared before node (steps_shared before node)
shared [] node = record { few = omega arith; fits = omega arith; same = refl }
shared (x ∷ before) [] = record { few = omega arith; fits = omega arith; same = refl }
shared (x ∷ before) (y ∷ node) = by (nat_eq x y) refl (shared before node)
  where
    by : (b : Bool) → nat_eq x y ≡ b → AreShared before node (steps_shared before node) → AreShared (x ∷ before) (y ∷ node) (cond b (1 + steps_shared before node) 0)
    by false h are = record { few = omega arith; fits = omega arith; same = refl }
    by true h are =
        let more : 1 + steps_shared before node ≡ suc (steps_shared before node) = omega arith in
        subst (AreShared (x ∷ before) (y ∷ node)) (sym more) (record {
          few = omega (arith, are.few);
          fits = omega (arith, are.fits);
          same = ap₂ ◌∷◌ (sym (eqb-true x y h)) are.same;
        })

pub left_shared : (version : ℕ) (before node : List ℕ) → AreShared before node (left_out version before node)
left_shared version before node = by (nat_eq version 1)
  where
    by : (b : Bool) → AreShared before node (cond b 0 (steps_shared before node))
    by true = record { few = omega arith; fits = omega arith; same = refl }
    by false = shared before node

module _ (p : ProblemParts) (sound : IsSound p) (one : OneCalling p) where
  -- the node of a line is what it leaves to the node before, and the steps of its text
  pub node_is : (version : ℕ) (before node rest : List ℕ) (number : ℕ) → HasSteps p node → number ≡ left_out version before node
      → HasSteps p rest → steps_text p rest ≡ steps_text p (drop (left_out version before node) node)
      → node ≡ take number before ++ rest
  node_is version before node rest number known is also text =
      let some = left_out version before node in
      let others : drop some node ≡ rest = one_steps p sound one (drop some node) rest (All-drop (λ s. s < length p.leads) some node known) also (sym text) in
      sym (take-append-drop some node) ∙ ap₂ ◌++◌ ((left_shared version before node).same ∙ ap (λ n. take n before) (sym is)) others

-- the text of a node's line is that of the steps that it does not leave out
pub node_told : (p : ProblemParts) (version : ℕ) (before : List ℕ) (line : NodeParts) (node : List ℕ) → IsNodeOf p version before line node
    → IsStepsText p line.steps (drop (left_out version before node) node)
node_told p version before line node is = record {
  known = All-drop (λ s. s < length p.leads) (left_out version before node) node is.steps;
  few = omega (arith, is.few, length-drop (left_out version before node) node);
  is = sym is.rest;
}

-- what is left out is there in the node before
pub low_shared : (version : ℕ) (before : List ℕ) (number : ℕ) (node : List ℕ) → number ≡ left_out version before node → number ≤ length before
low_shared version before number node is = omega (arith, is, (left_shared version before node).few)

-- a node from what a line leaves out and its steps
pub node_made : (p : ProblemParts) (version : ℕ) (before : List ℕ) (line : NodeParts) (rest : List ℕ) → HasSteps p before → IsStepsText p line.steps rest
    → line.shared ≤ length before → length (take line.shared before ++ rest) ≤ most_leads → line.shared ≡ left_out version before (take line.shared before ++ rest)
    → IsNodeOf p version before line (take line.shared before ++ rest)
node_made p version before line rest known is low few shared = record {
  steps = All-append (λ s. s < length p.leads) (take line.shared before) rest (All-take (λ s. s < length p.leads) line.shared before known) is.known;
  few = few;
  shared = shared;
  rest = sym is.is ∙ ap (steps_text p) (sym (ap (λ n. drop n (take line.shared before ++ rest)) (sym shared) ∙ drop_at (take line.shared before) rest line.shared (omega (arith, length-take line.shared before))));
}

-- the last of some nodes
pub last_is : (before : List ℕ) (nodes : List (List ℕ)) (node : List ℕ) → slice_get nodes (length nodes - 1) ≡ Some node → node ≡ last_node before nodes
last_is before [] node at = absurd (cc)
last_is before (first ∷ []) node at = sym (cc)
last_is before (first ∷ next ∷ nodes) node at =
    let one : length (first ∷ next ∷ nodes) - 1 ≡ suc (length (next ∷ nodes) - 1) = omega arith in
    last_is first (next ∷ nodes) node (sym (ap (slice_get (first ∷ next ∷ nodes)) one) ∙ at)

-- where one of two nodes is at its end, both share no more
shared_at_end : (before node : List ℕ) (i : ℕ) → (length before ≤ i) ⊎ (length node ≤ i) → steps_shared (drop i before) (drop i node) ≡ 0
shared_at_end before node i (inl past) = ap (λ l. steps_shared l (drop i node)) (drop_all i before past)
shared_at_end before node i (inr past) = ap (λ l. steps_shared (drop i before) l) (drop_all i node past) ∙ none (drop i before)
  where
    none : (rest : List ℕ) → steps_shared rest [] ≡ 0
    none [] = refl
    none (x ∷ rest) = refl

pub shared_past : (before node : List ℕ) (i : ℕ) → min (length before) (length node) ≤ i → steps_shared (drop i before) (drop i node) ≡ 0
shared_past before node i past = elim (cases_lt (length before) (length node)) [
  | inl less ↦ shared_at_end before node i (inl (omega (arith, past, less)))
  | inr more ↦ shared_at_end before node i (inr (omega (arith, past, more)))
]

-- what holds of the nodes of all jobs holds of those of one, wherever they lie
pub job_known : {A : Type 0} (nodes_of : A → List (List ℕ)) (p : ProblemParts) (jobs : List A) (i : ℕ) (job : A) → i < length jobs → job ≡ get_or jobs i job
    → All (HasSteps p) (nodes_of_jobs (map nodes_of jobs)) → All (HasSteps p) (nodes_of job)
job_known nodes_of p [] i job inside is known = absurd (omega arith)
job_known nodes_of p (first ∷ jobs) zero job inside is known =
    subst (λ j. All (HasSteps p) (nodes_of j)) (sym is) (subst (All (HasSteps p)) (take_at (nodes_of first) (nodes_of_jobs (map nodes_of jobs)) (length (nodes_of first)) refl)
    (All-take (HasSteps p) (length (nodes_of first)) (nodes_of_jobs (map nodes_of (first ∷ jobs))) known))
job_known nodes_of p (first ∷ jobs) (suc i) job inside is known =
    job_known nodes_of p jobs i job (omega arith) is (subst (All (HasSteps p)) (drop_at (nodes_of first) (nodes_of_jobs (map nodes_of jobs)) (length (nodes_of first)) refl)
    (All-drop (HasSteps p) (length (nodes_of first)) (nodes_of_jobs (map nodes_of (first ∷ jobs))) known))

-- where a line leaves out more steps than the node before has, it is that of none
pub too_many_left_out : (p : ProblemParts) (version : ℕ) (before : List ℕ) (line : NodeParts) → length before < line.shared
    → (node : List ℕ) → IsNodeOf p version before line node → ⊥
too_many_left_out p version before line many node is = absurd (omega (arith, many, low_shared version before line.shared node is.shared))

module _ (p : ProblemParts) (sound : IsSound p) (one : OneCalling p) (version : ℕ) (before : List ℕ) (line : NodeParts) (rest steps : List ℕ)
    (told : IsStepsText p line.steps rest) (is : steps ≡ take line.shared before ++ rest) where
  -- the node of a line, if it has one, are these steps
  told_node : (node : List ℕ) → IsNodeOf p version before line node → node ≡ steps
  told_node node told_by = node_is p sound one version before node rest line.shared told_by.steps told_by.shared told.known (told.is ∙ told_by.rest) ∙ sym is

  -- so it has none where it leaves out another number of them, or where they are too many
  pub others_left_out : (line.shared ≡ left_out version before steps → ⊥) → (node : List ℕ) → IsNodeOf p version before line node → ⊥
  others_left_out other node told_by = other (told_by.shared ∙ ap (left_out version before) (told_node node told_by))

  pub too_many_steps : most_leads < length steps → (node : List ℕ) → IsNodeOf p version before line node → ⊥
  too_many_steps many node told_by = absurd (omega (arith, many, told_by.few, ap length (told_node node told_by)))

  -- and else it is theirs
  pub made_node : HasSteps p before → line.shared ≤ length before → length steps ≤ most_leads → line.shared ≡ left_out version before steps → IsNodeOf p version before line steps
  made_node known low few shared =
      subst (IsNodeOf p version before line) (sym is)
      (node_made p version before line rest known told low (subst (λ s. length s ≤ most_leads) is few) (subst (λ s. line.shared ≡ left_out version before s) is shared))
