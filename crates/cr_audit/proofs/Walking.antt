-- Texts of callings, lead by lead.
use Rattle.std.proofs.Common.{◌≡◌, ◌↔◌, ℕ, ◌+◌, ◌<◌, ◌≤◌, Bool, true, false, cond, nat_lt, List, [], ◌∷◌, ◌++◌, length, drop, codes, refl, sym, ap, ◌∙◌, arith, length-append, drop_at}
use Rattle.std.proofs.lemmas.List.{append_cancel_left}
use Rattle.std.proofs.lemmas.List.Elements.{All-nil, All-cons, All-head, All-tail}
use Rattle.cr_model.specs.Problems.{ProblemParts}
use Rattle.cr_model.specs.Callings.{HasSteps, mark_of, letter_of}
use Rattle.cr_model.specs.Books.{lead_text, calling_text}
use Rattle.cr_model.specs.Checkpoints.{steps_text}
use Rattle.cr_audit.specs.Nodes.{width, IsCallingText, IsNodeText, BeginsWithLead}

-- each lead's text is as wide
as_wide : (b : Bool) (x y : ℕ) → length (cond b (x ∷ y ∷ []) (y ∷ [])) ≡ cond b 2 1
as_wide true x y = refl
as_wide false x y = refl

pub wide : (p : ProblemParts) (step : ℕ) → length (lead_text p step) ≡ width p
wide p step = as_wide (nat_lt 1 (length p.letters)) (letter_of p step) (mark_of p step)

one_or_two : (b : Bool) → 1 ≤ cond b 2 1
one_or_two true = omega arith
one_or_two false = omega arith

pub some_width : (p : ProblemParts) → 1 ≤ width p
some_width p = one_or_two (nat_lt 1 (length p.letters))

-- the text of a calling after that of its first lead
pub lead_then : (p : ProblemParts) (step : ℕ) (steps text rest : List ℕ) → text ≡ lead_text p step ++ rest
    → (text ≡ calling_text p (step ∷ steps)) ↔ (rest ≡ calling_text p steps)
lead_then p step steps text rest is = (
  λ whole. append_cancel_left (lead_text p step) rest (calling_text p steps) (sym is ∙ whole),
  λ more. is ∙ ap (λ l. lead_text p step ++ l) more,
)

-- the same, whichever the leads are
pub after_lead_is : (p : ProblemParts) (text rest : List ℕ) → BeginsWithLead p text rest → IsCallingText p text ↔ IsCallingText p rest
after_lead_is p text rest begins = (λ calling. onward calling.steps calling.known calling.is, back)
  where
    onward : (steps : List ℕ) → HasSteps p steps → text ≡ calling_text p steps → IsCallingText p rest
    onward [] known is =
        let none : length (lead_text p begins.step ++ rest) ≡ 0 = ap length (sym begins.is ∙ is) in
        absurd (omega (arith, length-append (lead_text p begins.step) rest, wide p begins.step, some_width p))
    onward (step ∷ steps) known is =
        let same : lead_text p begins.step ++ rest ≡ lead_text p step ++ calling_text p steps = sym begins.is ∙ is in
        record {
          steps = steps;
          known = All-tail (λ s. s < length p.leads) step steps known;
          is = sym (drop_at (lead_text p begins.step) rest (width p) (wide p begins.step)) ∙ ap (drop (width p)) same ∙ drop_at (lead_text p step) (calling_text p steps) (width p) (wide p step);
        }

    back : IsCallingText p rest → IsCallingText p text
    back calling = record {
      steps = begins.step ∷ calling.steps;
      known = All-cons (λ s. s < length p.leads) begins.step calling.steps begins.known calling.known;
      is = begins.is ∙ ap (λ l. lead_text p begins.step ++ l) calling.is;
    }

-- a text that is not empty begins with a lead, if it is a calling's
pub begins_somewhere : (p : ProblemParts) (text : List ℕ) → 0 < length text → IsCallingText p text → (rest : List ℕ) × BeginsWithLead p text rest
begins_somewhere p text some calling = by calling.steps calling.known calling.is
  where
    by : (steps : List ℕ) → HasSteps p steps → text ≡ calling_text p steps → (rest : List ℕ) × BeginsWithLead p text rest
    by [] known is = let none : length text ≡ 0 = ap length is in absurd (omega arith)
    by (step ∷ steps) known is = (calling_text p steps, record { step = step; known = All-head (λ s. s < length p.leads) step steps known; is = is })

-- nothing is the text of the empty calling
pub empty_calling : (p : ProblemParts) (text : List ℕ) → length text ≡ 0 → IsCallingText p text
empty_calling p [] none = record { steps = []; known = All-nil (λ s. s < length p.leads); is = refl }
empty_calling p (x ∷ text) none = absurd (omega arith)

-- a lead's text behind others is not shorter
pub shorter : (p : ProblemParts) (text rest : List ℕ) → BeginsWithLead p text rest → length rest < length text
shorter p text rest begins =
    let long : length text ≡ length (lead_text p begins.step) + length rest = ap length begins.is ∙ length-append (lead_text p begins.step) rest in
    omega (arith, wide p begins.step, some_width p)

-- a node's text is `-`, or that of a calling which is not empty
pub node_or_root : (p : ProblemParts) (text : List ℕ) → IsNodeText p text → (text ≡ codes "-" → ⊥) → IsCallingText p text × (0 < length text)
node_or_root p text node other = by node.node node.known node.is
  where
    by : (steps : List ℕ) → HasSteps p steps → text ≡ steps_text p steps → IsCallingText p text × (0 < length text)
    by [] known is = absurd (other is)
    by (step ∷ steps) known is = (
      record { steps = step ∷ steps; known = known; is = is },
      let long : length text ≡ length (lead_text p step) + length (calling_text p steps) = ap length is ∙ length-append (lead_text p step) (calling_text p steps) in
          omega (arith, wide p step, some_width p),
    )

pub root_text : (p : ProblemParts) (text : List ℕ) → text ≡ codes "-" → IsNodeText p text
root_text p text is = record { node = []; known = All-nil (λ s. s < length p.leads); is = is }

pub calling_node : (p : ProblemParts) (text : List ℕ) → IsCallingText p text × (0 < length text) → IsNodeText p text
calling_node p text h = by h.0.steps h.0.known h.0.is
  where
    by : (steps : List ℕ) → HasSteps p steps → text ≡ calling_text p steps → IsNodeText p text
    by [] known is = let none : length text ≡ 0 = ap length is in absurd (omega (arith, h.1))
    by (step ∷ steps) known is = record { node = step ∷ steps; known = known; is = is }

-- a node's text, where it is not the root
pub steps_text_some : (p : ProblemParts) (node : List ℕ) → 0 < length node → steps_text p node ≡ calling_text p node
steps_text_some p [] some = absurd (omega arith)
steps_text_some p (step ∷ node) some = refl
