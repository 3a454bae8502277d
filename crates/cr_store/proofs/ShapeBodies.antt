-- The lines of a checkpoint without their line feeds: which bytes they lack, and what they tell.
use Rattle.std.proofs.Common.{◌≡◌, ℕ, inl, inr, Bool, true, false, cond, nat_eq, List, ◌∷◌, ◌++◌, length, codes, decimal, refl, sym, ap, ◌∙◌, subst, append_assoc}
use Rattle.std.specs.List.{list_any}
use Rattle.cr_model.specs.Texts.{IsNumber, Lacks, NoneTells, named}
use Rattle.cr_model.proofs.Bytes.{cut}
use Rattle.cr_model.proofs.Lacking.{lacks_where, lacks_joined, number_lacks}
use Rattle.cr_store.specs.Shapes.{FoundParts, NodeParts, is_letter, AreLetters, AreSteps, IsFoundLine, IsNodeLine, node_text}
use Rattle.cr_store.specs.ShapeSteps.{NoneBegins, found_body, node_body}

steps_lack : (text : List ℕ) → AreSteps text → Lacks 10 text
steps_lack text (inl none) = ap (list_any (nat_eq 10)) none
steps_lack text (inr some) = lacks_where is_letter 10 refl text some.letters

-- no line feed stands within a line
pub named_lacks : (word : List ℕ) (n : ℕ) → Lacks 10 word → IsNumber n → Lacks 10 (named word n)
named_lacks word n lacks small = lacks_joined 10 word (decimal n) lacks (number_lacks 10 n refl small)

pub found_lacks : (found : FoundParts) → IsFoundLine found → Lacks 10 (found_body found)
found_lacks found is =
    lacks_joined 10 (decimal found.length ++ codes " ") found.calling
    (lacks_joined 10 (decimal found.length) (codes " ") (number_lacks 10 found.length refl is.length) refl)
    (lacks_where is_letter 10 refl found.calling is.calling.letters)

pub node_lacks : (version : ℕ) (node : NodeParts) → IsNodeLine version node → Lacks 10 (node_body version node)
node_lacks version node is = by (nat_eq version 1)
  where
    by : (b : Bool) → Lacks 10 (cond b node.steps (decimal node.shared ++ codes " " ++ node.steps))
    by true = steps_lack node.steps is.steps
    by false =
        lacks_joined 10 (decimal node.shared ++ codes " ") node.steps
        (lacks_joined 10 (decimal node.shared) (codes " ") (number_lacks 10 node.shared refl is.shared) refl)
        (steps_lack node.steps is.steps)

-- a node's line is its body and a line feed
pub node_ends : (version : ℕ) (node : NodeParts) → node_text version node ≡ node_body version node ++ codes "\n"
node_ends version node = by (nat_eq version 1)
  where
    by : (b : Bool) → cond b (node.steps ++ codes "\n") (decimal node.shared ++ codes " " ++ node.steps ++ codes "\n")
        ≡ cond b node.steps (decimal node.shared ++ codes " " ++ node.steps) ++ codes "\n"
    by true = refl
    by false = refl

-- what begins with another line begins with none of these
pub no_line : {V : Type 0} (body : V → List ℕ) (Known : V → Type 0) → ((value : V) → Known value → Lacks 10 (body value))
    → (text line rest : List ℕ) → Lacks 10 line → text ≡ line ++ 10 ∷ rest → NoneTells body Known line
    → NoneBegins (λ value. body value ++ codes "\n") Known text
no_line body Known lacks text line rest line_lacks is none value more known same =
    none value known (cut 10 line (body value) rest more line_lacks (lacks value known) (sym is ∙ same ∙ append_assoc (body value) (codes "\n") more)).0

-- a number, a space and a text, cut at the first space
pub cut_number : (line digits after text : List ℕ) (n : ℕ) → Lacks 32 digits → line ≡ digits ++ 32 ∷ after → IsNumber n
    → line ≡ decimal n ++ codes " " ++ text → (digits ≡ decimal n) × (after ≡ text)
cut_number line digits after text n lacks is small same =
    cut 32 digits (decimal n) after text lacks (number_lacks 32 n refl small) (sym is ∙ same ∙ append_assoc (decimal n) (codes " ") text)

-- a found line whose number is none, or whose calling is none
pub no_length : (line digits calling : List ℕ) → Lacks 32 digits → line ≡ digits ++ 32 ∷ calling → NoneTells decimal IsNumber digits → NoneTells found_body IsFoundLine line
no_length line digits calling lacks is none found known same =
    none found.length known.length (cut_number line digits calling found.calling found.length lacks is known.length same).0

pub no_calling : (line digits calling : List ℕ) → Lacks 32 digits → line ≡ digits ++ 32 ∷ calling → (AreLetters calling → ⊥) → NoneTells found_body IsFoundLine line
no_calling line digits calling lacks is none found known same =
    none (subst AreLetters (sym (cut_number line digits calling found.calling found.length lacks is known.length same).1) known.calling)

-- the same of a node's line in version 2
pub no_share : (line digits steps : List ℕ) → Lacks 32 digits → line ≡ digits ++ 32 ∷ steps → NoneTells decimal IsNumber digits → NoneTells (node_body 2) (IsNodeLine 2) line
no_share line digits steps lacks is none node known same =
    none node.shared known.shared (cut_number line digits steps node.steps node.shared lacks is known.shared same).0

pub no_steps : (line digits steps : List ℕ) → Lacks 32 digits → line ≡ digits ++ 32 ∷ steps → (AreSteps steps → ⊥) → NoneTells (node_body 2) (IsNodeLine 2) line
no_steps line digits steps lacks is none node known same =
    none (subst AreSteps (sym (cut_number line digits steps node.steps node.shared lacks is known.shared same).1) known.steps)

-- no node's line begins a text whose first line is none
pub no_node : (version : ℕ) (text line rest : List ℕ) → Lacks 10 line → text ≡ line ++ 10 ∷ rest → NoneTells (node_body version) (IsNodeLine version) line
    → NoneBegins (node_text version) (IsNodeLine version) text
no_node version text line rest lacks is none node more known same =
    no_line (node_body version) (IsNodeLine version) (node_lacks version) text line rest lacks is none node more known
    (same ∙ ap (λ l. l ++ more) (node_ends version node))
