-- Texts of values one after another are read in one way, as each ends with its line feed.
use Rattle.std.proofs.Common.{◌≡◌, ℕ, ◌+◌, Bool, true, false, cond, nat_eq, List, [], ◌∷◌, ◌++◌, length, codes, decimal, flat_map, map, All, refl, sym, ap, ap₂, ◌∙◌, subst, arith, append_assoc, append-nil}
use Rattle.std.proofs.lemmas.Bool.{eqb-true}
use Rattle.std.proofs.lemmas.List.{append_cancel_left, length_push, map_push}
use Rattle.std.proofs.lemmas.List.Concat.{flat_map-append}
use Rattle.std.proofs.lemmas.List.Elements.{All-head, All-tail, All-push}
use Rattle.std.proofs.lemmas.Fmt.{decimal_injective}
use Rattle.cr_model.specs.Checkpoints.{number_line}
use Rattle.cr_model.specs.Texts.{IsNumber, Lacks, named}
use Rattle.cr_model.proofs.Bytes.{cut}
use Rattle.cr_model.proofs.Lacking.{number_lacks}
use Rattle.cr_store.specs.Shapes.{FoundParts, NodeParts, IsFoundLine, IsNodeLine, found_text, node_text}
use Rattle.cr_store.specs.ShapeSteps.{NoneBegins, AreRead, found_body, node_body}
use Rattle.cr_store.proofs.ShapeBodies.{named_lacks, found_lacks, node_lacks, node_ends}

-- of texts that begin alike the values are one, and what comes after them
pub record IsCode {V : Type 0} (text : V → List ℕ) (Known : V → Type 0) : Type 0 where
  pub one : (v w : V) (a b : List ℕ) → Known v → Known w → text v ++ a ≡ text w ++ b → (v ≡ w) × (a ≡ b)

-- lines that tell their values
pub record IsLine {V : Type 0} (body text : V → List ℕ) (Known : V → Type 0) : Type 0 where
  pub ends : (v : V) → text v ≡ body v ++ codes "\n"
  pub lacks : (v : V) → Known v → Lacks 10 (body v)
  pub one : (v w : V) → Known v → Known w → body v ≡ body w → v ≡ w

-- a line and what comes after it
pub line_then : {V : Type 0} (body text : V → List ℕ) (Known : V → Type 0) → IsLine body text Known → (v : V) (rest : List ℕ)
    → text v ++ rest ≡ body v ++ 10 ∷ rest
line_then body text Known line v rest = ap (λ l. l ++ rest) (line.ends v) ∙ append_assoc (body v) (codes "\n") rest

pub code_of_line : {V : Type 0} (body text : V → List ℕ) (Known : V → Type 0) → IsLine body text Known → IsCode text Known
code_of_line body text Known line = record {
  one = λ v w a b known also same.
      let both = cut 10 (body v) (body w) a b (line.lacks v known) (line.lacks w also)
      (sym (line_then body text Known line v a) ∙ same ∙ line_then body text Known line w b) in
      (line.one v w known also both.0, both.1);
}

pub number_one : (m n : ℕ) → IsNumber m → IsNumber n → decimal m ≡ decimal n → m ≡ n
number_one m n small less same = decimal_injective m n (omega arith) (omega arith) same

pub named_line : (word : List ℕ) → Lacks 10 word → IsLine (named word) (λ n. named word n ++ codes "\n") IsNumber
named_line word lacks = record {
  ends = λ n. refl;
  lacks = λ n small. named_lacks word n lacks small;
  one = λ m n small less same. number_one m n small less (append_cancel_left word (decimal m) (decimal n) same);
}

-- numbers of which more is known
pub fewer : {V : Type 0} (body text : V → List ℕ) (Known Fewer : V → Type 0) → ((v : V) → Fewer v → Known v) → IsLine body text Known → IsLine body text Fewer
fewer body text Known Fewer weaken line = record {
  ends = line.ends;
  lacks = λ v known. line.lacks v (weaken v known);
  one = λ v w known also same. line.one v w (weaken v known) (weaken w also) same;
}

-- a number, a space and a text
cut_space : (m n : ℕ) (a b : List ℕ) → IsNumber m → IsNumber n → decimal m ++ codes " " ++ a ≡ decimal n ++ codes " " ++ b → (m ≡ n) × (a ≡ b)
cut_space m n a b small less same =
    let both = cut 32 (decimal m) (decimal n) a b (number_lacks 32 m refl small) (number_lacks 32 n refl less)
    (sym (append_assoc (decimal m) (codes " ") a) ∙ same ∙ append_assoc (decimal n) (codes " ") b) in
    (number_one m n small less both.0, both.1)

one_found : (v w : FoundParts) → IsFoundLine v → IsFoundLine w → found_body v ≡ found_body w → v ≡ w
one_found v w known also same =
    let both = cut_space v.length w.length v.calling w.calling known.length also.length same in
    ap₂ (λ n l. record { length = n; calling = l }) both.0 both.1

pub found_is_line : IsLine found_body found_text IsFoundLine
found_is_line = record { ends = λ v. refl; lacks = found_lacks; one = one_found }

one_node : (version : ℕ) (v w : NodeParts) → IsNodeLine version v → IsNodeLine version w → node_body version v ≡ node_body version w → v ≡ w
one_node version v w known also same = by (nat_eq version 1) refl same
  where
    joined : (v.shared ≡ w.shared) × (v.steps ≡ w.steps) → v ≡ w
    joined both = ap₂ (λ n l. record { shared = n; steps = l }) both.0 both.1

    by : (b : Bool) → nat_eq version 1 ≡ b → cond b v.steps (decimal v.shared ++ codes " " ++ v.steps) ≡ cond b w.steps (decimal w.shared ++ codes " " ++ w.steps) → v ≡ w
    by true is steps = let first : version ≡ 1 = eqb-true version 1 is in joined (known.alone first ∙ sym (also.alone first), steps)
    by false is both = joined (cut_space v.shared w.shared v.steps w.steps known.shared also.shared both)

pub node_is_line : (version : ℕ) → IsLine (node_body version) (node_text version) (IsNodeLine version)
node_is_line version = record { ends = node_ends version; lacks = node_lacks version; one = one_node version }

module _ {V : Type 0} (text : V → List ℕ) (Known : V → Type 0) where
  -- so are as many values of a list
  pub codes_joined : IsCode text Known → (xs ys : List V) (a b : List ℕ) → length xs ≡ length ys → All Known xs → All Known ys
      → flat_map text xs ++ a ≡ flat_map text ys ++ b → (xs ≡ ys) × (a ≡ b)
  codes_joined code [] [] a b long known also same = (refl, same)
  codes_joined code [] (y ∷ ys) a b long known also same = absurd (omega arith)
  codes_joined code (x ∷ xs) [] a b long known also same = absurd (omega arith)
  codes_joined code (x ∷ xs) (y ∷ ys) a b long known also same =
      let first = code.one x y (flat_map text xs ++ a) (flat_map text ys ++ b) (All-head Known x xs known) (All-head Known y ys also)
      (sym (append_assoc (text x) (flat_map text xs) a) ∙ same ∙ append_assoc (text y) (flat_map text ys) b) in
      let later = codes_joined code xs ys a b (omega arith) (All-tail Known x xs known) (All-tail Known y ys also) first.1 in
      (ap₂ ◌∷◌ first.0 later.0, later.1)

  -- one value more
  pub read_more : (count : ℕ) (all : List ℕ) (values : List V) (value : V) (rest after : List ℕ) → AreRead text Known count all values rest
      → Known value → rest ≡ text value ++ after → AreRead text Known (count + 1) all (values ++ value ∷ []) after
  read_more count all values value rest after so_far known is = record {
    known = All-push Known values value so_far.known known;
    many = length_push values value ∙ ap (λ n. n + 1) so_far.many;
    is =
        so_far.is
        ∙ ap (λ l. flat_map text values ++ l) is
        ∙ sym (append_assoc (flat_map text values) (text value) after)
        ∙ ap (λ l. l ++ after) (ap (λ l. flat_map text values ++ l) (sym (append-nil (text value))) ∙ sym (flat_map-append text values (value ∷ [])));
  }

  -- one more item of a list whose parts are the values
  pub read_push : {X : Type 0} (parts : X → V) (count : ℕ) (all : List ℕ) (items now : List X) (item : X) (rest after : List ℕ)
      → AreRead text Known count all (map parts items) rest → now ≡ items ++ item ∷ [] → Known (parts item) → rest ≡ text (parts item) ++ after
      → AreRead text Known (count + 1) all (map parts now) after
  read_push parts count all items now item rest after so_far pushed known is =
      subst (λ values. AreRead text Known (count + 1) all values after) (sym (ap (map parts) pushed ∙ map_push parts items item))
      (read_more count all (map parts items) (parts item) rest after so_far known is)

  -- nothing begins with the text of fewer values, where none does with that of one of these, or where another does
  pub none_of_fewer : (Fewer : V → Type 0) → ((v : V) → Fewer v → Known v) → (all : List ℕ) → NoneBegins text Known all → NoneBegins text Fewer all
  none_of_fewer Fewer weaken all none v rest known is = none v rest (weaken v known) is

  pub another_begins : (Fewer : V → Type 0) → ((v : V) → Fewer v → Known v) → IsCode text Known → (all : List ℕ) (v : V) (rest : List ℕ)
      → Known v → all ≡ text v ++ rest → (Fewer v → ⊥) → NoneBegins text Fewer all
  another_begins Fewer weaken code all v rest known is not_fewer w more also same =
      not_fewer (subst Fewer (code.one w v more rest (weaken w also) known (sym same ∙ is)).0 also)

-- a line of a word and a number
pub word_line : (word : List ℕ) → Lacks 10 (word ++ codes " ") → IsLine (named (word ++ codes " ")) (number_line word) IsNumber
word_line word lacks = named_line (word ++ codes " ") lacks
