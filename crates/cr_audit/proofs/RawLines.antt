-- What the pieces of a line tell together.
use Rattle.std.proofs.Common.{◌≡◌, ℕ, nat_eq, List, ◌∷◌, ◌++◌, codes, decimal, refl, sym, ap, ◌∙◌, append_assoc}
use Rattle.std.specs.List.{list_any}
use Rattle.std.specs.Prelude.{Option, Some, None, IfNone}
use Rattle.std.proofs.lemmas.Bool.{or_parts}
use Rattle.std.proofs.lemmas.List.{append_cancel_left}
use Rattle.std.proofs.lemmas.List.Folds.{list_any-append}
use Rattle.cr_model.specs.Texts.{IsNumber, Lacks, NoneTells, named}
use Rattle.cr_model.proofs.Bytes.{cut, uncut}
use Rattle.cr_model.proofs.Lacking.{lacks_joined, number_lacks}
use Rattle.cr_audit.specs.declared.verdict.Item.{Item}
use Rattle.cr_audit.specs.declared.verdict.Item.TheVariants as item
use Rattle.cr_audit.specs.declared.verdict.Verdict.{Verdict}
use Rattle.cr_audit.specs.declared.verdict.Verdict.TheVariants as verdict
use Rattle.cr_audit.specs.Texts.{two, two_named, NeverTwo}
use Rattle.cr_audit.specs.Logs.{item_text, verdict_text, ItemIsSmall, IsSmall}
use Rattle.cr_audit.specs.Reads.{item_after, raw_text, IsRaw}

-- two numbers, cut at the space
pub cut_two : (text first second : List ℕ) (m n : ℕ) → Lacks 32 first → text ≡ first ++ 32 ∷ second → IsNumber m → text ≡ two m n
    → (first ≡ decimal m) × (second ≡ decimal n)
cut_two text first second m n lacks is small same =
    cut 32 first (decimal m) second (decimal n) lacks (number_lacks 32 m refl small) (sym is ∙ same ∙ append_assoc (decimal m) (codes " ") (decimal n))

pub no_first : (text first second : List ℕ) → Lacks 32 first → text ≡ first ++ 32 ∷ second → NoneTells decimal IsNumber first
    → (m n : ℕ) → IsNumber m → IsNumber n → text ≡ two m n → ⊥
no_first text first second lacks is none m n small also same = none m small (cut_two text first second m n lacks is small same).0

pub no_second : (text first second : List ℕ) → Lacks 32 first → text ≡ first ++ 32 ∷ second → NoneTells decimal IsNumber second
    → (m n : ℕ) → IsNumber m → IsNumber n → text ≡ two m n → ⊥
no_second text first second lacks is none m n small also same = none n also (cut_two text first second m n lacks is small same).1

pub no_space : (text : List ℕ) → Lacks 32 text → (m n : ℕ) → IsNumber m → IsNumber n → text ≡ two m n → ⊥
no_space text lacks m n small also same = uncut 32 (decimal m) (decimal n) text lacks (same ∙ append_assoc (decimal m) (codes " ") (decimal n))

-- the same after a word
pub never_two : {X : Type 0} (text word numbers : List ℕ) (r : Option X) → text ≡ word ++ numbers
    → IfNone r ((m n : ℕ) → IsNumber m → IsNumber n → numbers ≡ two m n → ⊥) → IfNone r (NeverTwo word text)
never_two text word numbers None is none = λ m n small also same. none m n small also (append_cancel_left word numbers (two m n) (sym is ∙ same))
never_two text word numbers (Some x) is none = tt

-- an item after a word
pub no_item_after : {X : Type 0} (text word rest : List ℕ) (r : Option X) → text ≡ word ++ rest
    → IfNone r (NoneTells item_text ItemIsSmall rest) → IfNone r (NoneTells (item_after word) ItemIsSmall text)
no_item_after text word rest None is none = λ of small same. none of small (append_cancel_left word rest (item_text of) (sym is ∙ same))
no_item_after text word rest (Some x) is none = tt

pub no_item : (text : List ℕ) → (text ≡ codes "com" → ⊥) → NoneTells (named (codes "count ")) IsNumber text → NoneTells (named (codes "leads ")) IsNumber text
    → NoneTells (named (codes "rows ")) IsNumber text → NoneTells item_text ItemIsSmall text
no_item text com_none count_none leads_none rows_none (item.Count i) small same = count_none i small same
no_item text com_none count_none leads_none rows_none (item.Leads i) small same = leads_none i small same
no_item text com_none count_none leads_none rows_none (item.Rows i) small same = rows_none i small same
no_item text com_none count_none leads_none rows_none item.Com small same = com_none same

-- verdicts
pub two_is : (word : List ℕ) (m n : ℕ) → word ++ decimal m ++ codes " " ++ decimal n ≡ two_named word m n
two_is word m n = ap (λ l. l ++ decimal n) (append_assoc word (decimal m) (codes " ")) ∙ append_assoc word (decimal m ++ codes " ") (decimal n)

pub no_verdict : {X : Type 0} (text : List ℕ) (r : Option X)
    → (text ≡ codes "open" → ⊥) × (text ≡ codes "long" → ⊥)
    → NeverTwo (codes "again ") text × (NoneTells (named (codes "home ")) IsNumber text × NoneTells (named (codes "back ")) IsNumber text)
    → IfNone r (NoneTells (item_after (codes "many ")) ItemIsSmall text × NoneTells (item_after (codes "few ")) ItemIsSmall text)
    → IfNone r (NoneTells verdict_text IsSmall text)
no_verdict text (Some x) plain placed items = tt
no_verdict text None plain placed items = never
  where
    never : NoneTells verdict_text IsSmall text
    never verdict.Open small same = plain.0 same
    never verdict.Long small same = plain.1 same
    never (verdict.Again i j) small same = placed.0 i j small.0 small.1 (same ∙ two_is (codes "again ") i j)
    never (verdict.Home i) small same = placed.1.0 i small same
    never (verdict.Many of) small same = items.0 of small same
    never (verdict.Few of) small same = items.1 of small same
    never (verdict.Back k) small same = placed.1.1 k small same

-- lines
pub no_raw : (line node text : List ℕ) → Lacks 32 node → line ≡ node ++ 32 ∷ text → NoneTells verdict_text IsSmall text
    → (other : List ℕ) (why : Verdict) → IsRaw other why → line ≡ raw_text other why → ⊥
no_raw line node text lacks is none other why raw same =
    none why raw.small (cut 32 node other text (verdict_text why) lacks raw.no_space (sym is ∙ same)).1

-- what a part lacks
pub lacks_left : (byte : ℕ) (a b : List ℕ) → Lacks byte (a ++ b) → Lacks byte a
lacks_left byte a b lacks = (or_parts (list_any (nat_eq byte) a) (list_any (nat_eq byte) b) (sym (list_any-append (nat_eq byte) a b) ∙ lacks)).0

-- no text of a verdict has a line feed
item_lacks : (of : Item) → ItemIsSmall of → Lacks 10 (item_text of)
item_lacks (item.Count i) small = lacks_joined 10 (codes "count ") (decimal i) refl (number_lacks 10 i refl small)
item_lacks (item.Leads i) small = lacks_joined 10 (codes "leads ") (decimal i) refl (number_lacks 10 i refl small)
item_lacks (item.Rows i) small = lacks_joined 10 (codes "rows ") (decimal i) refl (number_lacks 10 i refl small)
item_lacks item.Com small = refl

pub verdict_lacks : (why : Verdict) → IsSmall why → Lacks 10 (verdict_text why)
verdict_lacks verdict.Open small = refl
verdict_lacks verdict.Long small = refl
verdict_lacks (verdict.Again i j) small =
    lacks_joined 10 (codes "again " ++ decimal i ++ codes " ") (decimal j)
    (lacks_joined 10 (codes "again " ++ decimal i) (codes " ") (lacks_joined 10 (codes "again ") (decimal i) refl (number_lacks 10 i refl small.0)) refl)
    (number_lacks 10 j refl small.1)
verdict_lacks (verdict.Home i) small = lacks_joined 10 (codes "home ") (decimal i) refl (number_lacks 10 i refl small)
verdict_lacks (verdict.Many of) small = lacks_joined 10 (codes "many ") (item_text of) refl (item_lacks of small)
verdict_lacks (verdict.Few of) small = lacks_joined 10 (codes "few ") (item_text of) refl (item_lacks of small)
verdict_lacks (verdict.Back k) small = lacks_joined 10 (codes "back ") (decimal k) refl (number_lacks 10 k refl small)

pub raw_lacks : (node : List ℕ) (why : Verdict) → IsRaw node why → Lacks 10 (raw_text node why)
raw_lacks node why raw = lacks_joined 10 node (32 ∷ verdict_text why) raw.no_feed (verdict_lacks why raw.small)

pub no_line : (text line rest : List ℕ) → Lacks 10 line → text ≡ line ++ 10 ∷ rest
    → ((node : List ℕ) (why : Verdict) → IsRaw node why → line ≡ raw_text node why → ⊥)
    → (node : List ℕ) (why : Verdict) (more : List ℕ) → IsRaw node why → text ≡ raw_text node why ++ 10 ∷ more → ⊥
no_line text line rest lacks is none node why more raw same =
    none node why raw (cut 10 line (raw_text node why) rest more lacks (raw_lacks node why raw) (sym is ∙ same)).0

pub no_feed : (text : List ℕ) → Lacks 10 text → (node : List ℕ) (why : Verdict) (more : List ℕ) → IsRaw node why → text ≡ raw_text node why ++ 10 ∷ more → ⊥
no_feed text lacks node why more raw same = uncut 10 (raw_text node why) more text lacks same
