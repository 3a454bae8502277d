-- Texts of verdicts and of lines tell what they are of.
use Rattle.std.proofs.Common.{◌≡◌, ℕ, ◌<◌, ◌≤◌, Bool, true, false, cond, nat_eq, nat_lt, List, [], ◌∷◌, ◌++◌, length, get_or, codes, decimal, refl, sym, ap, ap₂, ◌∙◌, arith, append_assoc}
use Rattle.std.specs.List.{list_any}
use Rattle.std.proofs.lemmas.Bool.{or_from, false_from_ne_true, eqb-true}
use Rattle.std.proofs.lemmas.List.{append_cancel_left}
use Rattle.std.proofs.lemmas.List.Elements.{All-head, All-tail}
use Rattle.std.proofs.lemmas.Fmt.{decimal_injective}
use Rattle.cr_model.specs.Problems.{ProblemParts}
use Rattle.cr_model.specs.Callings.{HasSteps, mark_of, letter_of}
use Rattle.cr_model.specs.Books.{lead_text, calling_text}
use Rattle.cr_model.specs.Checkpoints.{steps_text}
use Rattle.cr_model.specs.Sound.{IsSound, sound_letters, sound_leads}
use Rattle.cr_model.specs.Texts.{IsNumber, Lacks}
use Rattle.cr_model.proofs.Bytes.{cut}
use Rattle.cr_model.proofs.Lacking.{lacks_joined, number_lacks}
use Rattle.cr_model.proofs.StepsDiffer.{known_method}
use Rattle.cr_audit.specs.declared.verdict.Item.{Item}
use Rattle.cr_audit.specs.declared.verdict.Item.TheVariants as item
use Rattle.cr_audit.specs.declared.verdict.Verdict.{Verdict}
use Rattle.cr_audit.specs.declared.verdict.Verdict.TheVariants as verdict
use Rattle.cr_audit.specs.Texts.{two}
use Rattle.cr_audit.specs.Logs.{LineParts, item_text, verdict_text, line_text, ItemIsSmall, IsSmall, IsLine}
use Rattle.cr_audit.specs.Reads.{raw_text, IsRaw}
use Rattle.cr_audit.specs.Audits.{Begins}
use Rattle.cr_audit.proofs.LeadTexts.{one_calling}
use Rattle.cr_audit.proofs.RawLines.{cut_two, two_is, raw_lacks}

number_one : (m n : ℕ) → IsNumber m → IsNumber n → decimal m ≡ decimal n → m ≡ n
number_one m n small less same = decimal_injective m n (omega arith) (omega arith) same

-- items that have one text are one
one_item : (of other : Item) → ItemIsSmall of → ItemIsSmall other → item_text of ≡ item_text other → of ≡ other
one_item (item.Count i) (item.Count j) small also same = ap item.Count (number_one i j small also (append_cancel_left (codes "count ") (decimal i) (decimal j) same))
one_item (item.Count i) (item.Leads j) small also same = absurd (let third : get_or (item_text (item.Count i)) 2 0 ≡ get_or (item_text (item.Leads j)) 2 0 = ap (λ t. get_or t 2 0) same in omega arith)
one_item (item.Count i) (item.Rows j) small also same = absurd (let third : get_or (item_text (item.Count i)) 2 0 ≡ get_or (item_text (item.Rows j)) 2 0 = ap (λ t. get_or t 2 0) same in omega arith)
one_item (item.Count i) item.Com small also same = absurd (let third : get_or (item_text (item.Count i)) 2 0 ≡ get_or (item_text item.Com) 2 0 = ap (λ t. get_or t 2 0) same in omega arith)
one_item (item.Leads i) (item.Count j) small also same = absurd (let third : get_or (item_text (item.Leads i)) 2 0 ≡ get_or (item_text (item.Count j)) 2 0 = ap (λ t. get_or t 2 0) same in omega arith)
one_item (item.Leads i) (item.Leads j) small also same = ap item.Leads (number_one i j small also (append_cancel_left (codes "leads ") (decimal i) (decimal j) same))
one_item (item.Leads i) (item.Rows j) small also same = absurd (let third : get_or (item_text (item.Leads i)) 2 0 ≡ get_or (item_text (item.Rows j)) 2 0 = ap (λ t. get_or t 2 0) same in omega arith)
one_item (item.Leads i) item.Com small also same = absurd (let third : get_or (item_text (item.Leads i)) 2 0 ≡ get_or (item_text item.Com) 2 0 = ap (λ t. get_or t 2 0) same in omega arith)
one_item (item.Rows i) (item.Count j) small also same = absurd (let third : get_or (item_text (item.Rows i)) 2 0 ≡ get_or (item_text (item.Count j)) 2 0 = ap (λ t. get_or t 2 0) same in omega arith)
one_item (item.Rows i) (item.Leads j) small also same = absurd (let third : get_or (item_text (item.Rows i)) 2 0 ≡ get_or (item_text (item.Leads j)) 2 0 = ap (λ t. get_or t 2 0) same in omega arith)
one_item (item.Rows i) (item.Rows j) small also same = ap item.Rows (number_one i j small also (append_cancel_left (codes "rows ") (decimal i) (decimal j) same))
one_item (item.Rows i) item.Com small also same = absurd (let third : get_or (item_text (item.Rows i)) 2 0 ≡ get_or (item_text item.Com) 2 0 = ap (λ t. get_or t 2 0) same in omega arith)
one_item item.Com (item.Count j) small also same = absurd (let third : get_or (item_text item.Com) 2 0 ≡ get_or (item_text (item.Count j)) 2 0 = ap (λ t. get_or t 2 0) same in omega arith)
one_item item.Com (item.Leads j) small also same = absurd (let third : get_or (item_text item.Com) 2 0 ≡ get_or (item_text (item.Leads j)) 2 0 = ap (λ t. get_or t 2 0) same in omega arith)
one_item item.Com (item.Rows j) small also same = absurd (let third : get_or (item_text item.Com) 2 0 ≡ get_or (item_text (item.Rows j)) 2 0 = ap (λ t. get_or t 2 0) same in omega arith)
one_item item.Com item.Com small also same = refl

-- two numbers after a word
again_one : (i j m n : ℕ) → IsNumber i × IsNumber j → IsNumber m × IsNumber n → verdict_text (verdict.Again i j) ≡ verdict_text (verdict.Again m n) → verdict.Again i j ≡ verdict.Again m n
again_one i j m n small also same =
    let numbers : two i j ≡ two m n = append_cancel_left (codes "again ") (two i j) (two m n) (sym (two_is (codes "again ") i j) ∙ same ∙ two_is (codes "again ") m n) in
    let both = cut_two (two i j) (decimal i) (decimal j) m n (number_lacks 32 i refl small.0) (append_assoc (decimal i) (codes " ") (decimal j)) also.0 numbers in
    ap₂ verdict.Again (number_one i m small.0 also.0 both.0) (number_one j n small.1 also.1 both.1)

-- and verdicts
pub one_verdict : (v w : Verdict) → IsSmall v → IsSmall w → verdict_text v ≡ verdict_text w → v ≡ w
one_verdict verdict.Open verdict.Open small also same = refl
one_verdict verdict.Open verdict.Long small also same = absurd (let first : get_or (verdict_text verdict.Open) 0 0 ≡ get_or (verdict_text verdict.Long) 0 0 = ap (λ t. get_or t 0 0) same in omega arith)
one_verdict verdict.Open (verdict.Again m n) small also same = absurd (let first : get_or (verdict_text verdict.Open) 0 0 ≡ get_or (verdict_text (verdict.Again m n)) 0 0 = ap (λ t. get_or t 0 0) same in omega arith)
one_verdict verdict.Open (verdict.Home m) small also same = absurd (let first : get_or (verdict_text verdict.Open) 0 0 ≡ get_or (verdict_text (verdict.Home m)) 0 0 = ap (λ t. get_or t 0 0) same in omega arith)
one_verdict verdict.Open (verdict.Many other) small also same = absurd (let first : get_or (verdict_text verdict.Open) 0 0 ≡ get_or (verdict_text (verdict.Many other)) 0 0 = ap (λ t. get_or t 0 0) same in omega arith)
one_verdict verdict.Open (verdict.Few other) small also same = absurd (let first : get_or (verdict_text verdict.Open) 0 0 ≡ get_or (verdict_text (verdict.Few other)) 0 0 = ap (λ t. get_or t 0 0) same in omega arith)
one_verdict verdict.Open (verdict.Back m) small also same = absurd (let first : get_or (verdict_text verdict.Open) 0 0 ≡ get_or (verdict_text (verdict.Back m)) 0 0 = ap (λ t. get_or t 0 0) same in omega arith)
one_verdict verdict.Long verdict.Open small also same = absurd (let first : get_or (verdict_text verdict.Long) 0 0 ≡ get_or (verdict_text verdict.Open) 0 0 = ap (λ t. get_or t 0 0) same in omega arith)
one_verdict verdict.Long verdict.Long small also same = refl
one_verdict verdict.Long (verdict.Again m n) small also same = absurd (let first : get_or (verdict_text verdict.Long) 0 0 ≡ get_or (verdict_text (verdict.Again m n)) 0 0 = ap (λ t. get_or t 0 0) same in omega arith)
one_verdict verdict.Long (verdict.Home m) small also same = absurd (let first : get_or (verdict_text verdict.Long) 0 0 ≡ get_or (verdict_text (verdict.Home m)) 0 0 = ap (λ t. get_or t 0 0) same in omega arith)
one_verdict verdict.Long (verdict.Many other) small also same = absurd (let first : get_or (verdict_text verdict.Long) 0 0 ≡ get_or (verdict_text (verdict.Many other)) 0 0 = ap (λ t. get_or t 0 0) same in omega arith)
one_verdict verdict.Long (verdict.Few other) small also same = absurd (let first : get_or (verdict_text verdict.Long) 0 0 ≡ get_or (verdict_text (verdict.Few other)) 0 0 = ap (λ t. get_or t 0 0) same in omega arith)
one_verdict verdict.Long (verdict.Back m) small also same = absurd (let first : get_or (verdict_text verdict.Long) 0 0 ≡ get_or (verdict_text (verdict.Back m)) 0 0 = ap (λ t. get_or t 0 0) same in omega arith)
one_verdict (verdict.Again i j) verdict.Open small also same = absurd (let first : get_or (verdict_text (verdict.Again i j)) 0 0 ≡ get_or (verdict_text verdict.Open) 0 0 = ap (λ t. get_or t 0 0) same in omega arith)
one_verdict (verdict.Again i j) verdict.Long small also same = absurd (let first : get_or (verdict_text (verdict.Again i j)) 0 0 ≡ get_or (verdict_text verdict.Long) 0 0 = ap (λ t. get_or t 0 0) same in omega arith)
one_verdict (verdict.Again i j) (verdict.Again m n) small also same = again_one i j m n small also same
one_verdict (verdict.Again i j) (verdict.Home m) small also same = absurd (let first : get_or (verdict_text (verdict.Again i j)) 0 0 ≡ get_or (verdict_text (verdict.Home m)) 0 0 = ap (λ t. get_or t 0 0) same in omega arith)
one_verdict (verdict.Again i j) (verdict.Many other) small also same = absurd (let first : get_or (verdict_text (verdict.Again i j)) 0 0 ≡ get_or (verdict_text (verdict.Many other)) 0 0 = ap (λ t. get_or t 0 0) same in omega arith)
one_verdict (verdict.Again i j) (verdict.Few other) small also same = absurd (let first : get_or (verdict_text (verdict.Again i j)) 0 0 ≡ get_or (verdict_text (verdict.Few other)) 0 0 = ap (λ t. get_or t 0 0) same in omega arith)
one_verdict (verdict.Again i j) (verdict.Back m) small also same = absurd (let first : get_or (verdict_text (verdict.Again i j)) 0 0 ≡ get_or (verdict_text (verdict.Back m)) 0 0 = ap (λ t. get_or t 0 0) same in omega arith)
one_verdict (verdict.Home i) verdict.Open small also same = absurd (let first : get_or (verdict_text (verdict.Home i)) 0 0 ≡ get_or (verdict_text verdict.Open) 0 0 = ap (λ t. get_or t 0 0) same in omega arith)
one_verdict (verdict.Home i) verdict.Long small also same = absurd (let first : get_or (verdict_text (verdict.Home i)) 0 0 ≡ get_or (verdict_text verdict.Long) 0 0 = ap (λ t. get_or t 0 0) same in omega arith)
one_verdict (verdict.Home i) (verdict.Again m n) small also same = absurd (let first : get_or (verdict_text (verdict.Home i)) 0 0 ≡ get_or (verdict_text (verdict.Again m n)) 0 0 = ap (λ t. get_or t 0 0) same in omega arith)
one_verdict (verdict.Home i) (verdict.Home m) small also same = ap verdict.Home (number_one i m small also (append_cancel_left (codes "home ") (decimal i) (decimal m) same))
one_verdict (verdict.Home i) (verdict.Many other) small also same = absurd (let first : get_or (verdict_text (verdict.Home i)) 0 0 ≡ get_or (verdict_text (verdict.Many other)) 0 0 = ap (λ t. get_or t 0 0) same in omega arith)
one_verdict (verdict.Home i) (verdict.Few other) small also same = absurd (let first : get_or (verdict_text (verdict.Home i)) 0 0 ≡ get_or (verdict_text (verdict.Few other)) 0 0 = ap (λ t. get_or t 0 0) same in omega arith)
one_verdict (verdict.Home i) (verdict.Back m) small also same = absurd (let first : get_or (verdict_text (verdict.Home i)) 0 0 ≡ get_or (verdict_text (verdict.Back m)) 0 0 = ap (λ t. get_or t 0 0) same in omega arith)
one_verdict (verdict.Many of) verdict.Open small also same = absurd (let first : get_or (verdict_text (verdict.Many of)) 0 0 ≡ get_or (verdict_text verdict.Open) 0 0 = ap (λ t. get_or t 0 0) same in omega arith)
one_verdict (verdict.Many of) verdict.Long small also same = absurd (let first : get_or (verdict_text (verdict.Many of)) 0 0 ≡ get_or (verdict_text verdict.Long) 0 0 = ap (λ t. get_or t 0 0) same in omega arith)
one_verdict (verdict.Many of) (verdict.Again m n) small also same = absurd (let first : get_or (verdict_text (verdict.Many of)) 0 0 ≡ get_or (verdict_text (verdict.Again m n)) 0 0 = ap (λ t. get_or t 0 0) same in omega arith)
one_verdict (verdict.Many of) (verdict.Home m) small also same = absurd (let first : get_or (verdict_text (verdict.Many of)) 0 0 ≡ get_or (verdict_text (verdict.Home m)) 0 0 = ap (λ t. get_or t 0 0) same in omega arith)
one_verdict (verdict.Many of) (verdict.Many other) small also same = ap verdict.Many (one_item of other small also (append_cancel_left (codes "many ") (item_text of) (item_text other) same))
one_verdict (verdict.Many of) (verdict.Few other) small also same = absurd (let first : get_or (verdict_text (verdict.Many of)) 0 0 ≡ get_or (verdict_text (verdict.Few other)) 0 0 = ap (λ t. get_or t 0 0) same in omega arith)
one_verdict (verdict.Many of) (verdict.Back m) small also same = absurd (let first : get_or (verdict_text (verdict.Many of)) 0 0 ≡ get_or (verdict_text (verdict.Back m)) 0 0 = ap (λ t. get_or t 0 0) same in omega arith)
one_verdict (verdict.Few of) verdict.Open small also same = absurd (let first : get_or (verdict_text (verdict.Few of)) 0 0 ≡ get_or (verdict_text verdict.Open) 0 0 = ap (λ t. get_or t 0 0) same in omega arith)
one_verdict (verdict.Few of) verdict.Long small also same = absurd (let first : get_or (verdict_text (verdict.Few of)) 0 0 ≡ get_or (verdict_text verdict.Long) 0 0 = ap (λ t. get_or t 0 0) same in omega arith)
one_verdict (verdict.Few of) (verdict.Again m n) small also same = absurd (let first : get_or (verdict_text (verdict.Few of)) 0 0 ≡ get_or (verdict_text (verdict.Again m n)) 0 0 = ap (λ t. get_or t 0 0) same in omega arith)
one_verdict (verdict.Few of) (verdict.Home m) small also same = absurd (let first : get_or (verdict_text (verdict.Few of)) 0 0 ≡ get_or (verdict_text (verdict.Home m)) 0 0 = ap (λ t. get_or t 0 0) same in omega arith)
one_verdict (verdict.Few of) (verdict.Many other) small also same = absurd (let first : get_or (verdict_text (verdict.Few of)) 0 0 ≡ get_or (verdict_text (verdict.Many other)) 0 0 = ap (λ t. get_or t 0 0) same in omega arith)
one_verdict (verdict.Few of) (verdict.Few other) small also same = ap verdict.Few (one_item of other small also (append_cancel_left (codes "few ") (item_text of) (item_text other) same))
one_verdict (verdict.Few of) (verdict.Back m) small also same = absurd (let first : get_or (verdict_text (verdict.Few of)) 0 0 ≡ get_or (verdict_text (verdict.Back m)) 0 0 = ap (λ t. get_or t 0 0) same in omega arith)
one_verdict (verdict.Back k) verdict.Open small also same = absurd (let first : get_or (verdict_text (verdict.Back k)) 0 0 ≡ get_or (verdict_text verdict.Open) 0 0 = ap (λ t. get_or t 0 0) same in omega arith)
one_verdict (verdict.Back k) verdict.Long small also same = absurd (let first : get_or (verdict_text (verdict.Back k)) 0 0 ≡ get_or (verdict_text verdict.Long) 0 0 = ap (λ t. get_or t 0 0) same in omega arith)
one_verdict (verdict.Back k) (verdict.Again m n) small also same = absurd (let first : get_or (verdict_text (verdict.Back k)) 0 0 ≡ get_or (verdict_text (verdict.Again m n)) 0 0 = ap (λ t. get_or t 0 0) same in omega arith)
one_verdict (verdict.Back k) (verdict.Home m) small also same = absurd (let first : get_or (verdict_text (verdict.Back k)) 0 0 ≡ get_or (verdict_text (verdict.Home m)) 0 0 = ap (λ t. get_or t 0 0) same in omega arith)
one_verdict (verdict.Back k) (verdict.Many other) small also same = absurd (let first : get_or (verdict_text (verdict.Back k)) 0 0 ≡ get_or (verdict_text (verdict.Many other)) 0 0 = ap (λ t. get_or t 0 0) same in omega arith)
one_verdict (verdict.Back k) (verdict.Few other) small also same = absurd (let first : get_or (verdict_text (verdict.Back k)) 0 0 ≡ get_or (verdict_text (verdict.Few other)) 0 0 = ap (λ t. get_or t 0 0) same in omega arith)
one_verdict (verdict.Back k) (verdict.Back m) small also same = ap verdict.Back (number_one k m small also (append_cancel_left (codes "back ") (decimal k) (decimal m) same))

-- the bytes of a lead: letters `A` to `Z` and `a` to `z`
module _ (p : ProblemParts) (sound : IsSound p) where
  mark_lacks : (byte step : ℕ) → byte < 65 → step < length p.leads → nat_eq byte (mark_of p step) ≡ false
  mark_lacks byte step low known =
      let right = (sound_leads p sound).each step known in
      let from : 97 ≤ mark_of p step = right.from in
      false_from_ne_true (nat_eq byte (mark_of p step)) (λ h. let e : byte ≡ mark_of p step = eqb-true byte (mark_of p step) h in absurd (omega arith))

  letter_lacks : (byte step : ℕ) → byte < 65 → step < length p.leads → nat_eq byte (letter_of p step) ≡ false
  letter_lacks byte step low known =
      let right = (sound_letters p sound).each _ (known_method p sound step known) in
      let from : 65 ≤ letter_of p step = right.from in
      false_from_ne_true (nat_eq byte (letter_of p step)) (λ h. let e : byte ≡ letter_of p step = eqb-true byte (letter_of p step) h in absurd (omega arith))

  lead_lacks : (byte step : ℕ) → byte < 65 → step < length p.leads → Lacks byte (lead_text p step)
  lead_lacks byte step low known = by (nat_lt 1 (length p.letters))
    where
      by : (b : Bool) → Lacks byte (cond b (letter_of p step ∷ mark_of p step ∷ []) (mark_of p step ∷ []))
      by true = or_from (nat_eq byte (letter_of p step)) (list_any (nat_eq byte) (mark_of p step ∷ [])) (letter_lacks byte step low known) (or_from (nat_eq byte (mark_of p step)) false (mark_lacks byte step low known) refl)
      by false = or_from (nat_eq byte (mark_of p step)) false (mark_lacks byte step low known) refl

  pub calling_lacks : (byte : ℕ) (steps : List ℕ) → byte < 65 → HasSteps p steps → Lacks byte (calling_text p steps)
  calling_lacks byte [] low known = refl
  calling_lacks byte (step ∷ steps) low known =
      lacks_joined byte (lead_text p step) (calling_text p steps) (lead_lacks byte step low (All-head (λ s. s < length p.leads) step steps known))
      (calling_lacks byte steps low (All-tail (λ s. s < length p.leads) step steps known))

  -- no space and no line feed stands in a node's text
  pub steps_lack : (byte : ℕ) (node : List ℕ) → byte < 45 → HasSteps p node → Lacks byte (steps_text p node)
  steps_lack byte [] low known = or_from (nat_eq byte 45) false (false_from_ne_true (nat_eq byte 45) (λ h. let e : byte ≡ 45 = eqb-true byte 45 h in absurd (omega arith))) refl
  steps_lack byte (step ∷ node) low known = calling_lacks byte (step ∷ node) (omega arith) known

  -- no calling has the root's text
  not_dash : (step : ℕ) (node : List ℕ) → HasSteps p (step ∷ node) → codes "-" ≡ calling_text p (step ∷ node) → ⊥
  not_dash step node known same =
      let lacks : list_any (nat_eq 45) (calling_text p (step ∷ node)) ≡ false = calling_lacks 45 (step ∷ node) (omega arith) known in
      absurd (cc)

  -- nodes that have one text are one
  pub one_node : (node other : List ℕ) → HasSteps p node → HasSteps p other → steps_text p node ≡ steps_text p other → node ≡ other
  one_node [] [] known also same = refl
  one_node [] (step ∷ other) known also same = absurd (not_dash step other also same)
  one_node (step ∷ node) [] known also same = absurd (not_dash step node known (sym same))
  one_node (step ∷ node) (step' ∷ other) known also same = one_calling p sound (step ∷ node) (step' ∷ other) known also same

  -- a line is a raw one
  pub line_raw : (line : LineParts) → IsLine p line → IsRaw (steps_text p line.node) line.verdict
  line_raw line is = record {
    no_space = steps_lack 32 line.node (omega arith) is.steps;
    no_feed = steps_lack 10 line.node (omega arith) is.steps;
    small = is.small;
  }

  pub line_is : (line : LineParts) (rest : List ℕ) → line_text p line ++ rest ≡ raw_text (steps_text p line.node) line.verdict ++ 10 ∷ rest
  line_is line rest =
      append_assoc (steps_text p line.node ++ codes " " ++ verdict_text line.verdict) (codes "\n") rest
      ∙ ap (λ l. l ++ 10 ∷ rest) (append_assoc (steps_text p line.node) (codes " ") (verdict_text line.verdict))

  -- a text begins with one line alone
  pub one_line : (text : List ℕ) (line other : LineParts) (rest more : List ℕ) → Begins p text line rest → Begins p text other more → (line ≡ other) × (rest ≡ more)
  one_line text line other rest more begins also =
      let whole = cut 10 (raw_text (steps_text p line.node) line.verdict) (raw_text (steps_text p other.node) other.verdict) rest more
      (raw_lacks (steps_text p line.node) line.verdict (line_raw line begins.form)) (raw_lacks (steps_text p other.node) other.verdict (line_raw other also.form))
      (sym (line_is line rest) ∙ sym begins.is ∙ also.is ∙ line_is other more) in
      let parts = cut 32 (steps_text p line.node) (steps_text p other.node) (verdict_text line.verdict) (verdict_text other.verdict)
      (steps_lack 32 line.node (omega arith) begins.form.steps) (steps_lack 32 other.node (omega arith) also.form.steps) whole.0 in (
        ap₂ (λ node why. record { node = node; verdict = why }) (one_node line.node other.node begins.form.steps also.form.steps parts.0)
            (one_verdict line.verdict other.verdict begins.form.small also.form.small parts.1),
        whole.1,
      )
