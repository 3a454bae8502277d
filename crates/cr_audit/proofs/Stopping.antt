-- Where reading a log stops, and how it goes on.
use Rattle.std.proofs.Common.{◌≡◌, ◌≢◌, ◌⊎◌, ◌↔◌, ℕ, ◌+◌, Bool, true, false, List, [], ◌∷◌, ◌++◌, Contains, inl, inr, refl, sym, ap, ◌∙◌, subst, arith, append-nil, append_assoc, length-append}
use Rattle.std.proofs.lemmas.List.Elements.{All-push, Contains-append_left, Contains-push, Contains-push_cases}
use Rattle.std.proofs.lemmas.List.Concat.{flat_map-append}
use Rattle.cr_model.specs.Problems.{ProblemParts}
use Rattle.cr_model.specs.Callings.{HasSteps}
use Rattle.cr_model.specs.Checkpoints.{steps_text}
use Rattle.cr_model.specs.OneTurn.{touch_of}
use Rattle.cr_model.specs.Sound.{IsSound}
use Rattle.cr_model.specs.Touches.{Kept}
use Rattle.cr_audit.specs.declared.fault.AuditFault.{AuditFault}
use Rattle.cr_audit.specs.declared.fault.AuditFault.TheVariants as fault
use Rattle.cr_audit.specs.declared.verdict.Verdict.{Verdict}
use Rattle.cr_audit.specs.declared.verdict.Verdict.TheVariants as verdict
use Rattle.std.proofs.lemmas.Bool.{false≢true}
use Rattle.cr_audit.specs.Dues.{dues, is_open}
use Rattle.cr_audit.specs.Examples.{line_of}
use Rattle.cr_audit.specs.Logs.{LineParts, line_text, log_text, IsLine, opened_by, AreDue, IsSmall, IsTrueLine, IsOpened, Proves}
use Rattle.cr_audit.specs.Nodes.{IsNodeText}
use Rattle.cr_audit.specs.Reads.{raw_text, IsRaw}
use Rattle.std.specs.Prelude.{Result, Ok, Err}
use Rattle.std.specs.List.Sorted.{IsStrictlySortedBy}
use Rattle.cr_model.specs.Books.{book_order}
use Rattle.cr_audit.specs.Touched.{IsBookAnswer}
use Rattle.cr_audit.specs.Audits.{IsRightTo, Begins, IsForFirst, IsAuditFault, Audits}
use Rattle.cr_audit.specs.Stops.{IsNoLine, IsOtherNode, IsStop, IsRightLine, HasPassed, IsFound}
use Rattle.cr_audit.proofs.OneLine.{line_raw, line_is, steps_lack}
use Rattle.cr_audit.proofs.RawLines.{raw_lacks}
use Rattle.cr_model.proofs.Bytes.{cut}

module _ (p : ProblemParts) (sound : IsSound p) (text : List ℕ) where
  -- no raw line, so no line
  pub no_line : ((node : List ℕ) (why : Verdict) (more : List ℕ) → IsRaw node why → text ≡ raw_text node why ++ 10 ∷ more → ⊥) → IsNoLine p text
  no_line none = record {
    none = λ line more begins. none (steps_text p line.node) line.verdict more (line_raw p sound line begins.form) (begins.is ∙ line_is p sound line more);
  }

  module _ (node : List ℕ) (why : Verdict) (rest : List ℕ) (raw : IsRaw node why) (is : text ≡ raw_text node why ++ 10 ∷ rest) where
    -- a raw line whose node's text is that of a node
    pub line_here : (steps : List ℕ) → HasSteps p steps → node ≡ steps_text p steps → Begins p text (line_of steps why) rest
    line_here steps known same = record {
      form = record { steps = known; small = raw.small };
      is = is ∙ ap (λ (n : List ℕ). raw_text n why ++ 10 ∷ rest) same ∙ sym (line_is p sound (line_of steps why) rest);
    }

    -- each line here has this node's text
    same_node : (line : LineParts) (more : List ℕ) → Begins p text line more → node ≡ steps_text p line.node
    same_node line more begins =
        let whole = cut 10 (raw_text node why) (raw_text (steps_text p line.node) line.verdict) rest more (raw_lacks node why raw)
        (raw_lacks (steps_text p line.node) line.verdict (line_raw p sound line begins.form)) (sym is ∙ begins.is ∙ line_is p sound line more) in
        (cut 32 node (steps_text p line.node) _ _ raw.no_space (steps_lack p sound 32 line.node (omega arith) begins.form.steps) whole.0).0

    pub no_node : (IsNodeText p node → ⊥) → IsNoLine p text
    no_node none = record { none = λ line more begins. none (record { node = line.node; known = begins.form.steps; is = same_node line more begins }) }

    -- the line of another node
    pub other_node : (due : Bool) (first : List ℕ) → (due ≡ true → node ≡ steps_text p first → ⊥) → IsNodeText p node → IsOtherNode p (dues p due first) text
    other_node due first none told = record {
      line = line_of told.node why;
      more = rest;
      begins = line_here told.node told.known told.is;
      other = by due (λ yes' same. none yes' (told.is ∙ ap (steps_text p) same));
    }
      where
        by : (b : Bool) → (b ≡ true → told.node ≡ first → ⊥) → IsForFirst (dues p b first) (line_of told.node why) → ⊥
        by true never same = never refl same
        by false never same = same

-- a fault of a line is one of the log
pub stopped : (p : ProblemParts) (log : List ℕ) (before : ℕ) (due : List (List ℕ)) (rest : List ℕ) (number : ℕ) (why : AuditFault)
    → IsRightTo p log before due rest → rest ≢ [] → number ≡ before + 1 → IsStop p due rest number why → (book : List ℕ) → IsAuditFault p book log why
stopped p log before due rest number (fault.Form place) right some counted stop book = stop
stopped p log before due rest number (fault.Line n) right some counted stop book =
    record { before = before; due = due; rest = rest; right = right; counted = stop.0 ∙ counted; some = some; none = stop.1.none }
stopped p log before due rest number (fault.Node n) right some counted stop book =
    record { before = before; due = due; rest = rest; right = right; counted = stop.0 ∙ counted; wrong = inl (stop.1.line, stop.1.more, stop.1.begins, stop.1.other) }
stopped p log before due rest number (fault.Verdict n) right some counted stop book =
    record { before = before; due = due; rest = rest; right = right; counted = stop.0 ∙ counted; line = stop.1.line; more = stop.1.more; begins = stop.1.begins; first = stop.1.first; untrue = stop.1.untrue }
stopped p log before due rest number (fault.Book place) right some counted stop book = absurd stop
stopped p log before due rest number fault.NoMemory right some counted stop book = tt

-- the log ends too early
pub ended : (p : ProblemParts) (log : List ℕ) (before : ℕ) (due : List (List ℕ)) (rest : List ℕ) (number : ℕ)
    → IsRightTo p log before due rest → rest ≡ [] → due ≢ [] → number ≡ before + 1 → (book : List ℕ) → IsAuditFault p book log (fault.Node number)
ended p log before due rest number right none some counted book =
    record { before = before; due = due; rest = rest; right = right; counted = counted; wrong = inr (none, some) }

-- one line more
due_on : (p : ProblemParts) (line : LineParts) (node : List ℕ) (left : List (List ℕ)) → line.node ≡ node → (due : List (List ℕ)) (lines : List LineParts)
    → AreDue p due lines (node ∷ left) → AreDue p due (lines ++ line ∷ []) (opened_by p node line.verdict ++ left)
due_on p line node left same due [] order = by due order
  where
    by : (due : List (List ℕ)) → due ≡ node ∷ left → AreDue p due (line ∷ []) (opened_by p node line.verdict ++ left)
    by due is = subst (λ (d : List (List ℕ)). AreDue p d (line ∷ []) (opened_by p node line.verdict ++ left)) (sym is) (same, refl)
due_on p line node left same [] (x ∷ lines) order = order
due_on p line node left same (first ∷ due) (x ∷ lines) order = (order.0, due_on p line node left same (opened_by p first x.verdict ++ due) lines order.1)

module _ (p : ProblemParts) (log : List ℕ) (number : ℕ) (node : List ℕ) (left : List (List ℕ)) (text : List ℕ) (line : LineParts) (rest : List ℕ) where
  right_on : IsRightTo p log number (node ∷ left) text → IsRightLine p (node ∷ left) text line rest → IsRightTo p log (number + 1) (opened_by p node line.verdict ++ left) rest
  right_on right goes = record {
    before = right.before ++ line ∷ [];
    number = length-append right.before (line ∷ []) ∙ ap (λ n. n + 1) right.number;
    text = right.text ∙ ap (λ t. log_text p right.before ++ t) goes.begins.is ∙ sym (append_assoc (log_text p right.before) (line_text p line) rest)
        ∙ ap (λ t. t ++ rest) (ap (λ t. log_text p right.before ++ t) (sym (append-nil (line_text p line))) ∙ sym (flat_map-append (line_text p) right.before (line ∷ [])));
    form = All-push (IsLine p) right.before line right.form goes.begins.form;
    order = due_on p line node left goes.first ([] ∷ []) right.before right.order;
    verdicts = All-push (IsTrueLine p) right.before line right.verdicts goes.holds;
  }

  -- what is opened so far
  opened_on : (lines : List LineParts) (calling : List ℕ) → (IsOpened p lines calling ⊎ ((line.verdict ≡ verdict.Open) × (calling ≡ touch_of p line.node))) → IsOpened p (lines ++ line ∷ []) calling
  opened_on lines calling (inl before) = record {
    node = before.node;
    stands = Contains-append_left lines (line ∷ []) (record { node = before.node; verdict = verdict.Open }) before.stands;
    is = before.is;
  }
  opened_on lines calling (inr here) = record {
    node = line.node;
    stands = subst (Contains (lines ++ line ∷ [])) (λ i. record { node = line.node; verdict = here.0 i }) (Contains-push lines line);
    is = here.1;
  }

  opened_before : (lines : List LineParts) (calling : List ℕ) → IsOpened p (lines ++ line ∷ []) calling → IsOpened p lines calling ⊎ ((line.verdict ≡ verdict.Open) × (calling ≡ touch_of p line.node))
  opened_before lines calling opened = elim (Contains-push_cases lines line (record { node = opened.node; verdict = verdict.Open }) opened.stands) [
    | inl before ↦ inl (record { node = opened.node; stands = before; is = opened.is })
    | inr here ↦ inr (ap (λ (l : LineParts). l.verdict) here, opened.is ∙ ap (touch_of p) (sym (ap (λ (l : LineParts). l.node) here)))
  ]

  -- and what is found
  pub passed_on : (touches more : List (List ℕ)) → HasPassed p log number (node ∷ left) text touches → IsRightLine p (node ∷ left) text line rest
      → ((calling : List ℕ) → Contains more calling ↔ (Contains touches calling ⊎ IsFound p line calling))
      → HasPassed p log (number + 1) (opened_by p node line.verdict ++ left) rest more
  unfolding right_on
  passed_on touches more passed goes found = record {
    right = right_on passed.right goes;
    each = λ calling. (
      λ held. elim ((found calling).0 held) [
        | inl before ↦ (opened_on passed.right.before calling (inl ((passed.each calling).0 before).0), ((passed.each calling).0 before).1)
        | inr here ↦ (opened_on passed.right.before calling (inr (here.opens, here.is)), here.kept)
      ],
      λ both. (found calling).1 (elim (opened_before passed.right.before calling both.0) [
        | inl before ↦ inl ((passed.each calling).1 (before, both.1))
        | inr here ↦ inr (record { opens = here.0; is = here.1; kept = both.1 })
      ]),
    );
  }

-- the whole log
pub proves : (p : ProblemParts) (log : List ℕ) (number : ℕ) (touches : List (List ℕ)) → HasPassed p log number [] [] touches
    → IsStrictlySortedBy (book_order p) touches → Proves p log touches
proves p log number touches passed ascending = record {
  lines = passed.right.before;
  text = passed.right.text ∙ append-nil (log_text p passed.right.before);
  form = passed.right.form;
  whole = passed.right.order;
  verdicts = passed.right.verdicts;
  ascending = ascending;
  each = passed.each;
}

-- and the book beside it
pub answered : (p : ProblemParts) (book log : List ℕ) (touches : List (List ℕ)) → Proves p log touches
    → (result : Result ℕ AuditFault) → IsBookAnswer p book touches result → Audits p book log result
answered p book log touches proved (Ok number) told = record { touches = touches; proved = proved; text = told.0; counted = told.1 }
answered p book log touches proved (Err (fault.Form place)) told = told
answered p book log touches proved (Err (fault.Line number)) told = absurd told
answered p book log touches proved (Err (fault.Node number)) told = absurd told
answered p book log touches proved (Err (fault.Verdict number)) told = absurd told
answered p book log touches proved (Err (fault.Book place)) told = record { touches = touches; proved = proved; differ = told }
answered p book log touches proved (Err fault.NoMemory) told = tt

-- a kept touch is added
pub kept_added : (p : ProblemParts) (node touch : List ℕ) (more old : List (List ℕ)) → touch ≡ touch_of p node → Kept p touch
    → ((calling : List ℕ) → Contains more calling ↔ (Contains old calling ⊎ (calling ≡ touch)))
    → (calling : List ℕ) → Contains more calling ↔ (Contains old calling ⊎ ((calling ≡ touch_of p node) × Kept p calling))
kept_added p node touch more old is kept told calling = (
  λ held. elim ((told calling).0 held) [
    | inl before ↦ inl before
    | inr here ↦ inr (here ∙ is, subst (Kept p) (sym here) kept)
  ],
  λ either. (told calling).1 (elim either [ inl before ↦ inl before | inr here ↦ inr (here.0 ∙ sym is) ]),
)

open_is : (why : Verdict) → is_open why ≡ true → why ≡ verdict.Open
open_is verdict.Open h = refl
open_is verdict.Long h = absurd (false≢true h)
open_is (verdict.Again i j) h = absurd (false≢true h)
open_is (verdict.Home i) h = absurd (false≢true h)
open_is (verdict.Many of) h = absurd (false≢true h)
open_is (verdict.Few of) h = absurd (false≢true h)
open_is (verdict.Back k) h = absurd (false≢true h)

-- of an open node
pub found_here : (p : ProblemParts) (node : List ℕ) (why : Verdict) (more old : List (List ℕ)) → is_open why ≡ true
    → ((calling : List ℕ) → Contains more calling ↔ (Contains old calling ⊎ ((calling ≡ touch_of p node) × Kept p calling)))
    → (calling : List ℕ) → Contains more calling ↔ (Contains old calling ⊎ IsFound p (line_of node why) calling)
found_here p node why more old opens told calling = (
  λ held. elim ((told calling).0 held) [
    | inl before ↦ inl before
    | inr here ↦ inr (record { opens = open_is why opens; is = here.0; kept = here.1 })
  ],
  λ either. (told calling).1 (elim either [ inl before ↦ inl before | inr here ↦ inr (here.is, here.kept) ]),
)

-- of any other
pub none_found : (p : ProblemParts) (node : List ℕ) (why : Verdict) (more old : List (List ℕ)) → is_open why ≡ false → more ≡ old
    → (calling : List ℕ) → Contains more calling ↔ (Contains old calling ⊎ IsFound p (line_of node why) calling)
none_found p node why more old cut same calling = (
  λ held. inl (subst (λ (l : List (List ℕ)). Contains l calling) same held),
  λ either. elim either [
    | inl before ↦ subst (λ (l : List (List ℕ)). Contains l calling) (sym same) before
    | inr here ↦ absurd (false≢true (sym cut ∙ ap is_open here.opens))
  ],
)

-- a line of a known node
pub line_due : (p : ProblemParts) → IsSound p → (text steps node : List ℕ) (why : Verdict) (rest : List ℕ) → HasSteps p steps → node ≡ steps_text p steps
    → IsSmall why → text ≡ raw_text node why ++ 10 ∷ rest → Begins p text (line_of steps why) rest
line_due p sound text steps node why rest known same small is = record {
  form = record { steps = known; small = small };
  is = is ∙ ap (λ (n : List ℕ). raw_text n why ++ 10 ∷ rest) same ∙ sym (line_is p sound (line_of steps why) rest);
}
