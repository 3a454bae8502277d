-- A log has one first fault, or none.
use Rattle.std.proofs.Common.{◌≡◌, ◌≢◌, ℕ, ◌+◌, ◌<◌, ◌≤◌, ◌⊎◌, List, [], ◌∷◌, ◌++◌, length, take, codes, All, inl, inr, refl, sym, ap, ap₂, ◌∙◌, subst, arith, append_assoc, append-nil, length-append}
use Rattle.std.proofs.lemmas.Bool.{cases_lt}
use Rattle.std.proofs.lemmas.List.{take-take}
use Rattle.std.proofs.lemmas.List.Elements.{All-head, All-tail}
use Rattle.cr_model.specs.Problems.{ProblemParts}
use Rattle.cr_model.specs.Checkpoints.{steps_text}
use Rattle.cr_model.specs.Books.{book_text}
use Rattle.cr_model.specs.Sound.{IsSound}
use Rattle.cr_audit.specs.declared.fault.AuditFault.{AuditFault}
use Rattle.cr_audit.specs.declared.fault.AuditFault.TheVariants as fault
use Rattle.cr_audit.specs.declared.verdict.Verdict.{Verdict}
use Rattle.cr_audit.specs.Logs.{LineParts, verdict_text, line_text, log_text, IsLine, opened_by, AreDue, IsTrueLine, Proves}
use Rattle.cr_audit.specs.Audits.{IsRightTo, Begins, IsForFirst, IsLineFault, IsNodeFault, IsVerdictFault, DifferFirst, IsBookFault, IsAuditFault, IsAudited}
use Rattle.cr_audit.proofs.OneLine.{one_line}

-- what more lines a log has, behind others
record Ahead (p : ProblemParts) (a b : List LineParts) (rest more : List ℕ) (left other : List (List ℕ)) : Type 0 where
  lines : List LineParts
  is : b ≡ a ++ lines
  text : rest ≡ log_text p lines ++ more
  form : All (IsLine p) lines
  order : AreDue p left lines other
  verdicts : All (IsTrueLine p) lines

-- a text does not begin with a line where it is empty
never_empty : (p : ProblemParts) (line : LineParts) (more : List ℕ) → Begins p [] line more → ⊥
never_empty p line more begins =
    let front : List ℕ = steps_text p line.node ++ codes " " ++ verdict_text line.verdict in
    let none : length (line_text p line ++ more) ≡ 0 = ap length (sym begins.is) in
    absurd (omega (arith, length-append (line_text p line) more, length-append front (codes "\n")))

module _ (p : ProblemParts) (sound : IsSound p) where
  -- a front of right lines is one of a longer one
  ahead : (due : List (List ℕ)) (a b : List LineParts) (rest more : List ℕ) (left other : List (List ℕ))
      → log_text p a ++ rest ≡ log_text p b ++ more → All (IsLine p) a → All (IsLine p) b → AreDue p due a left → AreDue p due b other
      → All (IsTrueLine p) b → length a ≤ length b → Ahead p a b rest more left other
  ahead due [] b rest more left other same known also one two truly few = record {
    lines = b;
    is = refl;
    text = same;
    form = also;
    order = subst (λ (d : List (List ℕ)). AreDue p d b other) one two;
    verdicts = truly;
  }
  ahead due (x ∷ a) [] rest more left other same known also one two truly few = absurd (omega arith)
  ahead [] (x ∷ a) (y ∷ b) rest more left other same known also one two truly few = absurd one
  ahead (node ∷ due) (x ∷ a) (y ∷ b) rest more left other same known also one two truly few =
      let first = one_line p sound (log_text p (x ∷ a) ++ rest) x y (log_text p a ++ rest) (log_text p b ++ more)
      (record { form = All-head (IsLine p) x a known; is = append_assoc (line_text p x) (log_text p a) rest })
      (record { form = All-head (IsLine p) y b also; is = same ∙ append_assoc (line_text p y) (log_text p b) more }) in
      let same_why : x.verdict ≡ y.verdict = ap (λ (l : LineParts). l.verdict) first.0 in
      let order : AreDue p (opened_by p node x.verdict ++ due) b other = subst (λ (why : Verdict). AreDue p (opened_by p node why ++ due) b other) (sym same_why) two.1 in
      let later = ahead (opened_by p node x.verdict ++ due) a b rest more left other first.1 (All-tail (IsLine p) x a known) (All-tail (IsLine p) y b also) one.1 order (All-tail (IsTrueLine p) y b truly) (omega arith) in
      record {
        lines = later.lines;
        is = ap₂ ◌∷◌ (sym first.0) later.is;
        text = later.text;
        form = later.form;
        order = later.order;
        verdicts = later.verdicts;
      }

  -- no line that is due and true comes next
  abbrev NothingGoesOn : List (List ℕ) → List ℕ → Type 0
  NothingGoesOn due rest = (line : LineParts) (more : List ℕ) → Begins p rest line more → IsForFirst due line → IsTrueLine p line → ⊥

  goes_on : (lines : List LineParts) (due other : List (List ℕ)) (rest more : List ℕ) → rest ≡ log_text p lines ++ more → All (IsLine p) lines → AreDue p due lines other
      → All (IsTrueLine p) lines → 1 ≤ length lines → NothingGoesOn due rest → ⊥
  goes_on [] due other rest more text form order verdicts some stuck = absurd (omega arith)
  goes_on (line ∷ lines) [] other rest more text form order verdicts some stuck = order
  goes_on (line ∷ lines) (node ∷ due) other rest more text form order verdicts some stuck =
      stuck line (log_text p lines ++ more) (record { form = All-head (IsLine p) line lines form; is = text ∙ append_assoc (line_text p line) (log_text p lines) more })
      order.0 (All-head (IsTrueLine p) line lines verdicts)

  module _ (log : List ℕ) where
    between : (m n : ℕ) (due other : List (List ℕ)) (rest more : List ℕ) (one : IsRightTo p log m due rest) (two : IsRightTo p log n other more) → m ≤ n
        → Ahead p one.before two.before rest more due other
    between m n due other rest more one two few =
        ahead ([] ∷ []) one.before two.before rest more due other (sym one.text ∙ two.text) one.form two.form one.order two.order two.verdicts (omega (arith, one.number, two.number))

    -- where no line comes next no other front goes further
    no_further : (m n : ℕ) (due other : List (List ℕ)) (rest more : List ℕ) → IsRightTo p log m due rest → NothingGoesOn due rest → IsRightTo p log n other more → n ≤ m
    no_further m n due other rest more one stuck two = elim (cases_lt m n) [
      | inl less ↦
          let found = between m n due other rest more one two (omega arith) in
          let longer : length two.before ≡ length one.before + length found.lines = ap length found.is ∙ length-append one.before found.lines in
          absurd (goes_on found.lines due other rest more found.text found.form found.order found.verdicts (omega (arith, one.number, two.number)) stuck)
      | inr within ↦ within
    ]

    -- fronts of as many lines have the same due, and the same left
    record Alike (due other : List (List ℕ)) (rest more : List ℕ) : Type 0 where
      same_due : due ≡ other
      same_rest : rest ≡ more

    alike : (m n : ℕ) (due other : List (List ℕ)) (rest more : List ℕ) → IsRightTo p log m due rest → IsRightTo p log n other more → m ≡ n → Alike due other rest more
    alike m n due other rest more one two e =
        let found = between m n due other rest more one two (omega arith) in
        let longer : length two.before ≡ length one.before + length found.lines = ap length found.is ∙ length-append one.before found.lines in
        by found.lines found.text found.order (omega (arith, one.number, two.number))
      where
        by : (lines : List LineParts) → rest ≡ log_text p lines ++ more → AreDue p due lines other → length lines ≡ 0 → Alike due other rest more
        by [] text order none = record { same_due = order; same_rest = text }
        by (line ∷ lines) text order none = absurd (omega arith)

    -- a front after which no line comes
    record Stops (number : ℕ) (due : List (List ℕ)) (rest : List ℕ) : Type 0 where
      right : IsRightTo p log number due rest
      stuck : NothingGoesOn due rest

    record SameStop (m n : ℕ) (due other : List (List ℕ)) (rest more : List ℕ) : Type 0 where
      number : m ≡ n
      same : Alike due other rest more

    same_stop : (m n : ℕ) (due other : List (List ℕ)) (rest more : List ℕ) → Stops m due rest → Stops n other more → SameStop m n due other rest more
    same_stop m n due other rest more one two =
        let one_way : n ≤ m = no_further m n due other rest more one.right one.stuck two.right in
        let other_way : m ≤ n = no_further n m other due more rest two.right two.stuck one.right in
        let number : m ≡ n = omega arith in
        record { number = number; same = alike m n due other rest more one.right two.right number }

    -- each fault is such a place, and so is the end of what is proved
    of_line : (number : ℕ) (f : IsLineFault p log number) → Stops f.before f.due f.rest
    of_line number f = record { right = f.right; stuck = λ line more begins first truly. f.none line more begins }

    of_node : (number : ℕ) (f : IsNodeFault p log number) → Stops f.before f.due f.rest
    of_node number f = record { right = f.right; stuck = by f.wrong }
      where
        by : ((line : LineParts) × (more : List ℕ) × Begins p f.rest line more × (IsForFirst f.due line → ⊥)) ⊎ ((f.rest ≡ []) × (f.due ≢ [])) → NothingGoesOn f.due f.rest
        by (inl other) line more begins first truly =
            other.3 (subst (IsForFirst f.due) (one_line p sound f.rest line other.0 more other.1 begins other.2).0 first)
        by (inr ended) line more begins first truly = never_empty p line more (subst (λ (t : List ℕ). Begins p t line more) ended.0 begins)

    of_verdict : (number : ℕ) (f : IsVerdictFault p log number) → Stops f.before f.due f.rest
    of_verdict number f = record {
      right = f.right;
      stuck = λ line more begins first truly. f.untrue (subst (IsTrueLine p) (one_line p sound f.rest line f.line more f.more begins f.begins).0 truly);
    }

    of_proved : (touches : List (List ℕ)) (proved : Proves p log touches) → Stops (length proved.lines) [] []
    of_proved touches proved = record {
      right = record {
        before = proved.lines;
        number = refl;
        text = proved.text ∙ sym (append-nil (log_text p proved.lines));
        form = proved.form;
        order = proved.whole;
        verdicts = proved.verdicts;
      };
      stuck = λ line more begins first truly. never_empty p line more begins;
    }

    -- faults of two kinds exclude each other
    line_node : (m n : ℕ) → IsLineFault p log m → IsNodeFault p log n → ⊥
    line_node m n f g =
        let same = (same_stop f.before g.before f.due g.due f.rest g.rest (of_line m f) (of_node n g)).same in
        elim g.wrong [
          | inl other ↦ f.none other.0 other.1 (subst (λ (t : List ℕ). Begins p t other.0 other.1) (sym same.same_rest) other.2)
          | inr ended ↦ f.some (same.same_rest ∙ ended.0)
        ]

    line_verdict : (m n : ℕ) → IsLineFault p log m → IsVerdictFault p log n → ⊥
    line_verdict m n f g =
        let same = (same_stop f.before g.before f.due g.due f.rest g.rest (of_line m f) (of_verdict n g)).same in
        f.none g.line g.more (subst (λ (t : List ℕ). Begins p t g.line g.more) (sym same.same_rest) g.begins)

    node_verdict : (m n : ℕ) → IsNodeFault p log m → IsVerdictFault p log n → ⊥
    node_verdict m n f g =
        let same = (same_stop f.before g.before f.due g.due f.rest g.rest (of_node m f) (of_verdict n g)).same in
        let begins : Begins p f.rest g.line g.more = subst (λ (t : List ℕ). Begins p t g.line g.more) (sym same.same_rest) g.begins in
        elim f.wrong [
          | inl other ↦ other.3 (subst (λ (d : List (List ℕ)). IsForFirst d other.0) (sym same.same_due)
              (subst (IsForFirst g.due) (one_line p sound f.rest g.line other.0 g.more other.1 begins other.2).0 g.first))
          | inr ended ↦ never_empty p g.line g.more (subst (λ (t : List ℕ). Begins p t g.line g.more) ended.0 begins)
        ]

    line_proved : (m : ℕ) (touches : List (List ℕ)) → IsLineFault p log m → Proves p log touches → ⊥
    line_proved m touches f proved = f.some (same_stop f.before (length proved.lines) f.due [] f.rest [] (of_line m f) (of_proved touches proved)).same.same_rest

    node_proved : (m : ℕ) (touches : List (List ℕ)) → IsNodeFault p log m → Proves p log touches → ⊥
    node_proved m touches f proved =
        let same = (same_stop f.before (length proved.lines) f.due [] f.rest [] (of_node m f) (of_proved touches proved)).same in
        elim f.wrong [
          | inl other ↦ never_empty p other.0 other.1 (subst (λ (t : List ℕ). Begins p t other.0 other.1) same.same_rest other.2)
          | inr ended ↦ ended.1 same.same_due
        ]

    verdict_proved : (m : ℕ) (touches : List (List ℕ)) → IsVerdictFault p log m → Proves p log touches → ⊥
    verdict_proved m touches f proved =
        let same = (same_stop f.before (length proved.lines) f.due [] f.rest [] (of_verdict m f) (of_proved touches proved)).same in
        never_empty p f.line f.more (subst (λ (t : List ℕ). Begins p t f.line f.more) same.same_rest f.begins)

    -- and those of one kind are one
    one_place : (m n before other : ℕ) → m ≡ before + 1 → n ≡ other + 1 → before ≡ other → m ≡ n
    one_place m n before other one two same = omega arith

    pub line_once : (m n : ℕ) → IsLineFault p log m → IsLineFault p log n → m ≡ n
    line_once m n f g = one_place m n f.before g.before f.counted g.counted (same_stop f.before g.before f.due g.due f.rest g.rest (of_line m f) (of_line n g)).number

    pub node_once : (m n : ℕ) → IsNodeFault p log m → IsNodeFault p log n → m ≡ n
    node_once m n f g = one_place m n f.before g.before f.counted g.counted (same_stop f.before g.before f.due g.due f.rest g.rest (of_node m f) (of_node n g)).number

    pub verdict_once : (m n : ℕ) → IsVerdictFault p log m → IsVerdictFault p log n → m ≡ n
    verdict_once m n f g = one_place m n f.before g.before f.counted g.counted (same_stop f.before g.before f.due g.due f.rest g.rest (of_verdict m f) (of_verdict n g)).number

    -- two texts differ first at one place
    not_before : (text other : List ℕ) (m n : ℕ) → DifferFirst text other m → DifferFirst text other n → m < n → ⊥
    not_before text other m n one two less =
        let first : take (m + 1) (take n text) ≡ take (m + 1) text = take_within text in
        let second : take (m + 1) (take n other) ≡ take (m + 1) other = take_within other in
        one.here (sym first ∙ ap (take (m + 1)) two.alike ∙ second)
      where
        take_within : (xs : List ℕ) → take (m + 1) (take n xs) ≡ take (m + 1) xs
        take_within xs = take-take (m + 1) n xs (omega arith)

    differ_once : (text other : List ℕ) (m n : ℕ) → DifferFirst text other m → DifferFirst text other n → m ≡ n
    differ_once text other m n one two = elim (cases_lt m n) [
      | inl less ↦ absurd (not_before text other m n one two less)
      | inr within ↦ elim (cases_lt n m) [ inl less ↦ absurd (not_before text other n m two one less) | inr also ↦ omega arith ]
    ]

    never_itself : (text : List ℕ) (m : ℕ) → DifferFirst text text m → ⊥
    never_itself text m differ = differ.here refl

    module _ (book : List ℕ) (one_list : (touches others : List (List ℕ)) → Proves p log touches → Proves p log others → touches ≡ others) where
      pub book_once : (m n : ℕ) → IsBookFault p book log m → IsBookFault p book log n → m ≡ n
      book_once m n f g =
          differ_once book (book_text p f.touches) m n f.differ
          (subst (λ (l : List (List ℕ)). DifferFirst book (book_text p l) n) (one_list g.touches f.touches g.proved f.proved) g.differ)

      -- a log has one fault, want of memory apart
      pub one_fault : (f g : AuditFault) → f ≢ fault.NoMemory → g ≢ fault.NoMemory → IsAuditFault p book log f → IsAuditFault p book log g → f ≡ g
      one_fault (fault.Form m) g some also one two = absurd one
      one_fault (fault.Line m) (fault.Form n) some also one two = absurd two
      one_fault (fault.Line m) (fault.Line n) some also one two = ap fault.Line (line_once m n one two)
      one_fault (fault.Line m) (fault.Node n) some also one two = absurd (line_node m n one two)
      one_fault (fault.Line m) (fault.Verdict n) some also one two = absurd (line_verdict m n one two)
      one_fault (fault.Line m) (fault.Book n) some also one two = absurd (line_proved m two.touches one two.proved)
      one_fault (fault.Line m) fault.NoMemory some also one two = absurd (also refl)
      one_fault (fault.Node m) (fault.Form n) some also one two = absurd two
      one_fault (fault.Node m) (fault.Line n) some also one two = absurd (line_node n m two one)
      one_fault (fault.Node m) (fault.Node n) some also one two = ap fault.Node (node_once m n one two)
      one_fault (fault.Node m) (fault.Verdict n) some also one two = absurd (node_verdict m n one two)
      one_fault (fault.Node m) (fault.Book n) some also one two = absurd (node_proved m two.touches one two.proved)
      one_fault (fault.Node m) fault.NoMemory some also one two = absurd (also refl)
      one_fault (fault.Verdict m) (fault.Form n) some also one two = absurd two
      one_fault (fault.Verdict m) (fault.Line n) some also one two = absurd (line_verdict n m two one)
      one_fault (fault.Verdict m) (fault.Node n) some also one two = absurd (node_verdict n m two one)
      one_fault (fault.Verdict m) (fault.Verdict n) some also one two = ap fault.Verdict (verdict_once m n one two)
      one_fault (fault.Verdict m) (fault.Book n) some also one two = absurd (verdict_proved m two.touches one two.proved)
      one_fault (fault.Verdict m) fault.NoMemory some also one two = absurd (also refl)
      one_fault (fault.Book m) (fault.Form n) some also one two = absurd two
      one_fault (fault.Book m) (fault.Line n) some also one two = absurd (line_proved n one.touches two one.proved)
      one_fault (fault.Book m) (fault.Node n) some also one two = absurd (node_proved n one.touches two one.proved)
      one_fault (fault.Book m) (fault.Verdict n) some also one two = absurd (verdict_proved n one.touches two one.proved)
      one_fault (fault.Book m) (fault.Book n) some also one two = ap fault.Book (book_once m n one two)
      one_fault (fault.Book m) fault.NoMemory some also one two = absurd (also refl)
      one_fault fault.NoMemory g some also one two = absurd (some refl)

      -- and none where the book is the text of what it proves
      pub no_fault : (number : ℕ) (f : AuditFault) → IsAudited p book log number → f ≢ fault.NoMemory → IsAuditFault p book log f → ⊥
      no_fault number (fault.Form m) audited some one = one
      no_fault number (fault.Line m) audited some one = line_proved m audited.touches one audited.proved
      no_fault number (fault.Node m) audited some one = node_proved m audited.touches one audited.proved
      no_fault number (fault.Verdict m) audited some one = verdict_proved m audited.touches one audited.proved
      no_fault number (fault.Book m) audited some one =
          let same : book_text p one.touches ≡ book = ap (book_text p) (one_list one.touches audited.touches one.proved audited.proved) ∙ sym audited.text in
          never_itself book m (subst (λ (t : List ℕ). DifferFirst book t m) same one.differ)
      no_fault number fault.NoMemory audited some one = some refl

      -- and one number of touches
      pub one_number : (m n : ℕ) → IsAudited p book log m → IsAudited p book log n → m ≡ n
      one_number m n one two = one.counted ∙ ap length (one_list one.touches two.touches one.proved two.proved) ∙ sym two.counted
