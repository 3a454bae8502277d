-- Bytes always have an answer: they are a problem file, or have a first fault.
use Rattle.std.proofs.Common.{◌≡◌, ℕ, zero, suc, ◌/◌, ◌<◌, ◌≤◌, ◌⊎◌, pos, ◌≤ℤ◌, nat_abs, Bool, true, false, Option, Some, None, List, [], ◌∷◌, length, get_or, IsUtf8, refl, sym, ◌∙◌, arith, inl, inr}
use Rattle.std.specs.List.{AllZip}
use Rattle.std.specs.Str.{is_utf8}
use Rattle.std.proofs.lemmas.Int.{ints}
use Rattle.std.proofs.lemmas.Bool.{cases_lt, false≢true}
use Rattle.std.proofs.lemmas.Str.{IsUtf8-from_is_utf8, is_utf8-from_IsUtf8}
use Rattle.toml.specs.Data.{Members}
use Rattle.toml.specs.Parse.{parse_document}
use Rattle.cr_row.specs.Rows.{Places}
use Rattle.cr_model.specs.declared.fault.CountAt.TheVariants as counted
use Rattle.cr_model.specs.declared.fault.PartFault.{PartFault}
use Rattle.cr_model.specs.declared.fault.PartFault.TheVariants as part
use Rattle.cr_model.specs.declared.notation.NotationFault.{NotationFault}
use Rattle.cr_model.specs.declared.file_fault.Whose.TheVariants as whose
use Rattle.cr_model.specs.declared.file_fault.ProblemFault.{ProblemFault}
use Rattle.cr_model.specs.declared.file_fault.ProblemFault.TheVariants as fault
use Rattle.cr_model.specs.Problems.{ProblemParts}
use Rattle.cr_model.specs.Callings.{shortest}
use Rattle.cr_model.specs.Queries.{cap}
use Rattle.cr_model.specs.Checks.{Check, one_fault, each_index, AllHold, IsFirstFailure}
use Rattle.cr_model.specs.Right.{LetterIsRight, LettersAreRight, LeadsAreRight, count_at, method_count_at, pattern_at}
use Rattle.cr_model.specs.Sound.{IsSound}
use Rattle.cr_model.specs.Faults.{checks, query_checks, IsPartFault}
use Rattle.cr_model.specs.Notation.{Spells}
use Rattle.cr_model.specs.NotationFaults.{FirstFault}
use Rattle.cr_model.specs.Keys.{key_faults}
use Rattle.cr_model.specs.Files.{FileParts, file_of, Reads, IsFile}
use Rattle.cr_model.specs.ProblemFiles.{Spellings, letters_of, method_texts, call_texts, mark_at, is_for, OverIsRight, MarkIsRight, Fits, FitsAll, AreApart, parts_of, StagePasses, LettersPass, MethodsSpell, CallsSpell, OversPass, MarksPass, LengthsPass, CallsPass, Makes, ProblemFile, IsSpelled, IsFirstUnspelled, IsFileFault, FirstProblemFault}
use Rattle.cr_read.proofs.LeadsRight.{leads_right, letters_right, later_fault, fault_made}
use Rattle.cr_read.specs.Reading.{file_fault}
use Rattle.cr_read.proofs.MethodsThere.{some_methods}
use Rattle.cr_read.proofs.OneFileKnown.{Known, known_and, known_le, known_le_int, first_wrong, known_each, known_letter, known_over, known_mark, known_fit, known_fits, known_apart, known_limits, known_count, known_method_count, known_pattern, known_com}

-- What is known of notation: a text spells changes, or has a first fault.
abbrev pub TakenOrRefused : Type 0
TakenOrRefused = (n : ℕ) (text : List ℕ) → ((changes : List Places) × Spells n text changes) ⊎ ((why : NotationFault) × FirstFault n text why)

-- a number from 3 to 16 is one of ours
staged : (file : FileParts) → pos 3 ≤ℤ file.stage → file.stage ≤ℤ pos 16 → StagePasses file (nat_abs file.stage)
staged file from to = record { is = omega (arith, ints); from = omega (arith, ints); to = omega (arith, ints) }

none_or_some : {A : Type 0} (r : Option A) (x : A) → r ≡ None → r ≡ Some x → ⊥
none_or_some r x a b = cc

-- a fault behind a text that spells changes
later : (n : ℕ) (text : List ℕ) (texts : List (List ℕ)) (i : ℕ) (why : NotationFault) → IsSpelled n text → IsFirstUnspelled n texts i why → IsFirstUnspelled n (text ∷ texts) (suc i) why
later n text texts i why spelled first = record { within = (let low : i < length texts = first.within in omega arith); before = before; wrong = first.wrong }
  where
    before : (j : ℕ) → j < suc i → IsSpelled n (get_or (text ∷ texts) j [])
    before zero h = spelled
    before (suc j) h = first.before j (omega arith)

-- the values make a problem, or have a fault
abbrev Answer : FileParts → Type 0
Answer file = ((p : ProblemParts) × Makes file p × IsSound p) ⊎ ((f : ProblemFault) × IsFileFault file f)

-- a check holds or fails
abbrev IsKnown : Check PartFault → Type 0
IsKnown check = check.holds ⊎ ((why : PartFault) × check.fails why)

abbrev AreKnown : List (Check PartFault) → Type 0
AreKnown [] = Unit {0}
AreKnown (check ∷ checks) = IsKnown check × AreKnown checks

-- all of some checks hold, or one is the first that does not
first_failure : (checks : List (Check PartFault)) → AreKnown checks → AllHold checks ⊎ ((why : PartFault) × IsFirstFailure checks why)
first_failure [] known = inl tt
first_failure (check ∷ checks) (inl holds, later) = elim (first_failure checks later) [
  | inl all ↦ inl (holds, all)
  | inr first ↦ inr (first.0, inr (holds, first.1))
]
first_failure (check ∷ checks) (inr fails, later) = inr (fails.0, inl fails.1)

known_one : (P : Type 0) (why : PartFault) → Known P → IsKnown (one_fault P why)
known_one P why (inl holds) = inl holds
known_one P why (inr fails) = inr (why, (refl, fails))

known_index : (P : ℕ → Type 0) (number : ℕ) (why : ℕ → PartFault) → ((i : ℕ) → Known (P i)) → IsKnown (each_index P number why)
known_index P number why known = elim (first_wrong P known number) [
  | inl all ↦ inl all
  | inr first ↦ inr (why first.0, (first.0, refl, first.1))
]

module _ (p : ProblemParts) (letters : LettersAreRight p.letters) (leads : LeadsAreRight p.stage (length p.letters) p.leads) where
  known_query : AreKnown (query_checks p)
  known_query = (
    known_index _ _ (λ i. part.Count (counted.Mark i)) (λ i. known_count p.leads i (count_at p.query.counts i)),
    (
      known_index _ _ (λ i. part.Count (counted.Method i)) (λ i. known_method_count p.letters i (method_count_at p.query.method_counts i)),
      (known_index _ _ part.Pattern (λ i. known_pattern p.stage i (pattern_at p.query.patterns i)), (known_one _ part.Com (known_com p.query.com), tt)),
    ),
  )

  known_parts : AreKnown (checks p)
  known_parts = (
    inl letters,
    (
      inl leads,
      (
        known_one _ _ (known_le (length p.leads) 24),
        (
          known_one _ _ (known_limits (pos 1) p.query.min p.query.max),
          (
            known_one _ _ (known_le (cap p / shortest p) 1024),
            (known_one _ _ (known_and _ _ (known_le_int (pos 1) p.query.parts) (known_le_int p.query.parts (pos 64))), known_query),
          ),
        ),
      ),
    ),
  )

-- the texts spell changes, or one is the first that does not
spelled_or : TakenOrRefused → (n : ℕ) (texts : List (List ℕ)) → ((spellings : List (List Places)) × AllZip (Spells n) texts spellings) ⊎ ((i : ℕ) × (why : NotationFault) × IsFirstUnspelled n texts i why)
spelled_or taken n [] = inl ([], tt)
spelled_or taken n (text ∷ texts) = elim (taken n text) [
  | inl spelled ↦ elim (spelled_or taken n texts) [
    | inl spellings ↦ inl (spelled.0 ∷ spellings.0, (spelled.1, spellings.1))
    | inr first ↦ inr (suc first.0, first.1, later n text texts first.0 first.1 spelled first.2)
  ]
  | inr fault ↦ inr (0, fault.0, record { within = omega arith; before = λ j h. absurd (omega arith); wrong = fault.1 })
]

module _ (file : FileParts) (some : 1 ≤ length file.methods) where
  after_calls : (n : ℕ) (spellings : Spellings) → CallsPass file n spellings → Answer file
  after_calls n spellings h =
      let stage = h.before.before.before.before.before.before.before in
      let makes : Makes file (parts_of n file spellings) = record { n = n; spellings = spellings; passes = h; is = refl } in
      let p = parts_of n file spellings in
      let letters : LettersAreRight p.letters = letters_right file n spellings h some in
      let leads : LeadsAreRight p.stage (length p.letters) p.leads = leads_right file n spellings h some in
      elim (first_failure (checks p) (known_parts p letters leads)) [
        | inl all ↦ inl (p, makes, record { stage_from = stage.from; stage_to = stage.to; checks = all })
        | inr first ↦
            let is : IsPartFault p first.0 = record { first = first.1 } in
            inr (file_fault first.0, fault_made file p first.0 makes is (later_fault p first.0 letters leads is))
      ]

  after_lengths : (n : ℕ) (spellings : Spellings) → LengthsPass file n spellings → Answer file
  after_lengths n spellings h = elim (first_wrong (λ j. (i : ℕ) → i < j → AreApart file i j) (λ j. known_each (λ i. AreApart file i j) (λ i. known_apart file i j) j) (length file.calls)) [
    | inl all ↦ after_calls n spellings (record { before = h; apart = all })
    | inr second ↦ elim (first_wrong (λ i. AreApart file i second.0) (λ i. known_apart file i second.0) second.0) [
      | inl all ↦ absurd (second.1.wrong all)
      | inr first ↦ inr (fault.Clash first.0 second.0, (n, spellings, h, second.1, first.1))
    ]
  ]

  after_marks : (n : ℕ) (spellings : Spellings) → MarksPass file n spellings → Answer file
  after_marks n spellings h = elim (first_wrong (FitsAll file spellings) (known_fits file spellings) (length file.calls)) [
    | inl all ↦ after_lengths n spellings (record { before = h; fits = all })
    | inr call ↦ elim (first_wrong (λ m. is_for file call.0 m ≡ true → Fits file spellings call.0 m) (known_fit file spellings call.0) (length file.methods)) [
      | inl all ↦ absurd (call.1.wrong all)
      | inr method ↦ inr (fault.CallLength call.0 method.0, (n, spellings, h, call.1, method.1))
    ]
  ]

  after_overs : (n : ℕ) (spellings : Spellings) → OversPass file n spellings → Answer file
  after_overs n spellings h = elim (first_wrong (λ i. MarkIsRight (mark_at file i)) (λ i. known_mark (mark_at file i)) (length file.calls)) [
    | inl all ↦ after_marks n spellings (record { before = h; marks = all })
    | inr first ↦ inr (fault.Mark first.0, (n, spellings, h, first.1))
  ]

  after_notations : (n : ℕ) (spellings : Spellings) → CallsSpell file n spellings → Answer file
  after_notations n spellings h = elim (first_wrong (OverIsRight file) (known_over file) (length file.calls)) [
    | inl all ↦ after_overs n spellings (record { before = h; overs = all })
    | inr first ↦ inr (fault.Over first.0, (n, spellings, h, first.1))
  ]

  module _ (taken : TakenOrRefused) where
    after_methods : (n : ℕ) (methods : List (List Places)) → MethodsSpell file n methods → Answer file
    after_methods n methods h = elim (spelled_or taken n (call_texts file)) [
      | inl calls ↦ after_notations n (record { methods = methods; calls = calls.0 }) (record { before = h; calls_spell = calls.1 })
      | inr first ↦ inr (fault.Notation (whose.Call first.0) first.1, (n, methods, h, first.2))
    ]

    after_letters : (n : ℕ) → LettersPass file n → Answer file
    after_letters n h = elim (spelled_or taken n (method_texts file)) [
      | inl methods ↦ after_methods n methods.0 (record { before = h; methods_spell = methods.1 })
      | inr first ↦ inr (fault.Notation (whose.Method first.0) first.1, (n, h, first.2))
    ]

    after_stage : (n : ℕ) → StagePasses file n → Answer file
    after_stage n h = elim (first_wrong (LetterIsRight (letters_of file)) (known_letter (letters_of file)) (length file.methods)) [
      | inl all ↦ after_letters n (record { before = h; letters = all })
      | inr first ↦ inr (fault.Letter first.0, (n, h, first.1))
    ]

    answer : Answer file
    answer = elim (known_le_int (pos 3) file.stage) [
      | inl from ↦ elim (known_le_int file.stage (pos 16)) [
        | inl to ↦ after_stage (nat_abs file.stage) (staged file from to)
        | inr over ↦ inr (fault.Stage file.stage, (refl, λ right. over right.1))
      ]
      | inr under ↦ inr (fault.Stage file.stage, (refl, λ right. under right.0))
    ]

-- the values' fault is the first
is_first : (bytes : List ℕ) (file : FileParts) (f : ProblemFault) → IsFile bytes file → IsFileFault file f → FirstProblemFault bytes f
is_first bytes file fault.NotToml is h = absurd h
is_first bytes file (fault.Key path) is h = absurd h
is_first bytes file (fault.Stage stage) is h = (file, is, h)
is_first bytes file (fault.Letter i) is h = (file, is, h)
is_first bytes file (fault.Notation whose why) is h = (file, is, h)
is_first bytes file (fault.Over call) is h = (file, is, h)
is_first bytes file (fault.Mark call) is h = (file, is, h)
is_first bytes file (fault.CallLength call method) is h = (file, is, h)
is_first bytes file (fault.Clash first second) is h = (file, is, h)
is_first bytes file (fault.Steps steps) is h = (file, is, h)
is_first bytes file (fault.Range low high) is h = (file, is, h)
is_first bytes file (fault.Deep depth) is h = (file, is, h)
is_first bytes file (fault.Parts parts) is h = (file, is, h)
is_first bytes file (fault.Count at) is h = (file, is, h)
is_first bytes file (fault.Pattern i) is h = (file, is, h)
is_first bytes file fault.NoMemory is h = absurd h
is_first bytes file fault.Com is h = (file, is, h)

abbrev Answered : List ℕ → Type 0
Answered bytes = ((p : ProblemParts) × ProblemFile bytes p) ⊎ ((f : ProblemFault) × FirstProblemFault bytes f)

module _ (taken : TakenOrRefused) (bytes : List ℕ) where
  of_file : (file : FileParts) → IsFile bytes file → Answered bytes
  of_file file is = elim (answer file (some_methods bytes file is) taken) [
    | inl made ↦ inl (made.0, record { file = file; is_file = is; makes = made.1; sound = made.2 })
    | inr wrong ↦ inr (wrong.0, is_first bytes file wrong.0 is wrong.1)
  ]

  of_table : (table : Members) (keys : List (List ℕ)) → Reads bytes table → key_faults table ≡ keys → Answered bytes
  of_table table [] reads none = of_file (file_of table) (record { table = table; reads = reads; keys = none; is = refl })
  of_table table (path ∷ rest) reads is = inr (fault.Key path, (table, rest, reads, is))

  of_text : (found : Option Members) → IsUtf8 bytes → parse_document bytes ≡ found → Answered bytes
  of_text None text is = inr (fault.NotToml, λ table reads. none_or_some (parse_document bytes) table is reads.is)
  of_text (Some table) text is = of_table table (key_faults table) (record { text = text; is = is }) refl

  of_bytes : (test : Bool) → is_utf8 bytes ≡ test → Answered bytes
  of_bytes true is = of_text (parse_document bytes) (IsUtf8-from_is_utf8 bytes is) refl
  of_bytes false is = inr (fault.NotToml, λ table reads. false≢true (sym is ∙ is_utf8-from_IsUtf8 bytes reads.text))

pub taken_or_refused : TakenOrRefused → (bytes : List ℕ) → Answered bytes
taken_or_refused taken bytes = of_bytes taken bytes (is_utf8 bytes) refl
