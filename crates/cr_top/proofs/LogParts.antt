-- The parts of what a log is written as: none is empty.
use Rattle.std.proofs.Common.{◌≡◌, ◌∙◌, ℕ, ◌<◌, Bool, true, false, List, [], ◌∷◌, ◌++◌, length, get_or, Some, refl, sym, ap, subst, arith, length-append, append_assoc, append-nil}
use Rattle.std.specs.Prelude.{All, codes, decimal, flat_map, option_map}
use Rattle.std.proofs.lemmas.Bool.{true≢false}
use Rattle.std.proofs.lemmas.Option.{same_Some}
use Rattle.std.proofs.lemmas.List.Elements.{All-nil, All-cons, Contains-get_or}
use Rattle.toml.specs.Data.{Members}
use Rattle.toml.specs.Parse.{parse_document}
use Rattle.toml.proofs.OnLiterals.{toml_on_literals}
use Rattle.cr_audit.specs.Logs.{LineParts, Proves, AreDue, line_text, log_text, verdict_text}
use Rattle.cr_log.specs.FirstVerdicts.{IsFirstLog}
use Rattle.cr_model.specs.Problems.{ProblemParts}
use Rattle.cr_model.specs.Callings.{HasSteps}
use Rattle.cr_model.specs.Books.{IsBook, book_text, book_line}
use Rattle.cr_model.specs.Checkpoints.{IsCheckpoint, steps_text}
use Rattle.cr_model.specs.Files.{FileParts, IsFile}
use Rattle.cr_model.specs.Keys.{key_faults}
use Rattle.cr_model.specs.ProblemFiles.{ProblemFile}
use Rattle.cr_shard.specs.JoinFaults.{AreBodies}
use Rattle.cr_store.specs.Blocks.{block, IsBody}
use Rattle.cr_top.specs.Logged.{IsLogOf}

-- a text that is none of anything
abbrev is_none : {X : Type 0} → List X → Bool
is_none [] = true
is_none (x ∷ xs) = false

-- no table has no fault where it is empty
empty_table : option_map (λ (table : Members). is_none (key_faults table)) (parse_document []) ≡ Some false
unfolding toml_on_literals key_faults
empty_table = refl

empty_file : (file : FileParts) → IsFile [] file → ⊥
empty_file file is =
    let faults : option_map (λ (table : Members). is_none (key_faults table)) (Some is.table) ≡ Some false =
    ap (option_map (λ (table : Members). is_none (key_faults table))) (sym is.reads.is) ∙ empty_table in
    absurd (true≢false (sym (ap is_none is.keys) ∙ same_Some _ _ faults))

pub some_file : (bytes : List ℕ) (p : ProblemParts) → ProblemFile bytes p → 0 < length bytes
some_file [] p is = absurd (empty_file is.file is.is_file)
some_file (byte ∷ bytes) p is = omega arith

-- the touches of a book that a log proves have the problem's steps
pub book_steps : (p : ProblemParts) (log : List ℕ) (book : List (List ℕ)) → Proves p log book → All (HasSteps p) book
book_steps p log book proved = λ k d inside. ((proved.each (get_or book k d)).0 (Contains-get_or book k d inside)).1.wanted.steps

-- a text that goes on with something is not nothing
some_behind : (before last : List ℕ) → 0 < length last → 0 < length (before ++ last)
some_behind before last is = omega (arith, is, length-append before last)

some_before : (some behind : List ℕ) → 0 < length some → 0 < length (some ++ behind)
some_before some behind is = omega (arith, is, length-append some behind)

-- the last line of a book's text is there
pub some_book : (p : ProblemParts) (book : List (List ℕ)) → 0 < length (book_text p book)
some_book p book = some_behind (flat_map (book_line p) book ++ codes "touches " ++ decimal (length book)) (codes "\n") (omega arith)

-- and so is the first line of a log
some_line : (p : ProblemParts) (line : LineParts) (rest : List ℕ) → 0 < length (line_text p line ++ rest)
some_line p line rest =
    some_before (line_text p line) rest (some_behind (steps_text p line.node ++ codes " " ++ verdict_text line.verdict) (codes "\n") (omega arith))

some_lines : (p : ProblemParts) (lines : List LineParts) → AreDue p ([] ∷ []) lines [] → 0 < length (log_text p lines)
some_lines p [] whole = absurd (omega (arith, ap length whole))
some_lines p (line ∷ lines) whole = some_line p line (log_text p lines)

pub some_log : (p : ProblemParts) (log : List ℕ) (book : List (List ℕ)) → Proves p log book → 0 < length log
some_log p log book proved = subst (λ (t : List ℕ). 0 < length t) (sym proved.text) (some_lines p proved.lines proved.whole)

-- three bodies as blocks, one after another
pub three_are : (a b c text : List ℕ) → IsBody a → IsBody b → IsBody c → text ≡ (block a ++ block b) ++ block c
    → AreBodies text (a ∷ b ∷ c ∷ [])
three_are a b c text first second third is = record {
  are = All-cons IsBody a (b ∷ c ∷ []) first (All-cons IsBody b (c ∷ []) second (All-cons IsBody c [] third (All-nil IsBody)));
  is = is ∙ append_assoc (block a) (block b) (block c) ∙ ap (λ t. block a ++ (block b ++ t)) (sym (append-nil (block c)));
}

-- what was logged, by its parts
pub is_logged : (bytes text second third : List ℕ) (p : ProblemParts) (book : List (List ℕ)) (lines : List LineParts) → (IsCheckpoint bytes → ⊥)
    → ProblemFile bytes p → IsBook p [] ([] ∷ []) book → IsFirstLog p lines → Proves p (log_text p lines) book
    → second ≡ book_text p book → third ≡ log_text p lines → AreBodies text (bytes ∷ second ∷ third ∷ []) → IsLogOf bytes text
is_logged bytes text second third p book lines begins file is_book first proved second_is third_is are = record {
  begins = begins;
  p = p;
  file = file;
  book = book;
  is_book = is_book;
  lines = lines;
  first = first;
  proved = proved;
  are = subst (λ (t : List ℕ). AreBodies text (bytes ∷ t ∷ log_text p lines ∷ [])) second_is
      (subst (λ (t : List ℕ). AreBodies text (bytes ∷ second ∷ t ∷ [])) third_is are);
}
