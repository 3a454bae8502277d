-- An input has one log.
use Rattle.std.proofs.Common.{◌≡◌, ℕ, List, [], ◌∷◌, sym, ap, ◌∙◌, subst}
use Rattle.cr_model.specs.Problems.{ProblemParts}
use Rattle.cr_model.specs.Sound.{IsSound}
use Rattle.cr_model.specs.Books.{book_text}
use Rattle.cr_model.specs.ProblemFiles.{ProblemFile}
use Rattle.cr_audit.specs.Logs.{LineParts, Proves, log_text}
use Rattle.cr_log.specs.FirstVerdicts.{IsFirstLog}
use Rattle.cr_shard.specs.JoinFaults.{AreBodies}
use Rattle.cr_store.specs.Blocks.{blocks}
use Rattle.cr_top.specs.Logged.{IsLogOf}

-- what the laws on logs and problem files say
pub record LogLaws : Type 0 where
  pub one_log : (p : ProblemParts) (lines others : List LineParts) → IsFirstLog p lines → IsFirstLog p others → lines ≡ others
  pub one_list : (p : ProblemParts) (log other : List ℕ) (touches others : List (List ℕ)) → IsSound p → Proves p log touches
      → Proves p other others → touches ≡ others
  pub one_problem : (bytes : List ℕ) (one other : ProblemParts) → ProblemFile bytes one → ProblemFile bytes other → one ≡ other

-- a text has the blocks of an input that is this problem's file
abbrev HasLog : List ℕ → ProblemParts → List ℕ → Type 0
HasLog input p text = (book : List (List ℕ)) × (lines : List LineParts) × IsFirstLog p lines × Proves p (log_text p lines) book
    × AreBodies text (input ∷ book_text p book ∷ log_text p lines ∷ [])

module _ (laws : LogLaws) (input : List ℕ) where
  of_problem : (p : ProblemParts) (text other : List ℕ) → IsSound p → HasLog input p text → HasLog input p other → text ≡ other
  of_problem p text other sound one two =
      let books : one.0 ≡ two.0 = laws.one_list p (log_text p one.1) (log_text p two.1) one.0 two.0 sound one.3 two.3 in
      let lines : one.1 ≡ two.1 = laws.one_log p one.1 two.1 one.2 two.2 in
      one.4.is ∙ ap (λ (k : List (List ℕ)). blocks (input ∷ book_text p k ∷ log_text p one.1 ∷ [])) books
      ∙ ap (λ (l : List LineParts). blocks (input ∷ book_text p two.0 ∷ log_text p l ∷ [])) lines ∙ sym two.4.is

  pub one_text : (text other : List ℕ) → IsLogOf input text → IsLogOf input other → text ≡ other
  one_text text other one two =
      of_problem two.p text other two.file.sound
      (subst (λ (p : ProblemParts). HasLog input p text) (laws.one_problem input one.p two.p one.file two.file)
      (one.book, one.lines, one.first, one.proved, one.are))
      (two.book, two.lines, two.first, two.proved, two.are)
