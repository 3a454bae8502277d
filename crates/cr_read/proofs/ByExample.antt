-- What a problem file on literal bytes is, from tests that compute.
use Rattle.std.proofs.Common.{◌≡◌, ◌∙◌, ℕ, zero, suc, ◌<◌, ◌≤◌, inr, true, Option, Some, None, List, [], ◌∷◌, ◌++◌, length, IsUtf8, Ok, Err, refl, sym, ap, subst, arith, below_more}
use Rattle.std.specs.Prelude.{option_map, option_and_then}
use Rattle.std.specs.Str.{is_utf8}
use Rattle.std.proofs.lemmas.Str.{IsUtf8-from_is_utf8}
use Rattle.std.proofs.lemmas.Option.{same_Some}
use Rattle.toml.specs.Data.{Members}
use Rattle.toml.specs.Parse.{parse_document}
use Rattle.cr_row.specs.Rows.{Places}
use Rattle.cr_model.specs.declared.fault.PartFault.{PartFault}
use Rattle.cr_model.specs.declared.notation.NotationFault.{NotationFault}
use Rattle.cr_model.specs.declared.file_fault.ProblemFault.TheVariants as fault
use Rattle.cr_model.specs.Problems.{ProblemParts}
use Rattle.cr_model.specs.Checks.{Check, AllHold, IsFirstFailure}
use Rattle.cr_model.specs.Faults.{steps_check, length_checks, query_checks}
use Rattle.cr_model.specs.Notation.{Spells}
use Rattle.cr_model.specs.NotationFaults.{FirstFault}
use Rattle.cr_model.specs.Keys.{key_faults}
use Rattle.cr_model.specs.Files.{FileParts, file_of, Reads, IsFile}
use Rattle.cr_model.specs.ProblemFiles.{Spellings, CallsPass, Makes, ProblemFile, FirstProblemFault, MakesWrong, parts_of}
use Rattle.cr_notation.specs.Reading.{read_all}
use Rattle.cr_notation.proofs.Decided.{IsAnswer, read_answers}
use Rattle.cr_read.proofs.LeadsRight.{leads_right, letters_right}

-- something of each number below one
abbrev pub Each : (ℕ → Type 0) → ℕ → Type 0
Each P zero = Unit {0}
Each P (suc n) = Each P n × P n

pub each : (P : ℕ → Type 0) (n : ℕ) → Each P n → (i : ℕ) → i < n → P i
each P zero all i h = absurd (omega arith)
each P (suc n) all i h = below_more P n (each P n all.0) all.1 i (omega arith)

-- what reading a text as place notation answers
pub spelled : (n : ℕ) (text : List ℕ) (changes : List Places) → read_all n text ≡ Ok changes → Spells n text changes
spelled n text changes is = subst (IsAnswer n text) is (read_answers n text)

pub unspelled : (n : ℕ) (text : List ℕ) (why : NotationFault) → read_all n text ≡ Err why → FirstFault n text why
unspelled n text why is = subst (IsAnswer n text) is (read_answers n text)

-- the keys at fault of a text's table, and its values
abbrev pub told_of : Members → List (List ℕ) × FileParts
told_of table = (key_faults table, file_of table)

abbrev pub told : List ℕ → Option (List (List ℕ) × FileParts)
told bytes = option_map told_of (parse_document bytes)

file_by : (bytes : List ℕ) (file : FileParts) (found : Option Members) → IsUtf8 bytes → parse_document bytes ≡ found
    → option_map told_of found ≡ Some ([], file) → IsFile bytes file
file_by bytes file None text is tells = absurd (cc)
file_by bytes file (Some table) text is tells =
    let same : told_of table ≡ ([], file) = same_Some _ _ tells in
    record {
      table = table;
      reads = record { text = text; is = is };
      keys = ap (λ (t : List (List ℕ) × FileParts). t.0) same;
      is = sym (ap (λ (t : List (List ℕ) × FileParts). t.1) same);
    }

pub is_file : (bytes : List ℕ) (file : FileParts) → is_utf8 bytes ≡ true → told bytes ≡ Some ([], file) → IsFile bytes file
is_file bytes file text tells = file_by bytes file (parse_document bytes) (IsUtf8-from_is_utf8 bytes text) refl tells

-- the checks behind those of the letters and the leads, which hold where the calls pass
abbrev pub later_checks : ProblemParts → List (Check PartFault)
later_checks p = steps_check p ∷ (length_checks p ++ query_checks p)

module _ (file : FileParts) (n : ℕ) (spellings : Spellings) (pass : CallsPass file n spellings) (some : 1 ≤ length file.methods) where
  makes : Makes file (parts_of n file spellings)
  makes = record { n = n; spellings = spellings; passes = pass; is = refl }

  pub is_problem : (bytes : List ℕ) → IsFile bytes file → AllHold (later_checks (parts_of n file spellings)) → ProblemFile bytes (parts_of n file spellings)
  is_problem bytes is hold = record {
    file = file;
    is_file = is;
    makes = makes;
    sound = record {
      stage_from = pass.before.before.before.before.before.before.before.from;
      stage_to = pass.before.before.before.before.before.before.before.to;
      checks = (letters_right file n spellings pass some, (leads_right file n spellings pass some, hold));
    };
  }

  pub makes_wrong : (why : PartFault) → IsFirstFailure (later_checks (parts_of n file spellings)) why → MakesWrong file why
  makes_wrong why first = (
    parts_of n file spellings,
    makes,
    record { first = inr (letters_right file n spellings pass some, inr (leads_right file n spellings pass some, first)) },
  )

-- no TOML, and the first key at fault
pub not_toml : (bytes : List ℕ) → parse_document bytes ≡ None → FirstProblemFault bytes fault.NotToml
not_toml bytes is table reads = cc_none (sym is ∙ reads.is)
  where
    cc_none : {A : Type 0} {x : A} → None ≡ Some x → ⊥
    cc_none e = cc

abbrev first_of : List (List ℕ) → Option (List ℕ)
first_of [] = None
first_of (path ∷ rest) = Some path

abbrev pub first_key : List ℕ → Option (List ℕ)
first_key bytes = option_and_then (λ table. first_of (key_faults table)) (parse_document bytes)

key_by : (bytes : List ℕ) (table : Members) (paths : List (List ℕ)) (path : List ℕ) → Reads bytes table → key_faults table ≡ paths
    → first_of paths ≡ Some path → FirstProblemFault bytes (fault.Key path)
key_by bytes table [] path reads is first = absurd (cc)
key_by bytes table (found ∷ rest) path reads is first =
    (table, rest, reads, is ∙ ap (λ (one : List ℕ). one ∷ rest) (same_Some _ _ first))

table_by : (bytes : List ℕ) (found : Option Members) (path : List ℕ) → IsUtf8 bytes → parse_document bytes ≡ found
    → option_and_then (λ table. first_of (key_faults table)) found ≡ Some path → FirstProblemFault bytes (fault.Key path)
table_by bytes None path text is first = absurd (cc)
table_by bytes (Some table) path text is first = key_by bytes table (key_faults table) path (record { text = text; is = is }) refl first

pub wrong_key : (bytes path : List ℕ) → is_utf8 bytes ≡ true → first_key bytes ≡ Some path → FirstProblemFault bytes (fault.Key path)
wrong_key bytes path text first = table_by bytes (parse_document bytes) path (IsUtf8-from_is_utf8 bytes text) refl first
