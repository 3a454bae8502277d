-- Which bytes are a problem file, and of which problem; and why others are none.
use Rattle.std.specs.Prelude.{◌≡◌, ◌≢◌, ℕ, ◌<◌, ◌≤◌, pos, ◌≤ℤ◌, nat_abs, Bool, true, cond}
use Rattle.std.specs.Prelude.{◌&&◌, nat_eq, List, [], ◌∷◌, length, get_or, map, flat_map, Option, Some, None}
use Rattle.std.specs.Prelude.{IfSome, option_map, unwrap_or}
use Rattle.std.specs.List.{range_with_len, list_any, find, AllZip}
use Rattle.toml.specs.Data.{Members}
use Rattle.cr_row.specs.Rows.{Places}
use Rattle.cr_row.specs.Symbols.{symbol_of}
use Rattle.cr_model.specs.declared.query.Cell.{Cell}
use Rattle.cr_model.specs.declared.query.Cell.TheVariants as cell
use Rattle.cr_model.specs.declared.query.Count.{Count}
use Rattle.cr_model.specs.declared.query.MethodCount.{MethodCount}
use Rattle.cr_model.specs.declared.fault.PartFault.{PartFault}
use Rattle.cr_model.specs.declared.fault.PartFault.TheVariants as part
use Rattle.cr_model.specs.declared.notation.NotationFault.{NotationFault}
use Rattle.cr_model.specs.declared.file_fault.Whose.TheVariants as whose
use Rattle.cr_model.specs.declared.file_fault.ProblemFault.{ProblemFault}
use Rattle.cr_model.specs.declared.file_fault.ProblemFault.TheVariants as fault
use Rattle.cr_model.specs.Problems.{LeadParts, PatternParts, QueryParts, ProblemParts, parts_from}
use Rattle.cr_model.specs.Callings.{called}
use Rattle.cr_model.specs.Limits.{most_lead_changes}
use Rattle.cr_model.specs.Checks.{IsFirstWrong}
use Rattle.cr_model.specs.Right.{plain, LetterIsRight}
use Rattle.cr_model.specs.Sound.{IsSound}
use Rattle.cr_model.specs.Faults.{IsPartFault}
use Rattle.cr_model.specs.Notation.{Spells}
use Rattle.cr_model.specs.NotationFaults.{FirstFault}
use Rattle.cr_model.specs.Keys.{key_faults}
use Rattle.cr_model.specs.Files.{CallText, Limited, FileParts, Reads, IsFile}

-- the one byte of a text. A text of another length is no letter and no mark, and counts as 0
abbrev pub byte_of : List ℕ → ℕ
byte_of [] = 0
byte_of (byte ∷ []) = byte
byte_of (byte ∷ next ∷ bytes) = 0

abbrev pub letters_of : FileParts → List ℕ
letters_of file = map (λ method. byte_of method.letter) file.methods

abbrev pub call_at : FileParts → ℕ → CallText
call_at file call = get_or file.calls call (record { mark = []; notation = []; over = None; methods = None })

abbrev pub mark_at : FileParts → ℕ → ℕ
mark_at file call = byte_of (call_at file call).mark

-- a call that names no methods is for all
abbrev pub is_named : Option (List ℕ) → ℕ → Bool
is_named None letter = true
is_named (Some letters) letter = list_any (nat_eq letter) letters

-- the call is for the method
abbrev pub is_for : FileParts → ℕ → ℕ → Bool
is_for file call method = is_named (call_at file call).methods (get_or (letters_of file) method 0)

-- the changes of the methods and of the calls
pub record Spellings : Type 0 where
  pub methods : List (List Places)
  pub calls : List (List Places)

abbrev pub method_texts : FileParts → List (List ℕ)
method_texts file = map (λ method. method.notation) file.methods

abbrev pub call_texts : FileParts → List (List ℕ)
call_texts file = map (λ call. call.notation) file.calls

abbrev pub spelling_at : List (List Places) → ℕ → List Places
spelling_at spellings i = get_or spellings i []

-- how many changes a call replaces, if it says so
abbrev pub over_at : FileParts → ℕ → Option ℕ
over_at file call = option_map nat_abs (call_at file call).over

-- the changes of a call on a method
abbrev pub called_spelling : FileParts → Spellings → ℕ → ℕ → List Places
called_spelling file spellings call method = called (over_at file call) (spelling_at spellings.calls call) (spelling_at spellings.methods method)

-- the call for a method with a mark
abbrev pub call_with : FileParts → ℕ → ℕ → Option ℕ
call_with file method mark =
    find (λ call. nat_eq (mark_at file call) mark && is_for file call method) (range_with_len 0 (length file.calls))

abbrev pub lead_from : ℕ → ℕ → List Places → LeadParts
lead_from method mark changes = record { step = record { method = method; mark = mark }; changes = changes }

-- the lead of a method with a mark, if there is a call for it
abbrev pub called_lead : FileParts → Spellings → ℕ → ℕ → Option ℕ → List LeadParts
called_lead file spellings method mark None = []
called_lead file spellings method mark (Some call) = lead_from method mark (called_spelling file spellings call method) ∷ []

-- the leads of a method: plain, then by marks from a to z
abbrev pub leads_of_method : FileParts → Spellings → ℕ → List LeadParts
leads_of_method file spellings method =
    lead_from method plain (spelling_at spellings.methods method)
    ∷ flat_map (λ mark. called_lead file spellings method mark (call_with file method mark)) (range_with_len 97 26)

abbrev pub leads_of : FileParts → Spellings → List LeadParts
leads_of file spellings = flat_map (leads_of_method file spellings) (range_with_len 0 (length file.methods))

abbrev pub count_of : Limited → Count
count_of limited = record { mark = byte_of limited.text; min = limited.min; max = limited.max }

abbrev pub method_count_of : Limited → MethodCount
method_count_of limited = record { letter = byte_of limited.text; min = limited.min; max = limited.max }

-- the cell of one of these bells whose symbol the byte is. Any other byte counts as bell 17, which no stage has
abbrev pub bell_cell : List ℕ → ℕ → Cell
bell_cell [] byte = cell.Bell 17
bell_cell (b ∷ bells) byte = cond (nat_eq byte (symbol_of b)) (cell.Bell b) (bell_cell bells byte)

-- `?` is any bell, `*` any number of bells
abbrev pub cell_of : ℕ → Cell
cell_of byte = cond (nat_eq byte 63) cell.Any (cond (nat_eq byte 42) cell.Run (bell_cell (range_with_len 1 16) byte))

abbrev pub pattern_of : Limited → PatternParts
pattern_of limited = record { cells = map cell_of limited.text; min = limited.min; max = limited.max }

abbrev pub query_of : FileParts → QueryParts
query_of file = record {
  min = file.min;
  max = file.max;
  parts = file.parts;
  counts = map count_of file.counts;
  method_counts = map method_count_of file.leads;
  patterns = map pattern_of file.patterns;
  «com» = file.com;
}

abbrev pub parts_of : ℕ → FileParts → Spellings → ProblemParts
parts_of n file spellings = parts_from n (letters_of file) (leads_of file spellings) (query_of file)

-- `over` is 0 to 128, if the call has it
abbrev pub OverIsRight : FileParts → ℕ → Type 0
OverIsRight file call = IfSome (call_at file call).over (λ over. (pos 0 ≤ℤ over) × (over ≤ℤ pos most_lead_changes))

-- one byte `a` to `z`, and not the mark of a plain lead
pub record MarkIsRight (mark : ℕ) : Type 0 where
  pub from : 97 ≤ mark
  pub to : mark ≤ 122
  pub called : mark ≢ plain

-- a call replaces no more changes than the method has, and gives a lead of at most 128
pub record Fits (file : FileParts) (spellings : Spellings) (call method : ℕ) : Type 0 where
  pub over : unwrap_or (over_at file call) (length (spelling_at spellings.calls call)) ≤ length (spelling_at spellings.methods method)
  pub short : length (called_spelling file spellings call method) ≤ most_lead_changes

-- the call fits the method, if it is for it
abbrev pub Suits : FileParts → Spellings → ℕ → ℕ → Type 0
Suits file spellings call method = is_for file call method ≡ true → Fits file spellings call method

-- the call fits each method that it is for
abbrev pub FitsAll : FileParts → Spellings → ℕ → Type 0
FitsAll file spellings call = (method : ℕ) → method < length file.methods → Suits file spellings call method

-- two calls have no method in common
abbrev pub ShareNoMethod : FileParts → ℕ → ℕ → Type 0
ShareNoMethod file first second =
    (method : ℕ) → method < length file.methods → is_for file first method ≡ true → is_for file second method ≡ true → ⊥

-- two calls have no mark and method in common
abbrev pub AreApart : FileParts → ℕ → ℕ → Type 0
AreApart file first second = mark_at file first ≡ mark_at file second → ShareNoMethod file first second

-- a call and each one before it have no mark and method in common
abbrev pub IsApart : FileParts → ℕ → Type 0
IsApart file second = (first : ℕ) → first < second → AreApart file first second

-- The checks that come first hold, one more each time.
pub record StagePasses (file : FileParts) (n : ℕ) : Type 0 where
  pub is : file.stage ≡ pos n
  pub from : 3 ≤ n
  pub to : n ≤ 16

pub record LettersPass (file : FileParts) (n : ℕ) : Type 0 where
  pub before : StagePasses file n
  pub letters : (i : ℕ) → i < length file.methods → LetterIsRight (letters_of file) i

pub record MethodsSpell (file : FileParts) (n : ℕ) (methods : List (List Places)) : Type 0 where
  pub before : LettersPass file n
  pub methods_spell : AllZip (Spells n) (method_texts file) methods

pub record CallsSpell (file : FileParts) (n : ℕ) (spellings : Spellings) : Type 0 where
  pub before : MethodsSpell file n spellings.methods
  pub calls_spell : AllZip (Spells n) (call_texts file) spellings.calls

pub record OversPass (file : FileParts) (n : ℕ) (spellings : Spellings) : Type 0 where
  pub before : CallsSpell file n spellings
  pub overs : (call : ℕ) → call < length file.calls → OverIsRight file call

pub record MarksPass (file : FileParts) (n : ℕ) (spellings : Spellings) : Type 0 where
  pub before : OversPass file n spellings
  pub marks : (call : ℕ) → call < length file.calls → MarkIsRight (mark_at file call)

pub record LengthsPass (file : FileParts) (n : ℕ) (spellings : Spellings) : Type 0 where
  pub before : MarksPass file n spellings
  pub fits : (call : ℕ) → call < length file.calls → FitsAll file spellings call

pub record CallsPass (file : FileParts) (n : ℕ) (spellings : Spellings) : Type 0 where
  pub before : LengthsPass file n spellings
  pub apart : (second : ℕ) → second < length file.calls → IsApart file second

-- the values of a file, all of whose calls are right, make these parts of a problem
pub record Makes (file : FileParts) (p : ProblemParts) : Type 0 where
  pub n : ℕ
  pub spellings : Spellings
  pub passes : CallsPass file n spellings
  pub is : p ≡ parts_of n file spellings

-- the bytes are a problem file of this problem
pub record ProblemFile (bytes : List ℕ) (p : ProblemParts) : Type 0 where
  pub file : FileParts
  pub is_file : IsFile bytes file
  pub makes : Makes file p
  pub sound : IsSound p

-- some changes are spelled
abbrev pub IsSpelled : ℕ → List ℕ → Type 0
IsSpelled n text = (changes : List Places) × Spells n text changes

-- the first text that spells no changes has this fault
pub record IsFirstUnspelled (n : ℕ) (texts : List (List ℕ)) (i : ℕ) (why : NotationFault) : Type 0 where
  pub within : i < length texts
  pub before : (j : ℕ) → j < i → IsSpelled n (get_or texts j [])
  pub wrong : FirstFault n (get_or texts i []) why

-- the values make parts of a problem, which have this fault
abbrev pub MakesWrong : FileParts → PartFault → Type 0
MakesWrong file why = (p : ProblemParts) × Makes file p × IsPartFault p why

-- the fault is that of the first check of the values that does not hold
abbrev pub IsFileFault : FileParts → ProblemFault → Type 0
IsFileFault file (fault.Stage stage) = (stage ≡ file.stage) × (((pos 3 ≤ℤ stage) × (stage ≤ℤ pos 16)) → ⊥)
IsFileFault file (fault.Letter i) =
    (n : ℕ) × StagePasses file n × IsFirstWrong (LetterIsRight (letters_of file)) (length file.methods) i
IsFileFault file (fault.Notation (whose.Method i) why) =
    (n : ℕ) × LettersPass file n × IsFirstUnspelled n (method_texts file) i why
IsFileFault file (fault.Notation (whose.Call i) why) =
    (n : ℕ) × (methods : List (List Places)) × MethodsSpell file n methods
    × IsFirstUnspelled n (call_texts file) i why
IsFileFault file (fault.Over call) =
    (n : ℕ) × (spellings : Spellings) × CallsSpell file n spellings × IsFirstWrong (OverIsRight file) (length file.calls) call
IsFileFault file (fault.Mark call) =
    (n : ℕ) × (spellings : Spellings) × OversPass file n spellings
    × IsFirstWrong (λ i. MarkIsRight (mark_at file i)) (length file.calls) call
IsFileFault file (fault.CallLength call method) =
    (n : ℕ) × (spellings : Spellings) × MarksPass file n spellings × IsFirstWrong (FitsAll file spellings) (length file.calls) call
    × IsFirstWrong (Suits file spellings call) (length file.methods) method
IsFileFault file (fault.Clash first second) =
    (n : ℕ) × (spellings : Spellings) × LengthsPass file n spellings × IsFirstWrong (IsApart file) (length file.calls) second
    × IsFirstWrong (λ i. AreApart file i second) second first
IsFileFault file (fault.Steps number) = MakesWrong file (part.Steps number)
IsFileFault file (fault.Range low high) = MakesWrong file (part.Range low high)
IsFileFault file (fault.Deep depth) = MakesWrong file (part.Deep depth)
IsFileFault file (fault.Parts parts) = MakesWrong file (part.Parts parts)
IsFileFault file (fault.Count at) = MakesWrong file (part.Count at)
IsFileFault file (fault.Pattern i) = MakesWrong file (part.Pattern i)
IsFileFault file fault.Com = MakesWrong file part.Com
IsFileFault file _ = ⊥

-- the fault is that of the first check that does not hold
abbrev pub FirstProblemFault : List ℕ → ProblemFault → Type 0
FirstProblemFault bytes fault.NotToml = (table : Members) → Reads bytes table → ⊥
FirstProblemFault bytes (fault.Key path) =
    (table : Members) × (rest : List (List ℕ)) × Reads bytes table × (key_faults table ≡ path ∷ rest)
FirstProblemFault bytes why = (file : FileParts) × IsFile bytes file × IsFileFault file why
