-- An audit from line to line.
use Rattle.std.proofs.Common.{◌≡◌, ◌≢◌, ◌⊎◌, ◌↔◌, ℕ, ◌+◌, ◌<◌, ◌≤◌, Bool, true, false, cond, List, [], ◌∷◌, ◌++◌, length, Contains, codes, refl, sym, ap, ◌∙◌, subst, arith, length-append}
use Rattle.std.specs.Prelude.{Result, Ok, Err, MatchResult, IfOk, IfErr}
use Rattle.std.specs.BTreeSet.{BTreeSet}
use Rattle.std.proofs.lemmas.List.Elements.{All-nil}
use Rattle.cr_model.specs.Problems.{ProblemParts}
use Rattle.cr_model.specs.Checkpoints.{steps_text}
use Rattle.cr_model.specs.Sizes.{children}
use Rattle.cr_audit.specs.declared.fault.AuditFault.{AuditFault}
use Rattle.cr_audit.specs.declared.fault.AuditFault.TheVariants as fault
use Rattle.cr_audit.specs.declared.touches.Touch.{Touch}
use Rattle.cr_audit.specs.declared.verdict.Verdict.{Verdict}
use Rattle.cr_audit.specs.declared.walk.Walk.{Walk}
use Rattle.cr_audit.specs.Dues.{dues, later, is_open}
use Rattle.cr_audit.specs.Examples.{line_of}
use Rattle.cr_audit.specs.Logs.{verdict_text, line_text, opened_by, IsLine, IsTrueLine}
use Rattle.cr_audit.specs.Stops.{IsStop, IsRightLine, HasPassed, IsFound, IsLogFault}
use Rattle.cr_audit.specs.Touched.{callings, IsProved, IsWalk, HasMoved}
use Rattle.cr_audit.proofs.Dues.{opened_is}
use Rattle.cr_audit.proofs.Proving.{none_held}
use Rattle.cr_audit.proofs.Stopping.{stopped, ended, passed_on}

-- what is due after a verdict
pub left_is : (p : ProblemParts) (node : List ℕ) (why : Verdict) (opens : Bool) (due : List (List ℕ)) → opens ≡ is_open why
    → due ≡ cond opens (children p node) [] ++ later p node → due ≡ opened_by p node why ++ later p node
left_is p node why opens due same is =
    is ∙ ap (λ b. cond b (children p node) [] ++ later p node) same ∙ ap (λ (l : List (List ℕ)). l ++ later p node) (sym (opened_is p node why))

-- a right line, gone past
pub moved : (p : ProblemParts) (old new : Walk) (text rest : List ℕ) (why : Verdict) → old.due ≡ true
    → IsRightLine p (dues p old.due old.path.node.items) text (line_of old.path.node.items why) rest
    → dues p new.due new.path.node.items ≡ opened_by p old.path.node.items why ++ later p old.path.node.items
    → ((calling : List ℕ) → Contains (callings new.touches.keys) calling ↔ (Contains (callings old.touches.keys) calling ⊎ IsFound p (line_of old.path.node.items why) calling))
    → HasMoved p old text new rest
moved p old new text rest why due right left found =
    let is : dues p old.due old.path.node.items ≡ old.path.node.items ∷ later p old.path.node.items = ap (λ b. dues p b old.path.node.items) due in
    record {
      line = line_of old.path.node.items why;
      due = is;
      right = subst (λ (d : List (List ℕ)). IsRightLine p d text (line_of old.path.node.items why) rest) is right;
      left = left;
      found = found;
    }

-- a line has some bytes
pub shorter : (p : ProblemParts) (old : Walk) (text : List ℕ) (new : Walk) (rest : List ℕ) → HasMoved p old text new rest → length rest + 2 ≤ length text
shorter p old text new rest moved =
    let line = moved.line in
    let whole : length text ≡ length (line_text p line) + length rest = ap length moved.right.begins.is ∙ length-append (line_text p line) rest in
    let third = length-append (steps_text p line.node ++ codes " " ++ verdict_text line.verdict) (codes "\n") in
    let second = length-append (steps_text p line.node ++ codes " ") (verdict_text line.verdict) in
    let first = length-append (steps_text p line.node) (codes " ") in
    let feed : length (codes "\n") ≡ 1 = refl in
    let space : length (codes " ") ≡ 1 = refl in
    omega (arith, whole, first, second, third, feed, space)

-- before the first line
pub started : (p : ProblemParts) (log : List ℕ) (walk : Walk) → walk.due ≡ true → walk.path.node.items ≡ [] → walk.touches.keys ≡ []
    → HasPassed p log 0 (dues p walk.due walk.path.node.items) log (callings walk.touches.keys)
started p log walk due root none =
    let is : dues p walk.due walk.path.node.items ≡ [] ∷ [] = ap (λ b. dues p b walk.path.node.items) due ∙ ap (dues p true) root in
    subst (λ (d : List (List ℕ)). HasPassed p log 0 d log (callings walk.touches.keys)) (sym is)
    (subst (λ (ts : List Touch). HasPassed p log 0 ([] ∷ []) log (callings ts)) (sym none)
    (record {
      right = record {
        before = [];
        number = refl;
        text = refl;
        form = All-nil (IsLine p);
        order = refl;
        verdicts = All-nil (IsTrueLine p);
      };
      each = λ calling. (λ held. absurd (none_held calling held), λ both. absurd (none_held _ both.0.stands));
    }))

-- a line further
pub stepped : (p : ProblemParts) (log : List ℕ) (number : ℕ) (old : Walk) (text : List ℕ) (new : Walk) (rest : List ℕ)
    → HasPassed p log number (dues p old.due old.path.node.items) text (callings old.touches.keys) → HasMoved p old text new rest
    → HasPassed p log (number + 1) (dues p new.due new.path.node.items) rest (callings new.touches.keys)
stepped p log number old text new rest passed moved =
    let line = moved.line in
    subst (λ (d : List (List ℕ)). HasPassed p log (number + 1) d rest (callings new.touches.keys)) (sym moved.left)
    (passed_on p log number line.node (later p line.node) text line rest (callings old.touches.keys) (callings new.touches.keys)
    (subst (λ (d : List (List ℕ)). HasPassed p log number d text (callings old.touches.keys)) moved.due passed) moved.right moved.found)

-- a text that is not empty is not none
some_text : (text : List ℕ) → 0 < length text → text ≢ []
some_text text some none = let long : length text ≡ 0 = ap length none in absurd (omega arith)

no_text : (text : List ℕ) → length text ≡ 0 → text ≡ []
no_text [] none = refl
no_text (x ∷ text) none = absurd (omega arith)

-- a line that is not right
pub line_fault : (p : ProblemParts) (log : List ℕ) (number : ℕ) (walk : Walk) (text : List ℕ) (why : AuditFault)
    → HasPassed p log number (dues p walk.due walk.path.node.items) text (callings walk.touches.keys) → 0 < length text
    → IsStop p (dues p walk.due walk.path.node.items) text (number + 1) why → IsLogFault p log why
line_fault p log number walk text why passed some stop = stopped p log number (dues p walk.due walk.path.node.items) text (number + 1) why passed.right (some_text text some) refl stop

-- after the last line none may be due
pub end_fault : (p : ProblemParts) (log : List ℕ) (number : ℕ) (walk : Walk) (text : List ℕ)
    → HasPassed p log number (dues p walk.due walk.path.node.items) text (callings walk.touches.keys) → length text ≡ 0
    → walk.due ≡ true → (why : AuditFault) → why ≡ fault.Node (number + 1) → IsLogFault p log why
end_fault p log number walk text passed none due why is = subst (IsLogFault p log) (sym is)
    (ended p log number (dues p walk.due walk.path.node.items) text (number + 1) passed.right (no_text text none) some refl)
  where
    some : dues p walk.due walk.path.node.items ≢ []
    some nothing =
        let long : length (walk.path.node.items ∷ later p walk.path.node.items) ≡ 0 = ap length (sym (ap (λ b. dues p b walk.path.node.items) due) ∙ nothing) in
        absurd (omega arith)

pub proved_at_end : (p : ProblemParts) (log : List ℕ) (number : ℕ) (walk : Walk) (text : List ℕ)
    → HasPassed p log number (dues p walk.due walk.path.node.items) text (callings walk.touches.keys) → IsWalk p walk → length text ≡ 0
    → walk.due ≡ false → (touches : List Touch) → touches ≡ walk.touches.keys → IsProved p log touches
proved_at_end p log number walk text passed is none due touches same = subst (IsProved p log) (sym same) (record {
  lines = number;
  passed = subst (λ (t : List ℕ). HasPassed p log number [] t (callings walk.touches.keys)) (no_text text none)
      (subst (λ (d : List (List ℕ)). HasPassed p log number d text (callings walk.touches.keys)) (ap (λ b. dues p b walk.path.node.items) due) passed);
  are = is.are;
})

pub ended_well : (p : ProblemParts) (log : List ℕ) (number : ℕ) (walk : Walk) (text : List ℕ)
    → HasPassed p log number (dues p walk.due walk.path.node.items) text (callings walk.touches.keys) → IsWalk p walk → length text ≡ 0
    → (result : Result (BTreeSet Touch) AuditFault)
    → MatchResult result (λ touches. (walk.due ≡ false) × (touches.keys ≡ walk.touches.keys)) (λ why. (walk.due ≡ true) × (why ≡ fault.Node (number + 1)))
    → IfOk result (λ touches. IsProved p log touches.keys)
ended_well p log number walk text passed is none (Ok touches) told = proved_at_end p log number walk text passed is none told.0 touches.keys told.1
ended_well p log number walk text passed is none (Err why) told = tt

pub ended_badly : (p : ProblemParts) (log : List ℕ) (number : ℕ) (walk : Walk) (text : List ℕ)
    → HasPassed p log number (dues p walk.due walk.path.node.items) text (callings walk.touches.keys) → length text ≡ 0
    → (result : Result (BTreeSet Touch) AuditFault)
    → MatchResult result (λ touches. (walk.due ≡ false) × (touches.keys ≡ walk.touches.keys)) (λ why. (walk.due ≡ true) × (why ≡ fault.Node (number + 1)))
    → IfErr result (IsLogFault p log)
ended_badly p log number walk text passed none (Ok touches) told = tt
ended_badly p log number walk text passed none (Err why) told = end_fault p log number walk text passed none told.0 why told.1
