-- A line more, and the nodes that are due then.
use Rattle.std.proofs.Common.{◌≡◌, ℕ, suc, ◌+◌, ◌-◌, ◌<◌, Bool, true, false, cond, List, [], ◌∷◌, ◌++◌, length, map, refl, sym, ap, ◌∙◌, subst, arith, append-nil}
use Rattle.std.specs.Prelude.{flat_map}
use Rattle.std.specs.List.{range_with_len}
use Rattle.std.proofs.lemmas.List.Elements.{All-nil, All-push}
use Rattle.std.proofs.lemmas.List.Concat.{flat_map-append}
use Rattle.cr_model.specs.Problems.{ProblemParts}
use Rattle.cr_model.specs.Sizes.{child, children}
use Rattle.cr_model.specs.OneTurn.{touch_found}
use Rattle.cr_audit.specs.declared.verdict.Verdict.{Verdict}
use Rattle.cr_audit.specs.declared.verdict.Verdict.TheVariants as verdict
use Rattle.cr_audit.specs.Logs.{LineParts, IsLine, opened_by, AreDue}
use Rattle.cr_log.specs.FirstVerdicts.{IsFirstVerdict, IsFirstLine}
use Rattle.cr_log.specs.Logging.{opens, found_by, children_from, IsLogged}

abbrev pub line_of : List ℕ → Verdict → LineParts
line_of node why = record { node = node; verdict = why }

-- the line of the node that is due first
due_next : (p : ProblemParts) (start : List (List ℕ)) (lines : List LineParts) (node : List ℕ) (due : List (List ℕ)) (why : Verdict)
    → AreDue p start lines (node ∷ due) → AreDue p start (lines ++ line_of node why ∷ []) (opened_by p node why ++ due)
due_next p start [] node due why e =
    subst (λ (s : List (List ℕ)). AreDue p s (line_of node why ∷ []) (opened_by p node why ++ due)) (sym e) (refl, refl)
due_next p [] (line ∷ lines) node due why h = absurd h
due_next p (first ∷ start) (line ∷ lines) node due why h = (h.0, due_next p (opened_by p first line.verdict ++ start) lines node due why h.1)

-- nothing is logged
pub none_logged : (p : ProblemParts) → IsLogged p [] [] ([] ∷ [])
none_logged p = record { whole = refl; form = All-nil (IsLine p); first = All-nil (IsFirstLine p); touches = refl }

-- a line is logged, and the touch that it has
pub one_logged : (p : ProblemParts) (lines : List LineParts) (found due : List (List ℕ)) (node : List ℕ) (why : Verdict)
    → IsLogged p lines found (node ∷ due) → IsLine p (line_of node why) → IsFirstVerdict p node why
    → IsLogged p (lines ++ line_of node why ∷ []) (found ++ found_by p (line_of node why)) (opened_by p node why ++ due)
one_logged p lines found due node why logged line first = record {
  whole = due_next p ([] ∷ []) lines node due why logged.whole;
  form = All-push (IsLine p) lines (line_of node why) logged.form line;
  first = All-push (IsFirstLine p) lines (line_of node why) logged.first first;
  touches = ap (λ (l : List (List ℕ)). l ++ found_by p (line_of node why)) logged.touches
      ∙ sym (flat_map-append (found_by p) lines (line_of node why ∷ []) ∙ ap (λ (l : List (List ℕ)). flat_map (found_by p) lines ++ l) (append-nil (found_by p (line_of node why))));
}

-- what a verdict opens
pub opened_is : (p : ProblemParts) (node : List ℕ) (why : Verdict) → opened_by p node why ≡ cond (opens why) (children p node) []
opened_is p node verdict.Open = refl
opened_is p node verdict.Long = refl
opened_is p node (verdict.Again i j) = refl
opened_is p node (verdict.Home i) = refl
opened_is p node (verdict.Many of) = refl
opened_is p node (verdict.Few of) = refl
opened_is p node (verdict.Back k) = refl

-- an open verdict is `open`
pub open_is : (why : Verdict) → opens why ≡ true → why ≡ verdict.Open
open_is verdict.Open h = refl
open_is verdict.Long h = absurd (cc)
open_is (verdict.Again i j) h = absurd (cc)
open_is (verdict.Home i) h = absurd (cc)
open_is (verdict.Many of) h = absurd (cc)
open_is (verdict.Few of) h = absurd (cc)
open_is (verdict.Back k) h = absurd (cc)

-- all children, the first of those that are left, and none
pub children_all : (p : ProblemParts) (node : List ℕ) → children p node ≡ children_from p node 0
children_all p node = let all : length p.leads ≡ length p.leads - 0 = omega arith in ap (λ (n : ℕ). map (child node) (range_with_len 0 n)) all

pub children_more : (p : ProblemParts) (node : List ℕ) (step : ℕ) → step < length p.leads
    → children_from p node step ≡ child node step ∷ children_from p node (step + 1)
children_more p node step inside =
    let more : length p.leads - step ≡ suc (length p.leads - (step + 1)) = omega arith in
    ap (λ (n : ℕ). map (child node) (range_with_len step n)) more

pub children_none : (p : ProblemParts) (node : List ℕ) (step : ℕ) → step ≡ length p.leads → children_from p node step ≡ []
children_none p node step e =
    let none : length p.leads - step ≡ 0 = omega arith in
    ap (λ (n : ℕ). map (child node) (range_with_len step n)) none

-- a line of an open node, and one of a node that is cut
module _ (p : ProblemParts) (lines more : List LineParts) (found touches due : List (List ℕ)) (node : List ℕ) (why : Verdict)
    (line : IsLine p (line_of node why)) (first : IsFirstVerdict p node why) (added : more ≡ lines ++ line_of node why ∷ []) (logged : IsLogged p lines found (node ∷ due)) where
  with_touches : touches ≡ found ++ found_by p (line_of node why) → IsLogged p more touches (opened_by p node why ++ due)
  with_touches is =
      subst (λ (ls : List LineParts). IsLogged p ls touches (opened_by p node why ++ due)) (sym added)
      (subst (λ (ts : List (List ℕ)). IsLogged p (lines ++ line_of node why ∷ []) ts (opened_by p node why ++ due)) (sym is) (one_logged p lines found due node why logged line first))

  pub open_logged : opens why ≡ true → touches ≡ found ++ touch_found p node → IsLogged p more touches (opened_by p node why ++ due)
  open_logged opened is = with_touches (is ∙ ap (λ (b : Bool). found ++ cond b (touch_found p node) []) (sym opened))

  pub cut_logged : opens why ≡ false → touches ≡ found → IsLogged p more touches (opened_by p node why ++ due)
  cut_logged closed is = with_touches (is ∙ sym (append-nil found) ∙ ap (λ (b : Bool). found ++ cond b (touch_found p node) []) (sym closed))
