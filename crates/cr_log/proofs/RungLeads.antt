-- A lead on its way onto the stack of a node's rows, and what it tells of the child.
use Rattle.std.proofs.Common.{◌≡◌, ℕ, ◌+◌, ◌<◌, ◌≤◌, true, false, ◌&&◌, List, [], ◌∷◌, ◌++◌, length, get_or, take, map, nat_lt, refl, sym, ap, ap₂, ◌∙◌, subst, arith, length-append}
use Rattle.std.specs.Cmp.Lexicographic.{pointwise}
use Rattle.std.specs.Prelude.{nat_eq}
use Rattle.std.proofs.lemmas.Bool.{and_from, and_parts, ltb-true, ltb-false, lt-ltb, false_from_ne_true}
use Rattle.std.proofs.lemmas.List.{get_or-map, length-map, get_or-take, get_or-append-add, length-take-le, take_all, take_at, take-take, take_more}
use Rattle.std.proofs.lemmas.List.Elements.{All-nil, All-cons, All-append}
use Rattle.std.proofs.lemmas.Slice.Eq.{bytes_eq-Decides}
use Rattle.cr_row.specs.Rows.{rounds, product}
use Rattle.cr_model.specs.Problems.{ProblemParts}
use Rattle.cr_model.specs.Callings.{rows_of, length_of, head_of, AllDiffer, HasSteps, last_of, changes_of_all}
use Rattle.cr_model.specs.Queries.{part_cap}
use Rattle.cr_model.specs.Sizes.{child}
use Rattle.cr_model.specs.Dead.{is_long}
use Rattle.cr_model.proofs.Below.{rows_counted}
use Rattle.cr_model.proofs.Ringing.{lengths_on}
use Rattle.cr_rowset.specs.Stacks.{StackParts}
use Rattle.cr_rowset.specs.Pushing.{StandsAt, Pushes}
use Rattle.cr_rowset.specs.declared.pushed.Pushed.TheVariants.{Fresh}
use Rattle.cr_audit.specs.declared.verdict.Verdict.TheVariants as verdict
use Rattle.cr_audit.specs.Verdicts.{row_at, is_again_at}
use Rattle.cr_log.specs.FirstVerdicts.{IsFirstVerdict}
use Rattle.cr_log.specs.Logging.{opens, IsAt, KeepsFront, IsTwice}
use Rattle.cr_log.proofs.FirstOnes.{first_again}

-- as many rows as changes
pub as_many : (p : ProblemParts) (node : List ℕ) → length (rows_of p node) ≡ length_of p node
as_many p node = rows_counted (rounds p.stage) (changes_of_all p node)

abbrev pub stack_of : List (List ℕ) → ℕ → StackParts
stack_of rows room = record { rows = rows; room = room }

-- the rows of the stack, and the products that come
module _ (old : StackParts) (head : List ℕ) (lead : List (List ℕ)) (index : ℕ) (now : StackParts)
    (ringing : now ≡ stack_of (take (length old.rows + index) (old.rows ++ map (product head) lead)) old.room) (inside : index < length lead) where
  all : List (List ℕ)
  all = old.rows ++ map (product head) lead

  whole : length (old.rows ++ map (product head) lead) ≡ length old.rows + length lead
  whole = omega (arith, length-append old.rows (map (product head) lead), length-map lead (product head))

  rows_are : now.rows ≡ take (length old.rows + index) (old.rows ++ map (product head) lead)
  rows_are = ap (λ (s : StackParts). s.rows) ringing

  rows_long : length now.rows ≡ length old.rows + index
  rows_long = ap length rows_are ∙ length-take-le (length old.rows + index) (old.rows ++ map (product head) lead) (omega (arith, whole))

  -- the next one is the product of the next row of the lead
  next_is : (row item : List ℕ) → row ≡ product head item → item ≡ get_or lead index item → get_or (old.rows ++ map (product head) lead) (length old.rows + index) [] ≡ row
  next_is row item is at =
      get_or-append-add old.rows (map (product head) lead) index []
      ∙ get_or-map (product head) lead index item [] inside
      ∙ ap (product head) (sym at)
      ∙ sym is

  pub pushed_on : (next : StackParts) (row item : List ℕ) → row ≡ product head item → item ≡ get_or lead index item → Pushes now row Fresh next
      → next ≡ stack_of (take (length old.rows + (index + 1)) (old.rows ++ map (product head) lead)) old.room
  pushed_on next row item is at pushed =
      let one_more : length old.rows + (index + 1) ≡ (length old.rows + index) + 1 = omega arith in
      pushed.2
      ∙ ap₂ (λ (rows : List (List ℕ)) (room : ℕ). stack_of rows room)
      (ap₂ (λ (rows : List (List ℕ)) (r : List ℕ). rows ++ r ∷ []) rows_are (sym (next_is row item is at))
      ∙ sym (take_more (old.rows ++ map (product head) lead) (length old.rows + index) [] (omega (arith, whole)))
      ∙ ap (λ (n : ℕ). take n (old.rows ++ map (product head) lead)) (sym one_more))
      (ap (λ (s : StackParts). s.room) ringing)

  pub comes_again : (next : StackParts) (row item : List ℕ) (first again : ℕ) → row ≡ product head item → item ≡ get_or lead index item
      → StandsAt now.rows row first → next ≡ now → again ≡ length next.rows → AllDiffer next.rows
      → IsTwice old (old.rows ++ map (product head) lead) first again next
  comes_again next row item first again is at stands same number differ =
      let place : again ≡ length old.rows + index = number ∙ ap (λ (s : StackParts). length s.rows) same ∙ rows_long in
      let early : first < length now.rows = stands.within in
      record {
        before = omega (arith, early, rows_long, place);
        inside = omega (arith, whole, place);
        same = sym (get_or-take (length old.rows + index) (old.rows ++ map (product head) lead) first [] (omega (arith, early, rows_long)))
            ∙ ap (λ (rows : List (List ℕ)). get_or rows first []) (sym rows_are)
            ∙ stands.is
            ∙ sym (next_is row item is at)
            ∙ ap (λ (n : ℕ). get_or (old.rows ++ map (product head) lead) n []) (sym place);
        late = omega (arith, place);
        stack = same ∙ ringing ∙ ap (λ (n : ℕ). stack_of (take n (old.rows ++ map (product head) lead)) old.room) (sym place);
        differ = subst AllDiffer (ap (λ (s : StackParts). s.rows) same ∙ rows_are ∙ ap (λ (n : ℕ). take n (old.rows ++ map (product head) lead)) (sym place)) differ;
      }

  pub has_room : length old.rows + length lead ≤ old.room → length now.rows ≡ now.room → ⊥
  has_room room full =
      let same : now.room ≡ old.room = ap (λ (s : StackParts). s.room) ringing in
      omega (arith, rows_long, same)

-- nothing is pushed yet, and all is
pub none_pushed : (old : StackParts) (more : List (List ℕ)) → old ≡ stack_of (take (length old.rows + 0) (old.rows ++ more)) old.room
none_pushed old more =
    let none : length old.rows ≡ length old.rows + 0 = omega arith in
    ap (λ (rows : List (List ℕ)). stack_of rows old.room) (sym (take_at old.rows more (length old.rows + 0) none))

pub all_pushed : (old : StackParts) (head : List ℕ) (lead : List (List ℕ)) (index : ℕ) (now : StackParts) → length lead ≤ index
    → now ≡ stack_of (take (length old.rows + index) (old.rows ++ map (product head) lead)) old.room
    → now ≡ stack_of (old.rows ++ map (product head) lead) old.room
all_pushed old head lead index now over ringing =
    ringing
    ∙ ap (λ (rows : List (List ℕ)). stack_of rows old.room)
    (take_all (length old.rows + index) (old.rows ++ map (product head) lead) (omega (arith, length-append old.rows (map (product head) lead), length-map lead (product head))))

-- a stack keeps its own rows
pub front_kept : (old : StackParts) (more : List (List ℕ)) (now : StackParts) (number : ℕ) → length old.rows ≤ number → number ≤ length (old.rows ++ more)
    → now ≡ stack_of (take number (old.rows ++ more)) old.room → KeepsFront old now
front_kept old more now number late inside is =
    let rows : now.rows ≡ take number (old.rows ++ more) = ap (λ (s : StackParts). s.rows) is in
    record {
      long = omega (arith, ap length rows, length-take-le number (old.rows ++ more) inside);
      front = ap (take (length old.rows)) rows ∙ take-take (length old.rows) number (old.rows ++ more) late ∙ take_at old.rows more (length old.rows) refl;
      room = ap (λ (s : StackParts). s.room) is;
    }

pub kept_itself : (old : StackParts) → KeepsFront old old
kept_itself old = record { long = omega arith; front = take_all (length old.rows) old.rows (omega arith); room = refl }

module _ (p : ProblemParts) (node : List ℕ) (step : ℕ) (old : StackParts) (at : IsAt p node old) (known : step < length p.leads) where
  -- how long the child is
  pub child_long : (lead : List (List ℕ)) → lead ≡ rows_of p (step ∷ []) → length_of p (child node step) ≡ length old.rows + length lead
  child_long lead is =
      omega (arith, lengths_on p node (step ∷ []), as_many p node, as_many p (step ∷ []), ap length is, ap length at.rows)

  pub child_steps : HasSteps p (child node step)
  child_steps = All-append (λ s. s < length p.leads) node (step ∷ []) at.valid.steps (All-cons (λ s. s < length p.leads) step [] known (All-nil (λ s. s < length p.leads)))

  -- its rows
  pub child_rows : ((calling more : List ℕ) → rows_of p (calling ++ more) ≡ rows_of p calling ++ map (product (head_of p calling)) (rows_of p more))
      → (head : List ℕ) (lead : List (List ℕ)) → head ≡ last_of (rounds p.stage) old.rows → lead ≡ rows_of p (step ∷ [])
      → old.rows ++ map (product head) lead ≡ rows_of p (child node step)
  child_rows joined head lead head_is is =
      let head_there : head ≡ head_of p node = head_is ∙ ap (last_of (rounds p.stage)) at.rows in
      ap (λ (h : List ℕ). old.rows ++ map (product h) lead) head_there
      ∙ ap₂ (λ (rows more : List (List ℕ)). rows ++ map (product (head_of p node)) more) at.rows is
      ∙ sym (joined node (step ∷ []))

  -- a row that comes again
  pub cut_again : (more : List (List ℕ)) (first again : ℕ) (now : StackParts) → old.rows ++ more ≡ rows_of p (child node step) → is_long p (child node step) ≡ false
      → IsTwice old (old.rows ++ more) first again now
      → IsFirstVerdict p (child node step) (verdict.Again first again) × (opens (verdict.Again first again) ≡ false) × KeepsFront old now
  cut_again more first again now rows short twice = (
    first_again p (child node step) short first again here none,
    refl,
    front_kept old more now again twice.late (omega (arith, twice.inside)) twice.stack,
  )
    where
      long : length (old.rows ++ more) ≡ length_of p (child node step)
      long = ap length rows ∙ as_many p (child node step)

      row_is : (k : ℕ) → row_at p (child node step) k ≡ get_or (old.rows ++ more) k []
      row_is k = ap (λ (l : List (List ℕ)). get_or l k []) (sym rows)

      here : is_again_at p (child node step) first again ≡ true
      here = and_from (nat_lt first again) (nat_lt again (length_of p (child node step)) && pointwise nat_eq (row_at p (child node step) first) (row_at p (child node step) again))
          (lt-ltb first again twice.before)
          (and_from (nat_lt again (length_of p (child node step))) (pointwise nat_eq (row_at p (child node step) first) (row_at p (child node step) again))
          (lt-ltb again (length_of p (child node step)) (omega (arith, twice.inside, long)))
          ((bytes_eq-Decides (row_at p (child node step) first) (row_at p (child node step) again)).1 (row_is first ∙ twice.same ∙ sym (row_is again))))

      none : (k l : ℕ) → nat_lt l again ≡ true → is_again_at p (child node step) k l ≡ false
      none k l earlier = false_from_ne_true (is_again_at p (child node step) k l) (λ h.
          let (before, rest) = and_parts (nat_lt k l) (nat_lt l (length_of p (child node step)) && pointwise nat_eq (row_at p (child node step) k) (row_at p (child node step) l)) h in
          let (inside, same) = and_parts (nat_lt l (length_of p (child node step))) (pointwise nat_eq (row_at p (child node step) k) (row_at p (child node step) l)) rest in
          let less : k < l = ltb-true k l before in
          let front : l < again = ltb-true l again earlier in
          let taken : length (take again (old.rows ++ more)) ≡ again = length-take-le again (old.rows ++ more) (omega (arith, twice.inside)) in
          twice.differ k l less (omega (arith, taken))
          (get_or-take again (old.rows ++ more) k [] (omega arith)
          ∙ sym (row_is k)
          ∙ (bytes_eq-Decides (row_at p (child node step) k) (row_at p (child node step) l)).0 same
          ∙ row_is l
          ∙ sym (get_or-take again (old.rows ++ more) l [] front)))

  -- no row comes again
  pub rung_whole : (more : List (List ℕ)) (now : StackParts) → old.rows ++ more ≡ rows_of p (child node step) → is_long p (child node step) ≡ false
      → now ≡ stack_of (old.rows ++ more) old.room → IsAt p (child node step) now × KeepsFront old now
  rung_whole more now rows short is = (
    record {
      sound = at.sound;
      valid = record { steps = child_steps; short = ltb-false (part_cap p) (length_of p (child node step)) short };
      rows = ap (λ (s : StackParts). s.rows) is ∙ rows;
      room = ap (λ (s : StackParts). s.room) is ∙ at.room;
    },
    front_kept old more now (length (old.rows ++ more)) (omega (arith, length-append old.rows more)) (omega arith)
        (is ∙ ap (λ (l : List (List ℕ)). stack_of l old.room) (sym (take_all (length (old.rows ++ more)) (old.rows ++ more) (omega arith)))),
  )
