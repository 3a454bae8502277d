-- Rows pushed on a stack keep their places.
use Rattle.std.proofs.Common.{◌≡◌, ℕ, ◌+◌, ◌<◌, ◌≤◌, Bool, true, false, cond, List, [], ◌∷◌, ◌++◌, length, get_or, map, take, inl, inr, refl, sym, ap, ap₂, ◌∙◌, subst, arith, length-append}
use Rattle.std.specs.Prelude.{All}
use Rattle.std.proofs.lemmas.List.{append-nil, append_assoc, map-append, get_or_append_left, get_or_at, take_more, get_or-take, length-take-le}
use Rattle.std.proofs.lemmas.List.Elements.{All-nil, All-push, All-head, All-tail, All-weaker}
use Rattle.cr_rowset.specs.Stacks.{StackParts, AllDiffer}
use Rattle.cr_rowset.specs.Pushing.{Pushes, StandsAt}
use Rattle.cr_rowset.specs.declared.pushed.Pushed.{Pushed}
use Rattle.cr_rowset.specs.declared.pushed.Pushed.TheVariants.{Fresh, Again, Full}
use Rattle.cr_model.specs.Problems.{ProblemParts}
use Rattle.cr_path.specs.Rung.{IsReached}
use Rattle.cr_path.specs.RungLeads.{IsKept, HasNumber, AreHeads, AreNumbered}

pub kept_all : (rows : List (List ℕ)) → IsKept rows rows
kept_all rows = record { long = omega arith; same = λ i low. refl }

pub kept_joined : (rows more : List (List ℕ)) → IsKept rows (rows ++ more)
kept_joined rows more = record {
  long = omega (arith, length-append rows more);
  same = λ i low. get_or_append_left rows more [] i low;
}

pub kept_on : (a b c : List (List ℕ)) → IsKept a b → IsKept b c → IsKept a c
kept_on a b c first then = record {
  long = omega (arith, first.long, then.long);
  same = λ i low. then.same i (omega (arith, low, first.long)) ∙ first.same i low;
}

-- a row that is pushed, or stands there
pub pushed_last : (old new : StackParts) (row : List ℕ) → Pushes old row Fresh new → HasNumber old.rows row (length old.rows) new.rows
pushed_last old new row pushes =
    let is : new.rows ≡ old.rows ++ row ∷ [] = ap (λ (s : StackParts). s.rows) pushes.2 in
    record {
      grown = inr is;
      stands = subst (λ rows. StandsAt rows row (length old.rows)) (sym is) (record {
        within = omega (arith, length-append old.rows (row ∷ []));
        is = get_or_at old.rows row [] [] (length old.rows) refl;
      });
    }

pub stood : (old new : StackParts) (row : List ℕ) (at : ℕ) → Pushes old row (Again at) new → HasNumber old.rows row at new.rows
stood old new row at pushes =
    let is : new.rows ≡ old.rows = ap (λ (s : StackParts). s.rows) pushes.1 in
    record { grown = inl is; stands = subst (λ rows. StandsAt rows row at) (sym is) pushes.0 }

-- those before stay
pub kept_by : (old new : List (List ℕ)) (row : List ℕ) (number : ℕ) → HasNumber old row number new → IsKept old new
kept_by old new row number has = elim has.grown [
  | inl same ↦ subst (IsKept old) (sym same) (kept_all old)
  | inr more ↦ subst (IsKept old) (sym more) (kept_joined old (row ∷ []))
]

-- so heads stay heads
pub heads_more : (p : ProblemParts) (old new : List (List ℕ)) (row : List ℕ) (number : ℕ) → AreHeads p old → HasNumber old row number new
    → length row ≡ p.stage → IsReached p row → AreHeads p new
heads_more p old new row number are has long reached =
    let kept : IsKept old new = kept_by old new row number has in
    record {
      some = omega (arith, are.some, kept.long);
      first = kept.same 0 are.some ∙ are.first;
      staged = elim has.grown [
        | inl same ↦ subst (All (λ (head : List ℕ). length head ≡ p.stage)) (sym same) are.staged
        | inr more ↦ subst (All (λ (head : List ℕ). length head ≡ p.stage)) (sym more) (All-push (λ (head : List ℕ). length head ≡ p.stage) old row are.staged long)
      ];
      reached = elim has.grown [
        | inl same ↦ subst (All (IsReached p)) (sym same) are.reached
        | inr more ↦ subst (All (IsReached p)) (sym more) (All-push (IsReached p) old row are.reached reached)
      ];
    }

-- rows numbered one after another
pub numbered_none : (rows : List (List ℕ)) (before : List ℕ) → AreNumbered rows before [] rows before
numbered_none rows before = record {
  kept = kept_all rows;
  more = [];
  joined = sym (append-nil before);
  within = All-nil (λ number. number < length rows);
  are = refl;
}

-- numbers of rows that were kept
pub same_rows : (old new : List (List ℕ)) (numbers : List ℕ) → IsKept old new → All (λ number. number < length old) numbers
    → map (λ number. get_or new number []) numbers ≡ map (λ number. get_or old number []) numbers
same_rows old new [] kept all = refl
same_rows old new (number ∷ numbers) kept all =
    ap₂ (λ (row : List ℕ) (rows : List (List ℕ)). row ∷ rows)
    (kept.same number (All-head (λ n. n < length old) number numbers all))
    (same_rows old new numbers kept (All-tail (λ n. n < length old) number numbers all))

pub all_kept : (old new : List (List ℕ)) (numbers : List ℕ) → IsKept old new → All (λ number. number < length old) numbers
    → All (λ number. number < length new) numbers
all_kept old new numbers kept all = All-weaker (λ n. n < length old) (λ n. n < length new) (λ n low. omega (arith, low, kept.long)) numbers all

pub numbered_more : (old mid new : List (List ℕ)) (before now next : List ℕ) (rung : List (List ℕ)) (row : List ℕ) (number : ℕ)
    → AreNumbered old before rung mid now → HasNumber mid row number new → next ≡ now ++ number ∷ []
    → AreNumbered old before (rung ++ row ∷ []) new next
numbered_more old mid new before now next rung row number are has next_is =
    let kept : IsKept mid new = kept_by mid new row number has in
    record {
      kept = kept_on old mid new are.kept kept;
      more = are.more ++ number ∷ [];
      joined = next_is ∙ ap (λ (ns : List ℕ). ns ++ number ∷ []) are.joined ∙ append_assoc before are.more (number ∷ []);
      within = All-push (λ n. n < length new) are.more number (all_kept mid new are.more kept are.within) has.stands.within;
      are = map-append (λ n. get_or new n []) are.more (number ∷ [])
          ∙ ap₂ (λ (rows : List (List ℕ)) (last : List ℕ). rows ++ last ∷ []) (same_rows mid new are.more kept are.within ∙ are.are) has.stands.is;
    }

-- and rounds, which is the first row, where it is one more
pub numbered_first : (old mid : List (List ℕ)) (before now next : List ℕ) (rung : List (List ℕ)) (row : List ℕ) (has : Bool) → AreNumbered old before rung mid now → 0 < length mid → get_or mid 0 [] ≡ row
    → next ≡ now ++ cond has (0 ∷ []) [] → AreNumbered old before (rung ++ cond has (row ∷ []) []) mid next
numbered_first old mid before now next rung row true are some first next_is =
    numbered_more old mid mid before now next rung row 0 are (record { grown = inl refl; stands = record { within = some; is = first } }) next_is
numbered_first old mid before now next rung row false are some first next_is =
    subst (λ (rows : List (List ℕ)). AreNumbered old before rows mid next) (sym (append-nil rung))
    (subst (AreNumbered old before rung mid) (sym (next_is ∙ append-nil now)) are)

-- one more of some mapped rows
pub map_more : (f : List ℕ → List ℕ) (rows : List (List ℕ)) (i : ℕ) (row : List ℕ) → i < length rows → row ≡ get_or rows i row
    → map f (take (i + 1) rows) ≡ map f (take i rows) ++ f row ∷ []
map_more f rows i row low is =
    ap (map f) (take_more rows i row low) ∙ map-append f (take i rows) (get_or rows i row ∷ [])
    ∙ ap (λ (last : List ℕ). map f (take i rows) ++ f last ∷ []) (sym is)

-- the first rows of some that differ stand on a stack that has room for all of them
pub record AreCopied (rows : List (List ℕ)) (number copied : ℕ) (stack : StackParts) : Type 0 where
  pub all : number ≡ length rows
  pub differ : AllDiffer rows
  pub room : number ≤ stack.room
  pub first : stack.rows ≡ take copied rows

-- one more is pushed: it stands nowhere yet, and there is room
module _ (rows : List (List ℕ)) (number copied : ℕ) (old new : StackParts) (row : List ℕ) (are : AreCopied rows number copied old)
    (within : copied < number) (is : row ≡ get_or rows copied []) where
  long : length old.rows ≡ copied
  long = ap length are.first ∙ length-take-le copied rows (omega (arith, within, are.all))

  pub copied_more : (answer : Pushed) → Pushes old row answer new → AreCopied rows number (copied + 1) new
  copied_more Fresh pushes = record {
    all = are.all;
    differ = are.differ;
    room = subst (λ (s : StackParts). number ≤ s.room) (sym pushes.2) are.room;
    first = ap (λ (s : StackParts). s.rows) pushes.2 ∙ ap (λ xs. xs ++ row ∷ []) are.first
        ∙ ap (λ last. take copied rows ++ last ∷ []) is ∙ sym (take_more rows copied [] (omega (arith, within, are.all)));
  }
  copied_more (Again at) pushes =
      let stands : StandsAt old.rows row at = pushes.0 in
      let low : at < copied = omega (arith, stands.within, long) in
      let same : get_or rows at [] ≡ get_or rows copied [] =
      sym (get_or-take copied rows at [] low) ∙ sym (ap (λ xs. get_or xs at []) are.first) ∙ stands.is ∙ is in
      absurd (are.differ at copied low (omega (arith, within, are.all)) same)
  copied_more Full pushes = absurd (omega (arith, pushes.1, are.room, long, within))
