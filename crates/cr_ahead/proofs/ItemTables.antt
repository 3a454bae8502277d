-- Tables of items: what they gain, and what they say.
use Rattle.std.proofs.Common.{◌≡◌, ℕ, ◌+◌, ◌*◌, ◌/◌, ◌%◌, ◌<◌, ◌≤◌, nat_eq, List, [], ◌∷◌, ◌++◌, length, get_or, map, take, replicate, refl, sym, ap, ◌∙◌, subst, arith}
use Rattle.std.specs.List.{AllZip}
use Rattle.std.proofs.Math.Nat.{mul_comm}
use Rattle.std.proofs.lemmas.Nat.{mul-add-lt, div-mul-add, mod-mul-add}
use Rattle.std.proofs.lemmas.List.{append-nil, append_assoc, map_more, get_or-replicate}
use Rattle.std.proofs.lemmas.List.FromFn.{get_or-map-range_with_len, length-map-range_with_len}
use Rattle.std.proofs.lemmas.List.Elements.{All-head, All-tail}
use Rattle.cr_model.specs.declared.query.Count.{Count}
use Rattle.cr_model.specs.declared.query.MethodCount.{MethodCount}
use Rattle.cr_model.specs.Problems.{PatternParts, ProblemParts}
use Rattle.cr_model.specs.Callings.{HasSteps, length_of, mark_of, letter_of}
use Rattle.cr_model.specs.Queries.{part_cap}
use Rattle.cr_model.specs.Sound.{IsSound}
use Rattle.cr_model.specs.Dead.{parts_of}
use Rattle.cr_ahead.specs.declared.units.Range.{Range}
use Rattle.cr_ahead.specs.declared.outlook.ItemTable.{ItemTable}
use Rattle.cr_ahead.specs.Moves.{MovesParts, places_of, steps_of, next_place}
use Rattle.cr_ahead.specs.Ways.{gain_of, IsAnswer}
use Rattle.cr_ahead.specs.Tables.{AheadParts, answer_at, IsAhead}
use Rattle.cr_ahead.specs.Items.{Item, count_item, method_item, pattern_item, number_with}
use Rattle.cr_ahead.specs.LeadMoves.{part_least, AreMovesOf, HaveGains, marked_gain, lettered_gain, fitting_gain}
use Rattle.cr_ahead.specs.Units.{units_for, units_in, in_changes}
use Rattle.cr_ahead.specs.Gaining.{gains_from}
use Rattle.cr_ahead.specs.Outlooks.{AreGround, AddUp, GainItem, IsTableOf, IsItemTable, AreItemTables, no_item}
use Rattle.cr_ahead.proofs.InUnits.{same_steps, answer_in_changes}
use Rattle.cr_ahead.proofs.LeadMoves.{tells_touches, counted_adds, fitting_adds}

-- a gain among all of them
pub gains_at : (places steps : ℕ) (gain : ℕ → ℕ → ℕ) (place step : ℕ) → place < places → step < steps
    → get_or (gains_from places steps gain) (place * steps + step) 0 ≡ gain place step
gains_at places steps gain place step inside known =
    let within : place * steps + step < places * steps = omega (arith, mul-add-lt place steps step places inside known, mul_comm steps places) in
    get_or-map-range_with_len (λ entry. gain (entry / steps) (entry % steps)) 0 (places * steps) (place * steps + step) (place * steps + step) 0 within (omega arith)
    ∙ ap (λ (n : ℕ). gain n ((place * steps + step) % steps)) (div-mul-add place steps step known)
    ∙ ap (gain place) (mod-mul-add place steps step known)

pub have_gains : (p : ProblemParts) (heads : List (List ℕ)) (m : MovesParts) (gain : ℕ → ℕ → ℕ) → AreMovesOf p heads m
    → m.gains ≡ gains_from (length heads) (length p.leads) gain → HaveGains p heads m gain
have_gains p heads m gain moves are place step inside known =
    ap (λ (gains : List ℕ). get_or gains (place * steps_of m + step) 0) are
    ∙ ap (λ (n : ℕ). get_or (gains_from (length heads) (length p.leads) gain) (place * n + step) 0) moves.steps
    ∙ gains_at (length heads) (length p.leads) gain place step inside known

-- as many as there are places and steps
pub gains_counted : (p : ProblemParts) (heads : List (List ℕ)) (range : Range) (m : MovesParts) (gain : ℕ → ℕ → ℕ) (gains : List ℕ) → AreGround p heads range m
    → gains ≡ gains_from (length heads) (length p.leads) gain → length gains ≡ places_of m * steps_of m
gains_counted p heads range m gain gains ground are =
    ap length are
    ∙ length-map-range_with_len (λ entry. gain (entry / length p.leads) (entry % length p.leads)) 0 (length heads * length p.leads)
    ∙ ap (λ (n : ℕ). n * length p.leads) (sym ground.moves.places)
    ∙ ap (λ (n : ℕ). places_of m * n) (sym ground.moves.steps ∙ same_steps range.unit m)

-- what is gained adds up
pub marks_add : (p : ProblemParts) (heads : List (List ℕ)) (gains : List ℕ) (count : Count) → IsSound p
    → gains ≡ gains_from (length heads) (length p.leads) (λ place step. marked_gain p count.mark step) → GainItem p heads gains (count_item p count)
marks_add p heads gains count sound are m moves same place node way at steps =
    counted_adds p heads m place node sound moves at (λ step. nat_eq (mark_of p step) count.mark)
    (have_gains p heads m (λ place step. marked_gain p count.mark step) moves (same ∙ are)) way steps

pub letters_add : (p : ProblemParts) (heads : List (List ℕ)) (gains : List ℕ) (count : MethodCount) → IsSound p
    → gains ≡ gains_from (length heads) (length p.leads) (λ place step. lettered_gain p count.letter step) → GainItem p heads gains (method_item p count)
letters_add p heads gains count sound are m moves same place node way at steps =
    counted_adds p heads m place node sound moves at (λ step. nat_eq (letter_of p step) count.letter)
    (have_gains p heads m (λ place step. lettered_gain p count.letter step) moves (same ∙ are)) way steps

pub rows_add : (p : ProblemParts) (heads : List (List ℕ)) (gains : List ℕ) (pattern : PatternParts) → IsSound p → parts_of p ≡ 1
    → gains ≡ gains_from (length heads) (length p.leads) (λ place step. fitting_gain p pattern.cells (get_or heads place []) step) → GainItem p heads gains (pattern_item p pattern)
rows_add p heads gains pattern sound one are m moves same place node way at steps =
    fitting_adds p heads m place node sound moves at one pattern.cells
    (have_gains p heads m (λ place step. fitting_gain p pattern.cells (get_or heads place []) step) moves (same ∙ are)) way steps
    ∙ ap (λ (n : ℕ). n * ((pattern_item p pattern).number_of node + gain_of m place way)) (sym one)

-- what a table of the moves answers at a node's length, in changes
pub answer_of : (p : ProblemParts) (heads : List (List ℕ)) (range : Range) (m : MovesParts) (t : AheadParts) → AreGround p heads range m
    → IsAhead m range.least range.greatest t → (place long : ℕ) (node : List ℕ) → place < length heads → length_of p node ≡ range.unit * long
    → IsAnswer (in_changes range.unit m) (part_least p) (part_cap p) place (length_of p node) (answer_at t place long)
answer_of p heads range m t ground ahead place long node there is =
    let within : place < places_of m = omega (arith, there, ground.moves.places) in
    let answer : IsAnswer m (units_for range.unit (part_least p)) (units_in range.unit (part_cap p)) place long (answer_at t place long) =
    subst (λ (n : ℕ). IsAnswer m (units_for range.unit (part_least p)) n place long (answer_at t place long)) ground.lengths.to
    (subst (λ (n : ℕ). IsAnswer m n range.greatest place long (answer_at t place long)) ground.lengths.from (ahead.answers place long within)) in
    subst (λ (n : ℕ). IsAnswer (in_changes range.unit m) (part_least p) (part_cap p) place n (answer_at t place long)) (sym is)
    (answer_in_changes range.unit m ground.lengths.is_unit.some (part_least p) (part_cap p) place long (answer_at t place long) answer)

-- what it says
pub table_of : (p : ProblemParts) (heads : List (List ℕ)) (range : Range) (m : MovesParts) (item : Item) (t : AheadParts) → AreGround p heads range m
    → AddUp p heads (in_changes range.unit m) item → IsAhead m range.least range.greatest t → IsTableOf p heads range.unit item t
table_of p heads range m item t ground adds ahead = record {
  places = ahead.places ∙ ground.moves.places;
  tells = λ place long node at is.
      tells_touches p heads (in_changes range.unit m) place node ground.sound ground.moves at (number_with p node item) (parts_of p) (item.number_of node)
      (λ way steps. adds place node way at steps) (answer_at t place long)
      (answer_of p heads range m t ground ahead place long node at.there is);
}

-- other gains lead to the same places
pub regained : (p : ProblemParts) (heads : List (List ℕ)) (range : Range) (m : MovesParts) (gains : List ℕ) → AreGround p heads range m
    → AreGround p heads range (record m { gains = gains })
regained p heads range m gains ground = record {
  sound = ground.sound;
  few = ground.few;
  staged = ground.staged;
  moves = record {
    places = ground.moves.places;
    steps = ground.moves.steps;
    lengths = ground.moves.lengths;
    ends = ground.moves.ends;
    there = ground.moves.there;
    next = ground.moves.next;
  };
  lengths = ground.lengths;
}

pub table_by : (p : ProblemParts) (heads : List (List ℕ)) (range : Range) (m : MovesParts) (gains : List ℕ) (item : Item) (t : AheadParts) → AreGround p heads range m
    → GainItem p heads gains item → IsAhead (record m { gains = gains }) range.least range.greatest t → IsTableOf p heads range.unit item t
table_by p heads range m gains item t ground adds ahead =
    let other = regained p heads range m gains ground in
    table_of p heads range (record m { gains = gains }) item t other (adds (in_changes range.unit (record m { gains = gains })) other.moves refl) ahead

-- one table more
zip_push : {A B : Type 0} (R : A → B → Type 0) (xs : List A) (ys : List B) (x : A) (y : B) → AllZip R xs ys → R x y → AllZip R (xs ++ x ∷ []) (ys ++ y ∷ [])
zip_push R [] [] x y all one = (one, tt)
zip_push R [] (z ∷ ys) x y all one = absurd all
zip_push R (z ∷ xs) [] x y all one = absurd all
zip_push R (z ∷ xs) (w ∷ ys) x y all one = (all.0, zip_push R xs ys x y all.1 one)

module _ {X : Type 0} (item_of : X → Item) (p : ProblemParts) (heads : List (List ℕ)) (unit : ℕ) (items : List Item) where
  pub none_added : (tables : List ItemTable) → AreItemTables p heads unit items tables → AreItemTables p heads unit (items ++ []) tables
  none_added tables are = subst (λ (some : List Item). AreItemTables p heads unit some tables) (sym (append-nil items)) are

  pub one_added : (xs : List X) (i : ℕ) (x d : X) (tables : List ItemTable) (table : ItemTable) → i < length xs → x ≡ get_or xs i d
      → AreItemTables p heads unit (items ++ map item_of (take i xs)) tables → IsItemTable p heads unit (item_of x) table
      → AreItemTables p heads unit (items ++ map item_of (take (i + 1) xs)) (tables ++ table ∷ [])
  one_added xs i x d tables table inside is are one =
      subst (λ (some : List Item). AreItemTables p heads unit some (tables ++ table ∷ []))
      (append_assoc items (map item_of (take i xs)) (item_of x ∷ [])
      ∙ ap (λ (some : List Item). items ++ some) (ap (λ (y : X). map item_of (take i xs) ++ item_of y ∷ []) is ∙ sym (map_more item_of xs i d inside)))
      (zip_push (IsItemTable p heads unit) (items ++ map item_of (take i xs)) tables (item_of x) table are one)

-- no gains at all
no_gain : (p : ProblemParts) (heads : List (List ℕ)) (m : MovesParts) → AreMovesOf p heads m → HaveGains p heads m (λ place step. 0)
    → (place : ℕ) (way : List ℕ) → place < length heads → HasSteps p way → gain_of m place way ≡ 0
no_gain p heads m moves have place [] there steps = refl
no_gain p heads m moves have place (step ∷ way) there steps =
    let known : step < length p.leads = All-head (λ s. s < length p.leads) step way steps in
    omega (
      arith,
      have place step there known,
      no_gain p heads m moves have (next_place m place step) way (moves.there place step there known) (All-tail (λ s. s < length p.leads) step way steps),
    )

nothing_gained : (p : ProblemParts) (heads : List (List ℕ)) (m : MovesParts) → AreMovesOf p heads m → m.gains ≡ replicate (length heads * length p.leads) 0
    → HaveGains p heads m (λ place step. 0)
nothing_gained p heads m moves are place step inside known =
    let within : place * length p.leads + step < length heads * length p.leads =
    omega (arith, mul-add-lt place (length p.leads) step (length heads) inside known, mul_comm (length p.leads) (length heads)) in
    ap (λ (gains : List ℕ). get_or gains (place * steps_of m + step) 0) are
    ∙ ap (λ (n : ℕ). get_or (replicate (length heads * length p.leads) 0) (place * n + step) 0) moves.steps
    ∙ get_or-replicate (length heads * length p.leads) (place * length p.leads + step) 0 0 within

pub home_of : (p : ProblemParts) (heads : List (List ℕ)) (range : Range) (m : MovesParts) (t : AheadParts) → AreGround p heads range m
    → m.gains ≡ replicate (length heads * length p.leads) 0 → IsAhead m range.least range.greatest t → IsTableOf p heads range.unit no_item t
home_of p heads range m t ground are ahead =
    table_of p heads range m no_item t ground
    (λ place node way at steps.
    let none : gain_of (in_changes range.unit m) place way ≡ 0 = no_gain p heads (in_changes range.unit m) ground.moves
    (nothing_gained p heads (in_changes range.unit m) ground.moves are) place way at.there steps in
    sym (ap (λ (n : ℕ). parts_of p * (0 + n)) none ∙ omega arith)) ahead

pub empty_list : {X : Type 0} (xs : List X) → length xs ≤ 0 → xs ≡ []
empty_list [] none = refl
empty_list (x ∷ xs) none = absurd (omega arith)
