-- The levels, listed one after another.
use Rattle.std.proofs.Common.{◌≡◌, ◌≢◌, ℕ, zero, suc, ◌+◌, ◌-◌, ◌*◌, ◌<◌, ◌≤◌, Bool, true, false, cond, List, [], ◌∷◌, ◌++◌, length, drop, map, replicate, inl, inr, refl, sym, ap, ap₂, ◌∙◌, subst, arith, length-append}
use Rattle.std.specs.List.{range_with_len}
use Rattle.std.proofs.Math.Seq.{drop-append_seam}
use Rattle.std.proofs.lemmas.Bool.{cases_lt, cases_eq}
use Rattle.std.proofs.lemmas.List.{length-replicate, length-drop}
use Rattle.std.proofs.lemmas.List.FromFn.{length-map-range_with_len}
use Rattle.std.proofs.lemmas.List.Elements.{All-nil, All-cons, All-contains, All-head, All-tail, All-drop, All-append, All-map, All-weaker}
use Rattle.cr_row.specs.Rows.{rounds, product}
use Rattle.cr_model.specs.Problems.{ProblemParts}
use Rattle.cr_model.specs.Levels.{row_before, rows_before, is_listed, new_rows, spread, level, up_to_level, HasRoom, depth}
use Rattle.cr_model.proofs.Listed.{all_from_held}
use Rattle.cr_model.proofs.NewRows.{new_rows_are}
use Rattle.cr_leads.specs.Tables.{TableParts, lead_table, leads_counted}
use Rattle.cr_rowset.specs.Stacks.{StackParts}
use Rattle.cr_rowset.specs.Pushing.{Pushes}
use Rattle.cr_rowset.specs.declared.pushed.Pushed.{Pushed}
use Rattle.cr_rowset.specs.declared.pushed.Pushed.TheVariants.{Fresh, Again, Full}
use Rattle.cr_reach.specs.Tables.{ReachParts, levels_up_to, reach_to, reach_table}
use Rattle.cr_reach.specs.Spreading.{AreOfStage, LeadBack, products, IsGrown, IsWhole}
use Rattle.cr_reach.specs.Filling.{IsUpTo, IsListed}

-- the equations of levels
pub level_first : (p : ProblemParts) → (level p 0 ≡ rounds p.stage ∷ []) × (up_to_level p 0 ≡ rounds p.stage ∷ [])
unfolding spread
level_first p = (refl, refl)

level_next : (p : ProblemParts) (leads : ℕ) → level p (suc leads) ≡ new_rows (up_to_level p leads) (rows_before p (level p leads))
unfolding spread
level_next p leads = refl

pub up_to_next : (p : ProblemParts) (leads : ℕ) → up_to_level p (suc leads) ≡ up_to_level p leads ++ level p (suc leads)
unfolding spread
up_to_next p leads = refl

-- a higher level has as many rows up to it, or more
longer : (p : ProblemParts) (low high : ℕ) → low ≤ high → length (up_to_level p low) ≤ length (up_to_level p high)
longer p low zero within =
    let e : low ≡ 0 = omega arith in
    let same : length (up_to_level p low) ≡ length (up_to_level p 0) = ap (λ n. length (up_to_level p n)) e in
    omega (arith, same)
longer p low (suc high) within = elim (cases_eq low (suc high)) [
  | inl e ↦
      let same : length (up_to_level p low) ≡ length (up_to_level p (suc high)) = ap (λ n. length (up_to_level p n)) e in
      omega (arith, same)
  | inr e ↦
      let rest : length (up_to_level p low) ≤ length (up_to_level p high) = longer p low high (omega (arith, e)) in
      let long : length (up_to_level p (suc high)) ≡ length (up_to_level p high ++ level p (suc high)) = ap length (up_to_next p high) in
      omega (arith, rest, long, length-append (up_to_level p high) (level p (suc high)))
]

-- the products of rows of the stage are the rows one lead before them
products_are : (table : TableParts) (p : ProblemParts) (inverses rows : List (List ℕ)) → table ≡ lead_table p
    → LeadBack table (length table.leads) inverses → AreOfStage table.stage rows → products inverses rows ≡ rows_before p rows
products_are table p inverses [] is back all = refl
products_are table p inverses (row ∷ rows) is back all =
    ap₂ ◌++◌
    (back p is row (All-head (λ r. length r ≡ table.stage) row rows all)
    ∙ ap (λ n. map (row_before p row) (range_with_len 0 n)) (leads_counted table p is))
    (products_are table p inverses rows is back (All-tail (λ r. length r ≡ table.stage) row rows all))

-- so the new ones are the next level
next_is : (table : TableParts) (p : ProblemParts) (inverses : List (List ℕ)) (depth start : ℕ) (rows : List (List ℕ)) (levels : List ℕ)
    → table ≡ lead_table p → LeadBack table (length table.leads) inverses → AreOfStage table.stage rows → IsUpTo p depth rows levels start
    → new_rows rows (products inverses (drop start rows)) ≡ level p (suc depth)
next_is table p inverses depth start rows levels is back all up =
    ap₂ new_rows up.all
    (products_are table p inverses (drop start rows) is back (All-drop (λ r. length r ≡ table.stage) start rows all) ∙ ap (rows_before p) up.last)
    ∙ sym (level_next p depth)

-- products have the stage of what was multiplied with, and so have the new ones of them
products_staged : ((h r : List ℕ) → length (product h r) ≡ length r) → (stage : ℕ) (inverses rows : List (List ℕ)) → AreOfStage stage inverses
    → AreOfStage stage (products inverses rows)
products_staged long stage inverses [] all = All-nil (λ r. length r ≡ stage)
products_staged long stage inverses (row ∷ rows) all =
    All-append (λ r. length r ≡ stage) (map (product row) inverses) (products inverses rows)
    (All-map (λ r. length r ≡ stage) (product row) inverses
    (All-weaker (λ r. length r ≡ stage) (λ r. length (product row r) ≡ stage) (λ r h. long row r ∙ h) inverses all))
    (products_staged long stage inverses rows all)

new_staged : (stage : ℕ) (seen rows : List (List ℕ)) → AreOfStage stage rows → AreOfStage stage (new_rows seen rows)
new_staged stage seen rows all = all_from_held (λ r. length r ≡ stage) (new_rows seen rows)
    (λ r held. All-contains (λ r. length r ≡ stage) rows r all ((new_rows_are seen rows r).0 held).0)

-- rounds alone
pub first_listed : (table : TableParts) (most start depth : ℕ) (old new : StackParts) (row : List ℕ) (answer : Pushed) (levels : List ℕ)
    → 1 ≤ most → old ≡ record { rows = []; room = most } → Pushes old row answer new → row ≡ rounds table.stage → length row ≡ table.stage
    → levels ≡ 0 ∷ [] → start ≡ 0 → depth ≡ 0 → IsListed table most depth new levels start
first_listed table most start depth old new row answer levels some empty pushes is long first begin low =
    by answer (subst (λ (s : StackParts). Pushes s row answer new) empty pushes)
  where
    with : new ≡ record { rows = row ∷ []; room = most } → IsListed table most depth new levels start
    with e =
        let rows : new.rows ≡ row ∷ [] = ap (λ (s : StackParts). s.rows) e in
        let one : length new.rows ≡ 1 = ap length rows in
        let counted : length levels ≡ 1 = ap length first in
        record {
          room = ap (λ (s : StackParts). s.room) e;
          few = omega (arith, one, some);
          counted = counted ∙ sym one;
          deep = omega (arith, one, low);
          begun = omega (arith, one, begin);
          staged = subst (AreOfStage table.stage) (sym rows) (All-cons (λ r. length r ≡ table.stage) row [] long (All-nil (λ r. length r ≡ table.stage)));
          of_problem = λ p table_is.
              let round : row ≡ rounds p.stage = is ∙ ap (λ (t : TableParts). rounds t.stage) table_is in
              let alone : new.rows ≡ rounds p.stage ∷ [] = rows ∙ ap (λ r. r ∷ []) round in
              let e₀ = level_first p in
              record {
                all = alone ∙ sym e₀.1 ∙ ap (up_to_level p) (sym low);
                last = ap₂ drop begin alone ∙ sym e₀.0 ∙ ap (level p) (sym low);
                leads = first ∙ ap (λ n. replicate n 0) (sym (ap length e₀.0)) ∙ ap (levels_up_to p) (sym low);
                some = λ number few none.
                    let same : number ≡ 0 = omega (arith, low) in
                    let gone : length (level p 0) ≡ 0 = ap length (ap (level p) (sym same) ∙ none) in
                    let there : length (level p 0) ≡ 1 = ap length e₀.0 in
                    absurd (omega (arith, gone, there));
              };
        }

    by : (a : Pushed) → Pushes (record { rows = []; room = most }) row a new → IsListed table most depth new levels start
    by Fresh h = with h.2
    by (Again place) h = let within : place < 0 = h.0.within in absurd (omega arith)
    by Full h = let full : 0 ≡ most = h.1 in absurd (omega arith)

-- one level more
pub listed_more : ((h r : List ℕ) → length (product h r) ≡ length r) → (table : TableParts) (inverses : List (List ℕ)) (most depth next start begin : ℕ) (old new : StackParts) (levels grown : List ℕ)
    → LeadBack table (length table.leads) inverses → AreOfStage table.stage inverses → IsListed table most depth old levels start
    → IsGrown old (products inverses (drop start old.rows)) new → next ≡ depth + 1 → begin ≡ length levels
    → grown ≡ levels ++ replicate (length new.rows - length levels) next → IsListed table most next new grown begin
listed_more long table inverses most depth next start begin old new levels grown back staged listed is up begins filled =
    let more = products inverses (drop start old.rows) in
    let newest = new_rows old.rows more in
    let rows : new.rows ≡ old.rows ++ newest = ap (λ (s : StackParts). s.rows) is.is in
    let room : new.room ≡ most = ap (λ (s : StackParts). s.room) is.is ∙ listed.room in
    let count : length new.rows ≡ length old.rows + length newest = ap length rows ∙ length-append old.rows newest in
    let filled_to : length grown ≡ length levels + (length new.rows - length levels) =
    ap length filled ∙ length-append levels (replicate (length new.rows - length levels) next)
    ∙ ap (λ n. length levels + n) (length-replicate (length new.rows - length levels) next) in
    let counted : length levels ≡ length old.rows = listed.counted in
    let next_up : next ≡ suc depth = omega arith in
    record {
      room = room;
      few = omega (arith, is.few, room);
      counted = omega (arith, filled_to, counted, is.some);
      deep = omega (arith, listed.deep, is.some);
      begun = omega (arith, counted, is.some);
      staged = subst (AreOfStage table.stage) (sym rows) (All-append (λ r. length r ≡ table.stage) old.rows newest listed.staged
          (new_staged table.stage old.rows more (products_staged long table.stage inverses (drop start old.rows) staged)));
      of_problem = λ p table_is.
          let before = listed.of_problem p table_is in
          let level_is : newest ≡ level p (suc depth) = next_is table p inverses depth start old.rows levels table_is back listed.staged before in
          let size : length new.rows - length levels ≡ length (level p (suc depth)) =
          (let e : length newest ≡ length (level p (suc depth)) = ap length level_is in omega (arith, e, count, counted)) in
          subst (λ (n : ℕ). IsUpTo p n new.rows grown begin) (sym next_up) (record {
            all = rows ∙ ap₂ ◌++◌ before.all level_is ∙ sym (up_to_next p depth);
            last = ap₂ drop (begins ∙ counted) rows ∙ drop-append_seam old.rows newest ∙ level_is;
            leads = filled ∙ ap₂ (λ (front : List ℕ) (n : ℕ). front ++ replicate n next) before.leads size
                ∙ ap (λ n. levels_up_to p depth ++ replicate (length (level p (suc depth))) n) next_up;
            some = λ number few none. elim (cases_eq number (suc depth)) [
              | inl e ↦
                  let gone : length (level p (suc depth)) ≡ 0 = ap length (ap (level p) (sym e) ∙ none) in
                  absurd (omega (arith, gone, size, is.some, counted))
              | inr e ↦ before.some number (omega (arith, e)) none
            ];
          });
    }

-- all that is new and has room
pub whole_table : ((p : ProblemParts) (most : ℕ) → 1 ≤ most → HasRoom p most (depth p most))
    → ((p : ProblemParts) (most leads : ℕ) → HasRoom p most leads → leads ≤ depth p most)
    → (table : TableParts) (inverses : List (List ℕ)) (most deep start : ℕ) (old new : StackParts) (levels : List ℕ)
    → 1 ≤ most → LeadBack table (length table.leads) inverses → IsListed table most deep old levels start
    → IsWhole old (products inverses (drop start old.rows)) new
    → (p : ProblemParts) → table ≡ lead_table p → record { depth = deep; rows = new.rows; levels = levels } ≡ reach_table p most
whole_table has_room is_greatest table inverses most deep start old new levels some back listed whole p table_is =
    let before = listed.of_problem p table_is in
    let newest = new_rows old.rows (products inverses (drop start old.rows)) in
    let level_is : newest ≡ level p (suc deep) = next_is table p inverses deep start old.rows levels table_is back listed.staged before in
    let long : length (up_to_level p deep) ≡ length old.rows = ap length (sym before.all) in
    let few : deep ≤ depth p most = is_greatest p most deep (record { rows = before.some; few = omega (arith, listed.few, long) }) in
    let at : deep ≡ depth p most = elim (cases_lt deep (depth p most)) [
      | inl beyond ↦
          let room = has_room p most some in
          let there : newest ≢ [] = λ none. room.rows (suc deep) (omega arith) (sym level_is ∙ none) in
          let full = whole.full there in
          let all : old.rows ++ newest ≡ up_to_level p (suc deep) = ap₂ ◌++◌ before.all level_is ∙ sym (up_to_next p deep) in
          let count : length (old.rows ++ newest) ≡ length (up_to_level p (suc deep)) = ap length all in
          let more : length (up_to_level p (suc deep)) ≤ length (up_to_level p (depth p most)) = longer p (suc deep) (depth p most) (omega arith) in
          absurd (omega (arith, full, count, more, room.few, listed.room))
      | inr within ↦ omega (arith, within, few)
    ] in
    ap₂ (λ (rows : List (List ℕ)) (leads : List ℕ). record { depth = deep; rows = rows; levels = leads })
    (ap (λ (s : StackParts). s.rows) whole.same ∙ before.all) before.leads
    ∙ ap (reach_to p) at

-- of some rows no more are new than there are
new_few : (seen rows : List (List ℕ)) → length (new_rows seen rows) ≤ length rows
new_few seen [] = omega arith
new_few seen (row ∷ rows) =
    let rest = new_few (row ∷ seen) rows in
    by (is_listed seen row) (omega (arith, rest))
  where
    by : (old : Bool) → length (new_rows (row ∷ seen) rows) ≤ length rows → length (cond old [] (row ∷ []) ++ new_rows (row ∷ seen) rows) ≤ suc (length rows)
    by true few = omega (arith, few)
    by false few = omega (arith, few)

-- one lead before some rows there is one for each of them and each step
before_counted : (p : ProblemParts) (rows : List (List ℕ)) → length (rows_before p rows) ≡ length rows * length p.leads
before_counted p [] = omega arith
before_counted p (row ∷ rows) = omega (
  arith,
  length-append (map (row_before p row) (range_with_len 0 (length p.leads))) (rows_before p rows),
  length-map-range_with_len (row_before p row) 0 (length p.leads),
  before_counted p rows,
)

empty_where_not_some : (rows : List (List ℕ)) → (rows ≢ [] → ⊥) → rows ≡ []
empty_where_not_some [] none = refl
empty_where_not_some (row ∷ rows) none = absurd (none (λ same. let gone : length (row ∷ rows) ≡ 0 = ap length same in absurd (omega (arith, gone))))

-- where there is room for all rows before those of the last level, and none was pushed, there are none
pub none_further : ((p : ProblemParts) (most : ℕ) → 1 ≤ most → HasRoom p most (depth p most))
    → ((p : ProblemParts) (most leads : ℕ) → HasRoom p most leads → leads ≤ depth p most)
    → (table : TableParts) (inverses : List (List ℕ)) (most deep start : ℕ) (old new : StackParts) (levels : List ℕ)
    → 1 ≤ most → LeadBack table (length table.leads) inverses → IsListed table most deep old levels start
    → IsWhole old (products inverses (drop start old.rows)) new
    → (p : ProblemParts) → table ≡ lead_table p → length old.rows + (length old.rows - start) * length p.leads ≤ most → level p (depth p most + 1) ≡ []
none_further has_room is_greatest table inverses most deep start old new levels some back listed whole p table_is roomy =
    let before = listed.of_problem p table_is in
    let newest = new_rows old.rows (products inverses (drop start old.rows)) in
    let level_is : newest ≡ level p (suc deep) = next_is table p inverses deep start old.rows levels table_is back listed.staged before in
    let counted : length (rows_before p (level p deep)) ≡ (length old.rows - start) * length p.leads =
    before_counted p (level p deep) ∙ ap (λ (rows : List (List ℕ)). length rows * length p.leads) (sym before.last) ∙ ap (λ n. n * length p.leads) (length-drop start old.rows) in
    let few : length newest ≤ (length old.rows - start) * length p.leads =
    (let e : length newest ≡ length (new_rows (up_to_level p deep) (rows_before p (level p deep))) = ap length (level_is ∙ level_next p deep) in
    omega (arith, e, counted, new_few (up_to_level p deep) (rows_before p (level p deep)))) in
    let none : newest ≡ [] = empty_where_not_some newest (λ there. absurd (omega (arith, whole.full there, listed.room, length-append old.rows newest, few, roomy))) in
    let at : deep ≡ depth p most =
    ap (λ (t : ReachParts). t.depth) (whole_table has_room is_greatest table inverses most deep start old new levels some back listed whole p table_is) in
    ap (level p) (omega (arith, at)) ∙ sym level_is ∙ none
