-- The rows that tell leads apart, rung from heads.
use Rattle.std.proofs.Common.{◌≡◌, ℕ, ◌<◌, Bool, true, false, cond, nat_eq, List, [], ◌∷◌, ◌++◌, length, get_or, map, Contains, inl, inr, refl, sym, ap, ◌∙◌, subst, arith, length-append}
use Rattle.std.specs.Cmp.Lexicographic.{pointwise}
use Rattle.std.specs.List.{list_any}
use Rattle.std.proofs.lemmas.Bool.{or_cases, or_left, or_right, false≢true}
use Rattle.std.proofs.lemmas.Slice.Eq.{bytes_eq-Decides}
use Rattle.std.proofs.lemmas.List.{get_or_default}
use Rattle.std.proofs.lemmas.List.Elements.{Contains-append_cases}
use Rattle.std.proofs.lemmas.List.Folds.{list_any_at}
use Rattle.cr_row.specs.Rows.{rounds, product}
use Rattle.cr_model.specs.Problems.{ProblemParts}
use Rattle.cr_model.specs.Callings.{changes_of, rows_from, rows_of, head_of}
use Rattle.cr_model.specs.Dead.{has_rounds}
use Rattle.cr_model.specs.Levels.{is_listed}
use Rattle.cr_model.proofs.InOrder.{contains_cases, contains_more, none_held}
use Rattle.cr_model.proofs.Listed.{held_first}
use Rattle.cr_model.proofs.NewRows.{listed_decided}
use Rattle.cr_leads.specs.Tables.{lead_table, leads_counted, rows_of_step}
use Rattle.cr_false.specs.Sets.{ShareARow}
use Rattle.cr_false.specs.Telling.{AreTelling}
use Rattle.cr_false.proofs.Adding.{in_map, from_map}
use Rattle.cr_false.proofs.Between.{told_apart}
use Rattle.cr_path.specs.Numbers.{lead_from}
use Rattle.cr_path.specs.Rung.{told_from, IsReached}
use Rattle.cr_path.proofs.Children.{head_long}
use Rattle.cr_path.proofs.Covering.{both_pass}
use Rattle.cr_path.proofs.Listed.{listed_joined}
use Rattle.cr_path.proofs.Passing.{lead_rung}

-- a row of some is listed among others
any_held : (rows others : List (List ℕ)) → list_any (is_listed rows) others ≡ true → (row : List ℕ) × Contains others row × Contains rows row
any_held rows [] listed = absurd (false≢true listed)
any_held rows (other ∷ others) listed = elim (or_cases (is_listed rows other) (list_any (is_listed rows) others) listed) [
  | inl here ↦ (other, held_first other others, (listed_decided rows other).0 here)
  | inr later ↦
      let found = any_held rows others later in
      (found.0, contains_more other found.0 others found.1, found.2)
]

held_any : (rows others : List (List ℕ)) (row : List ℕ) → Contains others row → Contains rows row → list_any (is_listed rows) others ≡ true
held_any rows others row held among =
    list_any_at (is_listed rows) others held.0 row held.1
    ((listed_decided rows (get_or others held.0 row)).1 (subst (Contains rows) (sym held.2) among))

held_at : (rows : List (List ℕ)) → 0 < length rows → Contains rows (get_or rows 0 [])
held_at rows some = (0, some, get_or_default rows 0 (get_or rows 0 []) [] some)

-- a row among the first of joined rows
held_left : (rows more : List (List ℕ)) (row : List ℕ) → Contains rows row → Contains (rows ++ more) row
held_left rows more row held =
    (listed_decided (rows ++ more) row).0 (listed_joined rows more row ∙ or_left (is_listed rows row) (is_listed more row) ((listed_decided rows row).1 held))

module _ (p : ProblemParts) (told : List (List (List ℕ))) (tells : AreTelling (lead_table p) told) where
  -- of one lead
  module _ (head : List ℕ) (step : ℕ) (inside : step < length p.leads) where
    abbrev some : List (List ℕ)
    some = map (product head) (get_or told step [])

    abbrev lead : List (List ℕ)
    lead = lead_from p head step

    in_table : step < length (lead_table p).leads
    in_table = subst (λ n. step < n) (sym (leads_counted (lead_table p) p refl)) inside

    some_inside : (row : List ℕ) → Contains some row → Contains lead row
    some_inside row held =
        let (one, has, is) = from_map (product head) (get_or told step []) row held in
        let all : Contains (rows_of p (step ∷ [])) one =
        subst (λ (rows : List (List ℕ)). Contains rows one) (rows_of_step (lead_table p) p step refl in_table) ((tells.of_leads.some step in_table).has one has) in
        subst (Contains lead) (sym is) (in_map (product head) (rows_of p (step ∷ [])) one all)

    rounds_inside : (row : List ℕ) (has : Bool) → has_rounds p lead ≡ has → Contains (cond has (rounds p.stage ∷ []) []) row → Contains lead row
    rounds_inside row true is held = elim (contains_cases (rounds p.stage) row [] held) [
      | inl same ↦ subst (Contains lead) same ((listed_decided lead (rounds p.stage)).0 is)
      | inr later ↦ absurd (none_held row later)
    ]
    rounds_inside row false is held = absurd (none_held row held)

    -- what tells it are rows of it
    pub told_inside : (row : List ℕ) → Contains (told_from p told head step) row → Contains lead row
    told_inside row held = elim (Contains-append_cases some (cond (has_rounds p lead) (rounds p.stage ∷ []) []) row held) [
      | inl among ↦ some_inside row among
      | inr last ↦ rounds_inside row (has_rounds p lead) refl last
    ]

    rounds_last : (has : Bool) → has ≡ true → is_listed (some ++ cond has (rounds p.stage ∷ []) []) (rounds p.stage) ≡ true
    rounds_last true is =
        listed_joined some (rounds p.stage ∷ []) (rounds p.stage)
        ∙ or_right (is_listed some (rounds p.stage)) (is_listed (rounds p.stage ∷ []) (rounds p.stage))
        (or_left (pointwise nat_eq (rounds p.stage) (rounds p.stage)) false ((bytes_eq-Decides (rounds p.stage) (rounds p.stage)).1 refl))
    rounds_last false is = absurd (false≢true is)

    -- and rounds is one of them exactly where it is one of all
    pub rounds_told : has_rounds p (told_from p told head step) ≡ has_rounds p lead
    rounds_told = both_pass (has_rounds p (told_from p told head step)) (has_rounds p lead)
        (λ has. (listed_decided lead (rounds p.stage)).1 (told_inside (rounds p.stage) ((listed_decided (told_from p told head step) (rounds p.stage)).0 has)))
        (λ has. rounds_last (has_rounds p lead) has)

  -- of two leads
  module _ (head other : List ℕ) (a b : ℕ) (reached : IsReached p head) (too : IsReached p other) (a_in : a < length p.leads) (b_in : b < length p.leads) where
    lead_of : (row : List ℕ) (is : IsReached p row) (step : ℕ) → rows_from (head_of p is.calling) (changes_of p step) ≡ lead_from p row step
    lead_of row is step =
        lead_rung p (head_of p is.calling) step (head_long p is.calling) ∙ ap (λ (h : List ℕ). lead_from p h step) (sym is.is)

    share : (row : List ℕ) → Contains (lead_from p head a) row → Contains (lead_from p other b) row
        → ShareARow (map (product head) (get_or told a [])) (map (product other) (get_or told b []))
    share row first second =
        let both : ShareARow (rows_from (head_of p reached.calling) (changes_of p a)) (rows_from (head_of p too.calling) (changes_of p b)) = record {
          shared = row;
          has_first = subst (λ (rows : List (List ℕ)). Contains rows row) (sym (lead_of head reached a)) first;
          has_second = subst (λ (rows : List (List ℕ)). Contains rows row) (sym (lead_of other too b)) second;
        } in
        subst (λ (h : List ℕ). ShareARow (map (product h) (get_or told a [])) (map (product other) (get_or told b []))) (sym reached.is)
        (subst (λ (h : List ℕ). ShareARow (map (product (head_of p reached.calling)) (get_or told a [])) (map (product h) (get_or told b []))) (sym too.is)
        ((told_apart p told tells a b reached.calling too.calling a_in b_in reached.steps too.steps).0 both))

    -- they share a row exactly where they share one that tells them
    pub shared_told : list_any (is_listed (told_from p told head a)) (told_from p told other b) ≡ list_any (is_listed (lead_from p head a)) (lead_from p other b)
    shared_told = both_pass (list_any (is_listed (told_from p told head a)) (told_from p told other b)) (list_any (is_listed (lead_from p head a)) (lead_from p other b))
        (λ listed.
        let found = any_held (told_from p told head a) (told_from p told other b) listed in
        held_any (lead_from p head a) (lead_from p other b) found.0 (told_inside other b b_in found.0 found.1) (told_inside head a a_in found.0 found.2))
        (λ listed.
        let found = any_held (lead_from p head a) (lead_from p other b) listed in
        let few = share found.0 found.2 found.1 in
        held_any (told_from p told head a) (told_from p told other b) few.shared
        (held_left (map (product other) (get_or told b [])) (cond (has_rounds p (lead_from p other b)) (rounds p.stage ∷ []) []) few.shared few.has_second)
        (held_left (map (product head) (get_or told a [])) (cond (has_rounds p (lead_from p head a)) (rounds p.stage ∷ []) []) few.shared few.has_first))

  -- a lead with a row has one that tells it
  pub some_told : (head : List ℕ) (step : ℕ) → IsReached p head → step < length p.leads → 0 < length (lead_from p head step) → 0 < length (told_from p told head step)
  some_told head step reached inside some =
      let first : Contains (lead_from p head step) (get_or (lead_from p head step) 0 []) = held_at (lead_from p head step) some in
      let few = share head head step step reached reached inside inside (get_or (lead_from p head step) 0 []) first first in
      let held = few.has_first in
      let within : held.0 < length (map (product head) (get_or told step [])) = held.1 in
      omega (arith, within, length-append (map (product head) (get_or told step [])) (cond (has_rounds p (lead_from p head step)) (rounds p.stage ∷ []) []))
