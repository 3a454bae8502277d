-- What an outlook says of a node.
use Rattle.std.proofs.Common.{◌≡◌, ℕ, zero, suc, ◌*◌, ◌<◌, Bool, true, false, ℤ, List, [], ◌∷◌, length, get_or, map, All, Option, Some, None, is_none, IfSome, Decides, inl, inr, refl, sym, ap, ◌∙◌, subst, arith, rules}
use Rattle.std.specs.List.{AllZip, list_any}
use Rattle.std.proofs.lemmas.Bool.{or_right, true≢false}
use Rattle.std.proofs.lemmas.List.{get_or-map, get_or_default}
use Rattle.std.proofs.lemmas.List.Folds.{list_any_at}
use Rattle.std.proofs.lemmas.List.Elements.{All-nil, All-cons}
use Rattle.cr_model.specs.declared.query.Com.{Com}
use Rattle.cr_model.specs.Problems.{ProblemParts}
use Rattle.cr_model.specs.Callings.{length_of}
use Rattle.cr_model.specs.Queries.{changes_of_method}
use Rattle.cr_model.specs.Sound.{IsSound}
use Rattle.cr_model.specs.Dead.{parts_of}
use Rattle.cr_ahead.specs.declared.gains.Gains.{Gains}
use Rattle.cr_ahead.specs.declared.outlook.ItemTable.{ItemTable}
use Rattle.cr_ahead.specs.Ways.{Tells}
use Rattle.cr_ahead.specs.Tables.{AheadParts, answer_at}
use Rattle.cr_ahead.specs.Home.{IsWayHome, each_way_home}
use Rattle.cr_ahead.specs.Items.{Item, com_item, com_items, number_with, CannotMeet, cannot_meet}
use Rattle.cr_ahead.specs.LeadMoves.{IsPlaceOf, last_method, of_touches, refuses}
use Rattle.cr_ahead.specs.Exact.{head_items, cannot_come_by_heads}
use Rattle.cr_ahead.specs.ByMethod.{places_each, place_by}
use Rattle.cr_ahead.specs.Outlooks.{IsHomeTable, IsTableOf, IsComTable, IsItemTable, AreItemTables, no_item, head_item, none_at, is_refused, is_refused_at, IsSomeRefused}
use Rattle.cr_ahead.proofs.Exact.{CannotComeByHeads, heads_decided, or_none}
use Rattle.cr_ahead.proofs.Home.{item_decided}
use Rattle.cr_ahead.proofs.LeadMoves.{refused}

-- a test of what does not hold
false_is : {P : Type 0} (b : Bool) → Decides b P → (P → ⊥) → false ≡ b
false_is false decided refuted = refl
false_is true decided refuted = absurd (refuted (decided.0 refl))

-- lists element by element
zip_at : {A B : Type 0} (R : A → B → Type 0) (xs : List A) (ys : List B) (i : ℕ) (d : A) (e : B) → AllZip R xs ys → i < length xs → R (get_or xs i d) (get_or ys i e)
zip_at R [] [] i d e all inside = absurd (omega arith)
zip_at R [] (y ∷ ys) i d e all inside = absurd all
zip_at R (x ∷ xs) [] i d e all inside = absurd all
zip_at R (x ∷ xs) (y ∷ ys) zero d e all inside = all.0
zip_at R (x ∷ xs) (y ∷ ys) (suc i) d e all inside = zip_at R xs ys i d e all.1 (omega arith)

pub zip_length : {A B : Type 0} (R : A → B → Type 0) (xs : List A) (ys : List B) → AllZip R xs ys → length ys ≡ length xs
zip_length R [] [] all = refl
zip_length R [] (y ∷ ys) all = absurd all
zip_length R (x ∷ xs) [] all = absurd all
zip_length R (x ∷ xs) (y ∷ ys) all = ap suc (zip_length R xs ys all.1)

-- the table at an index is that of the item there
pub table_at : (p : ProblemParts) (heads : List (List ℕ)) (unit : ℕ) (tables : List ItemTable) (i : ℕ) (t : ItemTable) → AreItemTables p heads unit (head_items p) tables
    → i < length tables → t ≡ get_or tables i t → IsItemTable p heads unit (head_item p i) t
table_at p heads unit tables i t are inside is =
    let within : i < length (head_items p) = omega (arith, inside, zip_length (IsItemTable p heads unit) (head_items p) tables are) in
    subst (IsItemTable p heads unit (head_item p i)) (sym is) (zip_at (IsItemTable p heads unit) (head_items p) tables i no_item t are within)

-- all tables have as many places
pub all_places : (p : ProblemParts) (heads : List (List ℕ)) (unit : ℕ) (items : List Item) (tables : List ItemTable) → AreItemTables p heads unit items tables
    → All (λ of_item. of_item.table.places ≡ length heads) tables
all_places p heads unit [] [] all = All-nil (λ of_item. of_item.table.places ≡ length heads)
all_places p heads unit [] (t ∷ ts) all = absurd all
all_places p heads unit (item ∷ items) [] all = absurd all
all_places p heads unit (item ∷ items) (t ∷ ts) all =
    All-cons (λ of_item. of_item.table.places ≡ length heads) t ts all.0.table.places (all_places p heads unit items ts all.1)

module _ (p : ProblemParts) (heads : List (List ℕ)) (unit place long : ℕ) (node : List ℕ) (sound : IsSound p) (at : IsPlaceOf p heads place node)
    (is : length_of p node ≡ unit * long) where
  -- where there are no items
  home_by : (gains : Option Gains) → head_items p ≡ [] → Tells (IsWayHome p node) (number_with p node no_item) (of_touches (parts_of p) 0 gains)
      → is_none gains ≡ cannot_come_by_heads p node
  home_by None none told = sym ((heads_decided p node sound).1 (inl told))
  home_by (Some g) none told = false_is (cannot_come_by_heads p node) (heads_decided p node sound) cannot_be
    where
      cannot_be : CannotComeByHeads p node → ⊥
      cannot_be cannot = elim cannot [
        | inl nowhere ↦ nowhere told.0.one told.0.holds
        | inr any ↦ let inside : any.0 < length (head_items p) = any.2 in let empty = ap length none in absurd (omega (arith, inside, empty))
      ]

  pub home_says : (table : AheadParts) → head_items p ≡ [] → IsTableOf p heads unit no_item table → is_none (answer_at table place long) ≡ cannot_come_by_heads p node
  home_says table none of_table = home_by (answer_at table place long) none (of_table.tells place long node at is)

  -- an item is refused exactly where the node cannot meet its limits
  pub one_refused : (item : Item) (t : ItemTable) (parts number : ℕ) → parts ≡ parts_of p → IsItemTable p heads unit item t → number ≡ item.number_of node
      → is_refused parts place long t number ≡ cannot_meet p node item
  one_refused item t parts number same of_item counted =
      ap (λ (n : ℕ). refuses t.min t.max (of_touches parts n (answer_at t.table place long))) counted
      ∙ ap (λ (n : ℕ). refuses t.min t.max (of_touches n (item.number_of node) (answer_at t.table place long))) same
      ∙ ap (λ (z : ℤ). refuses z t.max (of_touches (parts_of p) (item.number_of node) (answer_at t.table place long))) of_item.min
      ∙ ap (λ (z : ℤ). refuses item.min z (of_touches (parts_of p) (item.number_of node) (answer_at t.table place long))) of_item.max
      ∙ sym (refused p node item (of_touches (parts_of p) (item.number_of node) (answer_at t.table place long)) sound (of_item.table.tells place long node at is))

  -- where there are some
  module _ (parts : ℕ) (tables : List ItemTable) (so_far : List ℕ) (same : parts ≡ parts_of p) (are : AreItemTables p heads unit (head_items p) tables)
      (has : so_far ≡ map (λ item. item.number_of node) (head_items p)) where
    refused_at : (i : ℕ) → i < length (head_items p) → is_refused_at parts place long tables so_far i ≡ cannot_meet p node (get_or (head_items p) i no_item)
    refused_at i inside =
        let item : Item = get_or (head_items p) i no_item in
        let t : ItemTable = get_or tables i none_at in
        let number : get_or so_far i 0 ≡ item.number_of node =
        ap (λ (numbers : List ℕ). get_or numbers i 0) has ∙ get_or-map (λ some. some.number_of node) (head_items p) i no_item 0 inside in
        one_refused item t parts (get_or so_far i 0) same (zip_at (IsItemTable p heads unit) (head_items p) tables i no_item none_at are inside) number

    pub items_say : (result : Bool) → 0 < length (head_items p) → IsSomeRefused parts place long tables so_far result → result ≡ cannot_come_by_heads p node
    items_say true some one =
        let inside : one.0 < length (head_items p) = omega (arith, one.1, zip_length (IsItemTable p heads unit) (head_items p) tables are) in
        sym (or_right (each_way_home p node (λ way. false)) (list_any (cannot_meet p node) (head_items p))
        (list_any_at (cannot_meet p node) (head_items p) one.0 no_item inside (sym (refused_at one.0 inside) ∙ one.2)))
    items_say false some none = false_is (cannot_come_by_heads p node) (heads_decided p node sound) cannot_be
      where
        each : (i : ℕ) → i < length (head_items p) → CannotMeet p node (get_or (head_items p) i no_item) → ⊥
        each i inside cannot =
            let within : i < length tables = omega (arith, inside, zip_length (IsItemTable p heads unit) (head_items p) tables are) in
            true≢false (sym ((item_decided p node (get_or (head_items p) i no_item) sound).1 cannot) ∙ sym (refused_at i inside) ∙ none i within)

        cannot_be : CannotComeByHeads p node → ⊥
        cannot_be cannot = elim cannot [
          | inl nowhere ↦ each 0 some (inl (λ way home. absurd (nowhere way home)))
          | inr any ↦
              let inside : any.0 < length (head_items p) = any.2 in
              let here : any.1 ≡ get_or (head_items p) any.0 no_item = sym any.3 ∙ get_or_default (head_items p) any.0 any.1 no_item inside in
              each any.0 inside (subst (CannotMeet p node) here any.4)
        ]

-- what an outlook keeps
pub home_places : (p : ProblemParts) (heads : List (List ℕ)) (unit : ℕ) (home : Option AheadParts) → IsHomeTable p heads unit home
    → IfSome home (λ table. table.places ≡ length heads)
home_places p heads unit None is = search rules
home_places p heads unit (Some table) is = is.1.places

pub com_places : (p : ProblemParts) (heads : List (List ℕ)) (unit : ℕ) (limits : Option Com) (changing : Option ItemTable) → IsComTable p heads unit limits changing
    → IfSome changing (λ of_item. of_item.table.places ≡ length heads * places_each p)
com_places p heads unit limits None is = search rules
com_places p heads unit None (Some of_item) is = absurd is
com_places p heads unit (Some limits) (Some of_item) is = is.table.places

-- the limit on changes of method
module _ (p : ProblemParts) (heads : List (List ℕ)) (unit place long : ℕ) (node : List ℕ) (sound : IsSound p) (at : IsPlaceOf p heads place node)
    (is : length_of p node ≡ unit * long) where
  abbrev by_com : Option Com → Bool
  by_com limits = list_any (cannot_meet p node) (com_items p limits)

  pub no_limit : (limits : Option Com) → IsComTable p heads unit limits None → false ≡ by_com limits
  no_limit None table = refl
  no_limit (Some limits) table = absurd table

  pub limit_says : (limits : Option Com) (of_item : ItemTable) (parts changed number : ℕ) → IsComTable p heads unit limits (Some of_item)
      → parts ≡ parts_of p → changed ≡ changes_of_method p node → number ≡ place_by (places_each p) place (last_method p node)
      → is_refused parts number long of_item changed ≡ by_com limits
  limit_says None of_item parts changed number table same counted here = absurd table
  limit_says (Some limits) of_item parts changed number table same counted here =
      ap (λ (n : ℕ). is_refused parts n long of_item changed) here
      ∙ ap (λ (n : ℕ). is_refused parts (place_by (places_each p) place (last_method p node)) long of_item n) counted
      ∙ ap (λ (n : ℕ). is_refused n (place_by (places_each p) place (last_method p node)) long of_item (changes_of_method p node)) same
      ∙ ap (λ (z : ℤ). refuses z of_item.max answer) table.min
      ∙ ap (λ (z : ℤ). refuses limits.min z answer) table.max
      ∙ sym (refused p node (com_item p limits) answer sound (table.table.tells place long node at is))
      ∙ sym (or_none (cannot_meet p node (com_item p limits)))
    where
      answer : Option Gains
      answer = of_touches (parts_of p) (changes_of_method p node) (answer_at of_item.table (place_by (places_each p) place (last_method p node)) long)
