-- Some rows of leads, and whether they tell the leads apart.
use Rattle.std.proofs.Common.{◌≡◌, ℕ, ◌+◌, ◌<◌, ◌≤◌, Bool, true, false, cond, List, [], ◌∷◌, ◌++◌, length, get_or, map, take, refl, sym, ap, ◌∙◌, subst, inl, inr, arith, below_more, length-append, append-nil}
use Rattle.std.specs.Prelude.{All, Contains}
use Rattle.std.proofs.lemmas.Bool.{cases_eq}
use Rattle.std.proofs.lemmas.List.{get_or_default, get_or_append_left, get_or_push}
use Rattle.std.proofs.lemmas.List.Elements.{All-push}
use Rattle.cr_row.specs.Rows.{IsRow, product, IsInverse}
use Rattle.cr_leads.specs.Tables.{TableParts, lead_rows, AreRows, IsLead}
use Rattle.cr_false.specs.Sets.{IsFalse, IsSetOf, HasTwice, AreAlike}
use Rattle.cr_false.specs.Telling.{IsHome, AllHeads, MayLieBetween, TellsApart, AreSome, AreOfLeads, IsTold, AreTelling, AreCommon, HasFalse}
use Rattle.cr_false.proofs.Adding.{QuotientLaws, is_quotient}
use Rattle.cr_false.proofs.Between.{some_are_rows}

-- a product that may lie between heads stands in the set
abbrev pub HasProduct : List (List ℕ) → List ℕ → List ℕ → Bool → Type 0
HasProduct set between bells even =
    (table : TableParts) → AreCommon table bells even → length between ≡ table.stage → MayLieBetween table between → Contains set between

-- so do all that are false of some rows and another
pub has_false : QuotientLaws → (set rows : List (List ℕ)) (other inverse : List ℕ) (bells : List ℕ) (even : Bool) → IsRow other → All (λ row. length row ≡ length other) rows
    → IsInverse other inverse → ((i : ℕ) → i < length rows → HasProduct set (product (get_or rows i []) inverse) bells even) → HasFalse set rows other bells even
has_false laws set rows other inverse bells even is_row all undoes each = λ table between common other_long long may held.
    let (i, within, is) = held in
    let row = get_or rows i [] in
    let at : row ≡ product between other = get_or_default rows i [] (product between other) within ∙ is in
    let made : between ≡ product row inverse = (is_quotient laws row other inverse is_row (all i [] within) undoes between (long ∙ sym other_long)).0 (sym at) in
    subst (λ (x : List ℕ). Contains set x) (sym made) (each i within table common (ap length (sym made) ∙ long) (subst (MayLieBetween table) made may))

-- and so the rows of a set tell two leads apart
pub pair_told : (table : TableParts) (rows others told told_others set : List (List ℕ)) (bells : List ℕ) (even : Bool) → AreCommon table bells even → AreRows table.stage others
    → IsSetOf (IsFalse told told_others) set → ((i : ℕ) → i < length others → HasFalse set rows (get_or others i []) bells even) → TellsApart table rows others told told_others
pair_told table rows others told told_others set bells even common others_are is_set each = λ between long may f.
    let (i, within, is) = f.has_second in
    let at : get_or others i [] ≡ f.second = get_or_default others i [] f.second within ∙ is in
    let held : Contains rows (product between (get_or others i [])) = subst (λ (x : List ℕ). Contains rows x) (sym (ap (product between) at ∙ f.is)) f.has_first in
    (is_set.all between).0 (each i within table between common (others_are i [] within).1 long may held)

-- some rows of two leads
pub told_alike : (table : TableParts) (rows others told told_others : List (List ℕ)) → AreRows table.stage rows → AreRows table.stage others → AreSome rows told → AreSome others told_others
    → AreAlike told told_others
told_alike table rows others told told_others rows_are others_are some some_others = record {
  stage = table.stage;
  rows_are = some_are_rows table.stage rows told rows_are some;
  others_are = some_are_rows table.stage others told_others others_are some_others;
}

-- of the first so many steps some rows of their leads
pub record AreSoFar (table : TableParts) (told : List (List (List ℕ))) (done : ℕ) : Type 0 where
  pub long : length told ≡ done
  pub each : (step : ℕ) → step < done → AreSome (lead_rows table step) (get_or told step [])

pub one_more : (table : TableParts) (told : List (List (List ℕ))) (done : ℕ) (rows : List (List ℕ)) → AreSoFar table told done → AreSome (lead_rows table done) rows
    → AreSoFar table (told ++ rows ∷ []) (done + 1)
one_more table told done rows are some = record {
  long = omega (arith, length-append told (rows ∷ []), are.long);
  each = λ step low. elim (cases_eq step done) [
    | inl last ↦
        let at : get_or (told ++ rows ∷ []) step [] ≡ rows = get_or_push told rows [] step (are.long ∙ sym last) in
        subst (λ (list : List (List ℕ)). AreSome (lead_rows table step) list) (sym at) (subst (λ (k : ℕ). AreSome (lead_rows table k) rows) (sym last) some)
    | inr before ↦
        let under : step < done = omega (arith, low, before) in
        subst (λ (list : List (List ℕ)). AreSome (lead_rows table step) list) (sym (get_or_append_left told (rows ∷ []) [] step (omega (arith, under, are.long)))) (are.each step under)
  ];
}

-- some of the first so many rows of a lead
pub record AreAmong (rows told : List (List ℕ)) (done : ℕ) : Type 0 where
  pub has : (k : ℕ) → k < length told → (i : ℕ) × (i < done) × (get_or rows i [] ≡ get_or told k [])
  pub few : length told ≤ done
  pub within : done ≤ length rows
  pub twice : HasTwice told → HasTwice rows

pub none_among : (rows : List (List ℕ)) → AreAmong rows [] 0
none_among rows = record {
  has = λ k low. absurd (omega (arith, low));
  few = omega arith;
  within = omega arith;
  twice = λ both. absurd (omega (arith, both.within));
}

-- and the next one, kept or not
pub more_among : (rows told : List (List ℕ)) (done : ℕ) (row : List ℕ) (kept : Bool) → AreAmong rows told done → done < length rows → row ≡ get_or rows done []
    → AreAmong rows (told ++ cond kept (row ∷ []) []) (done + 1)
more_among rows told done row true are inside at =
    let all = told ++ row ∷ [] in
    let long : length all ≡ length told + 1 = length-append told (row ∷ []) in
    let front : (k : ℕ) → k < length told → get_or all k [] ≡ get_or told k [] = λ k low. get_or_append_left told (row ∷ []) [] k low in
    let last : get_or all (length told) [] ≡ row = get_or_push told row [] (length told) refl in
    record {
      has = λ k low. elim (cases_eq k (length told)) [
        | inl same ↦ (done, omega arith, sym at ∙ sym last ∙ ap (λ (n : ℕ). get_or all n []) (sym same))
        | inr before ↦
            let under : k < length told = omega (arith, low, long, before) in
            let (i, less, is) = are.has k under in
            (i, omega (arith, less), is ∙ sym (front k under))
      ];
      few = omega (arith, long, are.few);
      within = omega (arith, inside);
      twice = λ both. elim (cases_eq both.second (length told)) [
        | inl same ↦
            let low : both.first < length told = omega (arith, both.before, same) in
            let (i, less, is) = are.has both.first low in
            record {
              first = i;
              second = done;
              before = less;
              within = inside;
              same = is ∙ sym (front both.first low) ∙ both.same ∙ ap (λ (n : ℕ). get_or all n []) same ∙ last ∙ at;
            }
        | inr before ↦
            let under : both.second < length told = omega (arith, both.within, long, before) in
            are.twice (record {
              first = both.first;
              second = both.second;
              before = both.before;
              within = under;
              same = sym (front both.first (omega (arith, both.before, under))) ∙ both.same ∙ front both.second under;
            })
      ];
    }
more_among rows told done row false are inside at =
    let all : told ++ [] ≡ told = append-nil told in
    subst (λ (list : List (List ℕ)). AreAmong rows list (done + 1)) (sym all) (record {
      has = λ k low. let (i, less, is) = are.has k low in (i, omega (arith, less), is);
      few = omega (arith, are.few);
      within = omega (arith, inside);
      twice = are.twice;
    })

pub among_all : (rows told : List (List ℕ)) (done : ℕ) → AreAmong rows told done → AreSome rows told
among_all rows told done are = record {
  has = λ row held.
      let (k, low, is) = held in
      let (i, less, at) = are.has k low in
      let inside : i < length rows = omega (arith, less, are.within) in
      (i, inside, get_or_default rows i row [] inside ∙ at ∙ get_or_default told k [] row low ∙ is);
  few = omega (arith, are.few, are.within);
  twice = are.twice;
}

-- all rows of all leads
pub all_tell : (table : TableParts) (told : List (List (List ℕ))) → told ≡ table.leads → AreTelling table told
all_tell table told all =
    let same : (step : ℕ) → lead_rows table step ≡ get_or told step [] = λ step. ap (λ (lists : List (List (List ℕ))). get_or lists step []) (sym all) in
    record {
      of_leads = record {
        counted = ap length all;
        some = λ step within. record {
          has = λ row held. subst (λ (list : List (List ℕ)). Contains list row) (sym (same step)) held;
          few = omega (arith, ap length (same step));
          twice = λ twice. subst HasTwice (sym (same step)) twice;
        };
      };
      each = λ step within. record {
        apart = λ other inside between long may f.
            subst (λ (list : List (List ℕ)). IsFalse list (get_or told other []) between) (same step)
            (subst (λ (list : List (List ℕ)). IsFalse (lead_rows table step) list between) (same other) f);
        twice = λ twice. subst HasTwice (same step) twice;
      };
    }

-- bells that stand at home in all lead heads
pub record AreHome (table : TableParts) (bells : List ℕ) : Type 0 where
  pub from : All (λ bell. 0 < bell) bells
  pub to : All (λ bell. bell ≤ table.stage) bells
  pub home : All (λ bell. AllHeads (IsHome bell) table) bells

pub home_more : (table : TableParts) (bells : List ℕ) (bell : ℕ) (common : Bool) → AreHome table bells → 0 < bell → bell ≤ table.stage → (common ≡ true → AllHeads (IsHome bell) table)
    → AreHome table (bells ++ cond common (bell ∷ []) [])
home_more table bells bell true are low high all = record {
  from = All-push (λ b. 0 < b) bells bell are.from low;
  to = All-push (λ b. b ≤ table.stage) bells bell are.to high;
  home = All-push (λ b. AllHeads (IsHome b) table) bells bell are.home (all refl);
}
home_more table bells bell false are low high all = subst (AreHome table) (sym (append-nil bells)) are
