-- Representative rows and their numbers, one more after another.
use Rattle.std.proofs.Common.{◌≡◌, ℕ, ◌+◌, ◌-◌, ◌<◌, ◌≤◌, Bool, true, false, cond, ◌||◌, nat_eq, List, [], ◌∷◌, ◌++◌, length, get_or, map, take, drop, inl, inr, refl, sym, ap, ap₂, ◌∙◌, subst, arith, eq-eqb, eqb-true, length-append}
use Rattle.std.specs.Prelude.{All}
use Rattle.std.specs.List.{list_any}
use Rattle.std.proofs.lemmas.Bool.{cases_eq, or_left, or_right, false≢true}
use Rattle.std.proofs.lemmas.List.{append-nil, get_or_append_left, get_or_push, get_or_default, length_push, length-drop, length-take-le, drop_at, drop-append-le, take-append-le, take_all}
use Rattle.std.proofs.lemmas.List.Elements.{All-append, All-same}
use Rattle.std.proofs.lemmas.List.Folds.{list_any-append, list_any_at}
use Rattle.cr_rowset.specs.Pushing.{StandsAt}
use Rattle.cr_path.specs.Rung.{rung_numbers, IsHeld}
use Rattle.cr_path.specs.Representatives.{AreRepresentatives, AreSame, IsListed, AreListed}
use Rattle.cr_path.specs.declared.numbers.rung_leads.RungLead.{RungLead}
use Rattle.cr_path.proofs.Covering.{holds_among}

-- what is read past the last lead
abbrev pub no_lead : RungLead
no_lead = record { next = 0; start = 0; end = 0; limit = 0; length = 0 }

-- rows that are told stay where more are
still_at : (rows more : List (List ℕ)) (row : List ℕ) (place : ℕ) → StandsAt rows row place → StandsAt (rows ++ more) row place
still_at rows more row place stands = record {
  within = omega (arith, stands.within, length-append rows more);
  is = get_or_append_left rows more [] place stands.within ∙ stands.is;
}

-- one row more, told or not
module _ (rows : List (List ℕ)) (cover : List ℕ) (representatives : List (List ℕ)) (places later : List ℕ) (done here : ℕ) (row : List ℕ)
    (are : AreRepresentatives rows cover representatives places done) (here_is : here ≡ length representatives) (later_is : later ≡ places ++ here ∷ []) (row_is : row ≡ get_or rows done []) where
  before : (n : ℕ) → n < done → get_or later n 0 ≡ get_or places n 0
  before n low = ap (λ (ns : List ℕ). get_or ns n 0) later_is ∙ get_or_append_left places (here ∷ []) 0 n (omega (arith, low, are.long))

  last : get_or later done 0 ≡ length representatives
  last = ap (λ (ns : List ℕ). get_or ns done 0) later_is ∙ get_or_push places here 0 done are.long ∙ here_is

  long_now : length later ≡ done + 1
  long_now = ap length later_is ∙ length_push places here ∙ ap (λ n. n + 1) are.long

  first_now : get_or later 0 0 ≡ 0
  first_now = elim (cases_eq done 0) [
    | inl zero ↦
        let none : length representatives ≡ 0 = elim (cases_eq (length representatives) 0) [
          | inl e ↦ e
          | inr some ↦ absurd (omega (arith, (are.each 0 (omega (arith, some))).1, zero))
        ] in
        ap (λ n. get_or later n 0) (sym zero) ∙ last ∙ none
    | inr some ↦ before 0 (omega (arith, some)) ∙ are.first (omega (arith, some))
  ]

  pub representatives_more : (is_representative : Bool) → (is_representative ≡ true → get_or cover done 0 ≡ done) → (get_or cover done 0 ≡ done → is_representative ≡ true)
      → AreRepresentatives rows cover (representatives ++ cond is_representative (row ∷ []) []) later (done + 1)
  representatives_more true there back = record {
    long = long_now;
    placed = λ n low itself. elim (cases_eq n done) [
      | inl same ↦ subst (λ k. StandsAt (representatives ++ row ∷ []) (get_or rows k []) (get_or later k 0)) (sym same) (subst (StandsAt (representatives ++ row ∷ []) (get_or rows done [])) (sym last) (record {
        within = omega (arith, length_push representatives row);
        is = get_or_push representatives row [] (length representatives) refl ∙ row_is;
      }))
      | inr other ↦
          let less : n < done = omega (arith, low, other) in
          subst (StandsAt (representatives ++ row ∷ []) (get_or rows n [])) (sym (before n less)) (still_at representatives (row ∷ []) (get_or rows n []) (get_or places n 0) (are.placed n less itself))
    ];
    each = λ place low. elim (cases_eq place (length representatives)) [
      | inl same ↦ (done, omega arith, there refl, last ∙ sym same)
      | inr other ↦
          let old = are.each place (omega (arith, low, other, length_push representatives row)) in
          (old.0, omega (arith, old.1), old.2, before old.0 old.1 ∙ old.3)
    ];
    first = λ some. first_now;
  }
  representatives_more false there back = record {
    long = long_now;
    placed = λ n low itself. elim (cases_eq n done) [
      | inl same ↦ absurd (cc (back (ap (λ k. get_or cover k 0) (sym same) ∙ itself ∙ same)))
      | inr other ↦
          let less : n < done = omega (arith, low, other) in
          subst (StandsAt (representatives ++ []) (get_or rows n [])) (sym (before n less)) (still_at representatives [] (get_or rows n []) (get_or places n 0) (are.placed n less itself))
    ];
    each = λ place low.
        let old = are.each place (omega (arith, low, length-append representatives [])) in
        (old.0, omega (arith, old.1), old.2, before old.0 old.1 ∙ old.3);
    first = λ some. first_now;
  }

-- one name more, unless it is there
module _ (names more : List ℕ) (name : ℕ) (same : (k : ℕ) → list_any (nat_eq k) more ≡ list_any (nat_eq k) names) where
  there_again : (k : ℕ) (b : Bool) → nat_eq k name ≡ b → list_any (nat_eq name) more ≡ true → list_any (nat_eq k) names ≡ (list_any (nat_eq k) names || (b || false))
  there_again k true is there =
      let among : list_any (nat_eq k) names ≡ true = ap (λ m. list_any (nat_eq m) names) (eqb-true k name is) ∙ sym (same name) ∙ there in
      among ∙ sym (or_right (list_any (nat_eq k) names) true refl)
  there_again k false is there = sym (or_none (list_any (nat_eq k) names))
    where
      or_none : (a : Bool) → (a || false) ≡ a
      or_none true = refl
      or_none false = refl

  once_more : (k : ℕ) (b : Bool) → list_any (nat_eq name) more ≡ b → list_any (nat_eq k) (more ++ cond b [] (name ∷ [])) ≡ list_any (nat_eq k) (names ++ name ∷ [])
  once_more k true is =
      ap (list_any (nat_eq k)) (append-nil more) ∙ same k ∙ there_again k (nat_eq k name) refl is ∙ sym (list_any-append (nat_eq k) names (name ∷ []))
  once_more k false is =
      list_any-append (nat_eq k) more (name ∷ []) ∙ ap (λ (b : Bool). b || list_any (nat_eq k) (name ∷ [])) (same k) ∙ sym (list_any-append (nat_eq k) names (name ∷ []))

pub named_more : (names now next : List ℕ) (name : ℕ) → AreSame names now
    → next ≡ now ++ cond (list_any (nat_eq name) now) [] (name ∷ []) → AreSame (names ++ name ∷ []) next
named_more names now next name are next_is = record {
  same = λ k. ap (list_any (nat_eq k)) next_is ∙ once_more names now name are.same k (list_any (nat_eq name) now) refl;
}

-- a lead has names
pub some_numbers : (numbers : List ℕ) (rung : RungLead) → IsHeld (length numbers) rung → 0 < length (rung_numbers numbers rung)
some_numbers numbers rung held =
    let left : rung.end - rung.start ≤ length (drop rung.start numbers) = omega (arith, held.0, held.1, length-drop rung.start numbers) in
    omega (arith, held.0, length-take-le (rung.end - rung.start) (drop rung.start numbers) left)

pub some_names : (name : ℕ → ℕ) (ns names : List ℕ) → 0 < length ns → AreSame (map name ns) names → 0 < length names
some_names name [] names some same = absurd (omega (arith, some))
some_names name (n ∷ ns) [] some same = absurd (false≢true (same.same (name n) ∙ or_left (nat_eq (name n) (name n)) (list_any (nat_eq (name n)) (map name ns)) (eq-eqb (name n) (name n) refl)))
some_names name (n ∷ ns) (m ∷ names) some same = omega arith

-- one lead more
all_among : (P : ℕ → Type 0) (names more : List ℕ) → ((k : ℕ) → list_any (nat_eq k) more ≡ true → list_any (nat_eq k) names ≡ true) → All P names → All P more
all_among P names more among all = λ i d low.
    let k = get_or more i d in
    holds_among P names k all (among k (list_any_at (nat_eq k) more i d low (eq-eqb k k refl)))

still_listed : (numbers : List ℕ) (name : ℕ → ℕ) (names more later : List ℕ) (rung lead : RungLead) → later ≡ names ++ more
    → IsListed numbers name names rung lead → IsListed numbers name later rung lead
still_listed numbers name names more later rung lead joined is =
    let from : lead.start ≤ length names = omega (arith, is.held.0, is.held.1) in
    let to : lead.end - lead.start ≤ length (drop lead.start names) = omega (arith, is.held.0, is.held.1, length-drop lead.start names) in
    let mine : rung_numbers later lead ≡ rung_numbers names lead =
    ap (λ (ns : List ℕ). take (lead.end - lead.start) (drop lead.start ns)) joined
    ∙ ap (take (lead.end - lead.start)) (drop-append-le lead.start names more from)
    ∙ take-append-le (lead.end - lead.start) (drop lead.start names) more to in
    record {
      held = (is.held.0, omega (arith, is.held.1, ap length joined, length-append names more));
      same = subst (λ (ns : List ℕ). AreSame (map name (rung_numbers numbers rung)) ns) (sym mine) is.same;
    }

module _ (numbers : List ℕ) (name : ℕ → ℕ) (below : ℕ) (rung leads next : List RungLead) (before later names : List ℕ) (done : ℕ) (one lead : RungLead)
    (are : AreListed numbers name below rung leads before done) (inside : done < length rung) (one_is : one ≡ get_or rung done one)
    (same : AreSame (map name (rung_numbers numbers one)) names) (low_names : All (λ n. n < below) (map name (rung_numbers numbers one)))
    (some : 0 < length names) (start_is : lead.start ≡ length before) (end_is : lead.end ≡ length later)
    (later_is : later ≡ before ++ names) (next_is : next ≡ leads ++ lead ∷ []) where
  grown : length later ≡ length before + length names
  grown = ap length later_is ∙ length-append before names

  mine : rung_numbers later lead ≡ names
  mine =
      ap (λ (ns : List ℕ). take (lead.end - lead.start) (drop lead.start ns)) later_is
      ∙ ap (take (lead.end - lead.start)) (drop_at before names lead.start (sym start_is))
      ∙ take_all (lead.end - lead.start) names (omega (arith, start_is, end_is, grown))

  here : IsListed numbers name later one lead
  here = record {
    held = (omega (arith, start_is, end_is, grown, some), omega (arith, end_is));
    same = subst (λ (ns : List ℕ). AreSame (map name (rung_numbers numbers one)) ns) (sym mine) same;
  }

  low_now : All (λ n. n < below) names
  low_now = all_among (λ n. n < below) (map name (rung_numbers numbers one)) names (λ k among. sym (same.same k) ∙ among) low_names

  pub listed_more : AreListed numbers name below rung next later (done + 1)
  listed_more = record {
    long = ap length next_is ∙ length_push leads lead ∙ ap (λ n. n + 1) are.long;
    within = All-same (λ n. n < below) later (before ++ names) later_is (All-append (λ n. n < below) before names are.within low_now);
    each = λ i d e low. elim (cases_eq i done) [
      | inl last ↦
          let rung_is : get_or rung i d ≡ one = ap (λ n. get_or rung n d) last ∙ get_or_default rung done d one inside ∙ sym one_is in
          let lead_is : get_or next i e ≡ lead = ap₂ (λ (xs : List RungLead) (n : ℕ). get_or xs n e) next_is last ∙ get_or_push leads lead e done are.long in
          subst (λ (r : RungLead). IsListed numbers name later r (get_or next i e)) (sym rung_is)
          (subst (IsListed numbers name later one) (sym lead_is) here)
      | inr other ↦
          let earlier : i < done = omega (arith, low, other) in
          let lead_is : get_or next i e ≡ get_or leads i e = ap (λ (xs : List RungLead). get_or xs i e) next_is ∙ get_or_append_left leads (lead ∷ []) e i (omega (arith, earlier, are.long)) in
          subst (IsListed numbers name later (get_or rung i d)) (sym lead_is)
          (still_listed numbers name before names later (get_or rung i d) (get_or leads i e) later_is (are.each i d e earlier))
    ];
  }
