-- Names of leads, as many for each.
use Rattle.std.proofs.Common.{◌≡◌, ℕ, zero, suc, ◌+◌, ◌-◌, ◌*◌, ◌<◌, ◌≤◌, Bool, true, false, cond, ◌||◌, nat_eq, List, [], ◌∷◌, ◌++◌, length, get_or, map, take, drop, refl, sym, ap, ap₂, ◌∙◌, inl, inr, subst, arith, length-append, Ordering, Less, Equal, Greater, nat_cmp}
use Rattle.std.specs.Prelude.{All, replicate}
use Rattle.std.specs.Ordering.{is_lt, is_le, ord_max}
use Rattle.std.specs.List.{list_any}
use Rattle.std.proofs.Math.Seq.{drop-append-add}
use Rattle.std.proofs.lemmas.Bool.{cases_eq}
use Rattle.std.proofs.lemmas.List.{length-replicate, length-drop, length-take-le, length_push, take-append-le, take_all, get_or_append_left, get_or_default, get_or_push}
use Rattle.std.proofs.lemmas.Map.Keys.{ge_from_not_lt, le_from_is_le}
use Rattle.std.proofs.lemmas.List.Concat.{flat_map-cons}
use Rattle.std.proofs.lemmas.List.Elements.{All-head, All-tail, All-append, All-replicate, All-take, All-drop, All-same, All-more, All-weaker}
use Rattle.std.proofs.lemmas.List.Folds.{list_any-append, list_any_at}
use Rattle.cr_path.specs.Rung.{rung_numbers, IsHeld}
use Rattle.cr_path.specs.Representatives.{AreSame, AreListed, padded, all_padded, AreNamed, IsLike, AreLike}
use Rattle.cr_path.specs.declared.numbers.rung_leads.RungLead.{RungLead}
use Rattle.cr_path.specs.declared.numbers.table.LeadRecord.{LeadRecord}
use Rattle.cr_path.proofs.Names.{no_lead, some_numbers}

-- a name that is none of others does not stand among copies of one of them
same_again : (k first number : ℕ) (found : Bool) → (nat_eq k first ≡ true → found ≡ true) → (found || list_any (nat_eq k) (replicate number first)) ≡ found
same_again k first zero true there = refl
same_again k first zero false there = refl
same_again k first (suc number) true there = refl
same_again k first (suc number) false there = by (nat_eq k first) refl (same_again k first number false there)
  where
    by : (b : Bool) → nat_eq k first ≡ b → list_any (nat_eq k) (replicate number first) ≡ false → (b || list_any (nat_eq k) (replicate number first)) ≡ false
    by true is none = sym (there is)
    by false is none = none

module _ (width : ℕ) (names : List ℕ) where
  pub padded_long : length names ≤ width → length (padded width names) ≡ width
  padded_long few =
      let more = replicate (width - length names) (get_or names 0 0) in
      omega (arith, few, length-append names more, length-replicate (width - length names) (get_or names 0 0))

  pub padded_same : 0 < length names → AreSame names (padded width names)
  padded_same some = record {
    same = λ k.
        list_any-append (nat_eq k) names (replicate (width - length names) (get_or names 0 0))
        ∙ same_again k (get_or names 0 0) (width - length names) (list_any (nat_eq k) names) (list_any_at (nat_eq k) names 0 0 some);
  }

  pub padded_within : (P : ℕ → Type 0) → 0 < length names → All P names → All P (padded width names)
  padded_within P some all =
      All-append P names (replicate (width - length names) (get_or names 0 0)) all
      (All-replicate P (width - length names) (get_or names 0 0) (all 0 0 some))

-- the names of all leads
module _ (width : ℕ) (names : List ℕ) where
  abbrev piece : RungLead → List ℕ
  piece lead = padded width (rung_numbers names lead)

  lead_long : (lead : RungLead) → IsHeld (length names) lead → length (rung_numbers names lead) ≡ lead.end - lead.start
  lead_long lead held =
      length-take-le (lead.end - lead.start) (drop lead.start names) (omega (arith, held.0, held.1, length-drop lead.start names))

  pub pieces_long : (leads : List RungLead) → All (IsHeld (length names)) leads → All (λ (lead : RungLead). lead.end - lead.start ≤ width) leads
      → All (λ (lead : RungLead). length (piece lead) ≡ width) leads
  pieces_long leads held few = λ i d low.
      padded_long width (rung_numbers names (get_or leads i d)) (omega (arith, few i d low, lead_long (get_or leads i d) (held i d low)))

  all_long : (leads : List RungLead) → All (λ (lead : RungLead). length (piece lead) ≡ width) leads → length (all_padded width names leads) ≡ length leads * width
  all_long [] long =
      let none : 0 * width ≡ 0 = omega arith in
      sym none
  all_long (lead ∷ leads) long =
      let one : length (piece lead) ≡ width = All-head (λ (l : RungLead). length (piece l) ≡ width) lead leads long in
      let rest = all_long leads (All-tail (λ (l : RungLead). length (piece l) ≡ width) lead leads long) in
      ap length (flat_map-cons piece lead leads) ∙ length-append (piece lead) (all_padded width names leads) ∙ omega (arith, one, rest)

  piece_at : (leads : List RungLead) (i : ℕ) (d : RungLead) → All (λ (lead : RungLead). length (piece lead) ≡ width) leads → i < length leads
      → take width (drop (i * width) (all_padded width names leads)) ≡ piece (get_or leads i d)
  piece_at [] i d long inside = absurd (omega arith)
  piece_at (lead ∷ leads) zero d long inside =
      let one : length (piece lead) ≡ width = All-head (λ (l : RungLead). length (piece l) ≡ width) lead leads long in
      let start : zero * width ≡ 0 = omega arith in
      ap₂ (λ (n : ℕ) (ns : List ℕ). take width (drop n ns)) start (flat_map-cons piece lead leads)
      ∙ take-append-le width (piece lead) (all_padded width names leads) (omega (arith, one))
      ∙ take_all width (piece lead) (omega (arith, one))
  piece_at (lead ∷ leads) (suc i) d long inside =
      let one : length (piece lead) ≡ width = All-head (λ (l : RungLead). length (piece l) ≡ width) lead leads long in
      let start : suc i * width ≡ length (piece lead) + i * width = omega (arith, one) in
      ap₂ (λ (n : ℕ) (ns : List ℕ). take width (drop n ns)) start (flat_map-cons piece lead leads)
      ∙ ap (take width) (drop-append-add (piece lead) (all_padded width names leads) (i * width))
      ∙ piece_at leads i d (All-tail (λ (l : RungLead). length (piece l) ≡ width) lead leads long) (omega arith)

  all_within : (P : ℕ → Type 0) → All P names → (leads : List RungLead) → All (IsHeld (length names)) leads → All P (all_padded width names leads)
  all_within P all [] held = λ i d low. absurd (omega (arith, low))
  all_within P all (lead ∷ leads) held =
      let mine : All P (rung_numbers names lead) = All-take P (lead.end - lead.start) (drop lead.start names) (All-drop P lead.start names all) in
      let some = some_numbers names lead (All-head (IsHeld (length names)) lead leads held) in
      All-same P (all_padded width names (lead ∷ leads)) (piece lead ++ all_padded width names leads) (flat_map-cons piece lead leads)
      (All-append P (piece lead) (all_padded width names leads) (padded_within width (rung_numbers names lead) P some mine)
      (all_within P all leads (All-tail (IsHeld (length names)) lead leads held)))

-- leads that were listed have names
pub all_held : (numbers : List ℕ) (name : ℕ → ℕ) (below : ℕ) (rung leads : List RungLead) (names : List ℕ) (done : ℕ)
    → AreListed numbers name below rung leads names done → All (IsHeld (length names)) leads
all_held numbers name below rung leads names done listed = λ i d low. (listed.each i no_lead d (omega (arith, low, listed.long))).held

-- leads that were rung have so many names each
pub named_whole : (numbers : List ℕ) (name : ℕ → ℕ) (below width : ℕ) (rung leads : List RungLead) (names all : List ℕ)
    → AreListed numbers name below rung leads names (length rung) → All (λ (lead : RungLead). lead.end - lead.start ≤ width) leads
    → all ≡ all_padded width names leads → AreNamed numbers name below width rung all
named_whole numbers name below width rung leads names all listed few all_is =
    let held = all_held numbers name below rung leads names (length rung) listed in
    let long = pieces_long width names leads held few in
    record {
      long = ap length all_is ∙ all_long width names leads long ∙ ap (λ n. n * width) listed.long;
      within = All-same (λ n. n < below) all (all_padded width names leads) all_is (all_within width names (λ n. n < below) listed.within leads held);
      each = λ i d low.
          let inside : i < length leads = omega (arith, low, listed.long) in
          let one = listed.each i d no_lead low in
          let mine : List ℕ = rung_numbers names (get_or leads i no_lead) in
          let pads = padded_same width mine (some_numbers names (get_or leads i no_lead) one.held) in
          subst (λ (ns : List ℕ). AreSame (map name (rung_numbers numbers (get_or rung i d))) ns)
          (sym (ap (λ (ns : List ℕ). take width (drop (i * width) ns)) all_is ∙ piece_at width names leads i no_lead long inside))
          (record { same = λ k. pads.same k ∙ one.same.same k });
    }

-- the greater of two
less_is_le : (o : Ordering) → is_lt o ≡ true → is_le o ≡ true
less_is_le Less less = refl
less_is_le Equal less = absurd (cc)
less_is_le Greater less = absurd (cc)

over_both : (a b : ℕ) → (a ≤ ord_max nat_cmp a b) × (b ≤ ord_max nat_cmp a b)
over_both a b = by (is_lt (nat_cmp b a)) refl
  where
    by : (less : Bool) → is_lt (nat_cmp b a) ≡ less → (a ≤ cond less a b) × (b ≤ cond less a b)
    by true less = (omega arith, le_from_is_le b a (less_is_le (nat_cmp b a) less))
    by false other = (ge_from_not_lt b a other, omega arith)

-- of one lead more
pub few_more : (leads : List RungLead) (index most more : ℕ) → index < length leads → All (λ (lead : RungLead). lead.end - lead.start ≤ most) (take index leads)
    → more ≡ (get_or leads index no_lead).end - (get_or leads index no_lead).start
    → All (λ (lead : RungLead). lead.end - lead.start ≤ ord_max nat_cmp most more) (take (index + 1) leads)
few_more leads index most more inside all is =
    let (before, here) = over_both most more in
    All-more (λ (lead : RungLead). lead.end - lead.start ≤ ord_max nat_cmp most more) leads index no_lead inside
    (All-weaker (λ (lead : RungLead). lead.end - lead.start ≤ most) (λ (lead : RungLead). lead.end - lead.start ≤ ord_max nat_cmp most more)
    (λ lead few. omega (arith, few, before)) (take index leads) all)
    (omega (arith, is, here))

-- the record of one lead more
pub like_more : (steps : ℕ) (round_heads : List Bool) (rung : List RungLead) (leads next : List LeadRecord) (done : ℕ) (one : RungLead) (lead : LeadRecord)
    → AreLike steps round_heads rung leads done → done < length rung → one ≡ get_or rung done one → IsLike steps round_heads one lead → next ≡ leads ++ lead ∷ []
    → AreLike steps round_heads rung next (done + 1)
like_more steps round_heads rung leads next done one lead are inside one_is like next_is = record {
  long = ap length next_is ∙ length_push leads lead ∙ ap (λ n. n + 1) are.long;
  each = λ i d e low. elim (cases_eq i done) [
    | inl last ↦
        let rung_is : get_or rung i d ≡ one = ap (λ n. get_or rung n d) last ∙ get_or_default rung done d one inside ∙ sym one_is in
        let lead_is : get_or next i e ≡ lead = ap₂ (λ (xs : List LeadRecord) (n : ℕ). get_or xs n e) next_is last ∙ get_or_push leads lead e done are.long in
        subst (λ (r : RungLead). IsLike steps round_heads r (get_or next i e)) (sym rung_is) (subst (IsLike steps round_heads one) (sym lead_is) like)
    | inr other ↦
        let earlier : i < done = omega (arith, low, other) in
        let lead_is : get_or next i e ≡ get_or leads i e = ap (λ (xs : List LeadRecord). get_or xs i e) next_is ∙ get_or_append_left leads (lead ∷ []) e i (omega (arith, earlier, are.long)) in
        subst (IsLike steps round_heads (get_or rung i d)) (sym lead_is) (are.each i d e earlier)
  ];
}
