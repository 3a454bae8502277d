-- Lanes at their close: first the passes of all thieves go back to the ends, and then each end tells what is left.
use Rattle.std.proofs.Common.{◌≡◌, ℕ, suc, ◌+◌, ◌-◌, ◌*◌, ◌<◌, ◌≤◌, List, [], ◌∷◌, ◌++◌, length, map, get_or, All, sum_by, refl, sym, ap, ◌∙◌, subst, ⊎_elim, length-append, append_assoc, arith}
use Rattle.std.proofs.lemmas.List.{get_or_append_left, get_or_push, length_push, append-nil}
use Rattle.std.proofs.lemmas.List.Sums.{sum_by_push}
use Rattle.std.proofs.lemmas.List.Elements.{All-head, All-tail, All-nil, All-push}
use Rattle.std.proofs.lemmas.Bool.{cases_eq}
use Rattle.cr_lanes.specs.Lane.{times, Ascends}
use Rattle.cr_lanes.specs.Ends.{LaneName, EndParts, taken_back}
use Rattle.cr_lanes.specs.Thieves.{ThiefParts}
use Rattle.cr_lanes.specs.Lanes.{AreAll}
use Rattle.cr_lanes.proofs.Lists.{times-append}

-- how often the thieves stole a number from a lane
abbrev pub stolen_times : ℕ → ℕ → List ThiefParts → ℕ
stolen_times lane x thieves = sum_by (λ t. times x (get_or t.stolen lane [])) thieves

-- these thieves are back, and the rest is still out
pub record Closing (old now : List EndParts) (thieves back rest : List ThiefParts) : Type 0 where
  pub len : length now ≡ length old
  pub same : map (λ e. e.name) now ≡ map (λ e. e.name) old
  pub put : (k : ℕ) (d : EndParts) → k < length old → (get_or now k d).put ≡ (get_or old k d).put
  pub taken : (k : ℕ) (d : EndParts) → k < length old → (get_or now k d).taken ≡ (get_or old k d).taken
  pub lent : (k : ℕ) (d : EndParts) → k < length old → (get_or now k d).lent ≡ (get_or old k d).lent - length back
  pub gone : (k : ℕ) (d : EndParts) (x : ℕ) → k < length old → times x (get_or now k d).gone ≡ times x (get_or old k d).gone + stolen_times k x back
  pub theirs : All (λ t. t.names ≡ map (λ e. e.name) old) rest
  pub all : back ++ rest ≡ thieves

pub starts_closing : (old : List EndParts) (thieves rest : List ThiefParts) (names : List LaneName) → rest ≡ thieves → map (λ e. e.name) old ≡ names → All (λ t. t.names ≡ names) thieves → Closing old old thieves [] rest
starts_closing old thieves rest names is ends of = record {
  len = refl;
  same = refl;
  put = λ k d low. refl;
  taken = λ k d low. refl;
  lent = λ k d low. omega arith;
  gone = λ k d x low. omega arith;
  theirs = subst (λ (n : List LaneName × List ThiefParts). All (λ t. t.names ≡ n.0) n.1) (λ i. (sym ends i, sym is i)) of;
  all = is;
}

pub one_back : (old now after : List EndParts) (thieves back rest all : List ThiefParts) (t : ThiefParts) → all ≡ t ∷ rest → length after ≡ length now → map (λ e. e.name) after ≡ map (λ e. e.name) now
    → ((k : ℕ) (d : EndParts) → k < length now → get_or after k d ≡ taken_back (get_or now k d) (get_or t.stolen k [])) → Closing old now thieves back all → Closing old after thieves (back ++ t ∷ []) rest
one_back old now after thieves back rest all t is len same each h = record {
  len = len ∙ h.len;
  same = same ∙ h.same;
  put = λ k d low. ap (λ (e : EndParts). e.put) (each k d (within k low)) ∙ h.put k d low;
  taken = λ k d low. ap (λ (e : EndParts). e.taken) (each k d (within k low)) ∙ h.taken k d low;
  lent = λ k d low.
      (let one : (get_or after k d).lent ≡ (get_or now k d).lent - 1 = ap (λ (e : EndParts). e.lent) (each k d (within k low)) in
      let before = h.lent k d low in
      omega (arith, length_push back t));
  gone = λ k d x low.
      (let one : (get_or after k d).gone ≡ (get_or now k d).gone ++ get_or t.stolen k [] = ap (λ (e : EndParts). e.gone) (each k d (within k low)) in
      let more : times x (get_or after k d).gone ≡ times x (get_or now k d).gone + times x (get_or t.stolen k []) = ap (times x) one ∙ times-append x (get_or now k d).gone (get_or t.stolen k []) in
      let before = h.gone k d x low in
      omega (arith, sum_by_push (λ (t : ThiefParts). times x (get_or t.stolen k [])) back t));
  theirs = All-tail (λ t. t.names ≡ map (λ e. e.name) old) t rest (subst (All (λ t. t.names ≡ map (λ e. e.name) old)) is h.theirs);
  all = append_assoc back (t ∷ []) rest ∙ ap (λ l. back ++ l) (sym is) ∙ h.all;
}
  where
    within : (k : ℕ) → k < length old → k < length now
    within k low = let same_len = h.len in omega arith

pub its_ends : (old now : List EndParts) (thieves back rest all : List ThiefParts) (t : ThiefParts) → all ≡ t ∷ rest → Closing old now thieves back all → t.names ≡ map (λ e. e.name) now
its_ends old now thieves back rest all t is h = All-head (λ t. t.names ≡ map (λ e. e.name) old) t rest (subst (All (λ t. t.names ≡ map (λ e. e.name) old)) is h.theirs) ∙ sym h.same

-- what is left is counted of these ends
pub record Counting (now told rest : List EndParts) (left : ℕ) : Type 0 where
  pub lists : List (List ℕ)
  pub lanes : length lists ≡ length told
  pub sum : left ≡ sum_by length lists
  pub few : left ≤ 65536 * length told
  pub rises : All (λ e. Ascends e.put) told
  pub each : (k : ℕ) (d : EndParts) (x : ℕ) → k < length told → times x (get_or told k d).put ≡ times x (get_or lists k []) + times x (get_or told k d).taken + times x (get_or told k d).gone
  pub idle : All (λ e. e.lent ≡ 0) rest
  pub all : told ++ rest ≡ now

pub starts_counting : (now rest : List EndParts) → rest ≡ now → All (λ e. e.lent ≡ 0) now → Counting now [] rest 0
starts_counting now rest is idle = record { lists = []; lanes = refl; sum = refl; few = omega arith; rises = All-nil _; each = λ k d x low. absurd (omega arith); idle = subst (All (λ e. e.lent ≡ 0)) (sym is) idle; all = is }

pub idle_one : (now told rest all : List EndParts) (e : EndParts) (left : ℕ) → all ≡ e ∷ rest → Counting now told all left → e.lent ≡ 0
idle_one now told rest all e left is h = All-head (λ e. e.lent ≡ 0) e rest (subst (All (λ e. e.lent ≡ 0)) is h.idle)

pub count_one : (now told rest all : List EndParts) (e : EndParts) (left more : ℕ) → all ≡ e ∷ rest → more ≤ 65536 → Ascends e.put
    → (items : List ℕ) × (length items ≡ more) × ((x : ℕ) → times x e.put ≡ times x items + times x e.taken + times x e.gone) → Counting now told all left → Counting now (told ++ e ∷ []) rest (left + more)
count_one now told rest all e left more is few up found h = record {
  lists = h.lists ++ found.0 ∷ [];
  lanes = length_push h.lists found.0 ∙ ap (λ n. n + 1) h.lanes ∙ sym (length_push told e);
  sum = (let before = h.sum in let long = found.1 in omega (arith, sum_by_push length h.lists found.0));
  few = (let before = h.few in omega (arith, length_push told e));
  rises = All-push (λ e. Ascends e.put) told e h.rises up;
  each = λ k d x low. ⊎_elim
      (λ (here : k ≡ length told).
      let there : get_or (told ++ e ∷ []) k d ≡ e = get_or_push told e d k (sym here) in
      let its : get_or (h.lists ++ found.0 ∷ []) k [] ≡ found.0 = get_or_push h.lists found.0 [] k (h.lanes ∙ sym here) in
      subst (λ (p : EndParts × List ℕ). times x p.0.put ≡ times x p.1 + times x p.0.taken + times x p.0.gone) (λ i. (sym there i, sym its i)) (found.2 x))
      (λ (before : k ≡ length told → ⊥).
      let less : k < length told = (let l = low in omega (arith, length_push told e)) in
      let there : get_or (told ++ e ∷ []) k d ≡ get_or told k d = get_or_append_left told (e ∷ []) d k less in
      let its : get_or (h.lists ++ found.0 ∷ []) k [] ≡ get_or h.lists k [] = get_or_append_left h.lists (found.0 ∷ []) [] k (let same = h.lanes in omega arith) in
      subst (λ (p : EndParts × List ℕ). times x p.0.put ≡ times x p.1 + times x p.0.taken + times x p.0.gone) (λ i. (sym there i, sym its i)) (h.each k d x less))
      (cases_eq k (length told));
  idle = All-tail (λ e. e.lent ≡ 0) e rest (subst (All (λ e. e.lent ≡ 0)) is h.idle);
  all = append_assoc told (e ∷ []) rest ∙ ap (λ l. told ++ l) (sym is) ∙ h.all;
}

nothing : {X : Type 0} (xs : List X) → length xs ≡ 0 → xs ≡ []
nothing [] e = refl
nothing (x ∷ xs) e = absurd (omega arith)

whole : {X : Type 0} (front rest all : List X) → length rest ≡ 0 → front ++ rest ≡ all → front ≡ all
whole front rest all none is = sym (append-nil front) ∙ ap (λ l. front ++ l) (sym (nothing rest none)) ∙ is

-- once all thieves are back, no pass is out
pub all_idle : (old now : List EndParts) (thieves back rest : List ThiefParts) → length rest ≡ 0 → All (λ e. e.lent ≡ length thieves) old → Closing old now thieves back rest → All (λ e. e.lent ≡ 0) now
all_idle old now thieves back rest none lent h k d low =
    let all : length back ≡ length thieves = ap length (whole back rest thieves none h.all) in
    let within : k < length old = (let same = h.len in omega arith) in
    let before : (get_or old k d).lent ≡ length thieves = lent k d within in
    let after = h.lent k d within in
    omega arith

pub closed : (old now : List EndParts) (thieves back rest : List ThiefParts) (told more : List EndParts) (left : ℕ) → length rest ≡ 0 → length more ≡ 0 → All (λ e. e.gone ≡ []) old → Closing old now thieves back rest → Counting now told more left
    → (lists : List (List ℕ)) × AreAll old thieves lists × (left ≡ sum_by length lists)
closed old now thieves back rest told more left none no_more fresh h c =
    let all : back ≡ thieves = whole back rest thieves none h.all in
    let ends : told ≡ now = whole told more now no_more c.all in
    let len : length now ≡ length old = h.len in (
      c.lists,
      record {
        lanes = c.lanes ∙ ap length ends ∙ h.len;
        rises = λ k d low. subst Ascends (h.put k d low)
            (subst (λ (l : List EndParts). All (λ e. Ascends e.put) l) ends c.rises k d (subst (λ n. k < n) (sym len) low));
        each = λ k d x low.
            (let within : k < length told = subst (λ (l : List EndParts). k < length l) (sym ends) (subst (λ n. k < n) (sym len) low) in
            let found : times x (get_or now k d).put ≡ times x (get_or c.lists k []) + times x (get_or now k d).taken + times x (get_or now k d).gone =
            subst (λ (l : List EndParts). times x (get_or l k d).put ≡ times x (get_or c.lists k []) + times x (get_or l k d).taken + times x (get_or l k d).gone) ends (c.each k d x within) in
            let put : times x (get_or now k d).put ≡ times x (get_or old k d).put = ap (times x) (h.put k d low) in
            let taken : times x (get_or now k d).taken ≡ times x (get_or old k d).taken = ap (times x) (h.taken k d low) in
            let was : times x (get_or old k d).gone ≡ 0 = ap (times x) (fresh k d low) in
            let gone : times x (get_or now k d).gone ≡ times x (get_or old k d).gone + stolen_times k x thieves = subst (λ l. times x (get_or now k d).gone ≡ times x (get_or old k d).gone + stolen_times k x l) all (h.gone k d x low) in
            omega arith);
      },
      c.sum,
    )

-- the sum of what is left fits
pub sum_fits : (now told rest all : List EndParts) (e : EndParts) (left : ℕ) → all ≡ e ∷ rest → length now ≤ 64 → Counting now told all left → left + 65536 ≤ 65536 * 64
sum_fits now told rest all e left is few h =
    let long : length told + length all ≡ length now = sym (length-append told all) ∙ ap length h.all in
    let one : length all ≡ suc (length rest) = ap length is in
    let before = h.few in
    omega arith
