-- Each step of a lane keeps its rule.
use Rattle.std.proofs.Common.{◌≡◌, ℕ, zero, suc, ◌+◌, ◌<◌, ◌≤◌, Bool, true, false, true≢false, List, [], ◌∷◌, ◌++◌, length, set, refl, sym, ap, ◌∙◌, subst, append_assoc, length-append, arith}
use Rattle.std.specs.List.{AllByRecursion, All, Contains}
use Rattle.std.proofs.lemmas.List.Elements.{All-from_recursion, recursion_from_All, Contains-push}
use Rattle.std.proofs.lemmas.List.Sums.{length-filter, count_by-le-length}
use Rattle.std.proofs.lemmas.Bool.{cond-true}
use mathlib.Core.Option.{some, some-injective}
use lib.ListN.{get_elem?}
use Rattle.crossbeam_deque.specs.Tasks.{Pushes, Takes, Pops, Finds, FindsFew, Learns, Forks, Merges}
use Rattle.cr_lanes.specs.declared.known.Known.{Known}
use Rattle.cr_lanes.specs.Lane.{times, Ascends, is_left, untaken, IsGreatest, end, thief, spent, with_put, with_taken, with_stolen, with_lent, with_back, total, out_count, IsThief, IsLane, LaneRule}
use Rattle.cr_lanes.specs.Steps.{Took, Stole, HadAtMost, IsAllOf}
use Rattle.cr_lanes.proofs.Lists.{each_append, each_left, each_right, each_weaker, each_both, each_at, each_set, times-append, none_of, ascends_push, ascends_right, ascends_last, ascends_filter, each_filter, untaken_put, untaken_take, total_set, total_push}

-- a number of the lane was put
held : (P : ℕ → Type 0) (e : Known) (items : List ℕ) (others : List Known) → IsLane e items others → AllByRecursion P e.put → AllByRecursion P items
held P e items others h a = each_right P h.left.0 items (subst (AllByRecursion P) h.left.1 (each_filter P _ e.put a))

-- what the lane holds ascends
rises : (e : Known) (items : List ℕ) (others : List Known) → IsLane e items others → Ascends items
rises e items others h = ascends_right h.left.0 items (subst Ascends h.left.1 (ascends_filter _ e.put h.ascends))

-- the end puts a number above all that it has put
puts_lane : (e : Known) (items : List ℕ) (others : List Known) (x : ℕ) → AllByRecursion (λ y. y < x) e.put → IsLane e items others → IsLane (with_put e (x ∷ [])) (items ++ x ∷ []) others
puts_lane e items others x above h =
    let fresh : times x e.taken ≡ 0 = (let none : times x e.put ≡ 0 = none_of x e.put above in let all = h.counted x in omega arith) in
    record {
      is_end = h.is_end;
      ascends = ascends_push e.put x h.ascends above;
      left = (h.left.0, untaken_put e.put e.taken x fresh ∙ ap (λ l. l ++ x ∷ []) h.left.1 ∙ append_assoc h.left.0 items (x ∷ []));
      each = each_weaker (IsThief e.put items) (IsThief (e.put ++ x ∷ []) (items ++ x ∷ [])) (λ v t. record {
        no_end = t.no_end;
        spent = t.spent;
        ascends = t.ascends;
        below = each_both (λ y. AllByRecursion (λ z. y < z) items) (λ y. y < x) (λ y. AllByRecursion (λ z. y < z) (items ++ x ∷ [])) (λ y b l. each_append (λ z. y < z) items (x ∷ []) b (l, tt)) v.stolen t.below (t.most x above);
        most = λ n b. t.most n (each_left (λ y. y < n) e.put (x ∷ []) b);
      }) others h.each;
      counted = λ y. (let all = h.counted y in omega (arith, times-append y e.put (x ∷ []), times-append y items (x ∷ [])));
      lent = h.lent;
    }

-- the end takes the last number of the lane
takes_lane : (e : Known) (items : List ℕ) (others : List Known) (x : ℕ) → IsLane e (items ++ x ∷ []) others → IsLane (with_taken e (x ∷ [])) items others
takes_lane e items others x h =
    record {
      is_end = h.is_end;
      ascends = h.ascends;
      left = (h.left.0, untaken_take e.put e.taken (h.left.0 ++ items) x h.ascends (h.left.1 ∙ sym (append_assoc h.left.0 items (x ∷ []))));
      each = each_weaker (IsThief e.put (items ++ x ∷ [])) (IsThief e.put items) (λ v t. record {
        no_end = t.no_end;
        spent = t.spent;
        ascends = t.ascends;
        below = each_weaker (λ y. AllByRecursion (λ z. y < z) (items ++ x ∷ [])) (λ y. AllByRecursion (λ z. y < z) items) (λ y b. each_left (λ z. y < z) items (x ∷ []) b) v.stolen t.below;
        most = t.most;
      }) others h.each;
      counted = λ y. (let all = h.counted y in omega (arith, times-append y e.taken (x ∷ []), times-append y items (x ∷ [])));
      lent = h.lent;
    }

-- and that is the greatest that it has not taken
takes_greatest : (e : Known) (items : List ℕ) (others : List Known) (x : ℕ) → IsLane e (items ++ x ∷ []) others → IsGreatest x (untaken e.put e.taken)
takes_greatest e items others x h =
    let q : List ℕ = h.left.0 ++ items in
    let is : untaken e.put e.taken ≡ q ++ x ∷ [] = h.left.1 ∙ sym (append_assoc h.left.0 items (x ∷ [])) in
    let low : AllByRecursion (λ y. y < x) q = ascends_last q x (subst Ascends is (ascends_filter _ e.put h.ascends)) in
    record {
      member = subst (λ l. Contains l x) (sym is) (Contains-push q x);
      most = All-from_recursion (λ y. y ≤ x) _ (subst (AllByRecursion (λ y. y ≤ x)) (sym is) (each_append (λ y. y ≤ x) q (x ∷ []) (each_weaker (λ y. y < x) (λ y. y ≤ x) (λ y l. omega arith) q low) (omega arith, tt)));
    }

-- a thief takes the first number of the lane
steals_lane : (e : Known) (x : ℕ) (items : List ℕ) (others : List Known) (j : ℕ) (v : Known) → v.is_out ≡ true → get_elem? others j ≡ some v → IsLane e (x ∷ items) others → IsLane e items (set others j (with_stolen v (x ∷ [])))
steals_lane e x items others j v out at h =
    let up : Ascends (x ∷ items) = rises e (x ∷ items) others h in
    let mine : IsThief e.put (x ∷ items) v = each_at (IsThief e.put (x ∷ items)) others j v h.each at in
    let w : Known = with_stolen v (x ∷ []) in
    let fewer : (u : Known) → IsThief e.put (x ∷ items) u → IsThief e.put items u = λ u t. record {
      no_end = t.no_end;
      spent = t.spent;
      ascends = t.ascends;
      below = each_weaker (λ y. AllByRecursion (λ z. y < z) (x ∷ items)) (λ y. AllByRecursion (λ z. y < z) items) (λ y b. b.1) u.stolen t.below;
      most = t.most;
    } in
    record {
      is_end = h.is_end;
      ascends = h.ascends;
      left = (h.left.0 ++ x ∷ [], h.left.1 ∙ sym (append_assoc h.left.0 (x ∷ []) items));
      each = each_set (IsThief e.put items) others j w (each_weaker (IsThief e.put (x ∷ items)) (IsThief e.put items) fewer others h.each) (record {
        no_end = mine.no_end;
        spent = λ back. absurd (true≢false (sym out ∙ back));
        ascends = ascends_push v.stolen x mine.ascends (each_weaker (λ y. AllByRecursion (λ z. y < z) (x ∷ items)) (λ y. y < x) (λ y b. b.0) v.stolen mine.below);
        below = each_append (λ y. AllByRecursion (λ z. y < z) items) v.stolen (x ∷ []) (fewer v mine).below (up.0, tt);
        most = λ n b. each_append (λ y. y < n) v.stolen (x ∷ []) (mine.most n b) ((held (λ y. y < n) e (x ∷ items) others h b).0, tt);
      });
      counted = λ y. (let all = h.counted y in let s = total_set (λ u. times y u.stolen) others j v w at in omega (arith, times-append y v.stolen (x ∷ [])));
      lent = h.lent ∙ (let s = total_set out_count others j v w at in omega arith);
    }

-- and that is above all that it stole before
steals_above : (e : Known) (x : ℕ) (items : List ℕ) (others : List Known) (j : ℕ) (v : Known) → get_elem? others j ≡ some v → IsLane e (x ∷ items) others → All (λ y. y < x) v.stolen
steals_above e x items others j v at h =
    let mine : IsThief e.put (x ∷ items) v = each_at (IsThief e.put (x ∷ items)) others j v h.each at in
    All-from_recursion (λ y. y < x) v.stolen (each_weaker (λ y. AllByRecursion (λ z. y < z) (x ∷ items)) (λ y. y < x) (λ y b. b.0) v.stolen mine.below)

-- a new thief has stolen nothing
lends_lane : (e : Known) (items : List ℕ) (others : List Known) → IsLane e items others → IsLane (with_lent e) items (others ++ thief [] ∷ [])
lends_lane e items others h = record {
  is_end = h.is_end;
  ascends = h.ascends;
  left = h.left;
  each = each_append (IsThief e.put items) others (thief [] ∷ []) h.each (record { no_end = refl; spent = λ _. refl; ascends = tt; below = tt; most = λ n b. tt }, tt);
  counted = λ y. (let all = h.counted y in omega (arith, total_push (λ u. times y u.stolen) others (thief [])));
  lent = (let all = h.lent in omega (arith, total_push out_count others (thief [])));
}

-- what a thief stole is gone once its pass is back
backs_lane : (e : Known) (items : List ℕ) (others : List Known) (j : ℕ) (v : Known) → v.is_out ≡ true → get_elem? others j ≡ some v → IsLane e items others → IsLane (with_back e v) items (set others j spent)
backs_lane e items others j v out at h =
    let one : out_count v ≡ 1 = cond-true v.is_out 1 0 out in
    record {
      is_end = h.is_end;
      ascends = h.ascends;
      left = h.left;
      each = each_set (IsThief e.put items) others j spent h.each (record { no_end = refl; spent = λ _. refl; ascends = tt; below = tt; most = λ n b. tt });
      counted = λ y. (let all = h.counted y in let s = total_set (λ u. times y u.stolen) others j v spent at in omega (arith, times-append y e.gone v.stolen));
      lent = (let all = h.lent in let s = total_set out_count others j v spent at in omega arith);
    }

-- where no pass is out, no pass has stolen anything that is not gone
none_out : (x : ℕ) (put items : List ℕ) (others : List Known) → AllByRecursion (IsThief put items) others → total out_count others ≡ 0 → total (λ v. times x v.stolen) others ≡ 0
none_out x put items [] each none = refl
none_out x put items (v ∷ others) each none =
    let back : v.is_out ≡ false = by v.is_out refl in
    let mine : times x v.stolen ≡ 0 = ap (times x) (each.0.spent back) in
    let rest : total (λ v. times x v.stolen) others ≡ 0 = none_out x put items others each.1 (omega arith) in
    omega arith
  where
    by : (b : Bool) → v.is_out ≡ b → v.is_out ≡ false
    by true e = let here : out_count v ≡ 1 = cond-true v.is_out 1 0 e in absurd (omega arith)
    by false e = e

no_more : (e : Known) (items : List ℕ) (others : List Known) → IsLane e items others → length items ≤ length e.put
no_more e items others h = omega (arith, length-filter (is_left e.taken) e.put, count_by-le-length (is_left e.taken) e.put, ap length h.left.1, length-append h.left.0 items)

pub settled : (e : Known) (items : List ℕ) (others : List Known) → IsLane e items others → e.lent ≡ 0 → (x : ℕ) → times x e.put ≡ times x items + times x e.taken + times x e.gone
settled e items others h none x =
    let zero_out : total out_count others ≡ 0 = sym h.lent ∙ none in
    let rest = none_out x e.put items others h.each zero_out in
    let all = h.counted x in
    omega arith

all_of : (e : Known) (items : List ℕ) (others : List Known) → IsLane e items others → IsAllOf e items
all_of e items others h = (no_more e items others h, h.ascends, settled e items others h)

-- the pass of the end is the first
pub of_end : (P : Known → List Known → List ℕ → ℕ → Type 0) (items : List ℕ) (views : List Known) (port : ℕ) (v : Known) → v.is_end ≡ true → LaneRule items views → get_elem? views port ≡ some v
    → ((others : List Known) → IsLane v items others → P v (v ∷ others) items 0) → P v views items port
of_end P items [] port v is h at go = absurd h
of_end P items (e ∷ others) zero v is h at go =
    let same : e ≡ v = some-injective e v at in
    subst (λ u. P v (u ∷ others) items 0) (sym same) (go others (subst (λ u. IsLane u items others) same h))
of_end P items (e ∷ others) (suc j) v is h at go = absurd (true≢false (sym is ∙ (each_at (IsThief e.put items) others j v h.each at).no_end))

-- the pass of a thief is another
of_thief : (P : List Known → ℕ → Type 0) (items : List ℕ) (views : List Known) (port : ℕ) (v : Known) → v.is_end ≡ false → LaneRule items views → get_elem? views port ≡ some v
    → ((e : Known) (others : List Known) (j : ℕ) → get_elem? others j ≡ some v → IsLane e items others → P (e ∷ others) (suc j)) → P views port
of_thief P items [] port v guest h at go = absurd h
of_thief P items (e ∷ others) zero v guest h at go = absurd (true≢false (sym h.is_end ∙ ap (λ u. u.is_end) (some-injective e v at) ∙ guest))
of_thief P items (e ∷ others) (suc j) v guest h at go = go e others j at h

pub begins : LaneRule [] (end [] [] [] 0 ∷ [])
begins = record { is_end = refl; ascends = tt; left = ([], refl); each = tt; counted = λ x. omega arith; lent = refl }

pub puts : (port : ℕ) (v : Known) (x : ℕ) → v.is_end ≡ true → All (λ y. y < x) v.put → Pushes LaneRule port v (x ∷ []) (λ w. w ≡ with_put v (x ∷ []))
puts port v x is above items views h at =
    let w : Known = with_put v (x ∷ []) in
    (w, of_end (λ v views items port. LaneRule (items ++ x ∷ []) (set views port (with_put v (x ∷ [])))) items views port v is h at (λ others lane. puts_lane v items others x (recursion_from_All (λ y. y < x) v.put above) lane), refl)

pub takes : (port : ℕ) (v : Known) → v.is_end ≡ true → Pops LaneRule port v (Took v)
takes port v is x items views h at =
    let w : Known = with_taken v (x ∷ []) in
    let some_lane = of_end (λ v views items port. IsGreatest x (untaken v.put v.taken)) (items ++ x ∷ []) views port v is h at (λ others lane. takes_greatest v items others x lane) in
    (w, of_end (λ v views all port. LaneRule items (set views port (with_taken v (x ∷ [])))) (items ++ x ∷ []) views port v is h at (λ others lane. takes_lane v items others x lane), (refl, All-from_recursion (λ x. IsGreatest x (untaken v.put v.taken)) (x ∷ []) (some_lane, tt)))

pub finds : (port : ℕ) (v : Known) → Finds LaneRule port v (HadAtMost 0 v)
finds port v views h at = ([], views, port, omega arith, h, at)

pub finds_few : (most port : ℕ) (v : Known) → most ≤ 1 → FindsFew LaneRule most port v (HadAtMost 1 v)
finds_few most port v low items views few h at = (items, views, port, omega arith, h, at)

pub steals : (port : ℕ) (v : Known) → v.is_end ≡ false → v.is_out ≡ true → Takes LaneRule port v 1 (Stole v)
steals port v guest out [] items views some_left few h at = absurd (omega arith)
steals port v guest out (x ∷ []) items views some_left few h at =
    let w : Known = with_stolen v (x ∷ []) in
    let above = of_thief (λ views port. All (λ y. y < x) v.stolen) (x ∷ items) views port v guest h at (λ e others j at' lane. steals_above e x items others j v at' lane) in
    (w, of_thief (λ views port. LaneRule items (set views port w)) (x ∷ items) views port v guest h at (λ e others j at' lane. steals_lane e x items others j v out at' lane), (refl, All-from_recursion (λ x. All (λ y. y < x) v.stolen) (x ∷ []) (above, tt)))
steals port v guest out (x ∷ y ∷ xs) items views some_left few h at = absurd (omega arith)

pub lends : (port : ℕ) (v : Known) → v.is_end ≡ true → Forks LaneRule port v (with_lent v) (thief [])
lends port v is items views h at = of_end (λ v views items port. LaneRule items (set views port (with_lent v) ++ thief [] ∷ [])) items views port v is h at (λ others lane. lends_lane v items others lane)

pub learns : (port : ℕ) (v : Known) → v.is_end ≡ true → Learns LaneRule port v (IsAllOf v)
learns port v is items views h at = of_end (λ v views items port. IsAllOf v items) items views port v is h at (λ others lane. all_of v items others lane)

pub backs : (port : ℕ) (v : Known) (other : ℕ) (u : Known) → v.is_end ≡ true → u.is_end ≡ false → u.is_out ≡ true → Merges LaneRule port v other u (with_back v u) spent
backs port v other u is guest out items views h at apart at' =
    of_end (λ v views items port. ¬ (other ≡ port) → get_elem? (set views port (with_back v u)) other ≡ some u → LaneRule items (set (set views port (with_back v u)) other spent)) items views port v is h at (λ others lane apart at'. by others lane other apart at') apart at'
  where
    by : (others : List Known) → IsLane v items others → (other : ℕ) → ¬ (other ≡ 0) → get_elem? (with_back v u ∷ others) other ≡ some u → LaneRule items (set (with_back v u ∷ others) other spent)
    by others lane zero apart at' = absurd (apart refl)
    by others lane (suc j) apart at' = backs_lane v items others j u out at' lane
