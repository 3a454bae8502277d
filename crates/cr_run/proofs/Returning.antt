-- From new lanes to hints, and from hints back to ends and thieves.
use Rattle.std.proofs.Common.{◌≡◌, ℕ, zero, suc, ◌+◌, ◌<◌, List, [], ◌∷◌, ◌++◌, length, map, All, Some, refl, sym, ap, ap₂, ◌∙◌, subst, append_assoc, arith}
use Rattle.std.specs.List.{range_with_len}
use Rattle.std.proofs.lemmas.List.{map-append, get_or-map, length-map, length_push, append-nil}
use Rattle.std.proofs.lemmas.List.Elements.{All-tail, All-nil, All-cons, All-weaker, All-map, All-pop}
use Rattle.std.proofs.lemmas.Simd.{map-map}
use Rattle.cr_lanes.specs.Ends.{LaneName, EndParts}
use Rattle.cr_lanes.specs.Thieves.{ThiefParts}
use Rattle.cr_run.specs.declared.hints.LaneHints.{LaneHints}
use Rattle.cr_run.specs.Keys.{LaneKey, lane_key}
use Rattle.cr_run.specs.HintsKey.{hints_key, end_key, end_part, key_part}

nothing : {X : Type 0} (xs : List X) → length xs ≡ 0 → xs ≡ []
nothing [] e = refl
nothing (x ∷ xs) e = absurd (omega arith)

pub whole : {X : Type 0} (front rest all : List X) → length rest ≡ 0 → front ++ rest ≡ all → front ≡ all
whole front rest all none is = sym (append-nil front) ∙ ap (λ l. front ++ l) (sym (nothing rest none)) ∙ is

unmap : {X Y : Type 0} (P : Y → Type 0) (f : X → Y) (xs : List X) → All P (map f xs) → All (λ x. P (f x)) xs
unmap P f xs h k d low = subst P (get_or-map f xs k d (f d) low) (h k (f d) (subst (λ n. k < n) (sym (length-map xs f)) low))

below_range : (a n : ℕ) → All (λ x. x < a + n) (range_with_len a n)
below_range a zero = All-nil (λ x. x < a + 0)
below_range a (suc n) = All-cons (λ x. x < a + suc n) a (range_with_len (a + 1) n) (omega arith) (All-weaker (λ x. x < a + 1 + n) (λ x. x < a + suc n) (λ x l. omega arith) (range_with_len (a + 1) n) (below_range (a + 1) n))

-- each end is of a lane
pub within : (ends : List EndParts) (workers : ℕ) → map (λ e. e.lane) ends ≡ range_with_len 0 workers → All (λ e. e.lane < workers) ends
within ends workers is = unmap (λ n. n < workers) (λ (e : EndParts). e.lane) ends (subst (All (λ n. n < workers)) (sym is) (All-weaker (λ x. x < 0 + workers) (λ x. x < workers) (λ x l. omega arith) (range_with_len 0 workers) (below_range 0 workers)))

-- the first ends have hints
pub record Hinting (lanes : List LaneName) (ends told rest : List EndParts) (hints : List LaneHints) (thieves : List ThiefParts) : Type 0 where
  pub keys : map hints_key hints ≡ map (end_key lanes) told
  pub count : length thieves ≡ length rest
  pub theirs : All (λ t. t.names ≡ lanes) thieves
  pub lane : All (λ e. e.lane < length lanes) rest
  pub fresh : All (λ e. e.put ≡ []) rest
  pub all : told ++ rest ≡ ends

module _ (lanes : List LaneName) (ends told rest all : List EndParts) (hints : List LaneHints) (thieves fewer : List ThiefParts) (e : EndParts) (t : ThiefParts) (is : all ≡ e ∷ rest) (h : Hinting lanes ends told all hints thieves) where
  theirs_too : thieves ≡ fewer ++ t ∷ [] → All (λ t. t.names ≡ lanes) fewer × (t.names ≡ lanes)
  theirs_too popped = All-pop (λ t. t.names ≡ lanes) thieves fewer (Some t) popped h.theirs

  pub hinted_one : (more : List LaneHints) (x : LaneHints) → thieves ≡ fewer ++ t ∷ [] → more ≡ hints ++ x ∷ [] → hints_key x ≡ lane_key lanes e t → Hinting lanes ends (told ++ e ∷ []) rest more fewer
  hinted_one more x popped pushed key = record {
    keys = ap (map hints_key) pushed ∙ map-append hints_key hints (x ∷ []) ∙ ap₂ (λ l k. l ++ k ∷ []) h.keys (key ∙ ap (λ n. record (end_key lanes e) { thief = n }) (theirs_too popped).1) ∙ sym (map-append (end_key lanes) told (e ∷ []));
    count = (let before = h.count in let less : length all ≡ suc (length rest) = ap length is in let one : length thieves ≡ length fewer + 1 = ap length popped ∙ length_push fewer t in omega arith);
    theirs = (theirs_too popped).0;
    lane = All-tail (λ e. e.lane < length lanes) e rest (subst (All (λ e. e.lane < length lanes)) is h.lane);
    fresh = All-tail (λ e. e.put ≡ []) e rest (subst (All (λ e. e.put ≡ [])) is h.fresh);
    all = append_assoc told (e ∷ []) rest ∙ ap (λ l. told ++ l) (sym is) ∙ h.all;
  }

-- lists of the same keys are as long
pub as_long : {X Y K : Type 0} (f : X → K) (g : Y → K) (xs : List X) (ys : List Y) → map f xs ≡ map g ys → length xs ≡ length ys
as_long f g xs ys same = sym (length-map xs f) ∙ ap length same ∙ length-map ys g

-- one more of a list is yielded
pub told_more : {X : Type 0} (told rest more all : List X) (x : X) → more ≡ x ∷ rest → told ++ more ≡ all → (told ++ x ∷ []) ++ rest ≡ all
told_more told rest more all x is before = append_assoc told (x ∷ []) rest ∙ ap (λ l. told ++ l) (sym is) ∙ before

-- the key of one more
pub keys_more : {X Y K : Type 0} (f : X → K) (g : Y → K) (xs more : List X) (ys : List Y) (x : X) (y : Y) → more ≡ xs ++ x ∷ [] → f x ≡ g y → map f xs ≡ map g ys → map f more ≡ map g (ys ++ y ∷ [])
keys_more f g xs more ys x y pushed is before =
    ap (map f) pushed ∙ map-append f xs (x ∷ []) ∙ ap₂ (λ l k. l ++ k ∷ []) before is ∙ sym (map-append g ys (y ∷ []))

-- what comes back is of the lanes that were made
module _ (lanes : List LaneName) (ends back : List EndParts) (thieves : List ThiefParts) (keys : List LaneKey) (made : keys ≡ map (end_key lanes) ends)
    (ends_are : map end_part back ≡ map key_part keys) (thieves_are : map (λ t. t.names) thieves ≡ map (λ k. k.thief) keys) where
  parts : map end_part back ≡ map end_part ends
  parts = ends_are ∙ ap (map key_part) made ∙ map-map key_part (end_key lanes) ends

  pub names_back : map (λ e. e.name) ends ≡ lanes → map (λ e. e.name) back ≡ lanes
  names_back is = sym (map-map (λ (p : LaneName × ℕ × List ℕ). p.0) end_part back) ∙ ap (map (λ (p : LaneName × ℕ × List ℕ). p.0)) parts ∙ map-map (λ (p : LaneName × ℕ × List ℕ). p.0) end_part ends ∙ is

  pub lent_back : (n : ℕ) → All (λ e. e.lent ≡ n) ends → All (λ e. e.lent ≡ n) back
  lent_back n h = unmap (λ (p : LaneName × ℕ × List ℕ). p.1 ≡ n) end_part back (subst (All (λ (p : LaneName × ℕ × List ℕ). p.1 ≡ n)) (sym parts) (All-map (λ (p : LaneName × ℕ × List ℕ). p.1 ≡ n) end_part ends h))

  pub gone_back : All (λ e. e.gone ≡ []) ends → All (λ e. e.gone ≡ []) back
  gone_back h = unmap (λ (p : LaneName × ℕ × List ℕ). p.2 ≡ []) end_part back (subst (All (λ (p : LaneName × ℕ × List ℕ). p.2 ≡ [])) (sym parts) (All-map (λ (p : LaneName × ℕ × List ℕ). p.2 ≡ []) end_part ends h))

  theirs_are : map (λ t. t.names) thieves ≡ map (λ e. lanes) ends
  theirs_are = thieves_are ∙ ap (map (λ (k : LaneKey). k.thief)) made ∙ map-map (λ (k : LaneKey). k.thief) (end_key lanes) ends

  pub thieves_back : All (λ t. t.names ≡ lanes) thieves
  thieves_back = unmap (λ n. n ≡ lanes) (λ (t : ThiefParts). t.names) thieves (subst (All (λ n. n ≡ lanes)) (sym theirs_are) (All-map (λ n. n ≡ lanes) (λ (e : EndParts). lanes) ends (λ k d low. refl)))

  pub as_many : length thieves ≡ length ends
  as_many = sym (length-map thieves (λ (t : ThiefParts). t.names)) ∙ ap length theirs_are ∙ length-map ends (λ (e : EndParts). lanes)
