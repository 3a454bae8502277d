-- Places by lead head and by the method of the last lead.
use Rattle.std.proofs.Common.{◌≡◌, ℕ, zero, suc, ◌+◌, ◌*◌, ◌/◌, ◌%◌, ◌<◌, ◌≤◌, Bool, true, false, cond, nat_eq, List, [], ◌∷◌, length, get_or, map, All, Option, Some, None, inl, inr, refl, sym, ap, ◌∙◌, subst, arith}
use Rattle.std.specs.List.{range_with_len}
use Rattle.std.proofs.Math.Nat.{mul_comm}
use Rattle.std.proofs.lemmas.Bool.{cases_lt}
use Rattle.std.proofs.lemmas.Bool.Decides.{Decides-eqb}
use Rattle.std.proofs.lemmas.Nat.{mul-add-lt, div-mul-add, mod-mul-add, div_below, mod_below}
use Rattle.std.proofs.lemmas.List.{get_or_past, length-map}
use Rattle.std.proofs.lemmas.List.FromFn.{get_or-map-range_with_len, length-map-range_with_len}
use Rattle.std.proofs.lemmas.List.Elements.{All-get_or, All-from_get_or}
use Rattle.cr_model.specs.declared.lead.Step.{Step}
use Rattle.cr_model.specs.declared.query.Com.{Com}
use Rattle.cr_model.specs.Problems.{ProblemParts}
use Rattle.cr_model.specs.Callings.{changes_of, length_of, method_of, head_of}
use Rattle.cr_model.specs.Queries.{part_cap, changes_of_method}
use Rattle.cr_model.specs.Levels.{head_from}
use Rattle.cr_model.specs.Sound.{IsSound, sound_letters, sound_leads}
use Rattle.cr_model.specs.Dead.{parts_of}
use Rattle.cr_ahead.specs.declared.units.Range.{Range}
use Rattle.cr_ahead.specs.Moves.{MovesParts, places_of, steps_of, next_place, step_gain}
use Rattle.cr_ahead.specs.Ways.{Tells, IsAnswer}
use Rattle.cr_ahead.specs.Tables.{AheadParts, answer_at, IsAhead}
use Rattle.cr_ahead.specs.Home.{touch_with, IsWayHome}
use Rattle.cr_ahead.specs.Exact.{exact_com}
use Rattle.cr_ahead.specs.LeadMoves.{part_least, AreMovesOf, IsPlaceOf, HaveGains, HaveMethods, last_method, changing_gain, of_touches}
use Rattle.cr_ahead.specs.Units.{in_changes}
use Rattle.cr_ahead.specs.Gaining.{gains_from}
use Rattle.cr_ahead.specs.ByMethod.{places_each, method_number, place_by, method_at, last_at, spread_heads, spread_place, spread_next, changing_gains}
use Rattle.cr_ahead.specs.Outlooks.{AreLeadHeads, AreGround, led_to, IsTableByMethod}
use Rattle.cr_ahead.proofs.InUnits.{same_steps, same_next}
use Rattle.cr_ahead.proofs.LeadMoves.{tells_changing}
use Rattle.cr_ahead.proofs.ItemTables.{gains_at, have_gains, gains_counted, answer_of, regained}

-- each step has a method that there is, and one that is not there has the first
pub method_there : (p : ProblemParts) → IsSound p → (step : ℕ) → method_of p step < length p.letters
method_there p sound step = elim (cases_lt step (length p.leads)) [
  | inl known ↦ ((sound_leads p sound).each step known).known
  | inr past ↦
      let count = length-map p.leads (λ lead. lead.step) in
      let first : method_of p step ≡ 0 = ap (λ (s : Step). s.method) (get_or_past (map (λ lead. lead.step) p.leads) step (record { method = 0; mark = 0 }) (omega (arith, past, count))) in
      omega (arith, first, (sound_letters p sound).some)
]

pub last_there : (p : ProblemParts) → IsSound p → (node : List ℕ) → method_number (last_method p node) < places_each p
last_there p sound [] = omega arith
last_there p sound (step ∷ []) = omega (arith, method_there p sound step)
last_there p sound (step ∷ next ∷ node) = last_there p sound (next ∷ node)

-- a last method is that of its number
pub known_last : (last : Option ℕ) → method_at (method_number last) ≡ last
known_last None = refl
known_last (Some method) = let up : method + 1 ≡ suc method = omega arith in ap method_at up

-- the limit on changes of method is looked at in one part alone
abbrev is_none_there : Option Com → Type 0
is_none_there None = Unit {0}
is_none_there (Some limits) = ⊥

pub one_part : (p : ProblemParts) (limits : Com) → exact_com p ≡ Some limits → parts_of p ≡ 1
one_part p limits some = by (nat_eq (parts_of p) 1) refl some
  where
    by : (b : Bool) → nat_eq (parts_of p) 1 ≡ b → cond b p.query.com None ≡ Some limits → parts_of p ≡ 1
    by true e there = (Decides-eqb (parts_of p) 1).0 e
    by false e there = absurd (subst is_none_there there tt)

-- one of the places of a head
pub one_place : (places each place number : ℕ) → place < places → number < each → place * each + number < places * each
one_place places each place number inside low = omega (arith, mul-add-lt place each number places inside low, mul_comm each places)

module _ (p : ProblemParts) (heads : List (List ℕ)) (next : List ℕ) (each : ℕ) (sound : IsSound p) (is : each ≡ places_each p) where
  abbrev places : ℕ
  places = length heads * each

  pub spread_count : length (spread_heads each heads) ≡ places
  spread_count = length-map-range_with_len (λ place. get_or heads (place / each) []) 0 places

  head_at : (place : ℕ) → place < places → get_or (spread_heads each heads) place [] ≡ get_or heads (place / each) []
  head_at place inside = get_or-map-range_with_len (λ n. get_or heads (n / each) []) 0 places place place [] inside (omega arith)

  of_head : (place : ℕ) → place < places → place / each < length heads
  of_head place inside = div_below place each (length heads) (omega (arith, is)) inside

  -- the place of a node's head and last method
  pub place_at : (place number : ℕ) (node : List ℕ) → IsPlaceOf p heads place node → number < each → IsPlaceOf p (spread_heads each heads) (place * each + number) node
  place_at place number node at low =
      let inside = one_place (length heads) each place number at.there low in
      record {
        there = omega (arith, inside, spread_count);
        head = head_at (place * each + number) inside ∙ ap (λ (n : ℕ). get_or heads n []) (div-mul-add place each number low) ∙ at.head;
      }

  module _ (leads : AreLeadHeads p heads next) (few : places ≤ 4294967296) where
    -- where the steps lead
    led_in : (place step : ℕ) → place < length heads → step < length p.leads → led_to p next place step < length heads
    led_in place step inside known =
        let within : place * length p.leads + step < length next = omega (arith, one_place (length heads) (length p.leads) place step inside known, leads.counted) in
        All-get_or (λ there. there < length heads) next (place * length p.leads + step) 0 within leads.there

    number_low : (step : ℕ) → method_of p step + 1 < each
    number_low step = omega (arith, is, method_there p sound step)

    spread_in : (place step : ℕ) → place < places → step < length p.leads → spread_place p each next place step < places
    spread_in place step inside known = one_place (length heads) each (led_to p next (place / each) step) (method_of p step + 1) (led_in (place / each) step (of_head place inside) known) (number_low step)

    spread_at : (place step : ℕ) → place < places → step < length p.leads → led_to p (spread_next p each places next) place step ≡ spread_place p each next place step
    spread_at place step inside known = gains_at places (length p.leads) (spread_place p each next) place step inside known

    spread_long : length (spread_next p each places next) ≡ places * length p.leads
    spread_long = length-map-range_with_len (λ entry. spread_place p each next (entry / length p.leads) (entry % length p.leads)) 0 (places * length p.leads)

    spread_all : (k : ℕ) → k < length (spread_next p each places next) → get_or (spread_next p each places next) k 0 < length (spread_heads each heads)
    spread_all k inside =
        let some : 0 < length p.leads = (sound_leads p sound).some in
        let within : k < places * length p.leads = omega (arith, inside, spread_long) in
        let value : get_or (spread_next p each places next) k 0 ≡ spread_place p each next (k / length p.leads) (k % length p.leads) =
        get_or-map-range_with_len (λ entry. spread_place p each next (entry / length p.leads) (entry % length p.leads)) 0 (places * length p.leads) k k 0 within (omega arith) in
        omega (arith, value, spread_count, spread_in (k / length p.leads) (k % length p.leads) (div_below k (length p.leads) places some within) (mod_below k (length p.leads) some))

    -- so they are lead heads
    pub spread_are : AreLeadHeads p (spread_heads each heads) (spread_next p each places next)
    spread_are = record {
      few = omega (arith, few, spread_count);
      staged = All-from_get_or (λ head. length head ≡ p.stage) (spread_heads each heads) []
          (λ place inside.
          let within : place < places = omega (arith, inside, spread_count) in
          ap length (head_at place within) ∙ All-get_or (λ head. length head ≡ p.stage) heads (place / each) [] (of_head place within) leads.staged);
      counted = spread_long ∙ ap (λ (n : ℕ). n * length p.leads) (sym spread_count);
      there = All-from_get_or (λ place. place < length (spread_heads each heads)) (spread_next p each places next) 0 spread_all;
      leads = λ place step inside known.
          let within : place < places = omega (arith, inside, spread_count) in
          ap (λ (n : ℕ). get_or (spread_heads each heads) n []) (spread_at place step within known)
          ∙ head_at (spread_place p each next place step) (spread_in place step within known)
          ∙ ap (λ (n : ℕ). get_or heads n []) (div-mul-add (led_to p next (place / each) step) each (method_of p step + 1) (number_low step))
          ∙ leads.leads (place / each) step (of_head place within) known
          ∙ ap (λ (row : List ℕ). head_from row (changes_of p step)) (sym (head_at place within));
    }

    -- the last methods of the places
    abbrev methods : List (Option ℕ)
    methods = map (last_at each) (range_with_len 0 places)

    method_is : (place : ℕ) → place < places → get_or methods place None ≡ last_at each place
    method_is place inside = get_or-map-range_with_len (last_at each) 0 places place place None inside (omega arith)

    last_is : (place : ℕ) (last : Option ℕ) → place < length heads → method_number last < each → get_or methods (place_by each place last) None ≡ last
    last_is place last inside low =
        method_is (place_by each place last) (one_place (length heads) each place (method_number last) inside low)
        ∙ ap method_at (mod-mul-add place each (method_number last) low) ∙ known_last last

    -- what moves between them answer
    module _ (range : Range) (m : MovesParts) (ground : AreGround p (spread_heads each heads) range m) (led : m.next ≡ spread_next p each places next)
        (gains : m.gains ≡ changing_gains p each places) where
      abbrev all : MovesParts
      all = in_changes range.unit m

      next_is : (place step : ℕ) → place < places → step < length p.leads → next_place all place step ≡ spread_place p each next place step
      next_is place step inside known =
          ap (λ (some : List ℕ). get_or some (place * steps_of all + step) 0) led
          ∙ ap (λ (n : ℕ). get_or (spread_next p each places next) (place * n + step) 0) ground.moves.steps
          ∙ spread_at place step inside known

      have_methods : HaveMethods p (spread_heads each heads) all methods
      have_methods place step inside known =
          let within : place < places = omega (arith, inside, spread_count) in
          ap (λ (n : ℕ). get_or methods n None) (next_is place step within known)
          ∙ last_is (led_to p next (place / each) step) (Some (method_of p step)) (led_in (place / each) step (of_head place within) known) (number_low step)

      have_changing : HaveGains p (spread_heads each heads) all (λ place step. changing_gain p (get_or methods place None) step)
      have_changing place step inside known =
          let within : place < places = omega (arith, inside, spread_count) in
          have_gains p (spread_heads each heads) all (λ n s. changing_gain p (last_at each n) s) ground.moves
          (gains ∙ ap (λ (n : ℕ). gains_from n (length p.leads) (λ n s. changing_gain p (last_at each n) s)) (sym spread_count)) place step inside known
          ∙ ap (λ (last : Option ℕ). changing_gain p last step) (sym (method_is place within))

      pub table_by_method : (t : AheadParts) → parts_of p ≡ 1 → IsAhead m range.least range.greatest t → IsTableByMethod p heads range.unit t
      table_by_method t one ahead = record {
        places = ahead.places ∙ ground.moves.places ∙ spread_count ∙ ap (λ (n : ℕ). length heads * n) is;
        tells = λ place long node at long_is.
            let low : method_number (last_method p node) < each = omega (arith, is, last_there p sound node) in
            let here : ℕ = place_by each place (last_method p node) in
            let at_here : IsPlaceOf p (spread_heads each heads) here node = place_at place (method_number (last_method p node)) node at low in
            let told : Tells (IsWayHome p node) (λ way. changes_of_method p (touch_with p node way)) (of_touches 1 (changes_of_method p node) (answer_at t here long)) =
            tells_changing p (spread_heads each heads) all here node sound ground.moves at_here one methods (answer_at t here long) have_methods
            (last_is place (last_method p node) at.there low) have_changing
            (answer_of p (spread_heads each heads) range m t ground ahead here long node at_here.there long_is) in
            subst (λ (n : ℕ). Tells (IsWayHome p node) (λ way. changes_of_method p (touch_with p node way)) (of_touches (parts_of p) (changes_of_method p node) (answer_at t (place_by n place (last_method p node)) long))) is
            (subst (λ (n : ℕ). Tells (IsWayHome p node) (λ way. changes_of_method p (touch_with p node way)) (of_touches n (changes_of_method p node) (answer_at t here long))) (sym one) told);
      }

    -- the same of what is made one after another
    pub made_by_method : (range : Range) (m : MovesParts) (spread : List (List ℕ)) (led gains : List ℕ) (t : AheadParts) → spread ≡ spread_heads each heads
        → led ≡ spread_next p each places next → gains ≡ changing_gains p each places → AreGround p spread range m → m.next ≡ led → parts_of p ≡ 1
        → IsAhead (record m { gains = gains }) range.least range.greatest t → IsTableByMethod p heads range.unit t
    made_by_method range m spread led gains t spread_is led_is gains_is ground next_is one ahead =
        table_by_method range (record m { gains = gains })
        (regained p (spread_heads each heads) range m gains (subst (λ (hs : List (List ℕ)). AreGround p hs range m) spread_is ground))
        (next_is ∙ led_is) gains_is t one ahead

    pub made_are : (spread : List (List ℕ)) (led : List ℕ) → spread ≡ spread_heads each heads → led ≡ spread_next p each places next → AreLeadHeads p spread led
    made_are spread led spread_is led_is =
        subst (λ (hs : List (List ℕ)). AreLeadHeads p hs led) (sym spread_is) (subst (AreLeadHeads p (spread_heads each heads)) (sym led_is) spread_are)

    pub made_counted : (range : Range) (m : MovesParts) (spread : List (List ℕ)) (gains : List ℕ) → spread ≡ spread_heads each heads
        → gains ≡ changing_gains p each places → AreGround p spread range m → length gains ≡ places_of m * steps_of m
    made_counted range m spread gains spread_is gains_is ground =
        gains_counted p spread range m (λ place step. changing_gain p (last_at each place) step) gains ground
        (gains_is ∙ ap (λ (n : ℕ). gains_from n (length p.leads) (λ place step. changing_gain p (last_at each place) step)) (sym (ap length spread_is ∙ spread_count)))
