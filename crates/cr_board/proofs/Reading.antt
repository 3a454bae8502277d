-- Items read by an index, as clauses say them.
use Rattle.std.proofs.Common.{◌≡◌, ℕ, zero, suc, ◌+◌, ◌-◌, ◌<◌, ◌≤◌, true, false, List, [], ◌∷◌, ◌++◌, length, get_or, set, map, take, replicate, reverse, vec_len, refl, sym, ap, ap₂, ◌∙◌, subst, arith}
use Rattle.std.specs.Prelude.{◌==◌}
use Rattle.std.specs.Global.{Vec}
use Rattle.std.proofs.lemmas.Bool.{lt-ltb, le-ltb, ltb-true, eqb-true, eqb-false}
use Rattle.std.proofs.lemmas.List.{get_or_default, get_or-map, map-append, take_more, replicate_more, get_or-set_same, append_assoc, reverse-append, reverse-reverse}
use Rattle.cr_board.specs.Jobs.{JobParts, numbered}
use Rattle.cr_board.specs.Boards.{lane_at}
use Rattle.cr_board.specs.Choices.{is_busy}
use Rattle.cr_board.specs.Rooms.{jobs_on, nodes_on}

-- an item that was read, at any default
pub read_at : {X : Type 0} (xs : List X) (i : ℕ) (x d : X) → i < length xs → x ≡ get_or xs i x → get_or xs i d ≡ x
read_at xs i x d inside is = get_or_default xs i d x inside ∙ sym is

-- a lane that was read
pub lane_read : (lanes : List (Vec JobParts)) (i : ℕ) (lane : Vec JobParts) → i < length lanes → lane ≡ get_or lanes i lane → lane_at (jobs_on lanes) i ≡ lane.items
lane_read lanes i lane inside is = get_or-map (λ l. l.items) lanes i lane [] inside ∙ ap (λ l. l.items) (sym is)

-- whether it has a job
pub busy_read : (lanes : List (Vec JobParts)) (i : ℕ) (lane : Vec JobParts) → i < length lanes → lane ≡ get_or lanes i lane → (vec_len lane == 0) ≡ false → is_busy (jobs_on lanes) i ≡ true
busy_read lanes i lane inside is some =
    let differ = eqb-false (vec_len lane) 0 some in
    lt-ltb 0 (length (lane_at (jobs_on lanes) i)) (subst (λ l. 0 < length l) (sym (lane_read lanes i lane inside is)) (omega (arith, lane.ok, differ)))

pub idle_read : (lanes : List (Vec JobParts)) (i : ℕ) (lane : Vec JobParts) → i < length lanes → lane ≡ get_or lanes i lane → (vec_len lane == 0) ≡ true → is_busy (jobs_on lanes) i ≡ false
idle_read lanes i lane inside is none =
    let empty = eqb-true (vec_len lane) 0 none in
    le-ltb 0 (length (lane_at (jobs_on lanes) i)) (subst (λ l. length l ≤ 0) (sym (lane_read lanes i lane inside is)) (omega (arith, lane.ok, empty)))

-- numbered jobs, with one more
numbered_more : (next : ℕ) (jobs : List (List (List ℕ))) (nodes : List (List ℕ))
    → numbered next (jobs ++ nodes ∷ []) ≡ numbered next jobs ++ record { number = next + length jobs; nodes = nodes } ∷ []
numbered_more next [] nodes = let e : next ≡ next + 0 = omega arith in ap (λ n. record { number = n; nodes = nodes } ∷ []) e
numbered_more next (first ∷ jobs) nodes =
    let e : next + 1 + length jobs ≡ next + length (first ∷ jobs) = omega arith in
    ap (λ l. record { number = next; nodes = first } ∷ l) (numbered_more (next + 1) jobs nodes ∙ ap (λ n. numbered (next + 1) jobs ++ record { number = n; nodes = nodes } ∷ []) e)

pub length-numbered : (next : ℕ) (jobs : List (List (List ℕ))) → length (numbered next jobs) ≡ length jobs
length-numbered next [] = refl
length-numbered next (nodes ∷ jobs) = ap suc (length-numbered (next + 1) jobs)

-- the same of jobs that were read
pub number_more : (jobs : List (Vec (List ℕ))) (lane : List JobParts) (i number : ℕ) (job : Vec (List ℕ)) (nodes : List (List ℕ)) → i < length jobs → job ≡ get_or jobs i job
    → nodes ≡ job.items → number ≡ length lane → lane ≡ numbered 0 (map (λ j. j.items) (take i jobs))
    → lane ++ record { number = number; nodes = nodes } ∷ [] ≡ numbered 0 (map (λ j. j.items) (take (i + 1) jobs))
number_more jobs lane i number job nodes inside is same length_is lane_is =
    let before = map (λ j. j.items) (take i jobs) in
    let e : number ≡ 0 + length before = omega (arith, length_is, ap length lane_is, length-numbered 0 before) in
    ap₂ (λ l j. l ++ j ∷ []) lane_is (λ k. record { number = e k; nodes = same k })
    ∙ sym (numbered_more 0 before job.items)
    ∙ ap (numbered 0) (sym (map-append (λ j. j.items) (take i jobs) (job ∷ [])) ∙ ap (map (λ j. j.items)) (ap (λ x. take i jobs ++ x ∷ []) is ∙ sym (take_more jobs i job inside)))

-- empty lanes, with one more
pub lanes_more : (lanes : List (Vec JobParts)) (first : List JobParts) (count : ℕ) (lane : Vec JobParts) → lane.items ≡ [] → 1 ≤ count
    → jobs_on lanes ≡ first ∷ replicate (count - 1) [] → jobs_on (lanes ++ lane ∷ []) ≡ first ∷ replicate (count + 1 - 1) []
lanes_more lanes first count lane empty some is =
    let e : count - 1 + 1 ≡ count + 1 - 1 = omega arith in
    map-append (λ l. l.items) lanes (lane ∷ []) ∙ ap₂ (λ l x. l ++ x ∷ []) is empty
    ∙ ap (λ l. first ∷ l) (replicate_more (count - 1) [] ∙ ap (λ n. replicate n []) e)

-- lists of jobs that are the same have the same job at each index
pub same_at : (some more : List (Vec (List ℕ))) (i : ℕ) (a b : Vec (List ℕ)) → i < length some → i < length more → a ≡ get_or some i a → b ≡ get_or more i b
    → map (λ job. job.items) some ≡ map (λ job. job.items) more → a.items ≡ b.items
same_at some more i a b inside within is at same =
    ap (λ job. job.items) is ∙ sym (get_or-map (λ job. job.items) some i a [] inside) ∙ ap (λ l. get_or l i []) same
    ∙ get_or-map (λ job. job.items) more i b [] within ∙ ap (λ job. job.items) (sym at)

-- a write over a write
pub set_again : {X : Type 0} (xs : List X) (i : ℕ) (x y : X) → set (set xs i x) i y ≡ set xs i y
set_again [] i x y = refl
set_again (z ∷ xs) zero x y = refl
set_again (z ∷ xs) (suc i) x y = ap (λ l. z ∷ l) (set_again xs i x y)

-- two jobs put to the end of a lane, one after another
pub two_put : (lanes once : List (List JobParts)) (worker : ℕ) (first second : JobParts) → worker < length lanes
    → once ≡ set lanes worker (lane_at lanes worker ++ first ∷ []) → set once worker (lane_at once worker ++ second ∷ []) ≡ set lanes worker (lane_at lanes worker ++ first ∷ second ∷ [])
two_put lanes once worker first second inside is =
    ap (λ l. set l worker (lane_at l worker ++ second ∷ [])) is
    ∙ ap (λ l. set (set lanes worker (lane_at lanes worker ++ first ∷ [])) worker (l ++ second ∷ [])) (get_or-set_same lanes worker (lane_at lanes worker ++ first ∷ []) [] inside)
    ∙ set_again lanes worker (lane_at lanes worker ++ first ∷ []) ((lane_at lanes worker ++ first ∷ []) ++ second ∷ [])
    ∙ ap (set lanes worker) (append_assoc (lane_at lanes worker) (first ∷ []) (second ∷ []))

-- a busy lane has a job
pub busy_some : (lanes : List (List JobParts)) (i : ℕ) → is_busy lanes i ≡ true → 1 ≤ length (lane_at lanes i)
busy_some lanes i busy = ltb-true 0 (length (lane_at lanes i)) busy

-- jobs turned round
nodes_turned : (jobs : List (Vec (List ℕ))) → nodes_on (reverse jobs) ≡ reverse (nodes_on jobs)
nodes_turned [] = refl
nodes_turned (job ∷ jobs) =
    ap nodes_on (reverse-append (job ∷ []) jobs) ∙ map-append (λ j. j.items) (reverse jobs) (job ∷ [])
    ∙ ap (λ l. l ++ job.items ∷ []) (nodes_turned jobs) ∙ sym (reverse-append (job.items ∷ []) (nodes_on jobs))

-- jobs that were put one after another from the last on, and then turned round
pub moved_back : (jobs turned : List (Vec (List ℕ))) (first second : List JobParts)
    → nodes_on jobs ≡ reverse (map (λ job. job.nodes) second) ++ reverse (map (λ job. job.nodes) first) → turned ≡ reverse jobs
    → nodes_on turned ≡ map (λ job. job.nodes) (first ++ second)
moved_back jobs turned first second is turn =
    ap nodes_on turn ∙ nodes_turned jobs ∙ ap reverse is
    ∙ reverse-append (reverse (map (λ job. job.nodes) second)) (reverse (map (λ job. job.nodes) first))
    ∙ ap₂ ◌++◌ (reverse-reverse (map (λ job. job.nodes) first)) (reverse-reverse (map (λ job. job.nodes) second))
    ∙ sym (map-append (λ job. job.nodes) first second)
