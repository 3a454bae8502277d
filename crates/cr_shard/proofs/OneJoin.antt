-- A text has one joined text or one first fault at most, and never both.
use Rattle.std.proofs.Common.{◌≡◌, ℕ, suc, zero, ◌+◌, ◌^◌, ◌<◌, ◌⊎◌, true, List, [], ◌∷◌, ◌++◌, length, get_or, take, drop, inl, inr, refl, sym, ap, ap₂, ◌∙◌, subst, arith, length-append, append_assoc, append-nil}
use Rattle.std.specs.Prelude.{All, codes, Result, Ok, Err, MatchResult}
use Rattle.std.proofs.lemmas.Bool.{true≢false, cases_order}
use Rattle.std.proofs.lemmas.List.{append_cancel_left, get_or-take, length-take-le}
use Rattle.std.proofs.lemmas.List.Elements.{All-head, All-tail}
use Rattle.std.proofs.lemmas.List.Sorted.{Contains-permutation, IsPermutation-sym}
use Rattle.std.proofs.Math.Seq.{drop-append_seam, take-append_seam}
use Rattle.cr_model.specs.Problems.{ProblemParts}
use Rattle.cr_model.specs.Checkpoints.{number_line, CheckFile, checkpoint_text}
use Rattle.cr_model.proofs.BookExists.{book_order_total}
use Rattle.cr_model.proofs.InOrder.{same_from_sorted}
use Rattle.cr_store.specs.declared.blocks.Next.{Next}
use Rattle.cr_store.specs.declared.blocks.Next.TheVariants as next
use Rattle.cr_store.specs.declared.fault.CheckFault.{CheckFault}
use Rattle.cr_store.specs.Blocks.{block, blocks, IsBody, Begins, IsNext}
use Rattle.cr_store.specs.Faults.{FirstCheckFault}
use Rattle.cr_store.specs.Progress.{Progress}
use Rattle.cr_shard.specs.declared.fault.JoinFault.{JoinFault}
use Rattle.cr_shard.specs.declared.fault.JoinFault.TheVariants as fault
use Rattle.cr_shard.specs.Joins.{IsRead, AreRead, AreOfOne, IsJoinedOf, NoneOverlap, all_found, all_jobs, shards_overlap}
use Rattle.cr_shard.specs.JoinFaults.{AreBodies, HasBodies, HasShards, IsNoBlock, IsNoNumber, IsNoCheckpoint, IsOtherProblem, DifferFirstAt, IsOverlap, IsJoin, FirstJoinFault, bytes_at}
use Rattle.cr_shard.specs.Reads.{OrNoMemory}
use Rattle.cr_shard.proofs.JoinedFacts.{read_many}
use Rattle.cr_shard.proofs.JoinChecks.{bytes_of}

-- what the laws on blocks and checkpoints say
abbrev pub OneAnswer : Type 0
OneAnswer = (bytes : List ℕ) (at : ℕ) (one other : Next) → IsNext bytes at one → IsNext bytes at other → one ≡ other

abbrev pub OneCheckpoint : Type 0
OneCheckpoint = (bytes : List ℕ) (c other : Progress) → length bytes < 2 ^ 63
    → CheckFile bytes c.bytes c.problem c.found c.jobs → CheckFile bytes other.bytes other.problem other.found other.jobs → c ≡ other

abbrev pub OneCheckFault : Type 0
OneCheckFault = (bytes : List ℕ) (why other : CheckFault) → FirstCheckFault bytes why → FirstCheckFault bytes other → why ≡ other

abbrev pub NeverBoth : Type 0
NeverBoth = (bytes : List ℕ) (c : Progress) (why : CheckFault) → length bytes < 2 ^ 63
    → CheckFile bytes c.bytes c.problem c.found c.jobs → FirstCheckFault bytes why → ⊥

-- what stands at a place that no fault tells
abbrev pub IsFine : Next → Type 0
IsFine next.End = Unit {0}
IsFine (next.Block place size) = Unit {0}
IsFine next.Torn = ⊥
IsFine (next.Form place) = ⊥

module _ (law : OneAnswer) where
  at_start : (text body : List ℕ) → Begins text body → IsNext text 0 (next.Block (length (number_line (codes "block") (length body))) (length body))
  at_start text body begins = (body, begins, omega arith, refl)

  same_size : (place size other most : ℕ) → next.Block place size ≡ next.Block other most → size ≡ most
  same_size place size other most is = cc

  -- two texts that begin with blocks have one body, and one rest
  one_body : (b c x y : List ℕ) → IsBody b → IsBody c → block b ++ x ≡ block c ++ y → (b ≡ c) × (x ≡ y)
  one_body b c x y b_size c_size same = (bodies, append_cancel_left (block b) x y (same ∙ ap (λ d. block d ++ y) (sym bodies)))
    where
      text : List ℕ
      text = block b ++ x

      sizes : length b ≡ length c
      sizes = same_size (length (number_line (codes "block") (length b))) (length b) (length (number_line (codes "block") (length c))) (length c)
          (law text 0 (next.Block (length (number_line (codes "block") (length b))) (length b)) (next.Block (length (number_line (codes "block") (length c))) (length c))
          (at_start text b (record { size = b_size; rest = x; is = refl })) (at_start text c (record { size = c_size; rest = y; is = same })))

      parts : (d z : List ℕ) → block d ++ z ≡ number_line (codes "block") (length d) ++ (d ++ z)
      parts d z = append_assoc (number_line (codes "block") (length d)) d z

      behind : b ++ x ≡ c ++ y
      behind = append_cancel_left (number_line (codes "block") (length b)) (b ++ x) (c ++ y)
          (sym (parts b x) ∙ same ∙ parts c y ∙ ap (λ n. number_line (codes "block") n ++ (c ++ y)) (sym sizes))

      bodies : b ≡ c
      bodies = sym (take-append_seam b x) ∙ ap (take (length b)) behind ∙ ap (λ n. take n (c ++ y)) sizes ∙ take-append_seam c y

  block_some : (body x : List ℕ) → IsBody body → block body ++ x ≡ [] → ⊥
  block_some body x size is =
      omega (arith, size.0, ap length is, length-append (block body) x, length-append (number_line (codes "block") (length body)) body)

  -- blocks at the front of a text of blocks are the first of them
  fronts : (before bodies : List (List ℕ)) (rest : List ℕ) → All IsBody before → All IsBody bodies → blocks before ++ rest ≡ blocks bodies
      → (after : List (List ℕ)) × All IsBody after × (bodies ≡ before ++ after) × (rest ≡ blocks after)
  fronts [] bodies rest are all same = (bodies, all, refl, same)
  fronts (b ∷ before) [] rest are all same =
      absurd (block_some b (blocks before ++ rest) (All-head IsBody b before are) (sym (append_assoc (block b) (blocks before) rest) ∙ same))
  fronts (b ∷ before) (c ∷ bodies) rest are all same =
      let both = one_body b c (blocks before ++ rest) (blocks bodies) (All-head IsBody b before are) (All-head IsBody c bodies all)
      (sym (append_assoc (block b) (blocks before) rest) ∙ same) in
      let more = fronts before bodies rest (All-tail IsBody b before are) (All-tail IsBody c bodies all) both.1 in
      (more.0, more.1, ap₂ ◌∷◌ (sym both.0) more.2, more.3)

  -- a text is one list of bodies
  pub one_list : (text : List ℕ) (bodies others : List (List ℕ)) → AreBodies text bodies → AreBodies text others → bodies ≡ others
  one_list text bodies others one two =
      let more = fronts bodies others [] one.are two.are (append-nil (blocks bodies) ∙ sym one.is ∙ two.is) in
      by more.0 more.1 more.2 more.3
    where
      by : (after : List (List ℕ)) → All IsBody after → others ≡ bodies ++ after → [] ≡ blocks after → bodies ≡ others
      by [] are is none = sym (is ∙ append-nil bodies)
      by (c ∷ after) are is none = absurd (block_some c (blocks after) (All-head IsBody c after are) (sym none))

  -- behind blocks of a text of blocks stands a block or the end
  fine_behind : (text : List ℕ) (before after : List (List ℕ)) (rest : List ℕ) → text ≡ blocks before ++ rest → rest ≡ blocks after → All IsBody after
      → (n : Next) × IsNext text (length (blocks before)) n × IsFine n
  fine_behind text before [] rest is none are =
      (next.End, omega (arith, ap length is, length-append (blocks before) rest, ap length none), tt)
  fine_behind text before (c ∷ after) rest is none are =
      let there : drop (length (blocks before)) text ≡ block c ++ blocks after = ap (drop (length (blocks before))) is ∙ drop-append_seam (blocks before) rest ∙ none in (
        next.Block (length (blocks before) + length (number_line (codes "block") (length c))) (length c),
        (c, record { size = All-head IsBody c after are; rest = blocks after; is = there }, refl, refl),
        tt,
      )

  not_fine : (text : List ℕ) (at place : ℕ) (n : Next) → IsNext text at n → IsFine n
      → IsNext text at (next.Form place) ⊎ (IsNext text at next.Torn × (place ≡ length text)) → ⊥
  not_fine text at place n here fine (inl form) = subst IsFine (law text at n (next.Form place) here form) fine
  not_fine text at place n here fine (inr torn) = subst IsFine (law text at n next.Torn here torn.0) fine

  pub block_or_none : (text : List ℕ) (place : ℕ) (bodies : List (List ℕ)) → IsNoBlock text place → AreBodies text bodies → ⊥
  block_or_none text place bodies none all =
      let more = fronts none.before bodies none.rest none.are all.are (sym none.is ∙ all.is) in
      let fine = fine_behind text none.before more.0 none.rest none.is more.3 more.1 in
      not_fine text (length (blocks none.before)) place fine.0 fine.1 fine.2 none.wrong

  abbrev Wrong : List ℕ → ℕ → ℕ → Type 0
  Wrong text at place = IsNext text at (next.Form place) ⊎ (IsNext text at next.Torn × (place ≡ length text))

  same_form : (a b : ℕ) → next.Form a ≡ next.Form b → a ≡ b
  same_form a b is = cc

  form_not_torn : (a : ℕ) → next.Form a ≡ next.Torn → ⊥
  form_not_torn a is = absurd (cc)

  one_wrong : (text : List ℕ) (at a b : ℕ) → Wrong text at a → Wrong text at b → a ≡ b
  one_wrong text at a b (inl one) (inl two) = same_form a b (law text at (next.Form a) (next.Form b) one two)
  one_wrong text at a b (inl one) (inr two) = absurd (form_not_torn a (law text at (next.Form a) next.Torn one two.0))
  one_wrong text at a b (inr one) (inl two) = absurd (form_not_torn b (law text at (next.Form b) next.Torn two one.0))
  one_wrong text at a b (inr one) (inr two) = one.1 ∙ sym two.1

  block_not_wrong : (text pre body z : List ℕ) (at b : ℕ) → IsBody body → text ≡ pre ++ (block body ++ z) → at ≡ length pre → Wrong text at b → ⊥
  block_not_wrong text pre body z at b size is at_is wrong =
      let there : drop at text ≡ block body ++ z = ap (λ n. drop n text) at_is ∙ ap (drop (length pre)) is ∙ drop-append_seam pre (block body ++ z) in
      not_fine text at b (next.Block (at + length (number_line (codes "block") (length body))) (length body))
      (body, record { size = size; rest = z; is = there }, refl, refl) tt wrong

  one_place_from : (text pre : List ℕ) (xs ys : List (List ℕ)) (r s : List ℕ) (at to a b : ℕ) → All IsBody xs → All IsBody ys
      → text ≡ pre ++ (blocks xs ++ r) → text ≡ pre ++ (blocks ys ++ s) → at ≡ length pre + length (blocks xs) → to ≡ length pre + length (blocks ys)
      → Wrong text at a → Wrong text to b → a ≡ b
  one_place_from text pre [] [] r s at to a b are all one two at_is to_is first second =
      let same : to ≡ at = omega (arith, at_is, to_is) in
      one_wrong text at a b first (subst (λ n. Wrong text n b) same second)
  one_place_from text pre (x ∷ xs) [] r s at to a b are all one two at_is to_is first second =
      absurd (block_not_wrong text pre x (blocks xs ++ r) to b (All-head IsBody x xs are) (one ∙ ap (λ t. pre ++ t) (append_assoc (block x) (blocks xs) r)) (omega (arith, to_is)) second)
  one_place_from text pre [] (y ∷ ys) r s at to a b are all one two at_is to_is first second =
      absurd (block_not_wrong text pre y (blocks ys ++ s) at a (All-head IsBody y ys all) (two ∙ ap (λ t. pre ++ t) (append_assoc (block y) (blocks ys) s)) (omega (arith, at_is)) first)
  one_place_from text pre (x ∷ xs) (y ∷ ys) r s at to a b are all one two at_is to_is first second =
      let left : text ≡ pre ++ (block x ++ (blocks xs ++ r)) = one ∙ ap (λ t. pre ++ t) (append_assoc (block x) (blocks xs) r) in
      let right : text ≡ pre ++ (block y ++ (blocks ys ++ s)) = two ∙ ap (λ t. pre ++ t) (append_assoc (block y) (blocks ys) s) in
      let both = one_body x y (blocks xs ++ r) (blocks ys ++ s) (All-head IsBody x xs are) (All-head IsBody y ys all)
      (append_cancel_left pre (block x ++ (blocks xs ++ r)) (block y ++ (blocks ys ++ s)) (sym left ∙ right)) in
      one_place_from text (pre ++ block x) xs ys r s at to a b (All-tail IsBody x xs are) (All-tail IsBody y ys all)
      (left ∙ sym (append_assoc pre (block x) (blocks xs ++ r)))
      (left ∙ sym (append_assoc pre (block x) (blocks xs ++ r)) ∙ ap (λ t. (pre ++ block x) ++ t) both.1)
      (omega (arith, at_is, length-append pre (block x), length-append (block x) (blocks xs)))
      (omega (arith, to_is, length-append pre (block x), length-append (block y) (blocks ys), ap (λ d. length (block d)) both.0))
      first second

  pub one_place : (text : List ℕ) (a b : ℕ) → IsNoBlock text a → IsNoBlock text b → a ≡ b
  one_place text a b one two =
      one_place_from text [] one.before two.before one.rest two.rest (length (blocks one.before)) (length (blocks two.before)) a b one.are two.are one.is two.is
      (omega arith) (omega arith) one.wrong two.wrong

-- a shard that was read, of a body that is there
read_there : (bodies : List (List ℕ)) (shards : List Progress) (i : ℕ) → AreRead bodies shards → i < length bodies
    → (c : Progress) × IsRead (get_or bodies i []) c
read_there [] shards i read inside = absurd (omega (arith, inside))
read_there (body ∷ bodies) [] i read inside = absurd read
read_there (body ∷ bodies) (c ∷ shards) zero read inside = (c, read.0)
read_there (body ∷ bodies) (c ∷ shards) (suc i) read inside = read_there bodies shards i read.1 (omega (arith, inside))

some_shard : (shards : List Progress) (i : ℕ) → i < length shards → Progress
some_shard [] i inside = absurd (omega (arith, inside))
some_shard (c ∷ shards) i inside = c

bytes_are : (shards : List Progress) (bytes : List ℕ) (p : ProblemParts) (i : ℕ) → AreOfOne bytes p shards → i < length shards → bytes_at shards i ≡ bytes
bytes_are shards bytes p i of_one inside =
    let d = some_shard shards i inside in
    bytes_of shards i d inside ∙ (of_one i d inside).0

problem_is : (shards : List Progress) (bytes others : List ℕ) (p q : ProblemParts) → 0 < length shards → AreOfOne bytes p shards → AreOfOne others q shards → p ≡ q
problem_is shards bytes others p q some one two =
    let d = some_shard shards 0 some in
    sym (one 0 d some).1 ∙ (two 0 d some).1

-- lists that differ are not the same, and differ first at one place
differ_apart : (one other : List ℕ) (place : ℕ) → DifferFirstAt one other place → one ≡ other → ⊥
differ_apart one other place differ same = elim differ.more [
  | inl here ↦ differ.differ here (omega (arith, here, ap length same)) (ap (λ l. get_or l place 0) same)
  | inr there ↦ differ.differ (omega (arith, there, ap length same)) there (ap (λ l. get_or l place 0) same)
]

not_before : (one other : List ℕ) (m n : ℕ) → DifferFirstAt one other m → DifferFirstAt one other n → m < n → ⊥
not_before one other m n first second less =
    let here : m < length one = omega (arith, second.inside, less) in
    let there : m < length other = omega (arith, second.within, less) in
    first.differ here there (sym (get_or-take n one m 0 less) ∙ ap (λ l. get_or l m 0) second.alike ∙ get_or-take n other m 0 less)

one_difference : (one other : List ℕ) (m n : ℕ) → DifferFirstAt one other m → DifferFirstAt one other n → m ≡ n
one_difference one other m n first second = elim (cases_order m n) [
  | inl same ↦ same
  | inr (inl less) ↦ absurd (not_before one other m n first second less)
  | inr (inr more) ↦ absurd (not_before one other n m second first more)
]

other_or_one : (shards : List Progress) (i place : ℕ) (bytes : List ℕ) (p : ProblemParts) → IsOtherProblem shards i place → AreOfOne bytes p shards → ⊥
other_or_one shards i place bytes p other of_one =
    differ_apart (bytes_at shards 0) (bytes_at shards i) place other.differ
    (bytes_are shards bytes p 0 of_one (omega (arith, other.inside)) ∙ sym (bytes_are shards bytes p i of_one other.inside))

one_other : (shards : List Progress) (i k m n : ℕ) → IsOtherProblem shards i m → IsOtherProblem shards k n → (i ≡ k) × (m ≡ n)
one_other shards i k m n one two = elim (cases_order i k) [
  | inl same ↦ (
    same,
    one_difference (bytes_at shards 0) (bytes_at shards i) m n one.differ
        (subst (λ (j : ℕ). DifferFirstAt (bytes_at shards 0) (bytes_at shards j) n) (sym same) two.differ),
  )
  | inr (inl less) ↦ absurd (differ_apart (bytes_at shards 0) (bytes_at shards i) m one.differ (sym (two.same i less)))
  | inr (inr more) ↦ absurd (differ_apart (bytes_at shards 0) (bytes_at shards k) n two.differ (sym (one.same k more)))
]

overlap_or_none : (p : ProblemParts) (shards : List Progress) (i j : ℕ) → IsOverlap p shards i j → NoneOverlap p shards → ⊥
overlap_or_none p shards i j overlap none =
    let d = some_shard shards j overlap.inside in
    true≢false (sym (overlap.overlap d) ∙ none i j d overlap.order overlap.inside)

one_overlap : (p : ProblemParts) (shards : List Progress) (i j k m : ℕ) → IsOverlap p shards i j → IsOverlap p shards k m → (i ≡ k) × (j ≡ m)
one_overlap p shards i j k m one two = elim (cases_order j m) [
  | inl same ↦ (
    elim (cases_order i k) [
      | inl also ↦ also
      | inr (inl less) ↦ absurd (true≢false (sym (subst (λ (n : ℕ). shards_overlap p (get_or shards i d) (get_or shards n d) ≡ true) same (one.overlap d)) ∙ two.least i d less))
      | inr (inr more) ↦ absurd (true≢false (sym (subst (λ (n : ℕ). shards_overlap p (get_or shards k d) (get_or shards n d) ≡ true) (sym same) (two.overlap d)) ∙ one.least k d more))
    ],
    same,
  )
  | inr (inl less) ↦ absurd (true≢false (sym (one.overlap d) ∙ two.apart i j d one.order less))
  | inr (inr more) ↦ absurd (true≢false (sym (two.overlap d) ∙ one.apart k m d two.order more))
]
  where
    d : Progress
    d = some_shard shards j one.inside

one_joined : (shards : List Progress) (bytes : List ℕ) (p : ProblemParts) (text other : List ℕ) → IsJoinedOf shards bytes p text → IsJoinedOf shards bytes p other → text ≡ other
one_joined shards bytes p text other one two =
    let found = same_from_sorted (book_order_total p) one.found two.found one.ascending two.ascending (λ touch. (
      λ held. Contains-permutation (all_found shards) two.found touch two.same
          (Contains-permutation one.found (all_found shards) touch (IsPermutation-sym (all_found shards) one.found one.same) held),
      λ held. Contains-permutation (all_found shards) one.found touch one.same
          (Contains-permutation two.found (all_found shards) touch (IsPermutation-sym (all_found shards) two.found two.same) held),
    )) in
    one.is ∙ ap (λ l. checkpoint_text p bytes l (all_jobs shards)) found ∙ sym two.is

module _ (law : OneAnswer) (one_check : OneCheckpoint) (one_fault : OneCheckFault) (never : NeverBoth) where
  read_one : (bodies : List (List ℕ)) (shards others : List Progress) → All IsBody bodies → AreRead bodies shards → AreRead bodies others → shards ≡ others
  read_one [] [] [] are one two = refl
  read_one [] [] (c ∷ others) are one two = absurd two
  read_one [] (c ∷ shards) others are one two = absurd one
  read_one (body ∷ bodies) [] others are one two = absurd one
  read_one (body ∷ bodies) (c ∷ shards) [] are one two = absurd two
  read_one (body ∷ bodies) (c ∷ shards) (d ∷ others) are one two =
      ap₂ ◌∷◌ (one_check body c d (All-head IsBody body bodies are).1 one.0 two.0) (read_one bodies shards others (All-tail IsBody body bodies are) one.1 two.1)

  same_bodies : (text : List ℕ) (bodies others : List (List ℕ)) → HasBodies text bodies → HasBodies text others → bodies ≡ others
  same_bodies text bodies others one two = one_list law text bodies others one.are two.are

  same_shards : (text : List ℕ) (shards others : List Progress) → HasShards text shards → HasShards text others → shards ≡ others
  same_shards text shards others one two =
      let same = same_bodies text one.bodies two.bodies one.has two.has in
      read_one one.bodies shards others one.has.are.are one.read (subst (λ (l : List (List ℕ)). AreRead l others) (sym same) two.read)

  check_or_read : (bodies : List (List ℕ)) (i : ℕ) (why : CheckFault) (shards : List Progress) → All IsBody bodies → IsNoCheckpoint bodies i why → AreRead bodies shards → ⊥
  check_or_read bodies i why shards are none read =
      let there = read_there bodies shards i read none.inside in
      never (get_or bodies i []) there.0 why (are i [] none.inside).1 there.1 none.wrong

  not_earlier : (bodies : List (List ℕ)) (i k : ℕ) (why other : CheckFault) → All IsBody bodies → IsNoCheckpoint bodies i why → IsNoCheckpoint bodies k other → i < k → ⊥
  not_earlier bodies i k why other are one two less =
      let within : i < length (take k bodies) = omega (arith, less, two.inside, length-take-le k bodies (omega (arith, two.inside))) in
      let there = read_there (take k bodies) two.shards i two.before within in
      never (get_or bodies i []) there.0 why (are i [] one.inside).1 (subst (λ (b : List ℕ). IsRead b there.0) (get_or-take k bodies i [] less) there.1) one.wrong

  one_refusal : (bodies : List (List ℕ)) (i k : ℕ) (why other : CheckFault) → All IsBody bodies → IsNoCheckpoint bodies i why → IsNoCheckpoint bodies k other → (i ≡ k) × (why ≡ other)
  one_refusal bodies i k why other are one two = elim (cases_order i k) [
    | inl same ↦ (same, one_fault (get_or bodies i []) why other one.wrong (subst (λ (n : ℕ). FirstCheckFault (get_or bodies n []) other) (sym same) two.wrong))
    | inr (inl less) ↦ absurd (not_earlier bodies i k why other are one two less)
    | inr (inr more) ↦ absurd (not_earlier bodies k i other why are two one more)
  ]

  number_or_bodies : (text : List ℕ) (number : ℕ) (bodies : List (List ℕ)) → IsNoNumber text number → HasBodies text bodies → ⊥
  number_or_bodies text number bodies none has =
      let same = one_list law text none.bodies bodies none.are has.are in
      elim none.wrong [
        | inl zero_of ↦ omega (arith, zero_of, none.number_is, ap length same, has.some)
        | inr many ↦ omega (arith, many, none.number_is, ap length same, has.few)
      ]

  check_or_shards : (text : List ℕ) (bodies : List (List ℕ)) (i : ℕ) (why : CheckFault) (shards : List Progress) → HasBodies text bodies → IsNoCheckpoint bodies i why
      → HasShards text shards → ⊥
  check_or_shards text bodies i why shards has none read =
      let same = same_bodies text bodies read.bodies has read.has in
      check_or_read read.bodies i why shards read.has.are.are (subst (λ (l : List (List ℕ)). IsNoCheckpoint l i why) same none) read.read

  shards_some : (text : List ℕ) (shards : List Progress) → HasShards text shards → 0 < length shards
  shards_some text shards has = omega (arith, has.has.some, read_many has.bodies shards has.read)

  join_shards : (text joined : List ℕ) → (is : IsJoin text joined) → HasShards text is.shards
  join_shards text joined is = record { bodies = is.bodies; has = is.has; read = is.read }

  -- one joined text
  pub one_text : (text joined other : List ℕ) → IsJoin text joined → IsJoin text other → joined ≡ other
  one_text text joined other one two =
      let same = same_shards text one.shards two.shards (join_shards text joined one) (join_shards text other two) in
      let second : IsJoinedOf one.shards two.bytes two.p other = subst (λ (l : List Progress). IsJoinedOf l two.bytes two.p other) (sym same) two.joined_is in
      let some = shards_some text one.shards (join_shards text joined one) in
      let bytes : two.bytes ≡ one.bytes = sym (bytes_are one.shards two.bytes two.p 0 second.of_one some) ∙ bytes_are one.shards one.bytes one.p 0 one.joined_is.of_one some in
      let problem : two.p ≡ one.p = problem_is one.shards two.bytes one.bytes two.p one.p some second.of_one one.joined_is.of_one in
      one_joined one.shards one.bytes one.p joined other one.joined_is
      (subst (λ (q : ProblemParts). IsJoinedOf one.shards one.bytes q other) problem (subst (λ (b : List ℕ). IsJoinedOf one.shards b two.p other) bytes second))

  -- never both
  pub not_both : (text joined : List ℕ) (why : JoinFault) → IsJoin text joined → FirstJoinFault text why → ⊥
  not_both text joined (fault.Form place) is first = block_or_none law text place is.bodies first is.has.are
  not_both text joined (fault.Blocks number) is first = number_or_bodies text number is.bodies first is.has
  not_both text joined (fault.Check i why) is first = check_or_shards text first.0 i why is.shards first.1 first.2 (join_shards text joined is)
  not_both text joined (fault.OtherProblem i place) is first =
      let same = same_shards text first.0 is.shards first.1 (join_shards text joined is) in
      other_or_one is.shards i place is.bytes is.p (subst (λ (l : List Progress). IsOtherProblem l i place) same first.2) is.joined_is.of_one
  not_both text joined (fault.Overlap i j) is first =
      let (shards, bytes, p, has, of_one, overlap) = first in
      let same = same_shards text shards is.shards has (join_shards text joined is) in
      let own : AreOfOne bytes p is.shards = subst (λ (l : List Progress). AreOfOne bytes p l) same of_one in
      let problem = problem_is is.shards bytes is.bytes p is.p (shards_some text is.shards (join_shards text joined is)) own is.joined_is.of_one in
      overlap_or_none is.p is.shards i j (subst (λ (q : ProblemParts). IsOverlap q is.shards i j) problem (subst (λ (l : List Progress). IsOverlap p l i j) same overlap)) is.apart
  not_both text joined fault.NoMemory is first = first

  -- one first fault
  overlaps_one : (text : List ℕ) (i j k m : ℕ) → FirstJoinFault text (fault.Overlap i j) → FirstJoinFault text (fault.Overlap k m) → (i ≡ k) × (j ≡ m)
  overlaps_one text i j k m one two =
      let (shards, bytes, p, has, of_one, overlap) = one in
      let (others, files, q, also, of_two, second) = two in
      let same = same_shards text others shards also has in
      let own : AreOfOne files q shards = subst (λ (l : List Progress). AreOfOne files q l) same of_two in
      let problem = problem_is shards files bytes q p (shards_some text shards has) own of_one in
      one_overlap p shards i j k m overlap (subst (λ (r : ProblemParts). IsOverlap r shards k m) problem (subst (λ (l : List Progress). IsOverlap q l k m) same second))

  other_or_overlap : (text : List ℕ) (i place k m : ℕ) → FirstJoinFault text (fault.OtherProblem i place) → FirstJoinFault text (fault.Overlap k m) → ⊥
  other_or_overlap text i place k m one two =
      let (others, files, q, also, of_two, second) = two in
      let same = same_shards text one.0 others one.1 also in
      other_or_one others i place files q (subst (λ (l : List Progress). IsOtherProblem l i place) same one.2) of_two

  pub one_first : (text : List ℕ) (why other : JoinFault) → FirstJoinFault text why → FirstJoinFault text other → why ≡ other
  one_first text (fault.Form a) (fault.Form b) one two = ap fault.Form (one_place law text a b one two)
  one_first text (fault.Form a) (fault.Blocks n) one two = absurd (block_or_none law text a two.bodies one two.are)
  one_first text (fault.Form a) (fault.Check i why) one two = absurd (block_or_none law text a two.0 one two.1.are)
  one_first text (fault.Form a) (fault.OtherProblem i place) one two = absurd (block_or_none law text a two.1.bodies one two.1.has.are)
  one_first text (fault.Form a) (fault.Overlap i j) one two = absurd (block_or_none law text a two.3.bodies one two.3.has.are)
  one_first text (fault.Blocks n) (fault.Form a) one two = absurd (block_or_none law text a one.bodies two one.are)
  one_first text (fault.Blocks n) (fault.Blocks m) one two =
      ap fault.Blocks (one.number_is ∙ ap length (one_list law text one.bodies two.bodies one.are two.are) ∙ sym two.number_is)
  one_first text (fault.Blocks n) (fault.Check i why) one two = absurd (number_or_bodies text n two.0 one two.1)
  one_first text (fault.Blocks n) (fault.OtherProblem i place) one two = absurd (number_or_bodies text n two.1.bodies one two.1.has)
  one_first text (fault.Blocks n) (fault.Overlap i j) one two = absurd (number_or_bodies text n two.3.bodies one two.3.has)
  one_first text (fault.Check i why) (fault.Form a) one two = absurd (block_or_none law text a one.0 two one.1.are)
  one_first text (fault.Check i why) (fault.Blocks n) one two = absurd (number_or_bodies text n one.0 two one.1)
  one_first text (fault.Check i why) (fault.Check k cause) one two =
      let same = same_bodies text two.0 one.0 two.1 one.1 in
      let both = one_refusal one.0 i k why cause one.1.are.are one.2 (subst (λ (l : List (List ℕ)). IsNoCheckpoint l k cause) same two.2) in
      ap₂ fault.Check both.0 both.1
  one_first text (fault.Check i why) (fault.OtherProblem k place) one two = absurd (check_or_shards text one.0 i why two.0 one.1 one.2 two.1)
  one_first text (fault.Check i why) (fault.Overlap k m) one two = absurd (check_or_shards text one.0 i why two.0 one.1 one.2 two.3)
  one_first text (fault.OtherProblem i place) (fault.Form a) one two = absurd (block_or_none law text a one.1.bodies two one.1.has.are)
  one_first text (fault.OtherProblem i place) (fault.Blocks n) one two = absurd (number_or_bodies text n one.1.bodies two one.1.has)
  one_first text (fault.OtherProblem i place) (fault.Check k why) one two = absurd (check_or_shards text two.0 k why one.0 two.1 two.2 one.1)
  one_first text (fault.OtherProblem i place) (fault.OtherProblem k at) one two =
      let same = same_shards text two.0 one.0 two.1 one.1 in
      let both = one_other one.0 i k place at one.2 (subst (λ (l : List Progress). IsOtherProblem l k at) same two.2) in
      ap₂ fault.OtherProblem both.0 both.1
  one_first text (fault.OtherProblem i place) (fault.Overlap k m) one two = absurd (other_or_overlap text i place k m one two)
  one_first text (fault.Overlap i j) (fault.Form a) one two = absurd (block_or_none law text a one.3.bodies two one.3.has.are)
  one_first text (fault.Overlap i j) (fault.Blocks n) one two = absurd (number_or_bodies text n one.3.bodies two one.3.has)
  one_first text (fault.Overlap i j) (fault.Check k why) one two = absurd (check_or_shards text two.0 k why one.0 two.1 two.2 one.3)
  one_first text (fault.Overlap i j) (fault.OtherProblem k place) one two = absurd (other_or_overlap text k place i j two one)
  one_first text (fault.Overlap i j) (fault.Overlap k m) one two = let both = overlaps_one text i j k m one two in ap₂ fault.Overlap both.0 both.1
  one_first text fault.NoMemory other one two = absurd one
  one_first text (fault.Form a) fault.NoMemory one two = absurd two
  one_first text (fault.Blocks n) fault.NoMemory one two = absurd two
  one_first text (fault.Check i why) fault.NoMemory one two = absurd two
  one_first text (fault.OtherProblem i place) fault.NoMemory one two = absurd two
  one_first text (fault.Overlap i j) fault.NoMemory one two = absurd two

-- what the law on answers says
abbrev pub OneText : Type 0
OneText = (text joined other : List ℕ) → IsJoin text joined → IsJoin text other → joined ≡ other

abbrev pub OneFirst : Type 0
OneFirst = (text : List ℕ) (why other : JoinFault) → FirstJoinFault text why → FirstJoinFault text other → why ≡ other

abbrev pub NotBoth : Type 0
NotBoth = (text joined : List ℕ) (why : JoinFault) → IsJoin text joined → FirstJoinFault text why → ⊥

-- the answer of a join is right for every text that is right, and for every fault
pub accepts : OneText → NotBoth → {X : Type 0} (items : X → List ℕ) (text : List ℕ) (result : Result X JoinFault)
    → MatchResult result (λ t. IsJoin text (items t)) (OrNoMemory (FirstJoinFault text)) → (joined : List ℕ) → IsJoin text joined
    → MatchResult result (λ t. items t ≡ joined) (λ why. why ≡ fault.NoMemory)
accepts texts both items text (Ok t) right joined is = texts text (items t) joined right is
accepts texts both items text (Err why) (inl memory) joined is = memory
accepts texts both items text (Err why) (inr first) joined is = absurd (both text joined why is first)

pub refuses : OneFirst → NotBoth → {X : Type 0} (items : X → List ℕ) (text : List ℕ) (result : Result X JoinFault)
    → MatchResult result (λ t. IsJoin text (items t)) (OrNoMemory (FirstJoinFault text)) → (why : JoinFault) → FirstJoinFault text why
    → MatchResult result (λ _. ⊥) (λ told. (told ≡ why) ⊎ (told ≡ fault.NoMemory))
refuses faults both items text (Ok t) right why first = both text (items t) why right first
refuses faults both items text (Err told) (inl memory) why first = inr memory
refuses faults both items text (Err told) (inr right) why first = inl (faults text told why right first)
