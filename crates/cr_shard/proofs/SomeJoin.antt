-- Each text of blocks is joined, or has a first fault.
use Rattle.std.proofs.Common.{◌≡◌, ℕ, zero, suc, ◌+◌, ◌<◌, ◌≤◌, ◌⊎◌, inl, inr, Bool, true, false, List, [], ◌∷◌, ◌++◌, length, get_or, take, drop, refl, sym, ap, ◌∙◌, arith, length-append, append_assoc, append-nil}
use Rattle.std.specs.Prelude.{All, codes}
use Rattle.std.proofs.lemmas.Bool.{cases_lt, cases_eq, cases_Bool}
use Rattle.std.proofs.lemmas.Grind.{flat_map-append}
use Rattle.std.proofs.lemmas.List.{get_or_default}
use Rattle.std.proofs.lemmas.List.Elements.{All-nil, All-cons, All-append}
use Rattle.std.proofs.Math.Seq.{drop-append_seam}
use Rattle.cr_model.specs.Problems.{ProblemParts}
use Rattle.cr_model.specs.Books.{book_order}
use Rattle.cr_model.specs.Checkpoints.{CheckFile, checkpoint_text, number_line}
use Rattle.cr_model.proofs.BookExists.{book_order_total}
use Rattle.cr_store.specs.declared.blocks.Next.{Next}
use Rattle.cr_store.specs.declared.blocks.Next.TheVariants as next
use Rattle.cr_store.specs.declared.fault.CheckFault.{CheckFault}
use Rattle.cr_store.specs.Blocks.{block, blocks, IsBody, IsNext}
use Rattle.cr_store.specs.Faults.{FirstCheckFault}
use Rattle.cr_store.specs.Progress.{Progress}
use Rattle.cr_shard.specs.declared.fault.JoinFault.{JoinFault}
use Rattle.cr_shard.specs.declared.fault.JoinFault.TheVariants as fault
use Rattle.cr_shard.specs.Joins.{AreRead, AreOfOne, NoneOverlap, all_found, all_jobs, shards_overlap}
use Rattle.cr_shard.specs.JoinFaults.{AreBodies, HasBodies, IsNoBlock, IsNoCheckpoint, IsOtherProblem, DifferFirstAt, IsOverlap, AreOneFile, IsJoin, FirstJoinFault, bytes_at, most_shards}
use Rattle.cr_shard.proofs.JoinedFacts.{read_many, read_can_meet, is_joined_of}
use Rattle.cr_shard.proofs.JoinChecks.{OneProblem, of_one_file, shards_held}
use Rattle.cr_shard.proofs.Sorting.{sorted_of}
use Rattle.cr_shard.proofs.SomeBlock.{next_told}

-- what the law on checkpoints says
abbrev pub SomeCheck : Type 0
SomeCheck = (bytes : List ℕ) → ((c : Progress) × CheckFile bytes c.bytes c.problem c.found c.jobs) ⊎ ((why : CheckFault) × FirstCheckFault bytes why)

-- a text is bodies as blocks, or something stands in it that is no block
module _ (text : List ℕ) where
  abbrev BodiesOrForm : Type 0
  BodiesOrForm = ((bodies : List (List ℕ)) × AreBodies text bodies) ⊎ ((place : ℕ) × IsNoBlock text place)

  one_more : (before : List (List ℕ)) (body rest more : List ℕ) → text ≡ blocks before ++ rest → rest ≡ block body ++ more
      → text ≡ blocks (before ++ body ∷ []) ++ more
  one_more before body rest more is begins =
      is ∙ ap (λ r. blocks before ++ r) begins ∙ sym (append_assoc (blocks before) (block body) more)
      ∙ ap (λ b. (blocks before ++ b) ++ more) (sym (append-nil (block body)))
      ∙ ap (λ b. b ++ more) (sym (flat_map-append block before (body ∷ [])))

  -- what stands behind the bodies, and what comes of the next one
  module _ (before : List (List ℕ)) (rest : List ℕ) (are : All IsBody before) (is : text ≡ blocks before ++ rest) where
    here : drop (length (blocks before)) text ≡ rest
    here = ap (drop (length (blocks before))) is ∙ drop-append_seam (blocks before) rest

    long : length text ≡ length (blocks before) + length rest
    long = ap length is ∙ length-append (blocks before) rest

    ended : (r : List ℕ) → rest ≡ r → length r ≡ 0 → BodiesOrForm
    ended [] same none = inl (before, record { are = are; is = is ∙ ap (λ r. blocks before ++ r) same ∙ append-nil (blocks before) })
    ended (x ∷ r) same none = absurd (omega (arith, none))

    one_step : ((body more : List ℕ) → IsBody body → rest ≡ block body ++ more → BodiesOrForm) → (n : Next) → IsNext text (length (blocks before)) n
        → BodiesOrForm
    one_step later next.End at = ended rest refl (omega (arith, at, long))
    one_step later next.Torn at = inr (length text, record { before = before; are = are; rest = rest; is = is; wrong = inr (at, refl) })
    one_step later (next.Form place) at = inr (place, record { before = before; are = are; rest = rest; is = is; wrong = inl at })
    one_step later (next.Block place size) at = later at.0 at.1.rest at.1.size (sym here ∙ at.1.is)

    stands : (n : Next) × IsNext text (length (blocks before)) n
    stands = next_told text (length (blocks before)) (omega (arith, long))

  shorter : (body more rest : List ℕ) → IsBody body → rest ≡ block body ++ more → length more < length rest
  shorter body more rest size is =
      omega (arith, ap length is, length-append (block body) more, length-append (number_line (codes "block") (length body)) body, size.0)

  from_place : (left : ℕ) (before : List (List ℕ)) (rest : List ℕ) → length rest ≤ left → All IsBody before → text ≡ blocks before ++ rest → BodiesOrForm
  from_place zero before rest few are is =
      let told = stands before rest are is in
      one_step before rest are is (λ body more size begins. absurd (omega (arith, few, shorter body more rest size begins))) told.0 told.1
  from_place (suc left) before rest few are is =
      let told = stands before rest are is in
      one_step before rest are is (λ body more size begins. from_place left (before ++ body ∷ []) more
      (omega (arith, few, shorter body more rest size begins))
      (All-append IsBody before (body ∷ []) are (All-cons IsBody body [] size (All-nil IsBody)))
      (one_more before body rest more is begins)) told.0 told.1

  bodies_or_form : BodiesOrForm
  bodies_or_form = from_place (length text) [] text (omega arith) (All-nil IsBody) refl

-- bodies are checkpoints, or one is the first that is none
read_or_fault : SomeCheck → (bodies : List (List ℕ)) → ((shards : List Progress) × AreRead bodies shards) ⊎ ((i : ℕ) × (why : CheckFault) × IsNoCheckpoint bodies i why)
read_or_fault some [] = inl ([], tt)
read_or_fault some (body ∷ bodies) = by (some body) (read_or_fault some bodies)
  where
    by : ((c : Progress) × CheckFile body c.bytes c.problem c.found c.jobs) ⊎ ((why : CheckFault) × FirstCheckFault body why)
        → ((shards : List Progress) × AreRead bodies shards) ⊎ ((i : ℕ) × (why : CheckFault) × IsNoCheckpoint bodies i why)
        → ((shards : List Progress) × AreRead (body ∷ bodies) shards) ⊎ ((i : ℕ) × (why : CheckFault) × IsNoCheckpoint (body ∷ bodies) i why)
    by (inr none) later = inr (0, none.0, record { inside = omega arith; shards = []; before = tt; wrong = none.1 })
    by (inl one) (inl all) = inl (one.0 ∷ all.0, (one.1, all.1))
    by (inl one) (inr none) = inr (
      suc none.0,
      none.1,
      record { inside = omega (arith, none.2.inside); shards = one.0 ∷ none.2.shards; before = (one.1, none.2.before); wrong = none.2.wrong },
    )

-- lists are one, or there is a first place where they differ
differ_or_same : (one other : List ℕ) → (one ≡ other) ⊎ ((place : ℕ) × DifferFirstAt one other place)
differ_or_same [] [] = inl refl
differ_or_same [] (y ∷ ys) = inr (
  0,
  record {
    alike = refl;
    inside = omega arith;
    within = omega arith;
    more = inr (omega arith);
    differ = λ inside. absurd (omega (arith, inside));
  },
)
differ_or_same (x ∷ xs) [] = inr (
  0,
  record {
    alike = refl;
    inside = omega arith;
    within = omega arith;
    more = inl (omega arith);
    differ = λ inside within. absurd (omega (arith, within));
  },
)
differ_or_same (x ∷ xs) (y ∷ ys) = by (cases_eq x y) (differ_or_same xs ys)
  where
    by : (x ≡ y) ⊎ (x ≡ y → ⊥) → (xs ≡ ys) ⊎ ((place : ℕ) × DifferFirstAt xs ys place) → ((x ∷ xs) ≡ (y ∷ ys)) ⊎ ((place : ℕ) × DifferFirstAt (x ∷ xs) (y ∷ ys) place)
    by (inr differs) later = inr (0, record { alike = refl; inside = omega arith; within = omega arith; more = inl (omega arith); differ = λ _ _. differs })
    by (inl same) (inl all) = inl (ap (λ z. z ∷ xs) same ∙ ap (λ zs. y ∷ zs) all)
    by (inl same) (inr later) = inr (
      suc later.0,
      record {
        alike = ap (λ z. z ∷ take later.0 xs) same ∙ ap (λ zs. y ∷ zs) later.1.alike;
        inside = omega (arith, later.1.inside);
        within = omega (arith, later.1.within);
        more = elim later.1.more [ inl one ↦ inl (omega (arith, one)) | inr two ↦ inr (omega (arith, two)) ];
        differ = λ inside within. later.1.differ (omega (arith, inside)) (omega (arith, within));
      },
    )

module _ (shards : List Progress) where
  -- the first shards have the bytes of the first, or one is the first that has others
  files_upto : (n : ℕ) → n ≤ length shards → ((k : ℕ) → k < n → bytes_at shards k ≡ bytes_at shards 0) ⊎ ((i : ℕ) × (place : ℕ) × IsOtherProblem shards i place)
  files_upto zero few = inl (λ k below. absurd (omega (arith, below)))
  files_upto (suc n) few = by (files_upto n (omega (arith, few))) (differ_or_same (bytes_at shards 0) (bytes_at shards n))
    where
      by : ((k : ℕ) → k < n → bytes_at shards k ≡ bytes_at shards 0) ⊎ ((i : ℕ) × (place : ℕ) × IsOtherProblem shards i place)
          → (bytes_at shards 0 ≡ bytes_at shards n) ⊎ ((place : ℕ) × DifferFirstAt (bytes_at shards 0) (bytes_at shards n) place)
          → ((k : ℕ) → k < suc n → bytes_at shards k ≡ bytes_at shards 0) ⊎ ((i : ℕ) × (place : ℕ) × IsOtherProblem shards i place)
      by (inr found) here = inr found
      by (inl same) (inr differs) = inr (n, differs.0, record { inside = omega (arith, few); same = same; differ = differs.1 })
      by (inl same) (inl here) = inl (λ k below. elim (cases_eq k n) [
        | inl is ↦ ap (bytes_at shards) is ∙ sym here
        | inr other ↦ same k (omega (arith, below, other))
      ])

  one_file_or_other : AreOneFile shards ⊎ ((i : ℕ) × (place : ℕ) × IsOtherProblem shards i place)
  one_file_or_other = files_upto (length shards) (omega arith)

  module _ (p : ProblemParts) (blank : Progress) where
    abbrev overlap : ℕ → ℕ → Bool
    overlap i j = shards_overlap p (get_or shards i blank) (get_or shards j blank)

    -- the least of the first shards that overlaps one
    least_upto : (j n : ℕ) → ((k : ℕ) → k < n → overlap k j ≡ false) ⊎ ((i : ℕ) × (i < n) × (overlap i j ≡ true) × ((k : ℕ) → k < i → overlap k j ≡ false))
    least_upto j zero = inl (λ k below. absurd (omega (arith, below)))
    least_upto j (suc n) = by (least_upto j n) (cases_Bool (overlap n j))
      where
        by : ((k : ℕ) → k < n → overlap k j ≡ false) ⊎ ((i : ℕ) × (i < n) × (overlap i j ≡ true) × ((k : ℕ) → k < i → overlap k j ≡ false))
            → (overlap n j ≡ true) ⊎ (overlap n j ≡ false)
            → ((k : ℕ) → k < suc n → overlap k j ≡ false) ⊎ ((i : ℕ) × (i < suc n) × (overlap i j ≡ true) × ((k : ℕ) → k < i → overlap k j ≡ false))
        by (inr found) here = inr (found.0, omega (arith, found.1), found.2, found.3)
        by (inl none) (inl here) = inr (n, omega arith, here, none)
        by (inl none) (inr here) = inl (λ k below. elim (cases_eq k n) [
          | inl is ↦ ap (λ m. overlap m j) is ∙ here
          | inr other ↦ none k (omega (arith, below, other))
        ])

    -- with any default, within the shards
    any_default : (i j : ℕ) (d : Progress) → i < j → j < length shards → shards_overlap p (get_or shards i d) (get_or shards j d) ≡ overlap i j
    any_default i j d order inside =
        ap (λ c. shards_overlap p c (get_or shards j d)) (get_or_default shards i d blank (omega (arith, order, inside)))
        ∙ ap (shards_overlap p (get_or shards i blank)) (get_or_default shards j d blank inside)

    abbrev NoneUpto : ℕ → Type 0
    NoneUpto n = (k m : ℕ) → k < m → m < n → overlap k m ≡ false

    overlap_upto : (n : ℕ) → n ≤ length shards → NoneUpto n ⊎ ((i : ℕ) × (j : ℕ) × IsOverlap p shards i j)
    overlap_upto zero few = inl (λ k m order below. absurd (omega (arith, below)))
    overlap_upto (suc n) few = by (overlap_upto n (omega (arith, few))) (least_upto n n)
      where
        by : NoneUpto n ⊎ ((i : ℕ) × (j : ℕ) × IsOverlap p shards i j)
            → ((k : ℕ) → k < n → overlap k n ≡ false) ⊎ ((i : ℕ) × (i < n) × (overlap i n ≡ true) × ((k : ℕ) → k < i → overlap k n ≡ false))
            → NoneUpto (suc n) ⊎ ((i : ℕ) × (j : ℕ) × IsOverlap p shards i j)
        by (inr found) here = inr found
        by (inl none) (inr found) = inr (
          found.0,
          n,
          record {
            order = found.1;
            inside = omega (arith, few);
            overlap = λ d. any_default found.0 n d found.1 (omega (arith, few)) ∙ found.2;
            apart = λ k m d order below. any_default k m d order (omega (arith, below, few)) ∙ none k m order below;
            least = λ k d below. any_default k n d (omega (arith, below, found.1)) (omega (arith, few)) ∙ found.3 k below;
          },
        )
        by (inl none) (inl here) = inl (λ k m order below. elim (cases_eq m n) [
          | inl is ↦ ap (overlap k) is ∙ here k (omega (arith, order, is))
          | inr other ↦ none k m order (omega (arith, below, other))
        ])

    overlap_or_none : NoneOverlap p shards ⊎ ((i : ℕ) × (j : ℕ) × IsOverlap p shards i j)
    overlap_or_none = elim (overlap_upto (length shards) (omega arith)) [
      | inl none ↦ inl (λ i j d order inside. any_default i j d order inside ∙ none i j order inside)
      | inr found ↦ inr found
    ]

module _ (some : SomeCheck) (one : OneProblem) (text : List ℕ) where
  abbrev Answered : Type 0
  Answered = ((joined : List ℕ) × IsJoin text joined) ⊎ ((why : JoinFault) × FirstJoinFault text why)

  -- of shards no two of which overlap
  joined_apart : (bodies : List (List ℕ)) (shards : List Progress) (bytes : List ℕ) (p : ProblemParts) → HasBodies text bodies → AreRead bodies shards
      → AreOfOne bytes p shards → NoneOverlap p shards → Answered
  joined_apart bodies shards bytes p has read of_one apart =
      let sorted = sorted_of (book_order p) (book_order_total p).antisymm (all_found shards) in
      inl (
        checkpoint_text p bytes sorted.0 (all_jobs shards),
        record {
          bodies = bodies;
          has = has;
          shards = shards;
          read = read;
          bytes = bytes;
          p = p;
          joined_is = is_joined_of p bytes shards (read_can_meet bytes p bodies shards read of_one) apart of_one sorted.0 (all_jobs shards)
              sorted.1 sorted.2 refl (checkpoint_text p bytes sorted.0 (all_jobs shards)) refl;
          apart = apart;
        },
      )

  of_shards : (bodies : List (List ℕ)) (shards : List Progress) → HasBodies text bodies → AreRead bodies shards → (first : Progress) → 0 < length shards
      → AreOneFile shards ⊎ ((i : ℕ) × (place : ℕ) × IsOtherProblem shards i place) → Answered
  of_shards bodies shards has read first inside (inr other) =
      inr (fault.OtherProblem other.0 other.1, (shards, record { bodies = bodies; has = has; read = read }, other.2))
  of_shards bodies shards has read first inside (inl same) =
      let bytes = bytes_at shards 0 in
      let p = (get_or shards 0 first).problem in
      let of_one : AreOfOne bytes p shards = of_one_file one shards first inside (shards_held bodies shards read) same in
      elim (overlap_or_none shards p first) [
        | inl apart ↦ joined_apart bodies shards bytes p has read of_one apart
        | inr found ↦ inr (
          fault.Overlap found.0 found.1,
          (shards, bytes, p, record { bodies = bodies; has = has; read = read }, of_one, found.2),
        )
      ]

  first_of : (shards : List Progress) → 0 < length shards → Progress
  first_of [] inside = absurd (omega (arith, inside))
  first_of (c ∷ shards) inside = c

  of_bodies : (bodies : List (List ℕ)) → HasBodies text bodies → Answered
  of_bodies bodies has = elim (read_or_fault some bodies) [
    | inl all ↦
        let inside : 0 < length all.0 = omega (arith, has.some, read_many bodies all.0 all.1) in
        of_shards bodies all.0 has all.1 (first_of all.0 inside) inside (one_file_or_other all.0)
    | inr none ↦ inr (fault.Check none.0 none.1, (bodies, has, none.2))
  ]

  of_blocks : (bodies : List (List ℕ)) → AreBodies text bodies → Answered
  of_blocks bodies are = by (cases_lt 0 (length bodies)) (cases_lt most_shards (length bodies))
    where
      by : (0 < length bodies) ⊎ (length bodies ≤ 0) → (most_shards < length bodies) ⊎ (length bodies ≤ most_shards) → Answered
      by (inr none) few = inr (fault.Blocks (length bodies), record { bodies = bodies; are = are; number_is = refl; wrong = inl (omega (arith, none)) })
      by (inl inside) (inl many) = inr (fault.Blocks (length bodies), record { bodies = bodies; are = are; number_is = refl; wrong = inr many })
      by (inl inside) (inr few) = of_bodies bodies (record { are = are; some = inside; few = few })

  pub some_answer : Answered
  some_answer = elim (bodies_or_form text) [
    | inl all ↦ of_blocks all.0 all.1
    | inr none ↦ inr (fault.Form none.0, none.1)
  ]
