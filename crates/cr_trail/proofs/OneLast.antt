-- A text has one last whole body, or one reason why it has none.
use Rattle.std.proofs.Common.{◌≡◌, ℕ, zero, suc, ◌+◌, ◌<◌, ◌⊎◌, inl, inr, List, [], ◌∷◌, ◌++◌, length, get_or, take, drop, Result, Ok, Err, refl, sym, ap, ap₂, ◌∙◌, subst, arith}
use Rattle.std.proofs.Common.{length-append, append_assoc}
use Rattle.std.specs.Prelude.{All}
use Rattle.std.proofs.lemmas.List.Elements.{All-push}
use Rattle.std.proofs.Math.Seq.{take-append_seam, drop-append_seam, get_or-append_seam}
use Rattle.cr_store.specs.Blocks.{block, blocks, IsBody, IsTorn, Begins, IsNext}
use Rattle.cr_store.specs.declared.blocks.Next.TheVariants as next
use Rattle.cr_trail.specs.Lasts.{IsOver, IsLastBody, IsWrongBehind, IsLast, place_of}
use Rattle.cr_trail.specs.declared.last.TrailFault.{TrailFault}
use Rattle.cr_trail.specs.declared.last.TrailFault.TheVariants as fault
use Rattle.cr_trail.proofs.Cutting.{OneAnswer, one_body, over_unbegun, blocks_more}

-- no whole block begins here
abbrev Unbegun : List ℕ → Type 0
Unbegun rest = (body : List ℕ) → Begins rest body → ⊥

-- the front of blocks, and what is behind it
abbrev begun : (text b rest : List ℕ) (bs : List (List ℕ)) → IsBody b → text ≡ blocks (b ∷ bs) ++ rest → Begins text b
begun text b rest bs size is = record { size = size; rest = blocks bs ++ rest; is = is ∙ append_assoc (block b) (blocks bs) rest }

abbrev Parsed : List ℕ → List (List ℕ) → List ℕ → Type 0
Parsed text bodies rest = (text ≡ blocks bodies ++ rest) × All IsBody bodies × Unbegun rest

module _ (law : OneAnswer) where
  -- a text is read as blocks in one way
  one_parse : (bs cs : List (List ℕ)) (r s : List ℕ) → All IsBody bs → All IsBody cs → Unbegun r → Unbegun s
      → blocks bs ++ r ≡ blocks cs ++ s → (bs ≡ cs) × (r ≡ s)
  one_parse [] [] r s b_are c_are r_none s_none same = (refl, same)
  one_parse [] (c ∷ cs) r s b_are c_are r_none s_none same = absurd (r_none c (begun r c s cs (c_are 0 [] (omega arith)) same))
  one_parse (b ∷ bs) [] r s b_are c_are r_none s_none same = absurd (s_none b (begun s b r bs (b_are 0 [] (omega arith)) (sym same)))
  one_parse (b ∷ bs) (c ∷ cs) r s b_are c_are r_none s_none same =
      let both = one_body law b c (blocks bs ++ r) (blocks cs ++ s) (b_are 0 [] (omega arith)) (c_are 0 [] (omega arith))
      (sym (append_assoc (block b) (blocks bs) r) ∙ same ∙ append_assoc (block c) (blocks cs) s) in
      let rest = one_parse bs cs r s (λ k d within. b_are (suc k) d (omega (arith, within))) (λ k d within. c_are (suc k) d (omega (arith, within)))
      r_none s_none both.1 in
      (ap₂ (λ z zs. z ∷ zs) both.0 rest.0, rest.1)

  parses : (text : List ℕ) (bs cs : List (List ℕ)) (r s : List ℕ) → Parsed text bs r → Parsed text cs s → (bs ≡ cs) × (r ≡ s)
  parses text bs cs r s one other = one_parse bs cs r s one.1 other.1 one.2 other.2 (sym one.0 ∙ other.0)

  module _ (text : List ℕ) where
    -- what is behind the whole blocks, at its place
    left : (bodies : List (List ℕ)) (rest : List ℕ) → text ≡ blocks bodies ++ rest → drop (length (blocks bodies)) text ≡ rest
    left bodies rest is = ap (drop (length (blocks bodies))) is ∙ drop-append_seam (blocks bodies) rest

    wrong_unbegun : (place : ℕ) (wrong : IsWrongBehind text place) → Unbegun wrong.rest
    wrong_unbegun place wrong body begins =
        let same : next.Block (place_of (length (blocks wrong.before)) body) (length body) ≡ next.Form place =
        law text (length (blocks wrong.before)) _ (next.Form place)
        (body, subst (λ t. Begins t body) (sym (left wrong.before wrong.rest wrong.is)) begins, refl, refl) wrong.wrong in
        absurd (cc)

    wrong_not_over : (place : ℕ) (wrong : IsWrongBehind text place) → IsOver wrong.rest → ⊥
    wrong_not_over place wrong (inl none) =
        omega (arith, ap length wrong.is, length-append (blocks wrong.before) wrong.rest, ap length none, wrong.wrong.0, wrong.wrong.1)
    wrong_not_over place wrong (inr torn) =
        let same : next.Torn ≡ next.Form place = law text (length (blocks wrong.before)) next.Torn (next.Form place) (
          omega (arith, ap length wrong.is, length-append (blocks wrong.before) wrong.rest, torn.0),
          subst IsTorn (sym (left wrong.before wrong.rest wrong.is)) torn.1,
        ) wrong.wrong in
        absurd (cc)

    -- how each answer reads the text
    whole : (place size : ℕ) (last : IsLastBody text place size) → Parsed text (last.before ++ last.body ∷ []) last.rest
    whole place size last = (
      last.is ∙ sym (append_assoc (blocks last.before) (block last.body) last.rest) ∙ ap (λ t. t ++ last.rest) (sym (blocks_more last.before last.body)),
      All-push IsBody last.before last.body last.are last.is_body,
      λ body. over_unbegun law last.rest body last.over,
    )

    behind : (place : ℕ) (wrong : IsWrongBehind text place) → Parsed text wrong.before wrong.rest
    behind place wrong = (wrong.is, wrong.are, wrong_unbegun place wrong)

    over : IsOver text → Parsed text [] text
    over is = (refl, λ k d within. absurd (omega (arith, within)), λ body. over_unbegun law text body is)

    -- each two answers are one
    last_last : (place size other most : ℕ) → IsLastBody text place size → IsLastBody text other most → (place ≡ other) × (size ≡ most)
    last_last place size other most one two = (
      one.place_is ∙ ap₂ (λ b z. place_of (length (blocks b)) z) fronts bodies ∙ sym two.place_is,
      one.size_is ∙ ap length bodies ∙ sym two.size_is,
    )
      where
        same : (one.before ++ one.body ∷ []) ≡ (two.before ++ two.body ∷ [])
        same = (parses text (one.before ++ one.body ∷ []) (two.before ++ two.body ∷ []) one.rest two.rest (whole place size one) (whole other most two)).0

        counts : length one.before ≡ length two.before
        counts = omega (arith, ap length same, length-append one.before (one.body ∷ []), length-append two.before (two.body ∷ []))

        fronts : one.before ≡ two.before
        fronts = sym (take-append_seam one.before (one.body ∷ [])) ∙ ap (take (length one.before)) same
            ∙ ap (λ n. take n (two.before ++ two.body ∷ [])) counts ∙ take-append_seam two.before (two.body ∷ [])

        bodies : one.body ≡ two.body
        bodies = sym (get_or-append_seam one.before one.body [] []) ∙ ap (λ xs. get_or xs (length one.before) []) same
            ∙ ap (λ n. get_or (two.before ++ two.body ∷ []) n []) counts ∙ get_or-append_seam two.before two.body [] []

    last_over : (place size : ℕ) → IsLastBody text place size → IsOver text → ⊥
    last_over place size last none =
        omega (
          arith,
          ap length (parses text (last.before ++ last.body ∷ []) [] last.rest text (whole place size last) (over none)).0,
          length-append last.before (last.body ∷ []),
        )

    last_wrong : (place size at : ℕ) → IsLastBody text place size → IsWrongBehind text at → ⊥
    last_wrong place size at last wrong =
        wrong_not_over at wrong
        (subst IsOver (parses text (last.before ++ last.body ∷ []) wrong.before last.rest wrong.rest (whole place size last) (behind at wrong)).1 last.over)

    over_wrong : (at : ℕ) → IsOver text → IsWrongBehind text at → ⊥
    over_wrong at none wrong =
        wrong_not_over at wrong (subst IsOver (parses text [] wrong.before text wrong.rest (over none) (behind at wrong)).1 none)

    wrong_wrong : (at other : ℕ) → IsWrongBehind text at → IsWrongBehind text other → at ≡ other
    wrong_wrong at other one two =
        let same : next.Form at ≡ next.Form other = law text (length (blocks two.before)) (next.Form at) (next.Form other)
        (subst (λ bs. IsNext text (length (blocks bs)) (next.Form at))
        (parses text one.before two.before one.rest two.rest (behind at one) (behind other two)).0 one.wrong) two.wrong in
        cc

abbrev told : ℕ → ℕ → Result (ℕ × ℕ) TrailFault
told place size = Ok (place, size)

abbrev wrong_at : ℕ → Result (ℕ × ℕ) TrailFault
wrong_at place = Err (fault.Form place)

pub one_last : OneAnswer → (text : List ℕ) (one other : Result (ℕ × ℕ) TrailFault) → IsLast text one → IsLast text other → one ≡ other
one_last law text (Ok one) (Ok other) is also =
    let same = last_last law text one.0 one.1 other.0 other.1 is also in ap₂ told same.0 same.1
one_last law text (Ok one) (Err fault.Nothing) is also = absurd (last_over law text one.0 one.1 is also)
one_last law text (Ok one) (Err (fault.Form at)) is also = absurd (last_wrong law text one.0 one.1 at is also)
one_last law text (Err fault.Nothing) (Ok other) is also = absurd (last_over law text other.0 other.1 also is)
one_last law text (Err fault.Nothing) (Err fault.Nothing) is also = refl
one_last law text (Err fault.Nothing) (Err (fault.Form at)) is also = absurd (over_wrong law text at is also)
one_last law text (Err (fault.Form at)) (Ok other) is also = absurd (last_wrong law text other.0 other.1 at also is)
one_last law text (Err (fault.Form at)) (Err fault.Nothing) is also = absurd (over_wrong law text at also is)
one_last law text (Err (fault.Form at)) (Err (fault.Form place)) is also = ap wrong_at (wrong_wrong law text at place is also)
