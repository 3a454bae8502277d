-- Rows that are laid one lead's after another's.
use Rattle.std.proofs.Common.{◌≡◌, ℕ, ◌≤◌, List, [], ◌∷◌, ◌++◌, length, drop, refl, sym, ap, ap₂, ◌∙◌, arith}
use Rattle.std.specs.List.{between}
use Rattle.std.proofs.Math.Seq.{drop-append_seam}
use Rattle.std.proofs.lemmas.List.{map-append, take-append-le}
use Rattle.std.proofs.lemmas.List.Elements.{All-head, All-tail}
use Rattle.std.proofs.lemmas.Slice.{between_is, between_to_end}
use Rattle.cr_leads.specs.declared.table.Span.{Span}
use Rattle.cr_leads.specs.Spans.{rows_at, leads_in, IsInside, AreInside}

-- a span keeps its rows while others are appended
span_kept : (rows more : List (List ℕ)) (i j : ℕ) → j ≤ length rows → between i j (rows ++ more) ≡ between i j rows
span_kept rows more i j h = between_is (rows ++ more) i j ∙ ap (drop i) (take-append-le j rows more h) ∙ sym (between_is rows i j)

spans_kept : (rows more : List (List ℕ)) (spans : List Span) → AreInside rows spans
    → leads_in (rows ++ more) spans ≡ leads_in rows spans
spans_kept rows more [] within = refl
spans_kept rows more (span ∷ spans) within =
    ap₂ (λ lead leads. lead ∷ leads)
    (span_kept rows more span.start span.end (All-head (IsInside (length rows)) span spans within).end)
    (spans_kept rows more spans (All-tail (IsInside (length rows)) span spans within))

-- the rows appended last stand at the span from where they begin
last_span : (rows more : List (List ℕ)) (i j : ℕ) → i ≡ length rows → length (rows ++ more) ≤ j
    → between i j (rows ++ more) ≡ more
last_span rows more i j at end =
    ap (λ k. between k j (rows ++ more)) at
    ∙ between_to_end (rows ++ more) (length rows) j end
    ∙ drop-append_seam rows more

-- one more lead
pub leads_more : (rows more : List (List ℕ)) (spans : List Span) (span : Span) (now : List (List ℕ)) (spans_now : List Span)
    → now ≡ rows ++ more → spans_now ≡ spans ++ span ∷ [] → AreInside rows spans
    → span.start ≡ length rows → span.end ≡ length now
    → leads_in now spans_now ≡ leads_in rows spans ++ more ∷ []
leads_more rows more spans span now spans_now is spans_is within start end =
    let whole : length (rows ++ more) ≤ span.end = (let e : span.end ≡ length (rows ++ more) = end ∙ ap length is in omega (arith, e)) in
    ap₂ leads_in is spans_is
    ∙ map-append (rows_at (rows ++ more)) spans (span ∷ [])
    ∙ ap₂ (λ leads lead. leads ++ lead ∷ []) (spans_kept rows more spans within) (last_span rows more span.start span.end start whole)
