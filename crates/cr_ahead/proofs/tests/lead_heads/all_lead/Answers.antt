use Rattle.std.proofs.Common.{◌≡◌, ℕ, ◌+◌, ◌*◌, ◌/◌, ◌%◌, ◌<◌, List, [], length, get_or, sym, ap, ◌∙◌, arith}
use Rattle.std.proofs.lemmas.List.{get_or_default}
use Rattle.std.proofs.lemmas.List.Elements.{All-get_or}
use Rattle.std.proofs.lemmas.Nat.{div_below}
use Rattle.cr_model.specs.Callings.{changes_of}
use Rattle.cr_model.specs.Levels.{head_from}
use Rattle.cr_leads.specs.Tables.{leads_counted}
use Rattle.cr_ahead.proofs.HeadMoves.{LeadsRight, some_steps, one_leads, all_led}
use Rattle.cr_ahead.proofs.tests.lead_heads.all_lead.Goals as goal

pub loop-entry-preserved : goal.loop-entry-preserved
loop-entry-preserved c = λ k low p is.
    let heads : List (List ℕ) = c.args.heads.now in
    let next : List ℕ = c.args.next.now in
    let steps : ℕ = c.from-steps.result in
    let entry : ℕ = c.loop-entry.entry in
    let counted : length next ≡ length heads * steps = c.requires.counted ∙ ap (λ (n : ℕ). length heads * n) (sym (c.from-steps.ensures ∙ c.count.ensures.is)) in
    let inside : entry < length next = omega (arith, c.loop-entry-test.true, c.loop-entry.auto.entry-end) in
    let within : entry < length heads * steps = omega (arith, inside, counted) in
    let place : entry / steps < length heads = div_below entry steps (length heads) (some_steps (length heads) steps entry within) within in
    let there : get_or next entry 0 < length heads = All-get_or (λ n. n < length heads) next entry 0 inside c.requires.there in
    let from : c.index-heads-entry.result ≡ get_or heads (entry / steps) [] = c.index-heads-entry.is ∙ get_or_default heads (entry / steps) c.index-heads-entry.result [] place in
    let to : c.index-heads-next.result ≡ get_or heads (get_or next entry 0) [] = c.index-heads-next.is ∙ get_or_default heads (get_or next entry 0) c.index-heads-next.result [] there in
    one_leads p heads next steps entry k (λ i before. c.loop-entry.invariant i before p is)
    (sym to ∙ c.leads_to.ensures c.if-not-leads_to.false p is ∙ ap (λ (row : List ℕ). head_from row (changes_of p (entry % steps))) from) low

pub returns : goal.returns
returns c = λ yes p is place step inside known.
    all_led p c.args.heads.now c.args.next.now c.from-steps.result
    (sym (leads_counted c.args.leads.now p is) ∙ sym (c.from-steps.ensures ∙ c.count.ensures.is))
    (c.requires.counted ∙ ap (λ (n : ℕ). length c.args.heads.now * n) (sym (c.from-steps.ensures ∙ c.count.ensures.is)))
    (λ k within. c.loop-entry.invariant k (omega (arith, within, c.loop-entry-test.false, c.loop-entry.auto.entry-end)) p is) place step inside known
