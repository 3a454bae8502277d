use Rattle.std.proofs.Common.{◌≡◌, ◌<◌, ℕ, List, [], length, vec_len, All, sym, ap, subst, ◌∙◌}
use Rattle.std.proofs.lemmas.List.{length-map}
use Rattle.std.proofs.lemmas.List.Elements.{All-weaker}
use Rattle.cr_lanes.specs.Ends.{EndParts, LaneName, IsNewEnd}
use Rattle.cr_run.specs.HintsKey.{hints_key, end_key}
use Rattle.cr_run.proofs.Returning.{within, as_long, names_back, thieves_back, lent_back, gone_back, as_many}
use Rattle.cr_run.proofs.workers.at_desk.Goals as goal

pub hints_of-requires-clause-lanes : goal.hints_of-requires-clause-lanes
hints_of-requires-clause-lanes g c =
    subst (λ (n : ℕ). All (λ e. e.lane < n) c.in_ok-lanes.ends.items) (sym c.in_ok-lanes.ensures.lanes)
    (within c.in_ok-lanes.ends.items c.workers-workers.result c.in_ok-lanes.ensures.numbers)

pub hinted-requires-clause-count : goal.hinted-requires-clause-count
hinted-requires-clause-count g c =
    let ends : length c.in_ok-lanes.ends.items ≡ c.workers-workers.result =
    sym (length-map c.in_ok-lanes.ends.items (λ (e : EndParts). e.name)) ∙ ap (λ (l : List LaneName). length l) c.in_ok-lanes.ensures.ends ∙ c.in_ok-lanes.ensures.lanes in
    let hints = as_long hints_key (end_key c.in_ok-lanes.lanes) c.in_ok-hints.hints.items c.in_ok-lanes.ends.items c.in_ok-hints.ensures in
    let seats : length c.in_ok-desk.seats.items ≡ c.workers-workers.result = sym c.in_ok-desk.seats.ok.0 ∙ c.in_ok-desk.ensures.count ∙ sym (c.workers-workers.ensures.is ∙ ap (λ o. o.workers) c.opening.ensures.is) in
    seats ∙ sym (hints ∙ ends)

pub close-requires-clause-ends : goal.close-requires-clause-ends
close-requires-clause-ends g c =
    let made = c.in_ok-places.ensures.keys ∙ c.in_ok-hints.ensures in
    names_back c.in_ok-lanes.lanes c.in_ok-lanes.ends.items c.in_ok-seats.ends.items c.in_ok-seats.thieves.items _ made c.in_ok-seats.ensures.ends c.in_ok-seats.ensures.thieves c.in_ok-lanes.ensures.ends

pub close-requires-clause-thieves : goal.close-requires-clause-thieves
close-requires-clause-thieves g c =
    let made = c.in_ok-places.ensures.keys ∙ c.in_ok-hints.ensures in
    thieves_back c.in_ok-lanes.lanes c.in_ok-lanes.ends.items c.in_ok-seats.ends.items c.in_ok-seats.thieves.items _ made c.in_ok-seats.ensures.ends c.in_ok-seats.ensures.thieves

pub close-requires-clause-all : goal.close-requires-clause-all
close-requires-clause-all g c =
    let made = c.in_ok-places.ensures.keys ∙ c.in_ok-hints.ensures in
    let many : vec_len c.in_ok-seats.thieves ≡ c.workers-workers.result =
    c.in_ok-seats.thieves.ok.0
    ∙ as_many c.in_ok-lanes.lanes c.in_ok-lanes.ends.items c.in_ok-seats.ends.items c.in_ok-seats.thieves.items _ made c.in_ok-seats.ensures.ends c.in_ok-seats.ensures.thieves
    ∙ sym (length-map c.in_ok-lanes.ends.items (λ (e : EndParts). e.name)) ∙ ap (λ (l : List LaneName). length l) c.in_ok-lanes.ensures.ends ∙ c.in_ok-lanes.ensures.lanes in
    subst (λ (n : ℕ). All (λ e. e.lent ≡ n) c.in_ok-seats.ends.items) (sym many)
    (lent_back c.in_ok-lanes.lanes c.in_ok-lanes.ends.items c.in_ok-seats.ends.items c.in_ok-seats.thieves.items _ made c.in_ok-seats.ensures.ends c.in_ok-seats.ensures.thieves c.workers-workers.result
    (All-weaker (IsNewEnd c.args.room c.workers-workers.result) (λ (e : EndParts). e.lent ≡ c.workers-workers.result) (λ e h. h.lent_is) c.in_ok-lanes.ends.items c.in_ok-lanes.ensures.new))

pub close-requires-clause-none : goal.close-requires-clause-none
close-requires-clause-none g c =
    let made = c.in_ok-places.ensures.keys ∙ c.in_ok-hints.ensures in
    gone_back c.in_ok-lanes.lanes c.in_ok-lanes.ends.items c.in_ok-seats.ends.items c.in_ok-seats.thieves.items _ made c.in_ok-seats.ensures.ends c.in_ok-seats.ensures.thieves
    (All-weaker (IsNewEnd c.args.room c.workers-workers.result) (λ (e : EndParts). e.gone ≡ []) (λ e h. h.gone_is) c.in_ok-lanes.ends.items c.in_ok-lanes.ensures.new)
