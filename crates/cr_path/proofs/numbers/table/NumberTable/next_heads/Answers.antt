use Rattle.std.proofs.Common.{◌≡◌, ◌∙◌, List, map, sym, ap, subst}
use Rattle.std.proofs.lemmas.Result.{IfOk-weaker}
use Rattle.cr_path.specs.declared.numbers.table.LeadRecord.{LeadRecord}
use Rattle.cr_path.specs.Numbers.{NumberParts, next_head, IsNumbered, AreNextHeads}
use Rattle.cr_path.proofs.NextHeads.{next_heads_are}
use Rattle.cr_path.proofs.numbers.table.NumberTable.next_heads.Goals as goal

pub next_heads_of-requires : goal.next_heads_of-requires
next_heads_of-requires c = c.self.invariant.some

pub returns : goal.returns
returns c =
    let e = c.self.inside in
    IfOk-weaker c.next_heads_of.result _ _ (λ next is p numbered.
    let here = next_heads_are p _ c.self.invariant (subst (IsNumbered p) (sym c.self.view_is) numbered) in
    let are : next.items ≡ map (next_head e.steps) e.records.items = is ∙ ap (λ (leads : List LeadRecord). map (next_head e.steps) leads) c.deref.ensures.value in
    subst (λ (t : NumberParts). AreNextHeads p t.heads next.items) c.self.view_is (subst (AreNextHeads p e.heads.items) (sym are) here)) c.next_heads_of.ensures
