use Rattle.std.proofs.Common.{◌≡◌, Some, ◌∙◌}
use Rattle.std.proofs.lemmas.List.Elements.{All-same, All-push, All-pop}
use Rattle.cr_hunter.proofs.together.work_last.Goals as goal

pub returns-clause-one : goal.returns-clause-one
returns-clause-one g c =
    let rest = All-pop (λ s. s.share.parts ≡ 1) c.args.seats.now.items _ (Some _) c.in-Some.ensures.items c.requires.one in
    All-same (λ s. s.share.parts ≡ 1) _ _ c.in_ok-push.ensures.items
    (All-push (λ s. s.share.parts ≡ 1) _ _ rest.0 (c.work_by.ensures.parts ∙ rest.1))
