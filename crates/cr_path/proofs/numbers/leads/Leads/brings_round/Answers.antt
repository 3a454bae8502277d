use Rattle.std.proofs.Common.{◌≡◌, ◌-◌, ◌∙◌, Bool, true, false, ◌&&◌, ◌||◌, nat_lt, length, take, drop, refl, sym, ap}
use Rattle.cr_model.specs.Problems.{ProblemParts}
use Rattle.cr_model.specs.Dead.{parts_of}
use Rattle.cr_model.specs.Levels.{is_listed}
use Rattle.cr_path.proofs.Rounds.{told_early}
use Rattle.cr_path.proofs.numbers.leads.Leads.brings_round.Goals as goal

one : (a b : Bool) → a ≡ true → a ≡ (a || b)
one a b some = some ∙ sym (ap (λ (c : Bool). c || b) some)

none_but_one : (a b c : Bool) → a ≡ false → b ≡ true → c ≡ (a || (b && c))
none_but_one a b c none some = sym (ap (λ (d : Bool). d || (b && c)) none ∙ ap (λ (d : Bool). d && c) some)

neither : (a b c : Bool) → a ≡ false → b ≡ false → b ≡ (a || (b && c))
neither a b c none nor = nor ∙ sym (ap (λ (d : Bool). d || (b && c)) none ∙ ap (λ (d : Bool). d && c) nor)

pub returns-then-has_row : goal.returns-then-has_row
returns-then-has_row c head reached undoes =
    let rows = c.rows_of-rows.result.now in
    let last = c.saturating_sub-last.result in
    let there = is_listed (take (length rows - last) (drop last rows)) c.args.inverse.now in
    one c.has_row.result _ c.if-has_row.true
    ∙ told_early c.args.self.now head c.args.inverse.now reached undoes c.args.step rows last c.has_row.result there c.rows_of-rows.ensures.is c.saturating_sub-last.ensures c.has_row.ensures refl

pub returns-then-has_row-2 : goal.returns-then-has_row-2
returns-then-has_row-2 c head reached undoes =
    let p = c.args.self.now in
    let rows = c.rows_of-rows.result.now in
    let last = c.saturating_sub-last.result in
    c.self.invariant.2.several ∙ ap (λ (q : ProblemParts). nat_lt 1 (parts_of q)) c.self.view_is
    ∙ none_but_one c.has_row.result c.has_row-else-has_row.result (nat_lt 1 (parts_of p)) c.if-has_row.false c.if-has_row-2.true
    ∙ told_early p head c.args.inverse.now reached undoes c.args.step rows last c.has_row.result c.has_row-else-has_row.result c.rows_of-rows.ensures.is c.saturating_sub-last.ensures
    c.has_row.ensures c.has_row-else-has_row.ensures

pub returns-else-has_row-2 : goal.returns-else-has_row-2
returns-else-has_row-2 c head reached undoes =
    let rows = c.rows_of-rows.result.now in
    let last = c.saturating_sub-last.result in
    neither c.has_row.result c.has_row-else-has_row.result _ c.if-has_row.false c.if-has_row-2.false
    ∙ told_early c.args.self.now head c.args.inverse.now reached undoes c.args.step rows last c.has_row.result c.has_row-else-has_row.result c.rows_of-rows.ensures.is c.saturating_sub-last.ensures
    c.has_row.ensures c.has_row-else-has_row.ensures
