use Rattle.std.proofs.Common.{◌≡◌, ℕ, ◌+◌, ◌-◌, ◌*◌, ◌≤◌, ◌∙◌, List, [], ◌∷◌, ◌++◌, length, drop, replicate, refl, ap, subst, arith}
use Rattle.cr_row.specs.Rows.{rounds}
use Rattle.cr_rowset.specs.Stacks.{StackParts}
use Rattle.cr_reach.specs.Spreading.{products, IsGrown, IsWhole}
use Rattle.cr_reach.proofs.Listing.{first_listed, listed_more, whole_table, none_further}
use Rattle.cr_reach.proofs.table.list_levels.Goals as goal

pub loop-start-init : goal.loop-start-init
loop-start-init c =
    first_listed c.args.leads.now c.args.most_rows 0 0 c.in_ok-rows.rows c.push.new.self c.rounds.result c.push.result c.push-2.new.self.items
    c.requires.some c.in_ok-rows.ensures.is c.push.ensures
    (c.rounds.ensures.is ∙ ap rounds c.stage.ensures.is) (c.rounds.ensures.same_stage ∙ c.stage.ensures.is)
    (c.in_ok-push.ensures.items ∙ ap (λ (xs : List ℕ). xs ++ 0 ∷ []) c.new-levels.ensures.items) refl refl

pub loop-start-preserved : goal.loop-start-preserved
loop-start-preserved c =
    let old = c.loop-start.rows in
    let new = c.push_level.new.rows in
    let start = c.loop-start.start in
    let levels = c.loop-start.levels.items in
    let next = c.loop-start.depth + 1 in
    let begins : c.len-start.result ≡ length levels = omega (arith, c.len-start.ensures, c.loop-start.levels.ok.0) in
    listed_more c.product_of_rows.ensures.same_length c.args.leads.now c.in_ok-inverses.inverses.items c.args.most_rows c.loop-start.depth next start
    c.len-start.result old new levels c.fill.new.levels.items c.in_ok-inverses.ensures.back c.in_ok-inverses.ensures.staged c.loop-start.invariant
    (subst (λ (xs : List (List ℕ)). IsGrown old (products xs (drop start old.rows)) new) c.deref.ensures.value c.loop-start-test.ensures)
    refl begins
    (c.in_ok-fill.ensures ∙ ap (λ (n : ℕ). levels ++ replicate (n - length levels) next) c.len.ensures.is)

pub returns-clause-table : goal.returns-clause-table
returns-clause-table c = λ p table_is.
    let old = c.loop-start.rows in
    let new = c.push_level.new.rows in
    let start = c.loop-start.start in
    ap (λ (rows : List (List ℕ)). record { depth = c.loop-start.depth; rows = rows; levels = c.loop-start.levels.items }) c.in_ok-fitted.ensures
    ∙ whole_table c.the_depth_is_greatest.ensures.room c.the_depth_is_greatest.ensures.greatest c.args.leads.now c.in_ok-inverses.inverses.items
    c.args.most_rows c.loop-start.depth start old new c.loop-start.levels.items c.requires.some c.in_ok-inverses.ensures.back c.loop-start.invariant
    (subst (λ (xs : List (List ℕ)). IsWhole old (products xs (drop start old.rows)) new) c.deref.ensures.value c.loop-start-test.ensures) p table_is

pub returns-clause-all : goal.returns-clause-all
returns-clause-all c = λ roomy p table_is.
    let old = c.loop-start.rows in
    let new = c.push_level.new.rows in
    let start = c.loop-start.start in
    let whole = subst (λ (xs : List (List ℕ)). IsWhole old (products xs (drop start old.rows)) new) c.deref.ensures.value c.loop-start-test.ensures in
    none_further c.the_depth_is_greatest.ensures.room c.the_depth_is_greatest.ensures.greatest c.args.leads.now c.in_ok-inverses.inverses.items
    c.args.most_rows c.loop-start.depth start old new c.loop-start.levels.items c.requires.some c.in_ok-inverses.ensures.back c.loop-start.invariant whole p table_is
    (subst (λ (old : List (List ℕ)). length old + (length old - start) * length p.leads ≤ c.args.most_rows) (ap (λ (s : StackParts). s.rows) whole.same)
    (subst (λ (n : ℕ). n + (n - start) * length p.leads ≤ c.args.most_rows) c.len-number.ensures.is
    (subst (λ (n : ℕ). c.len-number.result + (c.len-number.result - start) * n ≤ c.args.most_rows) (c.count-steps.ensures.of_problem p table_is)
    (c.has_room_for_all-is_all.ensures roomy))))
