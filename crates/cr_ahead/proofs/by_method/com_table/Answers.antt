-- Its limits are those of the query.
use Rattle.std.proofs.Common.{◌≡◌, ℕ, List, Option, Some, None, sym, subst, arith}
use Rattle.cr_model.specs.declared.query.Com.{Com}
use Rattle.cr_model.specs.Problems.{ProblemParts}
use Rattle.cr_ahead.specs.declared.outlook.ItemTable.{ItemTable}
use Rattle.cr_ahead.specs.Exact.{exact_com}
use Rattle.cr_ahead.specs.Outlooks.{IsTableByMethod, IsLimitTable, IsComTable}
use Rattle.cr_ahead.proofs.ByMethod.{one_part}
use Rattle.cr_ahead.proofs.by_method.com_table.Goals as goal

pub table_by_method-requires-clause-one : goal.table_by_method-requires-clause-one
table_by_method-requires-clause-one c = one_part c.args.problem.now c.in-Some.limits (sym c.in-Some.ensures)

some_limit : (p : ProblemParts) (heads : List (List ℕ)) (unit : ℕ) (limit : Option Com) (limits : Com) {of_item : ItemTable} → Some limits ≡ limit
    → IsLimitTable p heads unit limits of_item → IsComTable p heads unit limit (Some of_item)
some_limit p heads unit limit limits {of_item} is table = subst (λ (some : Option Com). IsComTable p heads unit some (Some of_item)) is table

pub returns-in_ok-table-in-Some : goal.returns-in_ok-table-in-Some
returns-in_ok-table-in-Some c =
    some_limit c.args.problem.now c.args.heads.now c.args.range.unit (exact_com c.args.problem.now) c.in-Some.limits {of_item = c.limit_table.result} c.in-Some.ensures
    (record {
      min = c.limit_table.ensures.min;
      max = c.limit_table.ensures.max;
      table = subst (IsTableByMethod c.args.problem.now c.args.heads.now c.args.range.unit) (sym c.limit_table.ensures.table) c.in_ok-table-in-Some.ensures;
    })

pub returns-in-None : goal.returns-in-None
returns-in-None c = subst (λ (limits : Option Com). IsComTable c.args.problem.now c.args.heads.now c.args.range.unit limits None) c.in-None.ensures tt
