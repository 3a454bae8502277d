use Rattle.cr_notation.proofs.Exact.{accepts, refuses}
use Rattle.cr_notation.proofs.Refined.{spelled, refused}
use Rattle.cr_notation.proofs.reader.read_notation.Goals as goal

pub returns-clause-spelled : goal.returns-clause-spelled
returns-clause-spelled c = spelled (λ v. v.items) c.args.stage c.args.text.now c.read_bytes.result (rw c.as_bytes.ensures.value at c.read_bytes.ensures)

pub returns-clause-refused : goal.returns-clause-refused
returns-clause-refused c = refused (λ v. v.items) c.args.stage c.args.text.now c.read_bytes.result (rw c.as_bytes.ensures.value at c.read_bytes.ensures)

pub returns-clause-accepts : goal.returns-clause-accepts
returns-clause-accepts c =
    let given = rw c.as_bytes.ensures.value at c.read_bytes.ensures in
    accepts (λ v. v.items) c.args.stage c.args.text.now
    (c.a_text_spells_one_list.ensures c.args.stage c.args.text.now) (c.a_text_has_one_first_fault.ensures c.args.stage c.args.text.now) (c.no_text_is_taken_and_refused.ensures c.args.stage c.args.text.now)
    c.read_bytes.result (spelled (λ v. v.items) c.args.stage c.args.text.now c.read_bytes.result given) (refused (λ v. v.items) c.args.stage c.args.text.now c.read_bytes.result given)

pub returns-clause-refuses : goal.returns-clause-refuses
returns-clause-refuses c =
    let given = rw c.as_bytes.ensures.value at c.read_bytes.ensures in
    refuses (λ v. v.items) c.args.stage c.args.text.now
    (c.a_text_spells_one_list.ensures c.args.stage c.args.text.now) (c.a_text_has_one_first_fault.ensures c.args.stage c.args.text.now) (c.no_text_is_taken_and_refused.ensures c.args.stage c.args.text.now)
    c.read_bytes.result (spelled (λ v. v.items) c.args.stage c.args.text.now c.read_bytes.result given) (refused (λ v. v.items) c.args.stage c.args.text.now c.read_bytes.result given)
