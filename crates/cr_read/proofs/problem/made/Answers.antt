use Rattle.std.proofs.Common.{◌≡◌, refl, sym, subst}
use Rattle.cr_model.specs.Problems.{ProblemParts, parts_from}
use Rattle.cr_model.specs.Faults.{IsPartFault}
use Rattle.cr_model.specs.ProblemFiles.{parts_of, IsFileFault}
use Rattle.cr_read.proofs.LeadsRight.{has_spellings, letters_right, leads_right, later_fault, fault_made, refused_from}
use Rattle.cr_read.proofs.problem.made.Goals as goal

pub leads_of-requires-clause-has_spellings : goal.leads_of-requires-clause-has_spellings
leads_of-requires-clause-has_spellings c = has_spellings c.args.file.now c.args.stage c.args.spellings.now c.requires.passes.before.before.before.before

pub fault_of-requires : goal.fault_of-requires
fault_of-requires c =
    let is : parts_from c.args.stage c.args.letters.items c.in_ok-leads.leads.items c.in_ok-query.query ≡ parts_of c.args.stage c.args.file.now c.args.spellings.now =
    rw (c.requires.letters, c.in_ok-leads.ensures, c.in_ok-query.ensures) in
    later_fault (parts_of c.args.stage c.args.file.now c.args.spellings.now) c.in-Err.why
    (letters_right c.args.file.now c.args.stage c.args.spellings.now c.requires.passes c.requires.some)
    (leads_right c.args.file.now c.args.stage c.args.spellings.now c.requires.passes c.requires.some)
    (subst (λ (p : ProblemParts). IsPartFault p c.in-Err.why) is c.in-Err.ensures.fault)

pub returns-in-Err : goal.returns-in-Err
returns-in-Err c =
    let is : parts_from c.args.stage c.args.letters.items c.in_ok-leads.leads.items c.in_ok-query.query ≡ parts_of c.args.stage c.args.file.now c.args.spellings.now =
    rw (c.requires.letters, c.in_ok-leads.ensures, c.in_ok-query.ensures) in
    let p = parts_of c.args.stage c.args.file.now c.args.spellings.now in
    let wrong : IsPartFault p c.in-Err.why = subst (λ (q : ProblemParts). IsPartFault q c.in-Err.why) is c.in-Err.ensures.fault in
    let later = later_fault p c.in-Err.why
    (letters_right c.args.file.now c.args.stage c.args.spellings.now c.requires.passes c.requires.some)
    (leads_right c.args.file.now c.args.stage c.args.spellings.now c.requires.passes c.requires.some) wrong in
    refused_from c.args.file.now c.fault_of.result (subst (IsFileFault c.args.file.now) (sym c.fault_of.ensures)
    (fault_made c.args.file.now p c.in-Err.why (record { n = c.args.stage; spellings = c.args.spellings.now; passes = c.requires.passes; is = refl }) wrong later))
