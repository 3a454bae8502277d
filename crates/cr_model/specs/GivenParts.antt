-- The parts of a problem, as the checks borrow them.
use Rattle.cr_model.specs.declared.given.Parts.{Parts}
use Rattle.cr_model.specs.Problems.{ProblemParts, parts_from}

abbrev pub parts_in : Parts → ProblemParts
parts_in parts = parts_from parts.stage parts.letters.now parts.leads.now parts.query.now
