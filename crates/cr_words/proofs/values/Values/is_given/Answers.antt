use Rattle.clap.specs.Words.{found_of}
use Rattle.clap.specs.declared.parser.matches.ValueSource.TheVariants.{CommandLine, DefaultValue}
use Rattle.cr_words.proofs.Given.{given_by_source, given_by_entry}
use Rattle.cr_words.proofs.values.Values.is_given.Goals as goal

pub returns-in-Some-CommandLine : goal.returns-in-Some-CommandLine
returns-in-Some-CommandLine c = given_by_source (found_of c.args.self.now.matches.now) c.args.name.now _ CommandLine c.in-Some-CommandLine.field-0-is c.in-Some-CommandLine.ensures

pub returns-in-Some-DefaultValue : goal.returns-in-Some-DefaultValue
returns-in-Some-DefaultValue c = given_by_source (found_of c.args.self.now.matches.now) c.args.name.now _ DefaultValue c.in-Some-DefaultValue.field-0-is c.in-Some-DefaultValue.ensures

pub returns-in-None : goal.returns-in-None
returns-in-None c = given_by_entry (found_of c.args.self.now.matches.now) c.args.name.now _ c.in-None.ensures c.contains_id.ensures
