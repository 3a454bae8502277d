-- What reading a shape tells.
use Rattle.std.specs.Prelude.{ℕ, List, map}
use Rattle.std.specs.Global.{Vec}
use Rattle.cr_store.specs.declared.fault.CheckFault.{CheckFault}
use Rattle.cr_store.specs.declared.fault.CheckFault.TheVariants as fault
use Rattle.cr_store.specs.declared.shape.FoundLine.{FoundLine}
use Rattle.cr_store.specs.declared.shape.NodeLine.{NodeLine}
use Rattle.cr_store.specs.declared.shape.Shape.{Shape}
use Rattle.cr_store.specs.Shapes.{FoundParts, NodeParts, ShapeParts}
use Rattle.cr_store.specs.ShapeFaults.{IsFormFault}

abbrev pub found_parts : FoundLine → FoundParts
found_parts line = record { length = line.length; calling = line.calling.now }

abbrev pub node_parts : NodeLine → NodeParts
node_parts line = record { shared = line.shared; steps = line.steps.now }

abbrev pub job_parts : Vec NodeLine → List NodeParts
job_parts job = map node_parts job.items

abbrev pub shape_parts : Shape → ShapeParts
shape_parts s = record {
  version = s.version;
  problem = s.problem.now;
  found = map found_parts s.found.items;
  jobs = map job_parts s.jobs.items;
}

-- a fault of the shape, or want of memory
abbrev pub IsShapeFault : List ℕ → CheckFault → Type 0
IsShapeFault text (fault.Form line) = IsFormFault text line
IsShapeFault text (fault.Problem why) = ⊥
IsShapeFault text (fault.Calling line) = ⊥
IsShapeFault text (fault.NodeLong line) = ⊥
IsShapeFault text (fault.NotKept line) = ⊥
IsShapeFault text (fault.FoundOrder line) = ⊥
IsShapeFault text (fault.Overlap first second) = ⊥
IsShapeFault text fault.NoMemory = Unit {0}
