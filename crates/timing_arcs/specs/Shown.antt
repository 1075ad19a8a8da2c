-- What stands behind the references that the program holds.
use Rattle.timing_arcs.specs.declared.arc_list.Path.{Path}
use Rattle.cell_machine.specs.declared.arcs.Arc.{Arc}
use Rattle.std.specs.Option.{option_copied}

-- the arc on a path
abbrev pub arc_on : Path → Arc
arc_on path = record {
  condition =
      option_copied path.condition;
  from = path.from;
  to = path.to;
  rise = path.rise;
  fall = path.fall;
}
