use Rattle.std.proofs.Common.{◌≡◌, take}
use Rattle.std.specs.List.{flat_map}
use Rattle.text_io.specs.Line.{Gathers}
use Rattle.library_audit.specs.Lines.{listed_value}
use Rattle.library_audit.proofs.words.EachValuePart.put.Given as goal

abbrev pub invariant-loop-place : goal.invariant-loop-place
invariant-loop-place g l = record {
  gathered : Gathers (g.D.Desk.state l.initial.desk) (g.D.Desk.state l.desk) l.slot l.initial.line (flat_map listed_value (take l.place l.self.0)) l.line;
  kept : g.D.Desk.faults l.desk ≡ g.D.Desk.faults l.initial.desk;
}
