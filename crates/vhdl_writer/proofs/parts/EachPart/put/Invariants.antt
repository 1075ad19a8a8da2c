use Rattle.std.proofs.Common.{◌≡◌, take}
use Rattle.text_io.specs.Line.{Gathers}
use Rattle.vhdl_writer.specs.Joined.{numbered_texts}
use Rattle.vhdl_writer.proofs.parts.EachPart.put.Given as goal

abbrev pub invariant-loop-index : goal.invariant-loop-index
invariant-loop-index g l = record {
  gathered : Gathers (g.D.Desk.state l.initial.desk) (g.D.Desk.state l.desk) l.slot l.initial.line (numbered_texts (g.M.ItemText.text l.self.0) 1 (take l.index l.self.1.now)) l.line;
  kept : g.D.Desk.faults l.desk ≡ g.D.Desk.faults l.initial.desk;
}
