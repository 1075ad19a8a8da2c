use Rattle.std.proofs.Common.{◌≡◌, ◌++◌, take}
use Rattle.std.specs.List.{flat_map}
use Rattle.driver_models.specs.Terminals.{all_numbered}
use Rattle.text_io.specs.Line.{Gathers}
use Rattle.driver_texts.proofs.numbered_names.NumberedNamesPart.put.Given as goal

abbrev pub invariant-loop-index : goal.invariant-loop-index
invariant-loop-index g l = record {
  gathered : Gathers (g.D.Desk.state l.initial.desk) (g.D.Desk.state l.desk) l.slot l.initial.line (flat_map (λ name. l.self.before.now ++ (name ++ l.self.behind.now)) (take l.index (all_numbered l.self.word.now l.self.count))) l.line;
  kept : g.D.Desk.faults l.desk ≡ g.D.Desk.faults l.initial.desk;
}
