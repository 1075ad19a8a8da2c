use Rattle.std.proofs.Common.{take, length, ◌≡◌}
use Rattle.std.specs.List.{flat_map, list_any}
use Rattle.text_io.specs.declared.slots.OutSlot.TheVariants.{Report}
use Rattle.text_io.specs.Desk.{wrote}
use Rattle.library_reader.specs.LibraryCells.{all_described}
use Rattle.library_simulation.specs.Comparisons.{section_text, differs}
use Rattle.library_simulation.specs.KnownBesides.{AreBesides}
use Rattle.library_simulation.proofs.comparisons.write_compared_sections.Given as goal

abbrev pub invariant-loop-section : goal.invariant-loop-section
invariant-loop-section g l = record {
  written : g.D.Desk.state l.desk ≡ wrote (g.D.Desk.state l.initial.desk) Report (flat_map (section_text (all_described l.simulation.read.cells) l.simulation.read.modules l.simulation.read.entities) (take l.section-index l.simulation.sections));
  differ : l.some_differ ≡ list_any (differs (all_described l.simulation.read.cells) l.simulation.read.modules l.simulation.read.entities) (take l.section-index l.simulation.sections);
  known : AreBesides l.simulation l.known.items;
  each : length l.known.items ≡ length l.simulation.simulated.models;
  kept : g.D.Desk.faults l.desk ≡ g.D.Desk.faults l.initial.desk;
}
