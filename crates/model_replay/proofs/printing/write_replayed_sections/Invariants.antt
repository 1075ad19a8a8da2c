use Rattle.std.proofs.Common.{take, length, ◌≡◌}
use Rattle.std.specs.List.{flat_map}
use Rattle.text_io.specs.declared.slots.OutSlot.TheVariants.{Report}
use Rattle.text_io.specs.Desk.{wrote}
use Rattle.model_replay.specs.Outcome.{replayed_section_text}
use Rattle.model_replay.specs.KnownModels.{AreStarts}
use Rattle.model_replay.proofs.printing.write_replayed_sections.Given as goal

abbrev pub invariant-loop-section : goal.invariant-loop-section
invariant-loop-section g l = record {
  written : g.D.Desk.state l.desk ≡ wrote (g.D.Desk.state l.initial.desk) Report (flat_map (replayed_section_text g.L.ModelLanguage.language l.replay.models) (take l.section-index l.replay.sections));
  known : AreStarts g.L.ModelLanguage.is_start l.replay.models l.known.items;
  each : length l.known.items ≡ length l.replay.models;
  kept : g.D.Desk.faults l.desk ≡ g.D.Desk.faults l.initial.desk;
}
