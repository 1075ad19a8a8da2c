use Rattle.std.proofs.Common.{refl}
use Rattle.text_io.specs.declared.slots.InSlot.TheVariants.{Library, Verilog, Vital, Stimulus}
use Rattle.text_io.specs.declared.slots.OutSlot.TheVariants.{VerilogText, VitalText, Report, Faults}
use Rattle.text_io.proofs.MemoryLemmas.{memory-fresh}
use Rattle.text_io.proofs.memory.MemoryDesk.in_pieces.Goals as goal

pub returns : goal.returns
returns c =
    memory-fresh _ _ _ _ _ _ _ _ _ (elim [ Library ↦ refl | Verilog ↦ refl | Vital ↦ refl | Stimulus ↦ refl ]) (elim [ VerilogText ↦ refl | VitalText ↦ refl | Report ↦ refl | Faults ↦ refl ])
    c.in_ok-sinks.ensures.bytes c.in_ok-sinks.ensures.room
