-- The Verilog and the VHDL of a library read back.
use Rattle.std.proofs.Common.{ℕ, List}
use Rattle.written_driven_models.specs.Verilog.{written_verilog, well_formed_verilog}
use Rattle.written_driven_models.specs.Vital.{written_vital, well_formed_vital}
use Rattle.written_driven_models.proofs.KeptApart.{text_back}
use Rattle.written_driven_models.proofs.VerilogPieces as verilog
use Rattle.written_driven_models.proofs.VitalPieces as vital
use Rattle.translate_cmd.specs.TranslatedModels.{modules_in, entities_in}
use Rattle.translate_cmd.specs.TranslatedLaws.{VerilogReadsBack, VitalReadsBack, LibrariesReadBack}
use Rattle.translate_cmd.proofs.AcceptedCells.{modules-well-formed, entities-well-formed}
use Rattle.translate_cmd.proofs.WrittenTexts.{verilog-of-modules, vital-of-entities}

verilog_back : (bytes : List ℕ) → VerilogReadsBack bytes
verilog_back bytes =
    let h = modules-well-formed bytes in
    let back =
    text_back written_verilog well_formed_verilog verilog.pieces (modules_in bytes) _ (verilog-of-modules bytes) h.models
    h.drivers in
    record { answer = back.0; apart = back.1 }

vital_back : (bytes : List ℕ) → VitalReadsBack bytes
vital_back bytes =
    let h = entities-well-formed bytes in
    let back =
    text_back written_vital well_formed_vital vital.pieces (entities_in bytes) _ (vital-of-entities bytes) h.models h.drivers
    in
    record { answer = back.0; apart = back.1 }

pub libraries-read-back : LibrariesReadBack
libraries-read-back bytes = record { verilog = verilog_back bytes; vital = vital_back bytes }
