-- The pieces of Verilog text that is written.
use Rattle.std.proofs.Common.{[], ◌∷◌, codes, refl}
use Rattle.written_modules.proofs.section_outlines.Outlined.{plain}
use Rattle.written_modules.proofs.FileReading.{IsAlone, all_alone, design_tokens, design_spelled, prelude_spelled}
use Rattle.written_modules.proofs.FileReading.{read_from}
use Rattle.written_driven_models.proofs.VerilogTokens.{IsNamedDriver}
use Rattle.written_driven_models.proofs.VerilogPorts.{driver_named}
use Rattle.written_driven_models.proofs.VerilogSections.{read_back}
use Rattle.written_driven_models.specs.Verilog.{written_verilog, well_formed_verilog}
use Rattle.written_driven_models.proofs.VerilogOutlines.{no_beginning, driver_outlined}
use Rattle.written_driven_models.proofs.KeptApart.{Pieces}

pub pieces : Pieces written_verilog well_formed_verilog
pieces = record {
  IsPart = IsAlone;
  IsNamed = IsNamedDriver;
  front_tokens = λ s. codes "`timescale" ∷ codes "1ps" ∷ codes "/" ∷ codes "1ps" ∷ s;
  tokens = design_tokens;
  front = plain (no_beginning prelude_spelled);
  model = λ m h. plain (no_beginning (design_spelled m h.1.0 h.0 h.1.1));
  driver = driver_outlined;
  parts = λ ms h. all_alone ms h [] ms refl;
  named = λ d h. driver_named h.0 h.1.0 d h.1.1;
  declared = λ names cores d h. (names, (cores, h));
  section_read = λ names cores d h. (read_back names cores d h).section.answer;
  models_read = λ bytes ms h e. read_from ms h bytes e;
}
