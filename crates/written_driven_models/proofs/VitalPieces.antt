-- The pieces of VHDL text that is written.
use Rattle.std.proofs.lemmas.List.Elements.{recursion_from_All}
use Rattle.written_entities.specs.vhdl_grammar.WellFormed.{IsWellFormedEntity}
use Rattle.vhdl_drivers.specs.WellFormed.{IsWrittenDriver}
use Rattle.written_modules.proofs.section_outlines.Outlined.{plain, nothing}
use Rattle.written_entities.proofs.EntityReading.{entity_tokens, entity_spelled}
use Rattle.written_entities.proofs.EntityFile.{read_from}
use Rattle.written_driven_models.proofs.VhdlSections.{read_back}
use Rattle.written_driven_models.specs.Vital.{written_vital, well_formed_vital}
use Rattle.written_driven_models.proofs.VitalOutlines.{driver_outlined}
use Rattle.written_driven_models.proofs.KeptApart.{Pieces}

pub pieces : Pieces written_vital well_formed_vital
pieces = record {
  IsPart = IsWellFormedEntity;
  IsNamed = IsWrittenDriver;
  front_tokens = λ s. s;
  tokens = entity_tokens;
  front = nothing;
  model = λ e h. plain (entity_spelled e h);
  driver = driver_outlined;
  parts = λ es h. recursion_from_All IsWellFormedEntity es h.entities;
  named = λ d h. h;
  declared = λ names cores d h. h.written;
  section_read = λ names cores d h. (read_back names cores d h).section.answer;
  models_read = read_from;
}
