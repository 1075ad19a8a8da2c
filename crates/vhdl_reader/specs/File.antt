-- What is read of a text, as the grammar names it.
use Rattle.std.specs.Prelude.{◌≡◌, ℕ, List, Vec, Err}
use Rattle.vhdl_declarations_reader.specs.udp_tables.declared.models.ModelFault.{ModelFault}
use Rattle.vhdl_declarations_reader.specs.udp_tables.declared.models.ModelFault.TheVariants as fault
use Rattle.vhdl_declarations_reader.specs.vital_tables.declared.model.VEntity.{VEntity}
pub use Rattle.vhdl_declarations_reader.specs.vhdl_grammar.VhdlText.{entity_end, statements, entity, next_entity, file, vhdl_text}

abbrev pub entities_of : {A : Type 0} → Vec VEntity A → List VEntity
entities_of found = found.items

-- this is the fault of the text. Want of memory is told of no text.
abbrev pub IsFaultOf : List ℕ → ModelFault → Type 0
IsFaultOf text fault.Memory = Unit {0}
IsFaultOf text e = vhdl_text text ≡ Err e
