-- Sections that hold drivers, in any language: what they begin with, what stands behind that, and the driver of their bytes.
use Rattle.std.specs.Prelude.{◌≡◌, ℕ, Bool, List, [], Result, Ok, Err}
use Rattle.grammar_rules.specs.Rule.{Takes}
use Rattle.grammar_rules.specs.Rule as r
use Rattle.grammar_reader.specs.declared.refusal.Refusal.TheVariants.{Syntax}
use Rattle.grammar_reader.specs.Words.{Grammar, ◌>>=◌}
use Rattle.grammar_reader.specs.Texts.{Texts, text}
use Rattle.lexer.specs.Tokens.{Lexis}
use Rattle.udp_tables.specs.declared.models.ModelFault.{ModelFault}
use Rattle.udp_tables.specs.declared.models.ModelFault.TheVariants as fault
use Rattle.udp_tables.specs.ModelFaults.{model_faults}
use Rattle.driven_traces.specs.declared.delays.DrivePath.{DrivePath}
use Rattle.driver_models.specs.declared.model.DriverModel.{DriverModel}
use Rattle.driver_models.specs.Models.{input_count, output_count}
use Rattle.driver_models.specs.Cores.{Core}
use Rattle.driver_models.specs.Standing.{MayStand}
use Rattle.driver_texts.specs.declared.section_parts.CoreCall.{CoreCall}
use Rattle.driver_texts.specs.declared.section_parts.SectionFront.{SectionFront}

-- The sections of a language: its tokens; what a section begins with, where some names are taken; and what stands behind that,
-- where some models may be cores.
pub record SectionGrammar : Type 1 where
  pub lexis : Lexis
  pub front : List (List ℕ) → Grammar SectionFront
  pub rest : List Core → SectionFront → Grammar DriverModel

-- a section, where these names are taken and the models that may be cores are these
unfoldable pub section : SectionGrammar → List (List ℕ) → List Core → Grammar DriverModel
section g names cores = do
  front ← g.front names
  g.rest cores front

-- nothing is left of a section
abbrev pub nothing_left : Grammar (Unit {0})
nothing_left = r.Last (λ _. Syntax) tt

-- nothing stands behind a section
abbrev pub EndsTexts : SectionGrammar → Type 0
EndsTexts g = (names : List (List ℕ)) (cores : List Core) (s : List (List ℕ)) (driver : DriverModel) (left : List (List ℕ))
    → Takes (section g names cores) s driver left → left ≡ []

-- the tokens of a language, the grammar of its sections and their faults
abbrev pub section_language : SectionGrammar → List (List ℕ) → List Core → Texts DriverModel ModelFault
section_language g names cores = record { lexis = g.lexis; file = section g names cores; faults = model_faults }

-- the driver that the bytes of a section stand for, or the fault
unfoldable pub section_text : SectionGrammar → List (List ℕ) → List Core → List ℕ → Result DriverModel ModelFault
section_text g names cores bytes = text (section_language g names cores) bytes

-- this is the fault of a section. Want of memory is told of no text.
abbrev pub IsFaultOf : SectionGrammar → List (List ℕ) → List Core → List ℕ → ModelFault → Type 0
IsFaultOf g names cores bytes fault.Memory = Unit {0}
IsFaultOf g names cores bytes e = section_text g names cores bytes ≡ Err e

-- a driver that a section holds may stand where it was read
abbrev pub StandWhereRead : SectionGrammar → (List ℕ → List ℕ → Bool) → Type 0
StandWhereRead g is_same = (names : List (List ℕ)) (cores : List Core) (bytes : List ℕ) (driver : DriverModel)
    → section_text g names cores bytes ≡ Ok driver → MayStand is_same names cores driver

-- the driver with this front, this core and these paths
abbrev pub driver_of : SectionFront → CoreCall → List DrivePath → DriverModel
driver_of front call paths = record {
  name = front.name;
  core = call.core;
  ports = front.ports;
  driver = record { inputs = input_count front.ports; outputs = output_count front.ports; drives = call.drives; paths = paths };
}
