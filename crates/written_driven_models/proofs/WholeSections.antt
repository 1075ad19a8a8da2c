-- What is read of a driver's parts is the driver, and its bytes are a section of it where their tokens are, in any language of
-- drivers.
use Rattle.std.proofs.Common.{◌≡◌, ℕ, false, List, [], ◌++◌, sym, ap, ◌∙◌, append_assoc}
use Rattle.written_modules.specs.lexer.Tokens.{scan}
use Rattle.written_modules.specs.lexer.Separators.{spelled}
use Rattle.written_modules.specs.grammar_reader.Texts.{IsText}
use Rattle.driver_models.specs.declared.model.DriverModel.{DriverModel}
use Rattle.driver_models.specs.Models.{output_count, IsSound}
use Rattle.driver_models.specs.Cores.{Core}
use Rattle.driver_texts.specs.declared.section_parts.SectionFront.{SectionFront}
use Rattle.driver_texts.specs.declared.section_parts.CoreCall.{CoreCall}
use Rattle.driver_texts.specs.Sections.{EndsTexts, section, section_language, section_text, driver_of}
use Rattle.driver_texts.proofs.SectionTexts.{section_answer}
use Rattle.written_modules.proofs.grammar_reader.Derivations.{Reads}
use Rattle.written_modules.proofs.grammar_reader.TextsReadBack.{is_text, reads_back}
use Rattle.written_driven_models.specs.WrittenDrivers.{WrittenSections, IsSectionOf}

-- what stands behind six texts, behind the last of them
pub last_of : (a b c d e f g : List ℕ) → (a ++ (b ++ (c ++ (d ++ (e ++ f))))) ++ g ≡ a ++ (b ++ (c ++ (d ++ (e ++ (f ++ g)))))
last_of a b c d e f g =
    append_assoc a (b ++ (c ++ (d ++ (e ++ f)))) g
    ∙ ap (λ (t : List ℕ). a ++ t) (append_assoc b (c ++ (d ++ (e ++ f))) g
    ∙ ap (λ (t : List ℕ). b ++ t) (append_assoc c (d ++ (e ++ f)) g
    ∙ ap (λ (t : List ℕ). c ++ t) (append_assoc d (e ++ f) g ∙ ap (λ (t : List ℕ). d ++ t) (append_assoc e f g))))

abbrev pub front_of : DriverModel → SectionFront
front_of m = record { name = m.name; ports = m.ports }

abbrev pub call_of : DriverModel → CoreCall
call_of m = record { core = m.core; drives = m.driver.drives }

-- a driver with these numbers of inputs and outputs
abbrev with_counts : DriverModel → ℕ → ℕ → DriverModel
with_counts m inputs outputs = record {
  name = m.name;
  core = m.core;
  ports = m.ports;
  driver = record { inputs = inputs; outputs = outputs; drives = m.driver.drives; paths = m.driver.paths };
}

pub it_is : (m : DriverModel) → IsSound m → driver_of (front_of m) (call_of m) m.driver.paths ≡ m
it_is m h =
    ap (λ (k : ℕ). with_counts m k (output_count m.ports)) (sym h.inputs) ∙ ap (with_counts m m.driver.inputs) (sym h.outputs)

pub is_section : (w : WrittenSections) (ends : EndsTexts w.grammar) (names : List (List ℕ)) (cores : List Core) (m : DriverModel)
    (bytes : List ℕ) (tokens : List (List ℕ))
    → spelled (scan w.grammar.lexis false 0 0 bytes) ≡ (tokens, false)
    → Reads (section w.grammar names cores) tokens m []
    → IsSectionOf w names cores bytes m
unfolding section_text
is_section w ends names cores m bytes tokens e reads =
    reads_back (section_text w.grammar names cores) (IsText (section_language w.grammar names cores)) bytes m
    (section_answer w.grammar ends names cores bytes).value
    (is_text (section_language w.grammar names cores) bytes m tokens e reads)
