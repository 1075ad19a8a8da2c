-- The text of a well formed driver is a section that is read as this driver.
use Rattle.std.proofs.Common.{◌≡◌, ℕ, false, List, [], ◌∷◌, ◌++◌, refl, sym, ap, ◌∙◌, codes, append_assoc}
use Rattle.written_modules.specs.lexer.Tokens.{scan}
use Rattle.written_modules.specs.lexer.Separators.{spelled}
use Rattle.written_modules.specs.verilog_tokens.Tokens.{lexis}
use Rattle.driver_models.specs.declared.model.DriverModel.{DriverModel}
use Rattle.driver_models.specs.Cores.{Core}
use Rattle.verilog_drivers.specs.DriverText.{driver_before, driver_section, driver_text}
use Rattle.verilog_drivers.specs.WellFormed.{IsWellFormedDriver}
use Rattle.verilog_drivers.proofs.StandingDrivers.{section_ends}
use Rattle.written_modules.proofs.grammar_reader.Fronts.{Front, Anything, in_front}
use Rattle.written_modules.proofs.grammar_reader.Passages.{Barred}
use Rattle.written_modules.proofs.grammar_reader.Spelling.{SpellsBy, literal, behind, barred_less, found_is}
use Rattle.written_driven_models.specs.WrittenDrivers.{IsSectionOf}
use Rattle.written_driven_models.specs.Laws.{WrittenDriversReadBack}
use Rattle.written_driven_models.specs.Verilog.{verilog_drivers, written_verilog, well_formed_verilog}
use Rattle.written_driven_models.proofs.WholeSections.{is_section}
use Rattle.written_driven_models.proofs.VerilogTokens.{IsNamedDriver, inner_text, inner_tokens, inner_spelled, before_is}
use Rattle.written_driven_models.proofs.VerilogPorts.{driver_named}
use Rattle.written_driven_models.proofs.VerilogReading.{section_read}

-- no token is barred
abbrev Nothing : Barred
Nothing t x r = false

abbrev section_tokens : DriverModel → Front
section_tokens m s = codes "`celldefine" ∷ inner_tokens m s

first_line : SpellsBy lexis Nothing Anything false (codes "`celldefine\n") (λ s. codes "`celldefine" ∷ s) false
first_line = literal (λ r. refl) refl

front_spelled : (m : DriverModel) → IsNamedDriver m
    → SpellsBy lexis Nothing Anything false (codes "`celldefine\n" ++ inner_text m) (section_tokens m) false
front_spelled m h = behind first_line (barred_less (λ t x s e. refl) (inner_spelled m h))

-- the tokens of a driver with these bytes for its last line
section_spelled : (m : DriverModel) (end : List ℕ) → IsNamedDriver m
    → spelled (scan lexis false 0 0 end) ≡ (codes "`endcelldefine" ∷ [], false) →
    spelled (scan lexis false 0 0 (driver_before (codes "endmodule\n" ++ end) m)) ≡ (
      section_tokens m
          (codes "`endcelldefine" ∷ []),
      false,
    )
section_spelled m end h e =
    ap (λ (s : List ℕ). spelled (scan lexis false 0 0 s))
    (before_is m end ∙ sym (append_assoc (codes "`celldefine\n") (inner_text m) end))
    ∙ found_is (front_spelled m h) end tt ∙ ap (in_front (section_tokens m)) e

read_section : (names : List (List ℕ)) (cores : List Core) (m : DriverModel) (h : IsWellFormedDriver names cores m) (end : List ℕ)
    → spelled (scan lexis false 0 0 end) ≡ (codes "`endcelldefine" ∷ [], false)
    → IsSectionOf verilog_drivers names cores (driver_before (codes "endmodule\n" ++ end) m) m
read_section names cores m h end e =
    is_section verilog_drivers section_ends names cores m (driver_before (codes "endmodule\n" ++ end) m)
    (section_tokens m (codes "`endcelldefine" ∷ [])) (section_spelled m end (driver_named names cores m h) e)
    (section_read names cores m h)

-- what is well formed reads back
pub read_back : WrittenDriversReadBack written_verilog well_formed_verilog
unfolding driver_section driver_text
read_back names cores m h = record {
  section = read_section names cores m h (codes "`endcelldefine") refl;
  text = read_section names cores m h (codes "`endcelldefine\n") refl;
}
