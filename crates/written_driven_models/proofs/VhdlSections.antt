-- The text of a well formed driver is a section that is read as this driver.
use Rattle.std.proofs.Common.{◌≡◌, ℕ, false, List, [], ◌∷◌, ◌++◌, refl, sym, ap, ◌∙◌, codes}
use Rattle.written_modules.specs.lexer.Tokens.{scan}
use Rattle.written_modules.specs.lexer.Separators.{spelled}
use Rattle.written_entities.specs.vhdl_tokens.Words.{is_reserved, is_used, vhdl_words, used_words}
use Rattle.written_entities.specs.vhdl_tokens.Tokens.{lexis}
use Rattle.driver_models.specs.declared.model.DriverModel.{DriverModel}
use Rattle.driver_models.specs.Cores.{Core}
use Rattle.vhdl_drivers.specs.DriverText.{driven_count, driver_header_text, signals_text, core_text, process_text}
use Rattle.vhdl_drivers.specs.DriverText.{statements_text, driver_text}
use Rattle.vhdl_drivers.specs.DriverSection.{driver_section}
use Rattle.vhdl_drivers.specs.DriverSections.{section_end, section_process, section_rest}
use Rattle.vhdl_drivers.specs.DriverSections.{vhdl_section_grammar}
use Rattle.driver_texts.specs.Sections.{section}
use Rattle.vhdl_drivers.specs.WellFormed.{IsWellFormedDriver}
use Rattle.vhdl_drivers.proofs.StandingDrivers.{section_ends}
use Rattle.written_modules.proofs.grammar_reader.Fronts.{in_front}
use Rattle.written_modules.proofs.grammar_reader.Derivations.{Reads, to_same, gives, token, in_turn}
use Rattle.written_modules.proofs.grammar_reader.Spelling.{found_is}
use Rattle.written_entities.proofs.NameReading.{five_expected}
use Rattle.written_driven_models.specs.WrittenDrivers.{IsSectionOf}
use Rattle.written_driven_models.specs.Laws.{WrittenDriversReadBack}
use Rattle.written_driven_models.specs.Vital.{vital_drivers, written_vital, well_formed_vital}
use Rattle.written_driven_models.proofs.WholeSections.{last_of, it_is, is_section}
use Rattle.written_driven_models.proofs.VhdlTokens.{before_end, before_end_front, before_end_spelled}
use Rattle.written_driven_models.proofs.VhdlFronts.{front_read, core_read}
use Rattle.written_driven_models.proofs.VhdlLines.{process_read}

-- the tokens at the end
abbrev last_tokens : List (List ℕ)
last_tokens = codes "end" ∷ codes "driven" ∷ codes ";" ∷ []

pub before_is : (m : DriverModel) (end : List ℕ) →
    driver_header_text m ++ (signals_text (driven_count m)
    ++ (core_text m ++ (process_text m ++ (statements_text m ++ (codes "  end process;\n" ++ end))))) ≡ before_end m ++ end
before_is m end = sym (last_of (driver_header_text m) (signals_text (driven_count m)) (core_text m) (process_text m)
    (statements_text m) (codes "  end process;\n") end)

end_read : Reads section_end (codes "end" ∷ codes "process" ∷ codes ";" ∷ last_tokens) tt []
unfolding section_end
end_read = in_turn (token refl) (in_turn five_expected (record { taken = (refl, refl, refl) }))

module _ (names : List (List ℕ)) (cores : List Core) (m : DriverModel) (h : IsWellFormedDriver names cores m) where
  pub section_read : Reads (section vhdl_section_grammar names cores) (before_end_front m last_tokens) m []
  unfolding section section_rest section_process
  section_read =
      let end : List (List ℕ) = codes "end" ∷ codes "process" ∷ codes ";" ∷ last_tokens in
      in_turn (front_read names cores m h _)
      (in_turn (core_read names cores m h _)
      (in_turn (process_read names cores m h end) (in_turn end_read (to_same (it_is m h.written.sound) gives))))

  spelled_section : (end : List ℕ) → spelled (scan lexis false 0 0 end) ≡ (last_tokens, false)
      → spelled (scan lexis false 0 0 (before_end m ++ end)) ≡ (before_end_front m last_tokens, false)
  spelled_section end e = found_is (before_end_spelled m h.written) end tt ∙ ap (in_front (before_end_front m)) e

  read_section : (bytes end : List ℕ) → bytes ≡ before_end m ++ end → spelled (scan lexis false 0 0 end) ≡ (last_tokens, false)
      → IsSectionOf vital_drivers names cores bytes m
  read_section bytes end same e =
      is_section vital_drivers section_ends names cores m bytes (before_end_front m last_tokens)
      (ap (λ (s : List ℕ). spelled (scan lexis false 0 0 s)) same ∙ spelled_section end e) section_read

end_spelled : spelled (scan lexis false 0 0 (codes "end driven;")) ≡ (last_tokens, false)
unfolding is_reserved is_used vhdl_words used_words
end_spelled = refl

line_spelled : spelled (scan lexis false 0 0 (codes "end driven;\n")) ≡ (last_tokens, false)
unfolding is_reserved is_used vhdl_words used_words
line_spelled = refl

-- what is well formed reads back
pub read_back : WrittenDriversReadBack written_vital well_formed_vital
unfolding driver_section driver_text
read_back names cores m h = record {
  section = read_section names cores m h (driver_section m) (codes "end driven;") (before_is m (codes "end driven;")) end_spelled;
  text = read_section names cores m h (driver_text m) (codes "end driven;\n") (before_is m (codes "end driven;\n")) line_spelled;
}
