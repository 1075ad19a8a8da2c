-- Drivers that are read may stand where they do.
use Rattle.std.proofs.Common.{◌≡◌, ℕ, ◌+◌, ◌<◌, ◌≤◌, Bool, true, false, List, [], ◌∷◌, length, Some, sym, ◌∙◌, codes, arith}
use Rattle.std.proofs.lemmas.List.Elements.{All-push, All-append}
use Rattle.grammar_rules.proofs.Promises.{Promises, gives, in_turn, many}
use Rattle.grammar_reader.specs.Words.{is_among}
use Rattle.udp_tables.specs.declared.models.VPort.{VPort}
use Rattle.vhdl_tokens.specs.Tokens.{is_name}
use Rattle.vhdl_tokens.specs.Spelling.{is_same}
use Rattle.driven_traces.specs.declared.delays.DrivePath.{DrivePath}
use Rattle.driver_models.specs.Models.{input_count, output_count}
use Rattle.driver_models.specs.PathEnds.{input_number}
use Rattle.driver_models.specs.Cores.{Core}
use Rattle.driver_models.specs.Standing.{MayStand}
use Rattle.driver_texts.specs.NumberedPorts.{numbered_ports, driven_names}
use Rattle.driver_texts.specs.Sections.{section, EndsTexts, StandWhereRead}
use Rattle.driver_texts.proofs.SoundCores.{AnyToken, behind, known_values, AreDrives, input_within, names_within}
use Rattle.driver_texts.proofs.StandingCores.{new_names, core_names, wires_declared, core_drives}
use Rattle.driver_texts.proofs.DriverParts.{IsDrivePath, ArePaths, no_paths, MayCall, may_call, may_stand}
use Rattle.driver_texts.proofs.SectionTexts.{text_keeps}
use Rattle.vhdl_drivers.specs.DriverText.{data_word, enable_word}
use Rattle.vhdl_drivers.specs.DriverSections.{driver_signals, driver_name, port_map, core_call, section_core, section_front}
use Rattle.vhdl_drivers.specs.DriverSections.{drive_path, drive_paths, path_call, line_by, has_glitch, driven_lines, statements}
use Rattle.vhdl_drivers.specs.DriverSections.{process, section_end, section_process, section_rest, vhdl_section_grammar}

fronts : (names : List (List ℕ)) → Promises AnyToken (section_front names) (λ front. is_among is_same names front.name ≡ false)
unfolding section_front driver_name
fronts names =
    behind (λ a. behind (λ b. in_turn (behind (λ c. new_names is_name is_same names)) (λ name new.
    behind (λ d. behind (λ ports. behind (λ f. gives new))))))

maps : (ports : List VPort) (driven : ℕ) → 1 ≤ driven
    → Promises AnyToken (port_map ports driven) (λ drives. AreDrives (output_count ports) drives × (length drives ≡ driven))
unfolding port_map
maps ports driven some =
    behind (λ a. in_turn (core_drives is_name is_same data_word enable_word driven ports some)
    (λ drives h. behind (λ b. behind (λ c. gives h))))

calls : (cores : List Core) (ports : List VPort) → Promises AnyToken (section_core cores ports) (MayCall is_same cores ports)
unfolding section_core driver_signals core_call
calls cores ports =
    in_turn (wires_declared is_name is_same data_word enable_word (codes "signal")
    (codes ":" ∷ codes "std_ulogic" ∷ codes ";" ∷ [])) (λ driven some.
    behind (λ a. in_turn (core_names is_name is_same cores ports driven) (λ core good.
    in_turn (maps ports driven some) (λ drives h. gives (may_call is_same cores ports core drives driven good h)))))

-- Paths.

module _ (ports : List VPort) (drives : ℕ) where
  one_path : (drive : ℕ) (paths : List DrivePath) → drive < drives → ArePaths ports drives paths
      → Promises AnyToken (drive_path ports drive paths) (ArePaths ports drives)
  unfolding drive_path
  one_path drive paths h good =
      behind (λ a. behind (λ b. in_turn (known_values is_name (input_number is_same ports)) (λ from starts.
      behind (λ c. behind (λ times. behind
      (λ d. gives (All-push (IsDrivePath (input_count ports) drives) paths _ good (within from starts, h))))))))
    where
      within : (from : ℕ) (f : (x : List ℕ) × (input_number is_same ports x ≡ Some from)) → from < input_count ports
      within from f = let first = input_within is_same 0 ports f.0 from f.1 in omega (arith, first)

  own_paths : (drive : ℕ) → drive < drives → Promises AnyToken (drive_paths ports drive) (ArePaths ports drives)
  unfolding drive_paths
  own_paths drive h = in_turn (one_path drive [] h (no_paths ports drives))
      (λ first good. many good (λ paths x a q p e. one_path drive paths h q))

  line : (number : ℕ) (name : List ℕ) (found : List DrivePath) (glitch : Bool) → number < drives → ArePaths ports drives found
      → Promises AnyToken (line_by ports number name found glitch) (ArePaths ports drives)
  unfolding path_call
  line number name found true h good =
      behind (λ a. behind (λ b. in_turn (own_paths number h)
      (λ own q. behind (λ c. gives (All-append (IsDrivePath (input_count ports) drives) found own good q)))))
  line number name found false h good = behind (λ a. gives good)

  lines : (glitches : List Bool) (number : ℕ) (names : List (List ℕ)) (found : List DrivePath) → number + length names ≤ drives
      → ArePaths ports drives found
      → Promises AnyToken (driven_lines ports glitches number names found) (ArePaths ports drives)
  lines glitches number [] found h good = gives good
  lines glitches number (name ∷ names) found h good =
      in_turn (line number name found (has_glitch glitches number) (omega (arith, h)) good)
      (λ more q. lines glitches (number + 1) names more (omega (arith, h)) q)

processes : (ports : List VPort) (drives : List ℕ) → Promises AnyToken (process ports drives) (ArePaths ports (length drives))
unfolding process statements
processes ports drives =
    behind (λ a. behind (λ glitches. behind (λ b. behind (λ c.
    lines ports (length drives) glitches 0 (driven_names (numbered_ports drives 0 0 ports)) []
    (names_within drives 0 0 ports (omega arith)) (no_paths ports (length drives))))))

-- A driver.

sections : (names : List (List ℕ)) (cores : List Core)
    → Promises AnyToken (section vhdl_section_grammar names cores) (MayStand is_same names cores)
unfolding section section_rest section_process
sections names cores =
    in_turn (fronts names) (λ front new. in_turn (calls cores front.ports) (λ call h.
    in_turn (processes front.ports call.drives) (λ paths p.
    behind (λ a. gives (may_stand is_same names cores front call paths new h p)))))

-- nothing stands behind a section
pub section_ends : EndsTexts vhdl_section_grammar
unfolding section section_rest section_process section_end
section_ends names cores s a r (
  front,
  m,
  h,
  (call, n, i, (paths, o, j, (u, k, (b, l, e, (c, x, words, (f, g, none))), (d, same)))),
) = sym same ∙ none

-- the driver of a section may stand where it was read
pub text_may_stand : StandWhereRead vhdl_section_grammar is_same
text_may_stand names cores bytes =
    text_keeps vhdl_section_grammar section_ends names cores bytes (MayStand is_same names cores) (sections names cores)
