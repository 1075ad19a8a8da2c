-- Drivers that are read may stand where they do.
use Rattle.std.proofs.Common.{◌≡◌, ℕ, ◌<◌, ◌≤◌, nat_eq, false, List, [], ◌∷◌, length, Option, Some, None, sym, ◌∙◌, codes, arith}
use Rattle.std.specs.Prelude.{position}
use Rattle.std.specs.Str.{bytes_eq}
use Rattle.std.specs.Option.{option_and_then}
use Rattle.std.proofs.lemmas.List.Elements.{All-push}
use Rattle.std.proofs.lemmas.List.Quantifiers.{position-Some}
use Rattle.grammar_rules.proofs.Promises.{Promises, gives, in_turn, many, choice}
use Rattle.grammar_reader.specs.Words.{is_among}
use Rattle.verilog_tokens.specs.Tokens.{is_name}
use Rattle.udp_tables.specs.declared.models.VPort.{VPort}
use Rattle.driver_models.specs.Models.{input_count}
use Rattle.driver_models.specs.PathEnds.{output_from, input_number, drive_number}
use Rattle.driver_models.specs.Cores.{Core}
use Rattle.driver_models.specs.Standing.{MayStand}
use Rattle.driver_texts.specs.Sections.{section, EndsTexts, StandWhereRead}
use Rattle.driver_texts.proofs.SoundCores.{AnyToken, behind, known_values, input_within}
use Rattle.driver_texts.proofs.StandingCores.{new_names, core_names, wires_declared, core_drives}
use Rattle.driver_texts.proofs.DriverParts.{IsDrivePath, ArePaths, no_paths, MayCall, may_call, may_stand}
use Rattle.driver_texts.proofs.SectionTexts.{text_keeps}
use Rattle.verilog_drivers.specs.DriverText.{data_word, enable_word}
use Rattle.verilog_drivers.specs.DriverSections.{driver_wires, core_call, drive_path, next_drive_path, drive_block, drive_paths}
use Rattle.verilog_drivers.specs.DriverSections.{section_front, section_body, section_rest, section_end, verilog_section_grammar}

fronts : (names : List (List ℕ)) → Promises AnyToken (section_front names) (λ front. is_among bytes_eq names front.name ≡ false)
unfolding section_front
fronts names = behind (λ a. behind (λ b. in_turn (new_names is_name bytes_eq names) (λ name new. behind (λ ports. gives new))))

calls : (cores : List Core) (ports : List VPort) (driven : ℕ) → 1 ≤ driven
    → Promises AnyToken (core_call cores ports driven) (MayCall bytes_eq cores ports)
unfolding core_call
calls cores ports driven some =
    in_turn (core_names is_name bytes_eq cores ports driven) (λ core good. behind (λ a. behind (λ b.
    in_turn (core_drives is_name bytes_eq data_word enable_word driven ports some) (λ drives h. behind (λ c. behind (λ d.
    gives (may_call bytes_eq cores ports core drives driven good h)))))))

-- Paths.

drive_within : (drives : List ℕ) (o : Option ℕ) (k : ℕ)
    → option_and_then (λ place. position (λ driven. nat_eq driven place) drives) o ≡ Some k → k < length drives
drive_within drives None k e = absurd cc
drive_within drives (Some place) k e = (position-Some (λ driven. nat_eq driven place) drives k 0 e).0

one_path : (ports : List VPort) (drives : List ℕ)
    → Promises AnyToken (drive_path ports drives) (IsDrivePath (input_count ports) (length drives))
unfolding drive_path
one_path ports drives =
    in_turn (known_values is_name (input_number bytes_eq ports)) (λ from starts.
    behind (λ a. in_turn (known_values is_name (drive_number bytes_eq ports drives)) (λ drive ends.
    behind (λ b. behind (λ c. behind (λ d. behind (λ rise. behind (λ e. behind (λ fall. behind (λ f. behind (λ g.
    gives (within from starts, drive_within drives (output_from bytes_eq 0 ports ends.0) drive ends.1))))))))))))
  where
    within : (from : ℕ) (f : (x : List ℕ) × (input_number bytes_eq ports x ≡ Some from)) → from < input_count ports
    within from f = let first = input_within bytes_eq 0 ports f.0 from f.1 in omega (arith, first)

all_paths : (ports : List VPort) (drives : List ℕ)
    → Promises AnyToken (drive_paths ports drives) (ArePaths ports (length drives))
unfolding drive_paths drive_block next_drive_path
all_paths ports drives =
    choice (λ x a p e. in_turn
    (many (no_paths ports (length drives))
    (λ w x a q p e. in_turn (one_path ports drives)
    (λ path h. gives (All-push (IsDrivePath (input_count ports) (length drives)) w path q h))))
    (λ paths h. behind (λ c. gives h)))
    (gives (no_paths ports (length drives)))

-- A driver.

bodies : (cores : List Core) (ports : List VPort)
    → Promises AnyToken (section_body cores ports)
    (λ body. MayCall bytes_eq cores ports body.call × ArePaths ports (length body.call.drives) body.paths)
unfolding section_body driver_wires
bodies cores ports =
    in_turn (wires_declared is_name bytes_eq data_word enable_word (codes "wire") (codes ";" ∷ [])) (λ driven some.
    in_turn (calls cores ports driven some) (λ call h.
    behind (λ a. in_turn (all_paths ports call.drives) (λ paths p. gives (h, p)))))

sections : (names : List (List ℕ)) (cores : List Core)
    → Promises AnyToken (section verilog_section_grammar names cores) (MayStand bytes_eq names cores)
unfolding section section_rest
sections names cores = in_turn (fronts names) (λ front new. in_turn (bodies cores front.ports)
    (λ body h. behind (λ a. gives (may_stand bytes_eq names cores front body.call body.paths new h.0 h.1))))

-- nothing stands behind a section
pub section_ends : EndsTexts verilog_section_grammar
unfolding section section_rest section_end
section_ends names cores s a r (front, m, h, (body, n, i, (u, k, (v, p, x, (w, q, y, (l, e, j))), (g, f)))) = sym f ∙ j

-- the driver of a section may stand where it was read
pub text_may_stand : StandWhereRead verilog_section_grammar bytes_eq
text_may_stand names cores bytes =
    text_keeps verilog_section_grammar section_ends names cores bytes (MayStand bytes_eq names cores) (sections names cores)
