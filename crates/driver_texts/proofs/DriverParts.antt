-- A driver whose parts were read may stand where it was read, in any language.
use Rattle.std.proofs.Common.{◌≡◌, ℕ, ◌<◌, Bool, true, false, List, [], length, refl, sym, subst, arith}
use Rattle.std.specs.Prelude.{All}
use Rattle.grammar_reader.specs.Words.{is_among}
use Rattle.udp_tables.specs.declared.models.VPort.{VPort}
use Rattle.driven_traces.specs.declared.delays.DrivePath.{DrivePath}
use Rattle.driver_models.specs.Models.{input_count, output_count}
use Rattle.driver_models.specs.Cores.{Core, core_ports, fits}
use Rattle.driver_models.specs.Standing.{MayStand}
use Rattle.driver_texts.specs.declared.section_parts.CoreCall.{CoreCall}
use Rattle.driver_texts.specs.declared.section_parts.SectionFront.{SectionFront}
use Rattle.driver_texts.specs.Sections.{driver_of}
use Rattle.driver_texts.proofs.SoundCores.{AreDrives}

-- a path from one of so many inputs to one of so many driven outputs
abbrev pub IsDrivePath : ℕ → ℕ → DrivePath → Type 0
IsDrivePath inputs drives path = (path.from < inputs) × (path.drive < drives)

-- paths from inputs among these ports to so many driven outputs
abbrev pub ArePaths : List VPort → ℕ → List DrivePath → Type 0
ArePaths ports drives paths = All (IsDrivePath (input_count ports) drives) paths

pub no_paths : (ports : List VPort) (drives : ℕ) → ArePaths ports drives []
no_paths ports drives = λ k d h. absurd (omega arith)

-- The instance of a core of a driver with these ports: its outputs ascend, and the first of these models with the core's name
-- has the ports of such a core.
pub record MayCall (is_same : List ℕ → List ℕ → Bool) (cores : List Core) (ports : List VPort) (call : CoreCall) : Type 0 where
  pub drives : AreDrives (output_count ports) call.drives
  pub core : fits ports (length call.drives) (core_ports is_same cores call.core) ≡ true

-- a core that fits, and as many driven outputs as were declared
pub may_call : (is_same : List ℕ → List ℕ → Bool) (cores : List Core) (ports : List VPort) (core : List ℕ) (drives : List ℕ)
    (driven : ℕ) → fits ports driven (core_ports is_same cores core) ≡ true
    → AreDrives (output_count ports) drives × (length drives ≡ driven)
    → MayCall is_same cores ports (record { core = core; drives = drives })
may_call is_same cores ports core drives driven good h = record {
  drives = h.0;
  core = subst (λ (n : ℕ). fits ports n (core_ports is_same cores core) ≡ true) (sym h.1) good;
}

pub may_stand : (is_same : List ℕ → List ℕ → Bool) (names : List (List ℕ)) (cores : List Core) (front : SectionFront)
    (call : CoreCall) (paths : List DrivePath)
    → is_among is_same names front.name ≡ false → MayCall is_same cores front.ports call
    → ArePaths front.ports (length call.drives) paths
    → MayStand is_same names cores (driver_of front call paths)
may_stand is_same names cores front call paths new h p = record {
  sound = record {
    inputs = refl;
    outputs = refl;
    driver = record {
      ascending = h.drives.ascending;
      outputs = h.drives.below;
      paths = λ k d l. let one = p k d l in record { from = one.0; drive = one.1 };
    };
  };
  new = new;
  core = h.core;
}
