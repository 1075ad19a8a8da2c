-- Drivers that are read have names, and cores that have names, in any language.
use Rattle.std.proofs.Common.{◌≡◌, ℕ, Bool, true, List, Ok, subst}
use Rattle.std.specs.List.{IsDistinct}
use Rattle.std.specs.Prelude.{map}
use Rattle.grammar_rules.proofs.Promises.{Promises, token}
use Rattle.grammar_reader.specs.declared.refusal.Refusal.TheVariants.{Syntax, Undefined, Twice}
use Rattle.grammar_reader.specs.Words.{is_among, fresh, new_name, known, allowed_by}
use Rattle.grammar_reader.proofs.Passing.{fits_if, fits_unless, fits_allowed, some_if}
use Rattle.udp_tables.specs.declared.models.VPort.{VPort}
use Rattle.file_models.specs.driver_models.declared.model.DriverModel.{DriverModel}
use Rattle.file_models.specs.driver_models.Cores.{Core, core_ports, fits, core_name}
use Rattle.driver_texts.specs.Sections.{SectionGrammar, EndsTexts, section, section_text}
use Rattle.file_models.proofs.driver_texts.SectionTexts.{text_keeps}
use Rattle.file_models.proofs.driver_texts.SoundCores.{AnyToken}

-- the names of a driver and of its core are names, and its ports have different ones
pub record IsNamed (is_name : List ℕ → Bool) (eq : List ℕ → List ℕ → Bool) (driver : DriverModel) : Type 0 where
  pub name : is_name driver.name ≡ true
  pub core : is_name driver.core ≡ true
  pub ports : IsDistinct eq (map (λ (port : VPort). port.name) driver.ports)

module _ (is_name : List ℕ → Bool) (is_same : List ℕ → List ℕ → Bool) where
  -- a name that is declared is a name
  pub declared_names : (names : List (List ℕ)) → Promises AnyToken (new_name is_name is_same names) (λ name. is_name name ≡ true)
  declared_names names = token (λ x a p e.
      let n = fits_if (is_name x) (fresh is_same names x) Syntax a e in
      let f = fits_unless (is_among is_same names x) Twice x a n.1 in
      subst (λ (y : List ℕ). is_name y ≡ true) f.1 n.0)

  -- so is that of a core
  pub core_names : (cores : List Core) (ports : List VPort) (driven : ℕ)
      → Promises AnyToken (known is_name (core_name is_same cores ports driven)) (λ core. is_name core ≡ true)
  core_names cores ports driven = token (λ x a p e.
      let n = fits_if (is_name x) (allowed_by Undefined (core_name is_same cores ports driven x)) Syntax a e in
      let s = some_if (fits ports driven (core_ports is_same cores x)) x a
      (fits_allowed Undefined (core_name is_same cores ports driven x) a n.1) in
      subst (λ (y : List ℕ). is_name y ≡ true) s.1 n.0)

-- the driver that is read of a section is named so
abbrev pub ReadsNamed : SectionGrammar → (List ℕ → Bool) → (List ℕ → List ℕ → Bool) → Type 0
ReadsNamed g is_name is_same =
    (names : List (List ℕ)) (cores : List Core) (bytes : List ℕ) (driver : DriverModel)
    → section_text g names cores bytes ≡ Ok driver → IsNamed is_name is_same driver

-- it is where the grammar promises so
pub reads_named : (g : SectionGrammar) (is_name : List ℕ → Bool) (is_same : List ℕ → List ℕ → Bool) → EndsTexts g
    → ((names : List (List ℕ)) (cores : List Core) → Promises AnyToken (section g names cores) (IsNamed is_name is_same))
    → ReadsNamed g is_name is_same
reads_named g is_name is_same ends promise names cores bytes =
    text_keeps g ends names cores bytes (IsNamed is_name is_same) (promise names cores)
