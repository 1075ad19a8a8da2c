-- The core of a driver that may stand: it is there, and has the driver's ports and one more output for each driven one.
use Rattle.std.proofs.Common.{◌≡◌, ℕ, ◌+◌, Bool, true, false, not, cond, nat_eq, List, [], ◌∷◌, length, map, slice_get, Option}
use Rattle.std.proofs.Common.{Some, None, refl, sym, ap, ◌∙◌, arith, eqb-true}
use Rattle.std.specs.List.{list_all}
use Rattle.std.specs.Bool.{beq}
use Rattle.std.specs.Option.{option_map, option_and_then}
use Rattle.std.proofs.lemmas.Bool.{and_parts, not-true}
use Rattle.std.proofs.lemmas.Option.{slice_get-map}
use Rattle.std.proofs.lemmas.List.Sums.{sum_by-cons}
use Rattle.udp_tables.specs.declared.models.VPort.{VPort}
use Rattle.driver_models.specs.declared.model.DriverModel.{DriverModel}
use Rattle.driver_models.specs.Models.{input_count, output_count, are_core_ports}
use Rattle.driver_models.specs.Cores.{Core, core_number, ports_at, core_ports, fits}
use Rattle.sectioned_texts.specs.DrivenModels.{SectionLanguage}
use Rattle.file_models.specs.FileModels.{core_named}

-- How many inputs and outputs a core has.

pub inputs_more : (port : VPort) (ports : List VPort) → input_count (port ∷ ports) ≡ cond port.input 1 0 + input_count ports
inputs_more port ports = sum_by-cons (λ (x : VPort). cond x.input 1 0) port ports

pub outputs_more : (port : VPort) (ports : List VPort)
    → output_count (port ∷ ports) ≡ cond (not port.input) 1 0 + output_count ports
outputs_more port ports = sum_by-cons (λ (x : VPort). cond (not x.input) 1 0) port ports

-- these are the counts of a core for a driver with these ports and so many driven outputs
pub record AreCounted (ports : List VPort) (driven : ℕ) (core : List VPort) : Type 0 where
  pub inputs : input_count core ≡ input_count ports
  pub outputs : output_count core ≡ output_count ports + driven

outputs_alone : (core : List VPort) → list_all (λ (port : VPort). not port.input) core ≡ true → (input_count core ≡ 0)
    × (output_count core ≡ length core)
outputs_alone [] h = (refl, refl)
outputs_alone (port ∷ core) h =
    let parts = and_parts (not port.input) (list_all (λ (port : VPort). not port.input) core) h in
    let rest = outputs_alone core parts.1 in
    let plain : port.input ≡ false = not-true port.input parts.0 in
    let inputs : input_count (port ∷ core) ≡ 0 + input_count core =
    inputs_more port core ∙ ap (λ (b : Bool). cond b 1 0 + input_count core) plain in
    let outputs : output_count (port ∷ core) ≡ 1 + output_count core =
    outputs_more port core ∙ ap (λ (b : Bool). cond (not b) 1 0 + output_count core) plain in
    (omega (arith, inputs, rest.0), omega (arith, outputs, rest.1))

same_bool : (a b : Bool) → beq a b ≡ true → a ≡ b
same_bool true true e = refl
same_bool false false e = refl
same_bool true false e = absurd cc
same_bool false true e = absurd cc

pub counted : (ports : List VPort) (driven : ℕ) (core : List VPort) → are_core_ports ports driven core ≡ true
    → AreCounted ports driven core
counted [] driven core h =
    let parts = and_parts (nat_eq (length core) driven) (list_all (λ (port : VPort). not port.input) core) h in
    let alone = outputs_alone core parts.1 in
    let none : input_count [] ≡ 0 = refl in
    let no_outputs : output_count [] ≡ 0 = refl in
    let long : length core ≡ driven = eqb-true (length core) driven parts.0 in
    record { inputs = omega (arith, alone.0, none); outputs = omega (arith, alone.1, no_outputs, long) }
counted (port ∷ ports) driven [] h = absurd cc
counted (port ∷ ports) driven (first ∷ core) h =
    let parts = and_parts (beq first.input port.input) (are_core_ports ports driven core) h in
    let rest = counted ports driven core parts.1 in
    let same : first.input ≡ port.input = same_bool first.input port.input parts.0 in
    let a = inputs_more first core ∙ ap (λ (b : Bool). cond b 1 0 + input_count core) same in
    let b = outputs_more first core ∙ ap (λ (b : Bool). cond (not b) 1 0 + output_count core) same in
    record {
      inputs = a ∙ ap (λ (n : ℕ). cond port.input 1 0 + n) rest.inputs ∙ sym (inputs_more port ports);
      outputs = b ∙ (let more : output_count (port ∷ ports) ≡ cond (not port.input) 1 0 + output_count ports =
          outputs_more port ports in
          let all : output_count core ≡ output_count ports + driven = rest.outputs in omega (arith, more, all));
    }

-- The core is there.

-- where a driver fits models, and its numbers are those of its ports
pub record HasCore {M : Type 0} (l : SectionLanguage M) (models : List M) (driver : DriverModel) (core : M) : Type 0 where
  pub found : core_named l models driver.core ≡ Some core
  pub counted : AreCounted driver.ports (length driver.driver.drives) (l.core core).ports

module _ {M : Type 0} (l : SectionLanguage M) (models : List M) where
  ports_found : (number : Option ℕ)
      → option_and_then (ports_at (map l.core models)) number ≡ option_map (λ m. (l.core m).ports)
      (option_and_then (slice_get models) number)
  ports_found None = refl
  ports_found (Some n) = ap (option_map (λ (core : Core). core.ports)) (slice_get-map l.core models n)
      ∙ twice (slice_get models n)
    where
      twice : (o : Option M) → option_map (λ (core : Core). core.ports) (option_map l.core o) ≡ option_map
          (λ m. (l.core m).ports) o
      twice None = refl
      twice (Some m) = refl

  pub has_core : (driver : DriverModel)
      → fits driver.ports (length driver.driver.drives) (core_ports l.vocabulary.is_same (map l.core models) driver.core) ≡ true
      → (core : M) × HasCore l models driver core
  has_core driver h =
      let number = core_number l.vocabulary.is_same (map l.core models) driver.core in
      by (option_and_then (slice_get models) number) refl
      (ap (fits driver.ports (length driver.driver.drives)) (sym (ports_found number)) ∙ h)
    where
      by : (core : Option M) → core_named l models driver.core ≡ core
          → fits driver.ports (length driver.driver.drives) (option_map (λ m. (l.core m).ports) core) ≡ true → (core : M)
          × HasCore l models driver core
      by None is f = absurd cc
      by (Some m) is f = (
        m,
        record {
          found = is;
          counted =
              counted driver.ports (length driver.driver.drives) (l.core m).ports f;
        },
      )
