-- Which input or driven output a name stands for at an end of a path. (IEEE 1364-2005, 14.2.1; IEEE 1076.4-2000,
-- VitalPathDelay01.)
use Rattle.std.specs.Prelude.{ℕ, ◌+◌, Bool, nat_eq, if◌then◌else◌, List, [], ◌∷◌, position, Option, Some, None}
use Rattle.std.specs.Option.{option_and_then}
use Rattle.udp_tables.specs.declared.models.VPort.{VPort}

module _ (is_same : List ℕ → List ℕ → Bool) where
  -- the number, from this one on, among the inputs of the first one of this name
  abbrev pub input_from : ℕ → List VPort → List ℕ → Option ℕ
  input_from n [] x = None
  input_from n (port ∷ ports) x =
      if port.input then (if is_same x port.name then Some n else input_from (n + 1) ports x) else input_from n ports x

  -- the same among the outputs
  abbrev pub output_from : ℕ → List VPort → List ℕ → Option ℕ
  output_from n [] x = None
  output_from n (port ∷ ports) x =
      if port.input then output_from n ports x else (if is_same x port.name then Some n else output_from (n + 1) ports x)

  -- the number of the input of this name
  abbrev pub input_number : List VPort → List ℕ → Option ℕ
  input_number ports x = input_from 0 ports x

  -- the number among the driven outputs, which stand at these places, of the output of this name
  abbrev pub drive_number : List VPort → List ℕ → List ℕ → Option ℕ
  drive_number ports drives x = option_and_then (λ place. position (λ driven. nat_eq driven place) drives) (output_from 0 ports x)
