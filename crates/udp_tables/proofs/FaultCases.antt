-- Texts with faults, in any language of models: what stands behind other bytes, and where it has which fault.
use Prim.Native.String.{String}
use Rattle.std.proofs.Common.{◌≡◌, ℕ, ◌+◌, List, ◌++◌, map, length, Err, codes}
use Rattle.std.specs.Prelude.{Result}
use Rattle.udp_tables.specs.declared.models.ModelFault.{ModelFault}

-- bytes behind others, the kind of their fault, and how many bytes it stands behind the others
pub record Case : Type 0 where
  pub before : List ℕ
  pub bytes : List ℕ
  pub kind : ℕ → ModelFault
  pub place : ℕ

abbrev pub at : String → (ℕ → ModelFault) → ℕ → List ℕ → Case
at text kind place before = record { before = before; bytes = codes text; kind = kind; place = place }

-- cases behind the same bytes
abbrev pub behind : List ℕ → List (List ℕ → Case) → List Case
behind before cases = map (λ c. c before) cases

-- each of them has its fault as a text
abbrev pub AreFaults : {A : Type 0} → (List ℕ → Result A ModelFault) → List Case → Type 0
AreFaults text cases = map (λ c. text (c.before ++ c.bytes)) cases ≡ map (λ c. Err (c.kind (length c.before + c.place))) cases
