-- Primitives by their names, the number of their inputs and their rows.
use Rattle.std.proofs.Common.{◌≡◌, ℕ, Bool, List, Result, IfOk, subst}
use Rattle.udp_tables.specs.declared.table.Udp.{Udp}
use Rattle.udp_tables.specs.declared.table.UdpRow.{UdpRow}
use Rattle.udp_tables.specs.PortNames.{output_name, input_names}

abbrev pub named : List ℕ → ℕ → Bool → List UdpRow → Udp
named name inputs sequential rows = record {
  name = name;
  output = output_name;
  inputs = input_names inputs;
  sequential = sequential;
  rows = rows;
}

-- a primitive that was made is that of equal parts
pub named_as :
    {E : Type 0} (made : Result Udp E) (sequential : Bool) {name other : List ℕ} {inputs count : ℕ} {rows like : List UdpRow}
    → name ≡ other → inputs ≡ count → rows ≡ like
    → IfOk made (λ udp. udp ≡ named name inputs sequential rows) → IfOk made (λ udp. udp ≡ named other count sequential like)
named_as made sequential n k r =
    let P : Udp → Type 0 = λ wanted. IfOk made (λ udp. udp ≡ wanted) in subst P (λ i. named (n i) (k i) sequential (r i))
