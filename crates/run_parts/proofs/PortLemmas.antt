-- The numbers of ports among the inputs, as a list.
use Rattle.std.proofs.Common.{◌≡◌, ℕ, ◌+◌, ◌<◌, ◌≤◌, true, false, List, length, map, get_or, ap, sym, ◌∙◌, Some, None, slice_get}
use Rattle.std.proofs.Common.{arith, inl, inr, ◌⊎◌, [], ◌∷◌, ◌++◌}
use Rattle.std.specs.Prelude.{count_by}
use Rattle.std.specs.List.{range_with_len}
use Rattle.std.proofs.lemmas.List.{take_all}
use Rattle.std.proofs.lemmas.List.Sums.{count_by_more_no, count_by_more_yes}
use Rattle.std.proofs.lemmas.List.FromFn.{get_or-map-range_with_len, length-map-range_with_len, map-range_with_len_more}
use Rattle.std.proofs.lemmas.Option.{slice_get_within, get_or_from_slice_get, slice_get_cases}
use Rattle.udp_tables.specs.declared.models.VPort.{VPort}
use Rattle.run_parts.specs.PortNumbers.{is_input, input_count, input_number}
use Rattle.run_parts.specs.InputNumbers.{input_numbers}

-- the number in the list is that of the port
pub listed-number :
    (ports : List VPort) (p n : ℕ) → slice_get (input_numbers ports) p ≡ Some n → n ≡ input_number ports p
listed-number ports p n e =
    let many = length-map-range_with_len (input_number ports) 0 (length ports) in
    let within = slice_get_within (input_numbers ports) p n e in
    sym (get_or_from_slice_get (input_numbers ports) p n 0 e)
    ∙ get_or-map-range_with_len (input_number ports) 0 (length ports) p p 0 (omega (arith, many, within)) (omega arith)

-- behind the list stand all inputs before a port
pub unlisted-number :
    (ports : List VPort) (p : ℕ) → slice_get (input_numbers ports) p ≡ None → input_count ports ≡ input_number ports p
unlisted-number ports p e = by (slice_get_cases (input_numbers ports) p).1
  where
    by :
        ((n : ℕ) × (p < length (input_numbers ports)) × (slice_get (input_numbers ports) p ≡ Some n)
        × (get_or (input_numbers ports) p n ≡ n))
        ⊎ ((length (input_numbers ports) ≤ p) × (slice_get (input_numbers ports) p ≡ None))
        → input_count ports ≡ input_number ports p
    by (inl found) = let listed = found.2 in absurd cc
    by (inr past) =
        let many = length-map-range_with_len (input_number ports) 0 (length ports) in
        ap (count_by is_input) (sym (take_all p ports (omega (arith, many, past.0))))

-- one port more
pub one-input :
    (ports : List VPort) (i : ℕ) (port : VPort)
    → slice_get ports i ≡ Some port → port.input ≡ true → input_number ports i + 1 ≡ input_number ports (i + 1)
one-input ports i port e t =
    sym
    (count_by_more_yes is_input ports i port (slice_get_within ports i port e)
    (ap is_input (get_or_from_slice_get ports i port port e) ∙ t))

pub no-input :
    (ports : List VPort) (i : ℕ) (port : VPort)
    → slice_get ports i ≡ Some port → port.input ≡ false → input_number ports i ≡ input_number ports (i + 1)
no-input ports i port e f =
    sym
    (count_by_more_no is_input ports i port (slice_get_within ports i port e)
    (ap is_input (get_or_from_slice_get ports i port port e) ∙ f))

-- one number more
pub more-numbers :
    (ports : List VPort) (i count : ℕ) (numbers next : List ℕ)
    → next ≡ numbers ++ count ∷ [] → count ≡ input_number ports i → numbers ≡ map (input_number ports) (range_with_len 0 i)
    → next ≡ map (input_number ports) (range_with_len 0 (i + 1))
more-numbers ports i count numbers next is counted so_far =
    is
    ∙ (λ j. so_far j ++ counted j ∷ [])
    ∙ sym (map-range_with_len_more (input_number ports) 0 i i (omega arith))
