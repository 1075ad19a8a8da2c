-- The definitions at small functions, by computing.
use Rattle.std.proofs.Common.{◌≡◌, ℕ, Bool, false, not, ◌&&◌, ◌||◌, List, [], ◌∷◌, slice_index_or, refl}
use Rattle.trit_cubes.specs.declared.trits.Trit.TheVariants as trit
use Rattle.trit_cubes.specs.Filling.{trit_of}
use Rattle.udp_tables.specs.declared.table.Level.TheVariants as level
use Rattle.udp_tables.specs.declared.table.Entry.{Entry}
use Rattle.udp_tables.specs.declared.table.Entry.TheVariants as entry
use Rattle.udp_tables.specs.declared.table.Next.{Next}
use Rattle.udp_tables.specs.declared.table.Next.TheVariants as next
use Rattle.udp_tables.specs.declared.table.UdpRow.{UdpRow}
use Rattle.udp_tables.specs.Generated.{function_rows}

row : List Entry → Next → UdpRow
row inputs gives = record { inputs = inputs; state = level.Any; next = gives }

at : List Bool → ℕ → Bool
at p i = slice_index_or p i false

-- `A*B`
rows-product : function_rows 2 (λ p. trit_of (at p 0 && at p 1))
    ≡ row (entry.Level level.One ∷ entry.Level level.One ∷ []) next.One
    ∷ row (entry.Level level.Zero ∷ entry.Level level.Any ∷ []) next.Zero
    ∷ row (entry.Level level.Any ∷ entry.Level level.Zero ∷ []) next.Zero ∷ []
unfolding row at
rows-product = refl

-- `(A*!S)+(B*S)`, with the rows that no product of it names
rows-multiplexer : function_rows 3 (λ p. trit_of (at p 0 && not (at p 1) || at p 2 && at p 1))
    ≡ row (entry.Level level.One ∷ entry.Level level.Zero ∷ entry.Level level.Any ∷ []) next.One
    ∷ row (entry.Level level.One ∷ entry.Level level.Any ∷ entry.Level level.One ∷ []) next.One
    ∷ row (entry.Level level.Any ∷ entry.Level level.One ∷ entry.Level level.One ∷ []) next.One
    ∷ row (entry.Level level.Zero ∷ entry.Level level.Zero ∷ entry.Level level.Any ∷ []) next.Zero
    ∷ row (entry.Level level.Zero ∷ entry.Level level.Any ∷ entry.Level level.Zero ∷ []) next.Zero
    ∷ row (entry.Level level.Any ∷ entry.Level level.One ∷ entry.Level level.Zero ∷ []) next.Zero ∷ []
unfolding row at
rows-multiplexer = refl

-- a function that is known nowhere
rows-unknown : function_rows 2 (λ _. trit.Unknown) ≡ row (entry.Level level.Any ∷ entry.Level level.Any ∷ []) next.Unknown ∷ []
unfolding row
rows-unknown = refl
