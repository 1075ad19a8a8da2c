-- The definitions at small steps, by computing.
use Rattle.std.proofs.Common.{◌≡◌, true, false, List, [], ◌∷◌, ◌++◌, refl}
use Rattle.vital_tables.specs.declared.table.Trits.{Trits}
use Rattle.vital_tables.specs.declared.table.Trits.TheVariants as trits
use Rattle.vital_tables.specs.declared.table.VSymbol.{VSymbol}
use Rattle.vital_tables.specs.declared.table.VSymbol.TheVariants as symbol
use Rattle.vital_tables.specs.declared.table.VNext.{VNext}
use Rattle.vital_tables.specs.declared.table.VNext.TheVariants as next
use Rattle.vital_tables.specs.declared.table.VStateRow.{VStateRow}
use Rattle.vital_tables.proofs.udp_tables.SequentialRows.{flip_flop, cleared}
use Rattle.vital_tables.specs.Rows.{state_rows, compact_rows}

row : List VSymbol → Trits → VNext → VStateRow
row inputs state result = record { inputs = inputs; state = state; result = result }

any : VSymbol
any = symbol.Level trits.Any

-- the rows of the changes that give a value, by a data input of this value or by a state that stays
changes : Trits → VNext → List VStateRow
changes value result =
    row (any ∷ symbol.Rise ∷ symbol.Level value ∷ []) trits.Any result
    ∷ row (any ∷ symbol.From1 ∷ any ∷ []) value result
    ∷ row (any ∷ symbol.To0 ∷ any ∷ []) value result
    ∷ row (any ∷ symbol.Change ∷ symbol.Level value ∷ []) value result ∷ []

flip_flop-rows : state_rows true 2 flip_flop
    ≡ row (symbol.Level trits.Zero ∷ symbol.Steady ∷ symbol.Steady ∷ []) trits.Any next.Keep
    ∷ row (symbol.Level trits.Unknown ∷ any ∷ any ∷ []) trits.Any next.Unknown
    ∷ changes trits.One next.One ++ changes trits.Zero next.Zero
    ++ row (any ∷ any ∷ symbol.Change ∷ []) trits.One next.One
    ∷ row (any ∷ any ∷ symbol.Change ∷ []) trits.Zero next.Zero
    ∷ row (any ∷ any ∷ any ∷ []) trits.Any next.Unknown ∷ []
unfolding row any changes
flip_flop-rows = refl

-- in compact form
flip_flop-compact : compact_rows true 2 flip_flop
    ≡ row (symbol.Level trits.Zero ∷ symbol.Steady ∷ symbol.Steady ∷ []) trits.Any next.Keep
    ∷ row (symbol.Level trits.Unknown ∷ any ∷ any ∷ []) trits.Any next.Unknown
    ∷ row (any ∷ symbol.Rise ∷ symbol.Level trits.One ∷ []) trits.Any next.One
    ∷ row (any ∷ symbol.From1 ∷ any ∷ []) trits.Any next.Keep
    ∷ row (any ∷ symbol.To0 ∷ any ∷ []) trits.Any next.Keep
    ∷ row (any ∷ symbol.Change ∷ symbol.Level trits.One ∷ []) trits.One next.One
    ∷ row (any ∷ symbol.Rise ∷ symbol.Level trits.Zero ∷ []) trits.Any next.Zero
    ∷ row (any ∷ symbol.Change ∷ symbol.Level trits.Zero ∷ []) trits.Zero next.Zero
    ∷ row (any ∷ any ∷ symbol.Change ∷ []) trits.Any next.Keep
    ∷ row (any ∷ any ∷ any ∷ []) trits.Any next.Unknown ∷ []
unfolding row any
flip_flop-compact = refl

-- A clear that is 1 forces the state; without checks there is no column of the violation.
cleared-rows : state_rows false 1 cleared
    ≡ row (symbol.Steady ∷ []) trits.Any next.Keep
    ∷ row (symbol.Level trits.One ∷ []) trits.Any next.Zero
    ∷ row (symbol.To0 ∷ []) trits.One next.One
    ∷ row (symbol.To1 ∷ []) trits.Any next.Zero
    ∷ row (symbol.Change ∷ []) trits.Zero next.Zero
    ∷ row (any ∷ []) trits.Any next.Unknown ∷ []
unfolding row any
cleared-rows = refl
