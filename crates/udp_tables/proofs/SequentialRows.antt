-- The rows of small steps, by computing.
use Rattle.std.proofs.Common.{◌≡◌, true, false, not, ◌&&◌, List, [], ◌∷◌, ◌++◌, map, refl, if◌then◌else◌}
use Rattle.trit_cubes.specs.declared.trits.Trit.TheVariants as trit
use Rattle.trit_cubes.specs.Filling.{trit_of}
use Rattle.cell_machine.specs.Machine.{Step}
use Rattle.udp_tables.specs.declared.table.Level.{Level}
use Rattle.udp_tables.specs.declared.table.Level.TheVariants as level
use Rattle.udp_tables.specs.declared.table.Entry.{Entry}
use Rattle.udp_tables.specs.declared.table.Entry.TheVariants as entry
use Rattle.udp_tables.specs.declared.table.Next.{Next}
use Rattle.udp_tables.specs.declared.table.Next.TheVariants as next
use Rattle.udp_tables.specs.declared.table.UdpRow.{UdpRow}
use Rattle.udp_tables.specs.Sequential.{sequential_rows, compact_rows}

-- A flip-flop of a clock and a data input.
abbrev pub flip_flop : Step
flip_flop (old ∷ d ∷ []) (new ∷ e ∷ []) s = (if not old && new then trit_of e else trit_of s)
flip_flop _ _ s = trit.Unknown

row : List Entry → Level → Next → UdpRow
row inputs state gives = record { inputs = inputs; state = state; next = gives }

any : Entry
any = entry.Level level.Any

zero : Entry
zero = entry.Level level.Zero

one : Entry
one = entry.Level level.One

rise : Entry
rise = entry.Pair level.Zero level.One

from_one : Entry
from_one = entry.Pair level.One level.Any

to_zero : Entry
to_zero = entry.Pair level.Any level.Zero

-- the row behind whose inputs a notifier stands that may be anything
beside : UdpRow → UdpRow
beside r = record r { inputs = r.inputs ++ any ∷ [] }

-- the row of a notifier that changes
changed : UdpRow
changed = row (any ∷ any ∷ entry.Star ∷ []) level.Any next.Unknown

-- the rows of the changes that give a value, by a data input of this value or by a state that stays
changes : Entry → Level → Next → List UdpRow
changes value state gives =
    row (rise ∷ value ∷ []) level.Any gives
    ∷ row (from_one ∷ any ∷ []) state gives
    ∷ row (to_zero ∷ any ∷ []) state gives
    ∷ row (entry.Star ∷ value ∷ []) state gives ∷ []

plain : List UdpRow
plain =
    changes one level.One next.One ++ changes zero level.Zero next.Zero
    ++ row (any ∷ entry.Star ∷ []) level.One next.One
    ∷ row (any ∷ entry.Star ∷ []) level.Zero next.Zero ∷ []

compact : List UdpRow
compact =
    row (rise ∷ one ∷ []) level.Any next.One
    ∷ row (from_one ∷ any ∷ []) level.Any next.Keep
    ∷ row (to_zero ∷ any ∷ []) level.Any next.Keep
    ∷ row (entry.Star ∷ one ∷ []) level.One next.One
    ∷ row (rise ∷ zero ∷ []) level.Any next.Zero
    ∷ row (entry.Star ∷ zero ∷ []) level.Zero next.Zero
    ∷ row (any ∷ entry.Star ∷ []) level.Any next.Keep ∷ []

-- in plain and in compact form, without a notifier and with one
flip_flop-rows :
    (sequential_rows false 2 flip_flop ≡ plain)
    × (sequential_rows true 2 flip_flop ≡ changed ∷ map beside plain)
    × (compact_rows false 2 flip_flop ≡ compact)
    × (compact_rows true 2 flip_flop ≡ changed ∷ map beside compact)
unfolding row any zero one rise from_one to_zero beside changed changes plain compact
flip_flop-rows = (refl, refl, refl, refl)

-- a clear that is 1 forces the state, whatever the clock and the data are
abbrev pub cleared : Step
cleared (before ∷ []) (clear ∷ []) s = (if clear then trit.Zero else trit_of s)
cleared _ _ s = trit.Unknown

cleared-rows : sequential_rows true 1 cleared
    ≡ row (one ∷ any ∷ []) level.Any next.Zero
    ∷ row (any ∷ entry.Star ∷ []) level.Any next.Unknown
    ∷ row (to_zero ∷ any ∷ []) level.One next.One
    ∷ row (entry.Pair level.Any level.One ∷ any ∷ []) level.Any next.Zero
    ∷ row (entry.Star ∷ any ∷ []) level.Zero next.Zero ∷ []
unfolding row any zero one rise from_one to_zero
cleared-rows = refl
