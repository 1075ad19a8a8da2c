-- How the reader goes over the symbols of a function text, with what waits for its right side on a pile.
use Rattle.std.specs.Prelude.{◌≡◌, ℕ, ◌<◌, ◌≤◌, Bool, true, false, nat_lt, List, [], ◌∷◌, length, drop, Option, None, Some}
use Rattle.std.specs.Prelude.{Result, Ok, Err, if◌then◌else◌}
use Rattle.bool_functions.specs.declared.symbol.Symbol.{Symbol}
use Rattle.bool_functions.specs.declared.symbol.Symbol.TheVariants as symbol
use Rattle.bool_functions.specs.declared.tree.Pair.{Pair}
use Rattle.bool_functions.specs.declared.tree.Pair.TheVariants as pair
use Rattle.bool_functions.specs.declared.tree.Node.{Node}
use Rattle.bool_functions.specs.declared.tree.Node.TheVariants as node
use Rattle.bool_functions.specs.declared.reader.Pending.{Pending}
use Rattle.bool_functions.specs.declared.reader.Pending.TheVariants as pending

-- how tightly what waits binds; an open group holds all
abbrev pub binds : Pending → ℕ
binds pending.Group = 0
binds (pending.Or f) = 1
binds (pending.And f) = 2
binds (pending.Xor f) = 3
binds pending.Not = 4

-- how tightly an operator of two parts binds
abbrev pub binding : Pair → ℕ
binding pair.Or = 1
binding pair.And = 2
binding pair.Xor = 3

-- an operator of two parts that waits for its right side
abbrev pub waiting : Pair → Node → Pending
waiting pair.Or f = pending.Or f
waiting pair.And f = pending.And f
waiting pair.Xor f = pending.Xor f

-- what waits, with its right side
abbrev pub joined : Pending → Node → Node
joined pending.Group g = g
joined (pending.Or f) g = node.Or f g
joined (pending.And f) g = node.And f g
joined (pending.Xor f) g = node.Xor f g
joined pending.Not g = node.Not g

-- all that binds at least so tightly takes the operand for its right side
abbrev pub settled : ℕ → List Pending → Node → List Pending × Node
settled least [] f = ([], f)
settled least (p ∷ ps) f = if nat_lt (binds p) least then (p ∷ ps, f) else settled least ps (joined p f)

-- nothing on the pile binds so tightly up to the innermost
abbrev pub Holds : ℕ → List Pending → Type 0
Holds least [] = Unit {0}
Holds least (p ∷ ps) = binds p < least

-- the innermost was taken away
abbrev pub IsClosed : List Pending → List Pending → Type 0
IsClosed old new = (p : Pending) × (old ≡ p ∷ new)

-- what is on the pile, and the operand that stands before the next symbol, if one does
abbrev pub State : Type 0
State = List Pending × Option Node

-- an operand begins
abbrev pub begin : List Pending → Symbol → Option State
begin ps (symbol.Name i) = Some (ps, Some (node.Name i))
begin ps symbol.Zero = Some (ps, Some node.Zero)
begin ps symbol.One = Some (ps, Some node.One)
begin ps symbol.Bang = Some (pending.Not ∷ ps, None)
begin ps symbol.Open = Some (pending.Group ∷ ps, None)
begin ps _ = None

-- the operand before an operator waits on the pile, with what it took
abbrev pub held : (Node → Pending) → List Pending × Node → List Pending
held wait p = wait p.1 ∷ p.0

-- the innermost open group is whole
abbrev pub closed : List Pending × Node → Option State
closed ([], f) = None
closed (p ∷ ps, f) = Some (ps, Some f)

-- after an operand
abbrev pub go_on : List Pending → Node → Symbol → Option State
go_on ps f symbol.Quote = Some (ps, Some (node.Not f))
go_on ps f symbol.Caret = Some (held pending.Xor (settled 3 ps f), None)
go_on ps f symbol.Times = Some (held pending.And (settled 2 ps f), None)
go_on ps f symbol.Plus = Some (held pending.Or (settled 1 ps f), None)
go_on ps f symbol.Close = closed (settled 1 ps f)
go_on ps f symbol.Stray = None
go_on ps f s = begin (held pending.And (settled 2 ps f)) s

abbrev pub step : State → Symbol → Option State
step (ps, None) s = begin ps s
step (ps, Some f) s = go_on ps f s

-- the tree, where no group is open
abbrev pub alone : List Pending × Node → Option Node
alone ([], f) = Some f
alone (p ∷ ps, f) = None

abbrev pub finished : State → Option Node
finished (ps, None) = None
finished (ps, Some f) = alone (settled 1 ps f)

abbrev pub ended : Option Node → Result Node (List Symbol)
ended None = Err []
ended (Some f) = Ok f

abbrev pub next : Option State → List Symbol → (State → Result Node (List Symbol)) → Result Node (List Symbol)
next None s after = Err s
next (Some st) s after = after st

-- the tree of the symbols, or the symbols from the first on with which no text goes on
abbrev pub run : State → List Symbol → Result Node (List Symbol)
run st [] = ended (finished st)
run st (x ∷ s) = next (step st x) (x ∷ s) (λ after. run after s)

abbrev pub start : State
start = ([], None)

-- what reading the symbols answers: the tree, or the place of the first with which no text goes on
abbrev pub Gives : Result Node ℕ → List Symbol → Result Node (List Symbol) → Type 0
Gives (Ok f) s r = r ≡ Ok f
Gives (Err at) s r = (r ≡ Err (drop at s)) × (at ≤ length s)

-- what a step answers: whether the symbol fits, and then the state after it
abbrev pub Steps : Option State → Bool → State → Type 0
Steps r true new = r ≡ Some new
Steps r false new = r ≡ None
