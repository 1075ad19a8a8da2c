-- The grammar of function texts, and with which token no function text goes on. The operators, and how tightly they
-- bind, are those of the Liberty Reference Manual, attribute `function`: inversion first, then exclusive or, then and,
-- then or, each from left to right, and two operands side by side are an and.
use Rattle.std.specs.Prelude.{◌≡◌, ℕ, ◌+◌, ◌<◌, ◌≤◌, List, [], ◌∷◌, ◌++◌, length, take}
use Rattle.bool_functions.specs.declared.symbol.Symbol.{Symbol}
use Rattle.bool_functions.specs.declared.symbol.Symbol.TheVariants as symbol
use Rattle.bool_functions.specs.declared.tree.Node.{Node}
use Rattle.bool_functions.specs.declared.tree.Node.TheVariants as node

-- the rules, the one that binds loosest first
pub data Rule : Type 0 where
  AtOr : Rule
  AtAnd : Rule
  AtXor : Rule
  AtNot : Rule
  AtPost : Rule

-- From these symbols a phrase of the rule with this tree can be taken, which leaves the others.
--
--     or   = and { ("+" | "|") and }
--     and  = xor { [ "*" | "&" ] xor }
--     xor  = not { "^" not }
--     not  = { "!" } post
--     post = ( name | "0" | "1" | "(" or ")" ) { "'" }
pub data Takes : Rule → List Symbol → Node → List Symbol → Type 0 where
  name : {i : ℕ} {rest : List Symbol} → Takes AtPost (symbol.Name i ∷ rest) (node.Name i) rest
  zero : {rest : List Symbol} → Takes AtPost (symbol.Zero ∷ rest) node.Zero rest
  one : {rest : List Symbol} → Takes AtPost (symbol.One ∷ rest) node.One rest
  group : {s rest : List Symbol} {f : Node} → Takes AtOr s f (symbol.Close ∷ rest) → Takes AtPost (symbol.Open ∷ s) f rest
  quote : {s rest : List Symbol} {f : Node} → Takes AtPost s f (symbol.Quote ∷ rest) → Takes AtPost s (node.Not f) rest
  post : {s rest : List Symbol} {f : Node} → Takes AtPost s f rest → Takes AtNot s f rest
  bang : {s rest : List Symbol} {f : Node} → Takes AtNot s f rest → Takes AtNot (symbol.Bang ∷ s) (node.Not f) rest
  not : {s rest : List Symbol} {f : Node} → Takes AtNot s f rest → Takes AtXor s f rest
  caret : {s t rest : List Symbol} {f g : Node} → Takes AtXor s f (symbol.Caret ∷ t) → Takes AtNot t g rest
      → Takes AtXor s (node.Xor f g) rest
  xor : {s rest : List Symbol} {f : Node} → Takes AtXor s f rest → Takes AtAnd s f rest
  times : {s t rest : List Symbol} {f g : Node} → Takes AtAnd s f (symbol.Times ∷ t) → Takes AtXor t g rest
      → Takes AtAnd s (node.And f g) rest
  beside : {s t rest : List Symbol} {f g : Node} → Takes AtAnd s f t → Takes AtXor t g rest → Takes AtAnd s (node.And f g) rest
  and : {s rest : List Symbol} {f : Node} → Takes AtAnd s f rest → Takes AtOr s f rest
  plus : {s t rest : List Symbol} {f g : Node} → Takes AtOr s f (symbol.Plus ∷ t) → Takes AtAnd t g rest
      → Takes AtOr s (node.Or f g) rest

-- these symbols are a function text with this tree
abbrev pub IsText : List Symbol → Node → Type 0
IsText s f = Takes AtOr s f []

-- some function text begins with these symbols
abbrev pub IsFront : List Symbol → Type 0
IsFront s = (more : List Symbol) × (f : Node) × IsText (s ++ more) f

-- The symbol at this place is the first with which no function text goes on. Where the place is the end, the symbols
-- are a front of a function text and none themselves.
pub record IsFault (s : List Symbol) (at : ℕ) : Type 0 where
  pub within : at ≤ length s
  pub before : IsFront (take at s)
  pub first : at < length s → IsFront (take (at + 1) s) → ⊥
  pub short : at ≡ length s → (f : Node) → IsText s f → ⊥
