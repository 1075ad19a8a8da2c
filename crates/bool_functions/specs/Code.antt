-- A tree as a list of codes, one for each node, each after those of its parts.
use Rattle.std.specs.Prelude.{◌≡◌, ℕ, ◌-◌, ◌==◌, ◌&&◌, nat_lt, Bool, true, false, List, [], ◌∷◌, ◌++◌, length, slice_index}
use Rattle.std.specs.Prelude.{Result, Ok, Err}
use Rattle.std.specs.List.{list_all}
use Rattle.bool_functions.specs.Tree.{value_of}
use Rattle.bool_functions.specs.declared.codes.Code.{Code}
use Rattle.bool_functions.specs.declared.codes.Code.TheVariants as code
use Rattle.bool_functions.specs.declared.tree.Pair.{Pair}
use Rattle.bool_functions.specs.declared.tree.Pair.TheVariants as pair
use Rattle.bool_functions.specs.declared.tree.Node.{Node}
use Rattle.bool_functions.specs.declared.tree.Node.TheVariants as node
use Rattle.bool_functions.specs.declared.tree.Node.TheOpen.{Node-F}
use Rattle.bool_functions.specs.declared.tree.Node.TheFolds.{fold-Node}

abbrev pub codes_step : Node-F (List Code) → List Code
codes_step Node-F.Zero = code.Zero ∷ []
codes_step Node-F.One = code.One ∷ []
codes_step (Node-F.Name i) = code.Name i ∷ []
codes_step (Node-F.Not f) = f ++ code.Not ∷ []
codes_step (Node-F.Xor f g) = (f ++ g) ++ code.Xor (length g) ∷ []
codes_step (Node-F.And f g) = (f ++ g) ++ code.And (length g) ∷ []
codes_step (Node-F.Or f g) = (f ++ g) ++ code.Or (length g) ∷ []

-- the codes of a tree, in which an operator of two parts tells how many codes the second has
abbrev pub codes_of : Node → List Code
codes_of = fold-Node (List Code) codes_step

-- the number in a code is below 2 to the power 16
abbrev pub is_small : Code → Bool
is_small code.Zero = true
is_small code.One = true
is_small (code.Name i) = nat_lt i 65536
is_small code.Not = true
is_small (code.Xor n) = nat_lt n 65536
is_small (code.And n) = nat_lt n 65536
is_small (code.Or n) = nat_lt n 65536

-- so are those in all codes of a tree
abbrev pub fits : Node → Bool
fits f = list_all is_small (codes_of f)

-- an operator of two parts, of which the second has so many codes
abbrev pub code_of : Pair → ℕ → Code
code_of pair.Xor n = code.Xor n
code_of pair.And n = code.And n
code_of pair.Or n = code.Or n

-- a code comes to a list, where its number has room
abbrev pub AddsCode : Bool → List Code → List Code → Code → Type 0
AddsCode true old new c = (new ≡ old ++ c ∷ []) × (is_small c ≡ true)
AddsCode false old new c = is_small c ≡ false

-- the same behind those of two parts, where they were added and had room
abbrev pub Closes : {E : Type 0} → Result Bool E → Result Bool E → Bool → List Code → List Code → Code → Type 0
Closes (Ok true) (Ok true) fits old new c = AddsCode fits old new c
Closes (Ok true) (Ok false) fits old new c = fits ≡ false
Closes (Ok false) second fits old new c = fits ≡ false
Closes (Ok true) (Err e) fits old new c = ⊥
Closes (Err e) second fits old new c = ⊥

-- a tree's codes come to a list, where they fit
abbrev pub Adds : Bool → List Code → List Code → Node → Type 0
Adds true old new f = (new ≡ old ++ codes_of f) × (fits f ≡ true)
Adds false old new f = fits f ≡ false

-- an operator takes the two innermost trees
abbrev pub joined : (Node → Node → Node) → List Node → List Node
joined op [] = []
joined op (g ∷ []) = []
joined op (g ∷ (f ∷ fs)) = op f g ∷ fs

-- an operator takes the innermost tree
abbrev pub inverted : List Node → List Node
inverted [] = []
inverted (f ∷ fs) = node.Not f ∷ fs

-- what a code makes of the trees that are read before it, the innermost first
abbrev pub read_code : List Node → Code → List Node
read_code fs code.Zero = node.Zero ∷ fs
read_code fs code.One = node.One ∷ fs
read_code fs (code.Name i) = node.Name i ∷ fs
read_code fs code.Not = inverted fs
read_code fs (code.Xor n) = joined node.Xor fs
read_code fs (code.And n) = joined node.And fs
read_code fs (code.Or n) = joined node.Or fs

abbrev pub read_codes : List Node → List Code → List Node
read_codes fs [] = fs
read_codes fs (c ∷ cs) = read_codes (read_code fs c) cs

abbrev pub innermost : List Node → Node
innermost [] = node.Zero
innermost (f ∷ fs) = f

-- the tree that codes make
abbrev pub tree_of : List Code → Node
tree_of codes = innermost (read_codes [] codes)

-- the numbers of the names among some codes
abbrev pub code_names : List Code → List ℕ
code_names [] = []
code_names (code.Name i ∷ cs) = i ∷ code_names cs
code_names (c ∷ cs) = code_names cs

-- whether two codes are equal
abbrev pub same_code : Code → Code → Bool
same_code code.Zero code.Zero = true
same_code code.One code.One = true
same_code (code.Name i) (code.Name j) = i == j
same_code code.Not code.Not = true
same_code (code.Xor n) (code.Xor m) = n == m
same_code (code.And n) (code.And m) = n == m
same_code (code.Or n) (code.Or m) = n == m
same_code _ _ = false

-- whether two lists of codes are equal
abbrev pub same_codes : List Code → List Code → Bool
same_codes [] [] = true
same_codes (c ∷ cs) (d ∷ ds) = same_code c d && same_codes cs ds
same_codes _ _ = false

-- the code is that of a name
abbrev pub is_name_code : ℕ → Code → Bool
is_name_code i (code.Name j) = j == i
is_name_code i c = false

-- the codes of an operator's two parts, of which the second has so many, are cut into those of each
abbrev pub AreHalves : List Code → ℕ → List Code → List Code → Type 0
AreHalves cs n first second = (f g : Node) → cs ≡ codes_of f ++ codes_of g → n ≡ length (codes_of g) → (first ≡ codes_of f)
    × (second ≡ codes_of g)

-- where the codes are those of a tree, this is its value
abbrev pub IsValue : List Bool → List Code → Bool → Type 0
IsValue bits cs b = (f : Node) → cs ≡ codes_of f → b ≡ value_of bits f

-- the code with another number for a name, which stands at the number's place in a list
abbrev pub renamed_code : List ℕ → Code → Code
renamed_code to code.Zero = code.Zero
renamed_code to code.One = code.One
renamed_code to (code.Name i) = code.Name (slice_index to i)
renamed_code to code.Not = code.Not
renamed_code to (code.Xor n) = code.Xor n
renamed_code to (code.And n) = code.And n
renamed_code to (code.Or n) = code.Or n

abbrev pub room_step : Node-F (ℕ → ℕ) → ℕ → ℕ
room_step Node-F.Zero n = n - 1
room_step Node-F.One n = n - 1
room_step (Node-F.Name i) n = n - 1
room_step (Node-F.Not f) n = f (n - 1)
room_step (Node-F.Xor f g) n = g (f (n - 1))
room_step (Node-F.And f g) n = g (f (n - 1))
room_step (Node-F.Or f g) n = g (f (n - 1))

-- what is left of so many nodes after those of a tree
abbrev pub room_after : Node → ℕ → ℕ
room_after = fold-Node (ℕ → ℕ) room_step

-- a tree that is kept as its codes: it has 16 nodes at least, and fits
abbrev pub is_long : Node → Bool
is_long f = (room_after f 16 == 0) && fits f
