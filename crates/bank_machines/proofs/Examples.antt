-- What the definitions give of a text over buses whose first position is the bit 1, and over the variables of a bank of two
-- states.
use Rattle.std.proofs.Common.{◌≡◌, ℕ, Bool, true, false, List, [], ◌∷◌, map, refl, codes}
use Rattle.std.specs.Prelude.{is_ok}
use Rattle.bool_functions.specs.declared.tree.Node.TheVariants as tree
use Rattle.bool_functions.specs.Machine.{run, start}
use Rattle.bus_texts.specs.declared.vectors.Vector.{Vector}
use Rattle.bus_texts.specs.declared.vectors.VectorKind.TheVariants as kinds
use Rattle.bus_texts.specs.Vectors.{member_name, bit_vector}
use Rattle.bus_texts.specs.Parts.{parts_of}
use Rattle.bank_machines.specs.BankTexts.{name_at, names_written, symbols_from, text_tree}

abbrev vectors : List Vector
vectors =
    bit_vector kinds.Bus (1 ∷ 0 ∷ []) (codes "D")
    ∷ bit_vector kinds.Variable (0 ∷ 1 ∷ []) (codes "IQ")
    ∷ bit_vector kinds.Variable (0 ∷ 1 ∷ []) (codes "IQN")
    ∷ []

abbrev text : List ℕ
text = codes "D[0] & !IQ + CK*D"

-- one tree, over four names ..
text_has_tree : text_tree vectors text ≡ tree.Or (tree.And (tree.Name 0) (tree.Not (tree.Name 1)))
    (tree.And (tree.Name 2) (tree.Name 3))
text_has_tree = refl

-- .. which have the values of these at each position
names_at_first : map (name_at vectors 0) (names_written text) ≡ member_name (codes "D") 0 ∷ member_name
    (codes "IQ") 0 ∷ codes "CK" ∷ member_name (codes "D") 1 ∷ []
names_at_first = refl

names_at_second : map (name_at vectors 1) (names_written text) ≡ member_name (codes "D") 0 ∷ member_name
    (codes "IQ") 1 ∷ codes "CK" ∷ member_name (codes "D") 0 ∷ []
names_at_second = refl

-- a number that runs into a name, and a bit behind a name that has none, are no texts
abbrev reads : List ℕ → Bool
reads written = is_ok (run start (symbols_from vectors 0 (parts_of written)))

bits_read : reads (codes "D[1]'(1 + D)") ≡ true
bits_read = refl

running_unread : reads (codes "1D") ≡ false
running_unread = refl

scalar_bit_unread : reads (codes "CK[0]") ≡ false
scalar_bit_unread = refl
