-- The values at all points, by the numbers of the points.
use Rattle.std.proofs.Common.{◌≡◌, ℕ, suc, ◌+◌, ◌*◌, ◌/◌, ◌%◌, ◌^◌, ◌<◌, Bool, true, false, not, ◌&&◌, ◌||◌, ◌==◌, if◌then◌else◌}
use Rattle.std.proofs.Common.{List, [], ◌∷◌, ◌++◌, length, slice_get, slice_index_or, EachIndex, Contains, refl, sym, ap}
use Rattle.std.proofs.Common.{subst, ◌∙◌, arith, inl, inr, eqb-true, eq-eqb, Some, IfOk, Result, Ok, Err}
use Rattle.std.proofs.lemmas.List.{length-map}
use Rattle.std.proofs.lemmas.List.Elements.{Contains-append_left, Contains-append_right}
use Rattle.bool_functions.specs.declared.tree.Node.{Node}
use Rattle.bool_functions.specs.declared.tree.Node.TheVariants as node
use Rattle.bool_functions.specs.Tree.{value_step, value_by, value_of, names_of, xor, Has}
use Rattle.bool_functions.specs.Point.{bit, number, bits_at, entry_at, entry_of, value_at, IsTable, HasValues}
use Rattle.bool_functions.proofs.Elements.{contains_here, contains_cases, contains_none}
use Rattle.bool_functions.proofs.Trees.{every_tree, fold-Zero, fold-One, fold-Name, fold-Not, fold-Xor, fold-And, fold-Or}
use Rattle.bool_functions.proofs.Trees.{names_Name, names_Not, names_Xor, names_And, names_Or}

pub bit_below : (b : Bool) → bit b < 2
bit_below true = omega arith
bit_below false = omega arith

pub number_below : (bs : List Bool) → number bs < 2 ^ length bs
number_below [] = omega arith
number_below (b ∷ bs) = let e : 2 ^ suc (length bs) ≡ 2 * 2 ^ length bs = grind arith
    in rw e (omega (arith, bit_below b, number_below bs))

pub half : (b : Bool) (n : ℕ) → (bit b + 2 * n) / 2 ≡ n
half true n = omega arith
half false n = omega arith

pub low_bit : (b : Bool) (n : ℕ) → (bit b + 2 * n) % 2 == 1 ≡ b
low_bit true n = eq-eqb _ _ (omega arith)
low_bit false n = let e : (bit false + 2 * n) % 2 ≡ 0 = omega arith in rw e refl

-- the entry of a name by a point's number is that at the point
pub entry_of_number : (places : List ℕ) (point : List Bool) → length point ≡ length places → (i : ℕ)
    → entry_of places (number point) i ≡ entry_at places point i
entry_of_number [] point h i = refl
entry_of_number (place ∷ places) [] h i = absurd (omega (arith, h))
entry_of_number (place ∷ places) (b ∷ bs) h i =
    ap (λ c. if place == i then c else entry_of places ((bit b + 2 * number bs) / 2) i) (low_bit b (number bs))
    ∙ ap (λ n. if place == i then b else entry_of places n i) (half b (number bs))
    ∙ ap (λ c. if place == i then b else c) (entry_of_number places bs (omega (arith, h)) i)

module _ (g h : ℕ → Bool) where
  abbrev Agrees : Node → Type 0
  Agrees f = ((i : ℕ) → Has f i → g i ≡ h i) → value_by g f ≡ value_by h f

  agrees_Name : (i : ℕ) → Agrees (node.Name i)
  agrees_Name i same =
      fold-Name Bool (value_step g) i ∙ same i (subst (λ l. Contains l i) (sym (names_Name i)) (contains_here i []))
      ∙ sym (fold-Name Bool (value_step h) i)

  agrees_Not : (f : Node) → Agrees f → Agrees (node.Not f)
  agrees_Not f p same =
      fold-Not Bool (value_step g) f ∙ ap not (p (λ i has. same i (subst (λ l. Contains l i) (sym (names_Not f)) has)))
      ∙ sym (fold-Not Bool (value_step h) f)

  both : (op : Bool → Bool → Bool) (f k : Node) (names : List ℕ) → names ≡ names_of f ++ names_of k → Agrees f → Agrees k
      → ((i : ℕ) → Contains names i → g i ≡ h i) → op (value_by g f) (value_by g k) ≡ op (value_by h f) (value_by h k)
  both op f k names e p q same =
      ap (λ b. op b (value_by g k)) (p
      (λ i has. same i (subst (λ l. Contains l i) (sym e) (Contains-append_left (names_of f) (names_of k) i has))))
      ∙ ap (λ b. op (value_by h f) b) (q
      (λ i has. same i (subst (λ l. Contains l i) (sym e) (Contains-append_right (names_of f) (names_of k) i has))))

  -- the value depends on what is given for the written names alone
  pub value_by_same : (f : Node) → Agrees f
  value_by_same = every_tree Agrees (record {
    zero_leaf = λ _. fold-Zero Bool (value_step g) ∙ sym (fold-Zero Bool (value_step h));
    one_leaf = λ _. fold-One Bool (value_step g) ∙ sym (fold-One Bool (value_step h));
    name_leaf = agrees_Name;
    not_of = agrees_Not;
    xor_of = λ f k p q same. fold-Xor Bool (value_step g) f k ∙ both xor f k _ (names_Xor f k) p q same
        ∙ sym (fold-Xor Bool (value_step h) f k);
    and_of = λ f k p q same. fold-And Bool (value_step g) f k ∙ both (λ a b. a && b) f k _ (names_And f k) p q same
        ∙ sym (fold-And Bool (value_step h) f k);
    or_of = λ f k p q same. fold-Or Bool (value_step g) f k ∙ both (λ a b. a || b) f k _ (names_Or f k) p q same
        ∙ sym (fold-Or Bool (value_step h) f k);
  })

first_place : (place i : ℕ) (places : List ℕ) (bits : List Bool) (b : Bool) → place == i ≡ b
    → (Contains places i → entry_at places (bits_at places bits) i ≡ slice_index_or bits i false)
    → Contains (place ∷ places) i → (if b then slice_index_or bits place false
    else entry_at places (bits_at places bits) i) ≡ slice_index_or bits i false
first_place place i places bits true e k h = ap (λ n. slice_index_or bits n false) (eqb-true place i e)
first_place place i places bits false e k h =
    elim (contains_cases place places i h) [ inl same ↦ absurd cc (eq-eqb place i same) | inr later ↦ k later ]

-- the point that the values make at some places has the value of each name that is a place
pub entry_at_bits : (places : List ℕ) (bits : List Bool) (i : ℕ) → Contains places i
    → entry_at places (bits_at places bits) i ≡ slice_index_or bits i false
entry_at_bits [] bits i h = absurd (contains_none i h)
entry_at_bits (place ∷ places) bits i h = first_place place i places bits (place == i) refl (entry_at_bits places bits i) h

-- at the point that the values make, the function has its value for them
pub value_at_bits : (places : List ℕ) (bits : List Bool) (f : Node) → ((i : ℕ) → Has f i → Contains places i)
    → value_at places (bits_at places bits) f ≡ value_of bits f
value_at_bits places bits f inside = value_by_same _ _ f (λ i has. entry_at_bits places bits i (inside i has))

-- what a table's entries by number say at the points
pub entries_points : (places : List ℕ) (f : Node) (values : List Bool) → length values ≡ 2 ^ length places
    → EachIndex values (λ k. slice_get values k ≡ Some (value_by (entry_of places k) f)) → IsTable places f values
entries_points places f values len each point same =
    each (number point) (let e : number point < 2 ^ length point = number_below point in rw len (rw (← same) e))
    ∙ ap Some (value_by_same _ _ f (λ i _. entry_of_number places point same i))

pub points_values : (places : List ℕ) (f : Node) (values : List Bool) → ((i : ℕ) → Has f i → Contains places i)
    → IsTable places f values → HasValues places f values
points_values places f values inside points bits =
    points (bits_at places bits) (length-map places (λ i. slice_index_or bits i false))
    ∙ ap Some (value_at_bits places bits f inside)

-- what follows from two facts about the same answer
pub IfOk-both : {X E : Type 0} (P Q R : X → Type 0) → ((x : X) → P x → Q x → R x) → (r : Result X E) → IfOk r P → IfOk r Q
    → IfOk r R
IfOk-both P Q R k (Ok x) p q = k x p q
IfOk-both P Q R k (Err e) p q = p
