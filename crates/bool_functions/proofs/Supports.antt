-- A list into which numbers are put ascends, and has exactly these numbers.
use Rattle.std.proofs.Common.{◌≡◌, ℕ, zero, suc, ◌+◌, ◌<◌, Bool, true, false, ◌==◌, nat_lt, if◌then◌else◌, List, [], ◌∷◌, length}
use Rattle.std.proofs.Common.{slice_index, Contains, ◌↔◌, refl, sym, subst, arith, ◌⊎◌, inl, inr, eqb-true, ltb-true}
use Rattle.std.proofs.lemmas.Bool.Decides.{nat_tests}
use Rattle.std.specs.List.Sorted.{IsStrictlyIncreasing}
use Rattle.bool_functions.specs.declared.tree.Node.{Node}
use Rattle.bool_functions.specs.Tree.{names_of, Has}
use Rattle.bool_functions.specs.Support.{inserted, insert_all, support_of}
use Rattle.bool_functions.proofs.Elements.{contains_here, contains_later, contains_cases, contains_none}

-- each number is above the one before it, and the first is above x
abbrev Above : ℕ → List ℕ → Type 0
Above x [] = Unit {0}
Above x (y ∷ ys) = (x < y) × Above y ys

abbrev Ascends : List ℕ → Type 0
Ascends [] = Unit {0}
Ascends (x ∷ xs) = Above x xs

-- what `inserted` gives by its two tests
abbrev put : Bool → Bool → ℕ → ℕ → List ℕ → List ℕ
put same less i j js = if same then j ∷ js else (if less then i ∷ (j ∷ js) else j ∷ inserted i js)

put_above : (x i j : ℕ) (js : List ℕ) (same less : Bool) → i == j ≡ same → nat_lt i j ≡ less → x < i → Above x (j ∷ js)
    → (j < i → Above j (inserted i js)) → Above x (put same less i j js)
put_above x i j js true less e f l h k = h
put_above x i j js false true e f l h k = (l, (ltb-true i j f, h.1))
put_above x i j js false false e f l h k = (h.0, k (grind (arith, nat_tests)))

inserted_above : (x i : ℕ) (js : List ℕ) → x < i → Above x js → Above x (inserted i js)
inserted_above x i [] l h = (l, tt)
inserted_above x i (j ∷ js) l h = put_above x i j js (i == j) (nat_lt i j) refl refl l h (λ m. inserted_above j i js m h.1)

put_ascends : (i j : ℕ) (js : List ℕ) (same less : Bool) → i == j ≡ same → nat_lt i j ≡ less → Above j js
    → Ascends (put same less i j js)
put_ascends i j js true less e f h = h
put_ascends i j js false true e f h = (ltb-true i j f, h)
put_ascends i j js false false e f h = inserted_above j i js (grind (arith, nat_tests)) h

inserted_ascends : (i : ℕ) (js : List ℕ) → Ascends js → Ascends (inserted i js)
inserted_ascends i [] h = tt
inserted_ascends i (j ∷ js) h = put_ascends i j js (i == j) (nat_lt i j) refl refl h

insert_all_ascends : (js is : List ℕ) → Ascends js → Ascends (insert_all js is)
insert_all_ascends js [] h = h
insert_all_ascends js (i ∷ is) h = insert_all_ascends (inserted i js) is (inserted_ascends i js h)

by_index : (x : ℕ) (xs : List ℕ) → Above x xs → (k : ℕ) → k + 1 < length (x ∷ xs)
    → slice_index (x ∷ xs) k < slice_index (x ∷ xs) (k + 1)
by_index x [] h k l = absurd (omega (arith, l))
by_index x (y ∷ ys) h zero l = h.0
by_index x (y ∷ ys) h (suc k) l = let e : suc k + 1 ≡ suc (k + 1) = omega arith in rw e (by_index y ys h.1 k (omega (arith, l)))

ascends_by_index : (xs : List ℕ) → Ascends xs → IsStrictlyIncreasing xs
ascends_by_index [] h k l = absurd (omega (arith, l))
ascends_by_index (x ∷ xs) h k l = by_index x xs h k l

pub support_ascends : (f : Node) → IsStrictlyIncreasing (support_of f)
support_ascends f = ascends_by_index (support_of f) (insert_all_ascends [] (names_of f) tt)

-- the elements of a list with a number put in
put_has : (x i j : ℕ) (js : List ℕ) (same less : Bool) → i == j ≡ same → (Contains (inserted i js) x → (i ≡ x) ⊎ Contains js x)
    → Contains (put same less i j js) x → (i ≡ x) ⊎ Contains (j ∷ js) x
put_has x i j js true less e k h = inr h
put_has x i j js false true e k h = contains_cases i (j ∷ js) x h
put_has x i j js false false e k h =
    elim (contains_cases j (inserted i js) x h) [
      | inl same ↦ inr (subst (λ y. Contains (j ∷ js) y) same (contains_here j js))
      | inr later ↦ elim (k later) [ inl new ↦ inl new | inr old ↦ inr (contains_later j js x old) ]
    ]

inserted_has : (x i : ℕ) (js : List ℕ) → Contains (inserted i js) x → (i ≡ x) ⊎ Contains js x
inserted_has x i [] h = contains_cases i [] x h
inserted_has x i (j ∷ js) h = put_has x i j js (i == j) (nat_lt i j) refl (inserted_has x i js) h

put_new : (i j : ℕ) (js : List ℕ) (same less : Bool) → i == j ≡ same → Contains (inserted i js) i
    → Contains (put same less i j js) i
put_new i j js true less e k = subst (λ y. Contains (j ∷ js) y) (sym (eqb-true i j e)) (contains_here j js)
put_new i j js false true e k = contains_here i (j ∷ js)
put_new i j js false false e k = contains_later j (inserted i js) i k

inserted_new : (i : ℕ) (js : List ℕ) → Contains (inserted i js) i
inserted_new i [] = contains_here i []
inserted_new i (j ∷ js) = put_new i j js (i == j) (nat_lt i j) refl (inserted_new i js)

put_old : (x i j : ℕ) (js : List ℕ) (same less : Bool) → (Contains js x → Contains (inserted i js) x) → Contains (j ∷ js) x
    → Contains (put same less i j js) x
put_old x i j js true less k h = h
put_old x i j js false true k h = contains_later i (j ∷ js) x h
put_old x i j js false false k h =
    elim (contains_cases j js x h) [
      | inl same ↦ subst (λ y. Contains (j ∷ inserted i js) y) same (contains_here j (inserted i js))
      | inr later ↦ contains_later j (inserted i js) x (k later)
    ]

inserted_old : (x i : ℕ) (js : List ℕ) → Contains js x → Contains (inserted i js) x
inserted_old x i [] h = absurd (contains_none x h)
inserted_old x i (j ∷ js) h = put_old x i j js (i == j) (nat_lt i j) (inserted_old x i js) h

insert_all_has : (x : ℕ) (js is : List ℕ) → Contains (insert_all js is) x → Contains js x ⊎ Contains is x
insert_all_has x js [] h = inl h
insert_all_has x js (i ∷ is) h =
    elim (insert_all_has x (inserted i js) is h) [
      | inl old ↦ elim (inserted_has x i js old) [
        | inl new ↦ inr (subst (λ y. Contains (i ∷ is) y) new (contains_here i is))
        | inr kept ↦ inl kept
      ]
      | inr later ↦ inr (contains_later i is x later)
    ]

insert_all_old : (x : ℕ) (js is : List ℕ) → Contains js x → Contains (insert_all js is) x
insert_all_old x js [] h = h
insert_all_old x js (i ∷ is) h = insert_all_old x (inserted i js) is (inserted_old x i js h)

insert_all_new : (x : ℕ) (js is : List ℕ) → Contains is x → Contains (insert_all js is) x
insert_all_new x js [] h = absurd (contains_none x h)
insert_all_new x js (i ∷ is) h =
    elim (contains_cases i is x h) [
      | inl same ↦ insert_all_old x (inserted i js) is (subst (λ y. Contains (inserted i js) y) same (inserted_new i js))
      | inr later ↦ insert_all_new x (inserted i js) is later
    ]

-- the support has exactly the written names
pub support_has : (f : Node) (x : ℕ) → Contains (support_of f) x ↔ Has f x
support_has f x = (
  λ h. elim (insert_all_has x [] (names_of f) h) [ inl none ↦ absurd (contains_none x none) | inr there ↦ there ],
  insert_all_new x [] (names_of f),
)
