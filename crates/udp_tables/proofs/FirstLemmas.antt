-- What the first row that is hit gives.
use Rattle.std.proofs.Common.{◌≡◌, Bool, true, false, cond, ◌||◌, List, [], ◌∷◌, ◌++◌, inl, inr, refl, sym, ◌∙◌, ap}
use Rattle.std.specs.List.{list_any}
use Rattle.std.proofs.lemmas.Bool.{cases_Bool, or_left, or_right}
use Rattle.std.proofs.lemmas.List.Folds.{list_any-append}
use Rattle.trit_cubes.proofs.ListLemmas.{Among}
use Rattle.udp_tables.specs.Tables.{first}

-- an element that passes the test, where some do
pub any-found : {X : Type 0} (p : X → Bool) (xs : List X) → list_any p xs ≡ true → (x : X) × Among x xs × (p x ≡ true)
any-found p [] e = absurd cc
any-found p (x ∷ xs) e =
    elim (cases_Bool (p x)) [
      | inl h ↦ (x, inl refl, h)
      | inr h ↦ let r = any-found p xs (sym (ap (λ b. b || list_any p xs) h) ∙ e) in (r.0, inr r.1, r.2)
    ]

pub found-any : {X : Type 0} (p : X → Bool) (x : X) (xs : List X) → Among x xs → p x ≡ true → list_any p xs ≡ true
found-any p x [] h e = absurd h
found-any p x (y ∷ ys) h e =
    elim h [
      | inl k ↦ or_left (p y) (list_any p ys) (ap p k ∙ e)
      | inr k ↦ or_right (p y) (list_any p ys) (found-any p x ys k e)
    ]

pub any-front : {X : Type 0} (p : X → Bool) (xs ys : List X) → list_any p xs ≡ true → list_any p (xs ++ ys) ≡ true
any-front p xs ys h = list_any-append p xs ys ∙ ap (λ b. b || list_any p ys) h

pub cond-same : {V : Type 0} (b : Bool) (v : V) → cond b v v ≡ v
cond-same true v = refl
cond-same false v = refl

-- one list of rows after another
pub first-append :
    {R V : Type 0} (hit : R → Bool) (value : R → V) (xs ys : List R) (o : V)
    → first hit value (xs ++ ys) o ≡ first hit value xs (first hit value ys o)
first-append hit value [] ys o = refl
first-append hit value (x ∷ xs) ys o = ap (cond (hit x) (value x)) (first-append hit value xs ys o)

-- the value that all rows give that are hit, where there is one; else what stands for no row
pub first-gives :
    {R V : Type 0} (hit : R → Bool) (value : R → V) (v otherwise : V) (rows : List R)
    → ((row : R) → Among row rows → hit row ≡ true → value row ≡ v)
    → (list_any hit rows ≡ false → otherwise ≡ v)
    → first hit value rows otherwise ≡ v
first-gives hit value v otherwise [] given none = none refl
first-gives hit value v otherwise (row ∷ rows) given none =
    elim (cases_Bool (hit row)) [
      | inl h ↦ rw h (given row (inl refl) h)
      | inr h ↦
          rw h
          (first-gives hit value v otherwise rows (λ other a. given other (inr a))
          (λ n. none (ap (λ b. b || list_any hit rows) h ∙ n)))
    ]
