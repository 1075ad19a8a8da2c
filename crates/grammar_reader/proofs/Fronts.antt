-- Tokens in front of others.
use Rattle.std.proofs.Common.{ℕ, Bool, List, [], ◌∷◌, ◌++◌, sym, subst, flat_map, append_assoc}

-- the tokens that are found in bytes, and the flag that is left
abbrev pub Found : Type 0
Found = List (List ℕ) × Bool

-- tokens in front of others
abbrev pub Front : Type 0
Front = List (List ℕ) → List (List ℕ)

abbrev pub in_front : Front → Found → Found
in_front f found = (f found.0, found.1)

-- any bytes
abbrev pub Anything : List ℕ → Type 0
Anything r = Unit {0}

-- the tokens of each
abbrev pub each : {A : Type 0} → (A → Front) → List A → Front
each f [] s = s
each f (x ∷ xs) s = f x (each f xs s)

pub each_begins : {A : Type 0} (P : List ℕ → Type 0) (text : A → List ℕ) → ((x : A) (r : List ℕ) → P r → P (text x ++ r))
    → (xs : List A) (r : List ℕ) → P r → P (flat_map text xs ++ r)
each_begins P text h [] r p = p
each_begins P text h (x ∷ xs) r p =
    subst P (sym (append_assoc (text x) (flat_map text xs) r)) (h x (flat_map text xs ++ r) (each_begins P text h xs r p))
