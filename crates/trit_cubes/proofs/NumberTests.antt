-- Whether two numbers are the same, by the numbers of which they are made.
use Rattle.std.proofs.Common.{◌≡◌, ℕ, Bool, ◌&&◌, nat_eq, IsTrue, sym, ap, ◌∙◌, inl, inr, eqb-true}
use Rattle.std.proofs.lemmas.Bool.{cases_eq, eq-eqb, ne_eqb, and_left, and_right, and_from, and_parts}

-- the same numbers have the same value
pub same_under : (f : ℕ → ℕ) (p q : ℕ) (b : Bool) → IsTrue (nat_eq p q && b) → IsTrue (nat_eq (f p) (f q) && b)
same_under f p q b h =
    let parts = and_parts (nat_eq p q) b h in
    and_from (nat_eq (f p) (f q)) b (eq-eqb (f p) (f q) (ap f (eqb-true p q parts.0))) parts.1

-- two numbers of two parts each are the same exactly where both parts are
pub same_parts :
    (x y b d m n : ℕ) → (b ≡ d → m ≡ n → x ≡ y) → (x ≡ y → (b ≡ d) × (m ≡ n)) → nat_eq x y ≡ (nat_eq b d && nat_eq m n)
same_parts x y b d m n made parted =
    elim (cases_eq b d) [
      | inl e ↦ elim (cases_eq m n) [
        | inl h ↦ eq-eqb x y (made e h) ∙ sym (and_from (nat_eq b d) (nat_eq m n) (eq-eqb b d e) (eq-eqb m n h))
        | inr h ↦ ne_eqb x y (λ g. h (parted g).1) ∙ sym (and_right (nat_eq b d) (nat_eq m n) (ne_eqb m n h))
      ]
      | inr e ↦ ne_eqb x y (λ g. e (parted g).0) ∙ sym (and_left (nat_eq b d) (nat_eq m n) (ne_eqb b d e))
    ]
