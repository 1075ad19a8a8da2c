-- What the next token is among the entries of a row.
use Rattle.std.proofs.Common.{◌≡◌, ℕ, Bool, true, false, ◌&&◌, List, [], ◌∷◌, Err, refl}
use Rattle.udp_tables.specs.declared.table.Entry.{Entry}
use Rattle.grammar_rules.specs.Reading.{Outcome, choose}
use Rattle.grammar_reader.specs.declared.refusal.Refusal.{Refusal}
use Rattle.grammar_reader.specs.declared.refusal.Refusal.TheVariants.{TwoEdges}
use Rattle.udp_tables.specs.VerilogPrimitives.{begins_change, begins_entry, has_change, begins_next_entry, begins_row}
use Rattle.grammar_reader.specs.Next.{next_bytes, rest}

nothing_begins : (sequential : Bool) → begins_entry sequential [] ≡ true → ⊥
nothing_begins true f = absurd cc
nothing_begins false f = absurd cc

module _ {B : Type 0} (sequential : Bool) (entries : List Entry) (s : List (List ℕ)) (go : List ℕ → List (List ℕ)
    → Outcome (List ℕ) Refusal B)
    (other : Outcome (List ℕ) Refusal B) where
  pub no_entry : begins_entry sequential (next_bytes s) ≡ false → choose (begins_next_entry sequential entries) s go other ≡ other
  no_entry e = by s e
    where
      by : (m : List (List ℕ)) → begins_entry sequential (next_bytes m) ≡ false
          → choose (begins_next_entry sequential entries) m go other ≡ other
      by [] f = refl
      by (x ∷ m) f = rw f refl

  pub second_change : begins_entry sequential (next_bytes s) ≡ true → (has_change entries && begins_change (next_bytes s)) ≡ true
      →
      choose (begins_next_entry sequential entries) s go other ≡ Err (TwoEdges, s)
  second_change e two = by s e two
    where
      by : (m : List (List ℕ)) → begins_entry sequential (next_bytes m) ≡ true
          → (has_change entries && begins_change (next_bytes m)) ≡ true →
          choose (begins_next_entry sequential entries) m go other ≡ Err (TwoEdges, m)
      by [] f g = absurd (nothing_begins sequential f)
      by (x ∷ m) f g = rw (f, g) refl

  pub one_entry : begins_entry sequential (next_bytes s) ≡ true → (has_change entries && begins_change (next_bytes s)) ≡ false →
      choose (begins_next_entry sequential entries) s go other ≡ go (next_bytes s) (rest s)
  one_entry e one = by s e one
    where
      by : (m : List (List ℕ)) → begins_entry sequential (next_bytes m) ≡ true
          → (has_change entries && begins_change (next_bytes m)) ≡ false →
          choose (begins_next_entry sequential entries) m go other ≡ go (next_bytes m) (rest m)
      by [] f g = absurd (nothing_begins sequential f)
      by (x ∷ m) f g = rw (f, g) refl

module _ {B : Type 0} (sequential : Bool) (s : List (List ℕ)) (go : List ℕ → List (List ℕ) → Outcome (List ℕ) Refusal B)
    (other : Outcome (List ℕ) Refusal B) where
  pub no_row : begins_entry sequential (next_bytes s) ≡ false → choose (begins_row sequential) s go other ≡ other
  no_row e = by s e
    where
      by : (m : List (List ℕ)) → begins_entry sequential (next_bytes m) ≡ false
          → choose (begins_row sequential) m go other ≡ other
      by [] f = refl
      by (x ∷ m) f = rw f refl

  pub one_row : begins_entry sequential (next_bytes s) ≡ true
      → choose (begins_row sequential) s go other ≡ go (next_bytes s) (rest s)
  one_row e = by s e
    where
      by : (m : List (List ℕ)) → begins_entry sequential (next_bytes m) ≡ true
          → choose (begins_row sequential) m go other ≡ go (next_bytes m) (rest m)
      by [] f = absurd (nothing_begins sequential f)
      by (x ∷ m) f = rw f refl
