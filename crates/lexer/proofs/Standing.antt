-- The tokens of a text stand in it one behind the other.
use Rattle.std.proofs.Common.{◌≡◌, ℕ, zero, suc, ◌+◌, ◌≤◌, ◌<◌, Bool, false, List, [], ◌∷◌, length, take, Option, Some, None}
use Rattle.std.proofs.Common.{arith, length-take}
use Rattle.lexer.specs.Tokens.{Token, Lexis, at_front, after, scan, scan_of}
use Rattle.lexer.specs.Places.{AreInOrder, StandInOrder}

earlier : (from before len : ℕ) (ts : List Token) (f : Option ℕ) → before ≤ from → AreInOrder from len ts f
    → AreInOrder before len ts f
earlier from before len [] None h o = tt
earlier from before len [] (Some at) h o = (omega (arith, o.0), o.1)
earlier from before len (t ∷ ts) f h o = (omega (arith, o.0), o.1, o.2, o.3)

first : (from len : ℕ) (t : Token) (r : List Token × Option ℕ) → from ≤ t.at → 0 < length t.bytes → t.at + length t.bytes ≤ len →
    AreInOrder (t.at + length t.bytes) len r.0 r.1 → AreInOrder from len (after t r).0 (after t r).1
first from len t (ts, f) h k l o = (h, k, l, o)

front_short : (m : ℕ) (s : List ℕ) → (length (take m s) ≤ m) × (length (take m s) ≤ length s)
front_short m s = (omega (arith, length-take m s), omega (arith, length-take m s))

module _ (l : Lexis) where
  front : (t : Bool) (at len b : ℕ) (s : List ℕ) (go : Bool → ℕ → List Token × Option ℕ) (n m : ℕ) → len ≡ at + suc (length s) →
      ((o : Bool) (k : ℕ) → AreInOrder (at + 1 + k) len (go o k).0 (go o k).1) →
      AreInOrder at len (at_front l t at (b ∷ s) go n m).0 (at_front l t at (b ∷ s) go n m).1
  front t at len b s go zero zero e o = (omega arith, omega arith)
  front t at len b s go zero (suc m) e o =
      let token : Token = record { at = at; bytes = b ∷ take m s } in
      let r = go (l.flag_after t (b ∷ take m s)) m in
      let c = front_short m s in
      first at len token r (omega arith) (omega arith) (omega (arith, c.1))
      (earlier (at + 1 + m) (at + suc (length (take m s))) len r.0 r.1 (omega (arith, c.0)) (o (l.flag_after t (b ∷ take m s)) m))
  front t at len b s go (suc n) m e o = earlier (at + 1 + n) at len (go t n).0 (go t n).1 (omega arith) (o t n)

  in_order : (t : Bool) (at n len : ℕ) (s : List ℕ) → len ≡ at + length s
      → AreInOrder (at + n) len (scan l t at n s).0 (scan l t at n s).1
  in_order t at n len [] e = tt
  in_order t at (suc n) len (b ∷ s) e =
      let h : len ≡ at + 1 + length s = omega arith in
      let r = scan l t (at + 1) n s in
      earlier (at + 1 + n) (at + suc n) len r.0 r.1 (omega arith) (in_order t (at + 1) n len s h)
  in_order t at zero len (b ∷ s) e =
      let h : len ≡ at + 1 + length s = omega arith in
      let go = λ (o : Bool) (k : ℕ). scan l o (at + 1) k s in
      let r = at_front l t at (b ∷ s) go (l.separator_length (b ∷ s)) (l.token_length t (b ∷ s)) in
      earlier at (at + 0) len r.0 r.1 (omega arith)
      (front t at len b s go (l.separator_length (b ∷ s)) (l.token_length t (b ∷ s)) e (λ o k. in_order o (at + 1) k len s h))

  pub stand_in_order : (text : List ℕ) → StandInOrder l text
  stand_in_order text = earlier (0 + 0) 0 (length text) (scan_of l text).0 (scan_of l text).1 (omega arith)
      (in_order false 0 0 (length text) text (omega arith))
