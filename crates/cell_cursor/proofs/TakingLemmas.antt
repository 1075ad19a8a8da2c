-- Bytes that are read one after another.
use Rattle.std.proofs.Common.{◌≡◌, ℕ, ◌≤◌, List, [], ◌++◌, take, drop, length, Option, Some, None, IfSome, IsTrue, refl, sym, ap}
use Rattle.std.proofs.Common.{◌∙◌, arith, length-append, length-drop}
use Rattle.std.specs.Option.{option_map}
use Rattle.std.proofs.lemmas.List.{take-append-le, length-take-le}
use Rattle.std.proofs.Math.Seq.{take-add}
use Rattle.text_io.specs.declared.slots.InSlot.TheVariants.{Library}
use Rattle.text_io.specs.declared.slots.Slot.{Slot}
use Rattle.text_io.specs.Desk.{DeskState, is_bound, took}
use Rattle.text_io.proofs.Took.{took-zero, took_more, left_after, bound_still}
use Rattle.cell_cursor.specs.Taking.{Takes}

told_none : (left : Option (List ℕ)) → IfSome left (λ l. ([] ≡ take 0 l) × (0 ≤ length l))
told_none None = tt
told_none (Some l) = (refl, omega arith)

-- nothing
pub takes_none : (s : DeskState) → Takes s s []
takes_none s = record { state = sym (took-zero s Library); told = told_none (s.left Library) }

take_more : (xs ys l : List ℕ) → xs ≡ take (length xs) l → ys ≡ take (length ys) (drop (length xs) l)
    → xs ++ ys ≡ take (length (xs ++ ys)) l
take_more xs ys l e f =
    ap (λ (s : List ℕ). s ++ ys) e ∙ ap (λ (s : List ℕ). take (length xs) l ++ s) f
    ∙ sym (take-add (length xs) (length ys) l) ∙ ap (λ (n : ℕ). take n l) (sym (length-append xs ys))

told_more : (left : Option (List ℕ)) (xs ys : List ℕ) → IfSome left (λ l. (xs ≡ take (length xs) l) × (length xs ≤ length l)) →
    IfSome (option_map (drop (length xs)) left) (λ l. (ys ≡ take (length ys) l) × (length ys ≤ length l)) →
    IfSome left (λ l. (xs ++ ys ≡ take (length (xs ++ ys)) l) × (length (xs ++ ys) ≤ length l))
told_more None xs ys h i = tt
told_more (Some l) xs ys h i =
    let n = length-append xs ys in
    let d = length-drop (length xs) l in
    (take_more xs ys l h.0 i.0, omega (arith, h.1, i.1))

-- some bytes, and then some more
pub takes_more : (s t u : DeskState) (xs ys : List ℕ) → Takes s t xs → Takes t u ys → Takes s u (xs ++ ys)
takes_more s t u xs ys h i = record {
  state = took_more s t u Library (length xs) (length ys) h.state i.state ∙ ap (took s Library) (sym (length-append xs ys));
  told = told_more (s.left Library) xs ys h.told (rw (left_after s t Library (length xs) h.state) at i.told);
}

-- what is bound stays bound
pub bound_yet : (s t : DeskState) (xs : List ℕ) (other : Slot) → Takes s t xs → IsTrue (is_bound s other)
    → IsTrue (is_bound t other)
bound_yet s t xs other h b = bound_still s t Library (length xs) other h.state b

-- a read that failed
pub takes_same : (s t : DeskState) → t ≡ s → Takes s t []
takes_same s t e = record { state = e ∙ sym (took-zero s Library); told = told_none (s.left Library) }

told_seen : (left : Option (List ℕ)) (seen into : List ℕ) (count : ℕ) → length seen ≡ count → seen ≡ take count into →
    IfSome left (λ l. (take count into ≡ take count l) × (count ≤ length l))
    → IfSome left (λ l. (seen ≡ take (length seen) l) × (length seen ≤ length l))
told_seen None seen into count size same f = tt
told_seen (Some l) seen into count size same f = (same ∙ f.0 ∙ ap (λ (n : ℕ). take n l) (sym size), omega (arith, size, f.1))

-- a read of so many bytes into the front of a room
pub takes_read : (s t : DeskState) (into back : List ℕ) (count : ℕ) → count ≤ length into → t ≡ took s Library count →
    IfSome (s.left Library) (λ left. (take count into ≡ take count left) × (count ≤ length left))
    → Takes s t (take count (into ++ back))
takes_read s t into back count h e f =
    let same : take count (into ++ back) ≡ take count into = take-append-le count into back h in
    let size : length (take count (into ++ back)) ≡ count = ap length same ∙ length-take-le count into h in
    record {
      state = e ∙ ap (took s Library) (sym size);
      told =
          told_seen (s.left Library) (take count (into ++ back)) into count size same f;
    }

pub length_front : (count : ℕ) (into : List ℕ) → count ≤ length into → length (take count into) ≡ count
length_front count into h = length-take-le count into h

-- a read of so many bytes
pub takes_into : (s t : DeskState) (into : List ℕ) (count : ℕ) → count ≤ length into → t ≡ took s Library count →
    IfSome (s.left Library) (λ left. (take count into ≡ take count left) × (count ≤ length left)) → Takes s t (take count into)
takes_into s t into count h e f =
    let size = length_front count into h in
    record {
      state = e ∙ ap (took s Library) (sym size);
      told =
          told_seen (s.left Library) (take count into) into count size refl f;
    }
