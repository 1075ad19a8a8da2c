-- Laws of reading from a slot, for every proof that reads.
use Rattle.std.proofs.Common.{◌≡◌, ℕ, ◌+◌, drop, refl, ◌∙◌, ap, IsTrue}
use Rattle.std.specs.Option.{option_map}
use Rattle.std.proofs.lemmas.List.{drop-drop}
use Rattle.text_io.specs.declared.slots.InSlot.{InSlot}
use Rattle.text_io.specs.declared.slots.Slot.{Slot}
use Rattle.text_io.specs.declared.slots.Slot.TheVariants.{Input}
use Rattle.text_io.specs.Slots.{slot_number}
use Rattle.text_io.specs.Desk.{DeskState, is_bound, took}
use Rattle.text_io.proofs.PutLemmas.{option_map-same, put_in-same, put_at-there, put_at-twice}

-- nothing known changes where what is left stays as it is
pub took-same : (s : DeskState) (slot : InSlot) (n : ℕ) → option_map (drop n) (s.left slot) ≡ s.left slot → took s slot n ≡ s
unfolding took
took-same s slot n same = λ i. record s { left = λ t. put_in-same s.left slot t (option_map (drop n) (s.left slot)) same i }

-- nothing read
pub took-zero : (s : DeskState) (slot : InSlot) → took s slot 0 ≡ s
took-zero s slot = took-same s slot 0 (option_map-same (drop 0) (λ left. refl) (s.left slot))

-- some bytes read, and then some more
pub took-took : (s : DeskState) (slot : InSlot) (a b : ℕ) → took (took s slot a) slot b ≡ took s slot (a + b)
unfolding took
took-took s slot a b = λ i. record s {
  left =
      λ t. put_at-twice (λ x. slot_number (Input x)) (drop a) (drop b) (drop (a + b)) (drop-drop b a) s.left slot t i;
}

-- what is left after a read
pub left-took : (s : DeskState) (slot : InSlot) (n : ℕ) → (took s slot n).left slot ≡ option_map (drop n) (s.left slot)
unfolding took
left-took s slot n = put_at-there (λ x. slot_number (Input x)) s.left slot (option_map (drop n) (s.left slot))

-- what is bound stays bound
pub is_bound-took : (s : DeskState) (slot : InSlot) (n : ℕ) (other : Slot) → is_bound (took s slot n) other ≡ is_bound s other
unfolding took
is_bound-took s slot n other = refl

pub bound_still : (s now : DeskState) (slot : InSlot) (n : ℕ) (other : Slot) → now ≡ took s slot n → IsTrue (is_bound s other)
    → IsTrue (is_bound now other)
bound_still s now slot n other e h = rw (e, is_bound-took s slot n other) h

-- some bytes, and then some more
pub took_more : (s now next : DeskState) (slot : InSlot) (a b : ℕ) → now ≡ took s slot a → next ≡ took now slot b
    → next ≡ took s slot (a + b)
took_more s now next slot a b first second = second ∙ ap (λ t. took t slot b) first ∙ took-took s slot a b

-- what is left after some bytes were read
pub left_after : (s now : DeskState) (slot : InSlot) (n : ℕ) → now ≡ took s slot n
    → now.left slot ≡ option_map (drop n) (s.left slot)
left_after s now slot n e = ap (λ t. t.left slot) e ∙ left-took s slot n
