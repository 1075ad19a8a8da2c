-- The bytes that were taken of a library, and what is left of it.
use Rattle.std.proofs.Common.{◌≡◌, ℕ, ◌+◌, List, [], ◌++◌, take, drop, length, Option, Some, None, IfSome, refl, sym, ap, ◌∙◌}
use Rattle.std.proofs.Common.{length-append, length-drop, arith}
use Rattle.std.proofs.lemmas.List.{take-append-drop, drop_all, drop-drop}
use Rattle.std.proofs.Math.Seq.{take-add}
use Rattle.std.specs.Option.{option_map}
use Rattle.text_io.specs.declared.slots.InSlot.TheVariants.{Library}
use Rattle.text_io.specs.Desk.{DeskState, took}
use Rattle.text_io.proofs.Took.{left_after}
use Rattle.cell_cursor.specs.Taking.{Takes}
use Rattle.cell_cursor.specs.Stands.{NothingLeft}
use Rattle.library_reader.specs.Reached.{IsFront}

pub front-nil : (left : Option (List ℕ)) → IsFront left []
front-nil None = tt
front-nil (Some all) = (refl, omega arith)

-- with some more
front-append : (left : Option (List ℕ)) (a b : List ℕ) → IsFront left a → IsFront (option_map (drop (length a)) left) b
    → IsFront left (a ++ b)
front-append None a b h k = tt
front-append (Some all) a b h k =
    let size = length-append a b in
    let same : a ++ b ≡ take (length a + length b) all =
    ap (λ t. t ++ b) h.0 ∙ ap (λ t. take (length a) all ++ t) k.0 ∙ sym (take-add (length a) (length b) all) in
    (same ∙ ap (λ n. take n all) (sym size), omega (arith, size, k.1, h.1, length-drop (length a) all))

pub front_moved : (left : Option (List ℕ)) (now next : DeskState) (a b : List ℕ)
    → now.left Library ≡ option_map (drop (length a)) left
    → IsFront left a → Takes now next b → IsFront left (a ++ b)
front_moved left now next a b e h t = front-append left a b h (rw e at t.told)

-- what is left then
pub left-zero : (left : Option (List ℕ)) → option_map (drop 0) left ≡ left
left-zero None = refl
left-zero (Some all) = refl

left-more : (left : Option (List ℕ)) (a b : List ℕ)
    → option_map (drop (length b)) (option_map (drop (length a)) left) ≡ option_map (drop (length (a ++ b))) left
left-more None a b = refl
left-more (Some all) a b = ap Some (drop-drop (length b) (length a) all ∙ ap (λ n. drop n all) (sym (length-append a b)))

pub left_moved : (left : Option (List ℕ)) (now next : DeskState) (a b : List ℕ)
    → now.left Library ≡ option_map (drop (length a)) left
    → Takes now next b → next.left Library ≡ option_map (drop (length (a ++ b))) left
left_moved left now next a b e t =
    left_after now next Library (length b) t.state ∙ ap (option_map (drop (length b))) e ∙ left-more left a b

-- a library of which nothing is left stays so
nothing_taken : (left : Option (List ℕ)) (n : ℕ) → IfSome left (λ all. all ≡ [])
    → IfSome (option_map (drop n) left) (λ all. all ≡ [])
nothing_taken None n h = tt
nothing_taken (Some all) n h = let none = ap length h in drop_all n all (omega (arith, none))

pub still_ended : (before after : DeskState) (n : ℕ) → after ≡ took before Library n → NothingLeft before → NothingLeft after
still_ended before after n e h = rw (left_after before after Library n e) (nothing_taken (before.left Library) n h)

-- the rest of the bytes, and what is left of them
pub rest_of : (taken all : List ℕ) → taken ≡ take (length taken) all → taken ++ drop (length taken) all ≡ all
rest_of taken all e = ap (λ t. t ++ drop (length taken) all) e ∙ take-append-drop (length taken) all

pub nothing_more : (left : Option (List ℕ)) (taken all : List ℕ) → left ≡ Some all
    → IfSome (option_map (drop (length taken)) left) (λ rest. rest ≡ [])
    → drop (length taken) all ≡ []
nothing_more left taken all e h = rw e at h
