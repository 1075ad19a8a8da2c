-- How the tokens of a VHDL text come from those of its pieces, by the sections of drivers that begin or end in them.
use Rattle.std.proofs.Common.{◌≡◌, ℕ, ◌+◌, ◌≤◌, Bool, false, List, [], ◌∷◌, ◌++◌, Some, refl, arith, codes}
use Rattle.std.proofs.lemmas.Bool.{or_parts}
use Rattle.vhdl_tokens.specs.Tokens.{lexis}
use Rattle.vhdl_tokens.specs.Spelling.{is_same}
use Rattle.vhdl_writer.specs.Joined.{numbered_texts}
use Rattle.driver_sections.specs.Marks.{Vocabulary, vocabulary}
use Rattle.section_outlines.specs.Marked.{begins, ends_next, marked}
use Rattle.section_outlines.specs.VhdlMarks.{vhdl_marks}
use Rattle.grammar_reader.proofs.Fronts.{Front, Anything, each}
use Rattle.grammar_reader.proofs.Passages.{passed}
use Rattle.grammar_reader.proofs.Spelling.{SpellsBy, barred_less, literal, behind, nothing}

-- the tokens of VHDL, and which stand for a word
abbrev pub vhdl : Vocabulary
vhdl = vocabulary lexis is_same

-- Before bytes that pass a test the text is these tokens, with none of which a section begins or comes to its end. The flags
-- say whether a name stands before it, and whether it ends with one.
abbrev pub Spells : (List ℕ → Type 0) → Bool → List ℕ → Front → Bool → Type 0
Spells = SpellsBy lexis (marked vhdl vhdl_marks)

-- the same of a text in which no section begins, and of one in which none comes to its end
abbrev pub SpellsOutside : (List ℕ → Type 0) → Bool → List ℕ → Front → Bool → Type 0
SpellsOutside = SpellsBy lexis (begins vhdl vhdl_marks)

abbrev pub SpellsInside : (List ℕ → Type 0) → Bool → List ℕ → Front → Bool → Type 0
SpellsInside = SpellsBy lexis (ends_next vhdl vhdl_marks)

pub outside : {P : List ℕ → Type 0} {t u : Bool} {text : List ℕ} {f : Front} → Spells P t text f u → SpellsOutside P t text f u
outside h = barred_less (λ t x s e. (or_parts (begins vhdl vhdl_marks t x s) (ends_next vhdl vhdl_marks t x s) e).0) h

pub inside : {P : List ℕ → Type 0} {t u : Bool} {text : List ℕ} {f : Front} → Spells P t text f u → SpellsInside P t text f u
inside h = barred_less (λ t x s e. (or_parts (begins vhdl vhdl_marks t x s) (ends_next vhdl vhdl_marks t x s) e).1) h

-- a token that is the first word of neither mark
pub unmarked : (t : Bool) (x r : List ℕ) → is_same x (codes "use") ≡ false → is_same x (codes "end") ≡ false
    → marked vhdl vhdl_marks t x r ≡ false
unmarked t x r e f = rw (e, f) refl

-- what stands before an argument of a call that has this name: bytes of which the tokens are found by computing
pub argument : {t : Bool} (name : List ℕ)
    → ((r : List ℕ) → passed lexis (marked vhdl vhdl_marks) t 0 (codes ", " ++ (name ++ codes " => ")) r ≡ Some
    (codes "," ∷ name ∷ codes "=>" ∷ [], false))
    → Spells Anything t (codes ", " ++ (name ++ codes " => ")) (λ s. codes "," ∷ name ∷ codes "=>" ∷ s) false
argument name h = literal h refl

-- texts of numbered items one behind the other, where from this number on the number says nothing to their tokens
pub numbered_spelled : {A : Type 0} {t : Bool} (text : ℕ → A → List ℕ) (f : A → Front) (least : ℕ)
    → ((n : ℕ) (x : A) → least ≤ n → Spells Anything t (text n x) (f x) t)
    → (n : ℕ) (xs : List A) → least ≤ n → Spells Anything t (numbered_texts text n xs) (each f xs) t
numbered_spelled text f least h n [] m = nothing
numbered_spelled text f least h n (x ∷ xs) m =
    let next : least ≤ n + 1 = omega (arith, m) in
    behind (h n x m) (numbered_spelled text f least h (n + 1) xs next)
