-- The symbols of a text whose names are replaced.
use Rattle.std.proofs.Common.{◌≡◌, ℕ, zero, suc, ◌+◌, ◌-◌, ◌<◌, ◌≤◌, Bool, true, false, ◌&&◌, List, [], ◌∷◌, ◌++◌, length}
use Rattle.std.proofs.Common.{take, drop, Option, None, Some, if◌then◌else◌, refl, sym, ap, subst, ◌∙◌, arith, append-nil}
use Rattle.std.specs.Prelude.{flat_map, map, Contains}
use Rattle.std.specs.List.{list_any, list_all, prefix_len}
use Rattle.std.specs.Char.{is_ascii_digit}
use Rattle.std.proofs.lemmas.Bool.{and_parts, or_parts}
use Rattle.std.proofs.lemmas.List.{length-drop, map-append}
use Rattle.bool_functions.specs.declared.symbol.Symbol.{Symbol}
use Rattle.bool_functions.specs.Token.{is_word_byte, begins_word, symbol_of, symbols}
use Rattle.bool_functions.specs.declared.tree.Node.{Node}
use Rattle.bool_functions.specs.Grammar.{IsText}
use Rattle.bool_functions.specs.Tree.{renamed_by}
use Rattle.bool_functions.specs.Laws.{ends_in_word, runs_on, renamed_symbol}
use Rattle.bool_functions.proofs.Elements.{contains_here, contains_later}
use Rattle.bool_functions.proofs.RenamedTexts.{renamed_text}
use Rattle.bool_functions.proofs.JoinedTexts.{symbols_append, symbols_word}
use Rattle.bus_texts.specs.declared.vectors.Vector.{Vector}
use Rattle.bus_texts.specs.Parts.{Part, begins_name, is_identifier, plain_part, name_with, digits_in_front, first_part, parts_of}
use Rattle.bus_texts.specs.Texts.{Replacement, Stays, Becomes, Missing, becomes, member_of, replaced_by, replacement_for, spelled}
use Rattle.bus_texts.specs.Texts.{rewritten_part, rewritten}
use Rattle.bus_texts.specs.Vectors.{vector_named}
use Rattle.bus_texts.specs.Laws.{runs_into_name, runs_together, part_symbols, replaced_symbols, written_symbols, symbols_over}
use Rattle.bus_texts.specs.Laws.{Replaces}
use Rattle.bus_texts.proofs.PartLemmas.{first_some, parts_step, digits_first}

pub and_right : (b : Bool) → (b && false) ≡ false
and_right true = refl
and_right false = refl

-- the members that names become are names
abbrev pub Named : Replacement → Type 0
Named Stays = Unit {0}
Named (Becomes member) = is_identifier member ≡ true
Named Missing = Unit {0}

named_if : (member : List ℕ) (b : Bool) → is_identifier member ≡ b → Named (if b then Becomes member else Missing)
named_if member true e = e
named_if member false e = tt

named_becomes : (member : Option (List ℕ)) → Named (becomes member)
named_becomes None = tt
named_becomes (Some member) = named_if member (is_identifier member) refl

pub named_by : (at : ℕ) (bit : Option ℕ) (vector : Option Vector) → Named (replaced_by at bit vector)
named_by at bit None = tt
named_by at bit (Some vector) = named_becomes (member_of vector at bit)

pub identifier_word : (name : List ℕ) → is_identifier name ≡ true → (list_all is_word_byte name ≡ true) × (0 < length name)
identifier_word [] h = absurd cc
identifier_word (b ∷ s) h =
    let parts = and_parts (begins_name b) (list_all is_word_byte s) h in
    let first : is_word_byte b ≡ true = (and_parts (is_word_byte b) _ parts.0).0 in
    (rw (first, parts.1) refl, omega arith)

-- the symbols of one part
spaced_symbols : (names : List (List ℕ)) (member : List ℕ) → symbols names (member ++ 32 ∷ []) ≡ symbols names member
spaced_symbols names member = symbols_append names member (32 ∷ []) (and_right (ends_in_word member))
    ∙ append-nil (symbols names member)

member_symbols : (names : List (List ℕ)) (member : List ℕ) (followed : Bool) → is_identifier member ≡ true
    → symbols names (if followed then member ++ 32 ∷ [] else member) ≡ symbol_of names member ∷ []
member_symbols names member true h =
    let word = identifier_word member h in spaced_symbols names member ∙ symbols_word names member word.0 word.1
member_symbols names member false h = let word = identifier_word member h in symbols_word names member word.0 word.1

spelled_symbols : (names : List (List ℕ)) (part : Part) (replacement : Replacement) → Named replacement
    → symbols names (spelled part replacement) ≡ part_symbols names part replacement
spelled_symbols names part Stays h = refl
spelled_symbols names part (Becomes member) h = member_symbols names member part.followed h
spelled_symbols names part Missing h = refl

-- no run goes on behind a part
written_quiet : (followed ends begins : Bool) → (followed && ends) ≡ false → (followed ≡ false → begins ≡ false)
    → (ends && begins) ≡ false
written_quiet true true begins j q = absurd cc
written_quiet true false begins j q = refl
written_quiet false ends begins j q = rw (q refl) (and_right ends)

space_ends : (member : List ℕ) → ends_in_word (member ++ 32 ∷ []) ≡ false
space_ends [] = refl
space_ends (b ∷ []) = refl
space_ends (b ∷ c ∷ s) = space_ends (c ∷ s)

member_quiet : (followed : Bool) (member rest : List ℕ) → (followed ≡ false → begins_word rest ≡ false)
    → runs_on (if followed then member ++ 32 ∷ [] else member) rest ≡ false
member_quiet true member rest q = ap (λ ends. ends && begins_word rest) (space_ends member)
member_quiet false member rest q = rw (q refl) (and_right (ends_in_word member))

pub spelled_quiet : (part : Part) (replacement : Replacement) (rest : List ℕ) → runs_into_name part ≡ false
    → (part.followed ≡ false → begins_word rest ≡ false)
    → runs_on (spelled part replacement) rest ≡ false
spelled_quiet part Stays rest j q = written_quiet part.followed (ends_in_word part.written) (begins_word rest) j q
spelled_quiet part (Becomes member) rest j q = member_quiet part.followed member rest q
spelled_quiet part Missing rest j q = written_quiet part.followed (ends_in_word part.written) (begins_word rest) j q

-- what stands behind a part
drop_taken : (n : ℕ) (text : List ℕ) → drop (length (take n text)) text ≡ drop n text
drop_taken zero text = refl
drop_taken (suc n) [] = refl
drop_taken (suc n) (b ∷ s) = drop_taken n s

name_behind : (text : List ℕ) (n : ℕ) (digits : Option (List ℕ))
    → (name_with text n digits).followed ≡ begins_word (drop (length (name_with text n digits).written) text)
name_behind text n None = ap begins_word (sym (drop_taken n text))
name_behind text n (Some digits) = ap begins_word (sym (drop_taken (n + length digits + 2) text))

plain_behind : (text : List ℕ) (n : ℕ)
    → (plain_part text n).followed ≡ begins_word (drop (length (plain_part text n).written) text)
plain_behind text n = ap begins_word (sym (drop_taken n text))

abbrev pub Behind : List ℕ → Part → Type 0
Behind text part = part.followed ≡ begins_word (drop (length part.written) text)

pub first_behind : (b : ℕ) (s : List ℕ) → Behind (b ∷ s) (first_part (b ∷ s))
first_behind b s = by (begins_name b) (is_ascii_digit b) refl refl
  where
    by : (named digit : Bool) → begins_name b ≡ named → is_ascii_digit b ≡ digit → Behind (b ∷ s) (first_part (b ∷ s))
    by true digit e d = rw e (name_behind (b ∷ s) (prefix_len is_word_byte (b ∷ s))
        (digits_in_front (drop (prefix_len is_word_byte (b ∷ s)) (b ∷ s))))
    by false true e d = subst (Behind (b ∷ s)) (sym (digits_first b s e d))
        (plain_behind (b ∷ s) (prefix_len is_ascii_digit (b ∷ s)))
    by false false e d = rw (e, d) (plain_behind (b ∷ s) 1)

-- a text that begins with no letter, digit or `_` begins with none when its names are replaced
record IsPlain (text : List ℕ) (part : Part) : Type 0 where
  pub unnamed : part.name ≡ []
  pub count : ℕ
  pub taken : part.written ≡ take count text

first_plain : (b : ℕ) (s : List ℕ) → is_word_byte b ≡ false → IsPlain (b ∷ s) (first_part (b ∷ s))
first_plain b s w = by (is_ascii_digit b) refl
  where
    e : begins_name b ≡ false
    e = rw w refl

    by : (digit : Bool) → is_ascii_digit b ≡ digit → IsPlain (b ∷ s) (first_part (b ∷ s))
    by true d =
        subst (IsPlain (b ∷ s)) (sym (digits_first b s e d))
        (record { unnamed = refl; count = prefix_len is_ascii_digit (b ∷ s); taken = refl })
    by false d = rw (e, d) (record { unnamed = refl; count = 1; taken = refl })

pub begins_taken : (n b : ℕ) (s rest : List ℕ) → 0 < length (take n (b ∷ s))
    → begins_word (take n (b ∷ s) ++ rest) ≡ is_word_byte b
begins_taken zero b s rest h = absurd (omega (arith, h))
begins_taken (suc n) b s rest h = refl

module _ (names : List (List ℕ)) (vectors : List Vector) (at : ℕ) where
  plain_stays : (part : Part) → part.name ≡ [] → rewritten_part vectors at part ≡ part.written
  plain_stays part e = ap (λ name. spelled part (replaced_by at part.bit (vector_named vectors name))) e

  pub begins_same : (text : List ℕ) → begins_word text ≡ false → begins_word (rewritten vectors at text) ≡ false
  begins_same [] h = refl
  begins_same (b ∷ s) h =
      let part : Part = first_part (b ∷ s) in
      let plain : IsPlain (b ∷ s) part = first_plain b s h in
      let rest : List ℕ = rewritten vectors at (drop (length part.written) (b ∷ s)) in
      let kept : rewritten_part vectors at part ≡ take plain.count (b ∷ s) = plain_stays part plain.unnamed ∙ plain.taken in
      let some : 0 < length (take plain.count (b ∷ s)) = subst (λ w. 0 < length w) plain.taken (first_some (b ∷ s) (omega arith))
      in
      ap (λ ps. begins_word (flat_map (rewritten_part vectors at) ps)) (parts_step (b ∷ s) (omega arith))
      ∙ (ap (λ front. begins_word (front ++ rest)) kept ∙ (begins_taken plain.count b s rest some ∙ h))

  pub symbols_replaced :
      (n : ℕ) (text : List ℕ) → length text ≤ n → runs_together text ≡ false
      → symbols names (rewritten vectors at text) ≡ flat_map (replaced_symbols names vectors at) (parts_of text)
  symbols_replaced n [] le h = refl
  symbols_replaced zero (b ∷ s) le h = absurd (omega (arith, le))
  symbols_replaced (suc n) (b ∷ s) le h =
      let part : Part = first_part (b ∷ s) in
      let others : List ℕ = drop (length part.written) (b ∷ s) in
      let step : parts_of (b ∷ s) ≡ part ∷ parts_of others = parts_step (b ∷ s) (omega arith) in
      let some : 0 < length part.written = first_some (b ∷ s) (omega arith) in
      let left : length others ≡ length (b ∷ s) - length part.written = length-drop (length part.written) (b ∷ s) in
      let apart = or_parts (runs_into_name part) (runs_together others) (sym (ap (λ ps. list_any runs_into_name ps) step) ∙ h) in
      let quiet = λ (e : part.followed ≡ false). begins_same others (sym (first_behind b s) ∙ e) in
      ap (λ ps. symbols names (flat_map (rewritten_part vectors at) ps)) step
      ∙ (symbols_append names (rewritten_part vectors at part) (rewritten vectors at others)
      (spelled_quiet part (replacement_for vectors at part) (rewritten vectors at others) apart.0 quiet)
      ∙ (ap (λ front. front ++ symbols names (rewritten vectors at others))
      (spelled_symbols names part (replacement_for vectors at part) (named_by at part.bit (vector_named vectors part.name)))
      ∙ (ap (λ behind. replaced_symbols names vectors at part ++ behind)
      (symbols_replaced n others (omega (arith, le, some, left)) apart.1)
      ∙ sym (ap (λ ps. flat_map (replaced_symbols names vectors at) ps) step))))

-- the tree
renamed_all :
    (to : List ℕ) (from into : Part → List Symbol) (parts : List Part)
    → ((part : Part) → Contains parts part → map (renamed_symbol to) (from part) ≡ into part)
    → map (renamed_symbol to) (flat_map from parts) ≡ flat_map into parts
renamed_all to from into [] each = refl
renamed_all to from into (part ∷ parts) each =
    map-append (renamed_symbol to) (from part) (flat_map from parts)
    ∙ (ap (λ front. front ++ map (renamed_symbol to) (flat_map from parts)) (each part (contains_here part parts))
    ∙ ap (λ behind. into part ++ behind)
    (renamed_all to from into parts (λ other c. each other (contains_later part parts other c))))

pub tree_replaced :
    (to : List ℕ) (names others : List (List ℕ)) (vectors : List Vector) (at : ℕ) (text : List ℕ) (f : Node)
    → runs_together text ≡ false → Replaces to names others vectors at text → IsText (symbols_over names vectors text) f
    → IsText (symbols others (rewritten vectors at text)) (renamed_by to f)
tree_replaced to names others vectors at text f apart replaces is =
    subst (λ s. IsText s (renamed_by to f))
    (renamed_all to (written_symbols names vectors) (replaced_symbols others vectors at) (parts_of text) replaces
    ∙ sym (symbols_replaced others vectors at (length text) text (omega arith) apart))
    (renamed_text to (symbols_over names vectors text) f is)
