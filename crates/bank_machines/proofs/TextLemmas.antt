-- A rewritten text has the function of the text as it stands, read at the position.
use Rattle.std.proofs.Common.{◌≡◌, ℕ, ◌+◌, Bool, true, false, ◌||◌, ◌==◌, List, [], ◌∷◌, ◌++◌, length, map, filter, slice_index}
use Rattle.std.proofs.Common.{Option, None, Some, is_some, Result, Ok, Err, if◌then◌else◌, refl, sym, ap, subst, ◌∙◌, arith, inl}
use Rattle.std.proofs.Common.{inr, unwrap_or, eqb-true, append_assoc, length-append}
use Rattle.std.specs.Prelude.{flat_map, find, not, nat_eq}
use Rattle.std.specs.List.{list_any, list_all, AllByRecursion}
use Rattle.std.proofs.lemmas.Bool.{cases_Bool, and_parts, or_parts, not-true as not_true}
use Rattle.std.proofs.lemmas.List.{map-append}
use Rattle.std.proofs.lemmas.List.Folds.{list_any-append}
use Rattle.std.specs.Char.{is_ascii_digit}
use Rattle.bool_functions.specs.declared.symbol.Symbol.{Symbol}
use Rattle.bool_functions.specs.declared.symbol.Symbol.TheVariants as symbol
use Rattle.bool_functions.specs.declared.tree.Node.{Node}
use Rattle.bool_functions.specs.declared.faults.FunctionFault.{FunctionFault}
use Rattle.bool_functions.specs.declared.faults.FunctionFault.TheVariants as fault
use Rattle.bool_functions.specs.FunctionText.{reading_of}
use Rattle.bool_functions.specs.Grammar.{IsText}
use Rattle.bool_functions.specs.Laws.{renamed_symbol}
use Rattle.bool_functions.specs.Machine.{run, start}
use Rattle.bool_functions.specs.NameList.{number_of}
use Rattle.bool_functions.specs.Support.{support_of}
use Rattle.bool_functions.specs.Token.{is_word_byte, digit_of, mark_of, symbol_of, symbols}
use Rattle.bool_functions.specs.Tree.{renamed_by}
use Rattle.bool_functions.proofs.Complete.{text_read, text_tree as one_tree}
use Rattle.bool_functions.proofs.Alike.{Alike, alike_back, alike_text}
use Rattle.bool_functions.proofs.JoinedTexts.{symbols_word}
use Rattle.bool_functions.proofs.Readings.{reading_tree}
use Rattle.bool_functions.proofs.RenamedTexts.{renamed_text}
use Rattle.bus_texts.specs.declared.vectors.Vector.{Vector}
use Rattle.bus_texts.specs.Laws.{runs_into_name, replaced_symbols, part_symbols as symbols_replaced_by, runs_together}
use Rattle.bus_texts.specs.Parts.{Part, begins_name, is_identifier, parts_of}
use Rattle.bus_texts.specs.Texts.{Becomes, Missing, becomes, replaced_by, is_missing, part_misses, is_misplaced, is_vector}
use Rattle.bus_texts.specs.Texts.{member_of, rewritten}
use Rattle.bus_texts.specs.Vectors.{member_name, has_name, vector_named}
use Rattle.bus_texts.proofs.RewrittenTexts.{identifier_word, symbols_replaced}
use Rattle.bus_texts.proofs.RunningTexts.{is_stray, stray_unread, running_unread}
use Rattle.cell_attributes.specs.declared.texts.Scope.{Scope}
use Rattle.cell_attributes.specs.declared.texts.Text.{Text}
use Rattle.cell_attributes.specs.declared.texts.Text.TheVariants as text
use Rattle.cell_attributes.specs.declared.vocabulary.Class.{Class}
use Rattle.cell_attributes.specs.Texts.{unknown_at, has_unknown, has_coupled, judged_tree, judged, is_coupled, use_of, use_at}
use Rattle.cell_attributes.specs.Texts.{class_at, coupled_at}
use Rattle.cell_attributes.proofs.TextNames.{IsSound}
use Rattle.bank_machines.specs.BankTexts.{other_symbols, CellNames, number_in_cell, bit_name, name_as, is_name_part, symbol_at}
use Rattle.bank_machines.specs.BankTexts.{symbols_from, tree_or, number_at, numbers_at, function_at}
use Rattle.bank_machines.proofs.PartFacts.{IsWritten, IsPart, are_parts}

-- the member for a bit has the name and the bit in its own name
abbrev pub Spells : Vector → Type 0
Spells vector = (at bit : ℕ) (member : List ℕ) → member_of vector at (Some bit) ≡ Some member
    → member ≡ member_name vector.name bit

found_spells :
    (name : List ℕ) (vectors : List Vector) → AllByRecursion Spells vectors → (vector : Vector)
    → find (has_name name) vectors ≡ Some vector → Spells vector
found_spells name [] all vector e = absurd cc
found_spells name (v ∷ vs) all vector e = by (has_name name v) refl (found_spells name vs all.1 vector)
  where
    by : (here : Bool) → has_name name v ≡ here → (find (has_name name) vs ≡ Some vector → Spells vector) → Spells vector
    by true h later = let same : v ≡ vector = cc in subst Spells same all.0
    by false h later = later cc

-- what a member's name is as a symbol
abbrev name_by : CellNames → ℕ → List ℕ → Bool → Bool → Symbol
name_by cell b s digit word =
    renamed_symbol cell.numbers
    (if digit then digit_of b s else (if word then symbol.Name (unwrap_or (number_of cell.names (b ∷ s)) (length cell.names))
    else mark_of b))

member_symbol : (cell : CellNames) (member : List ℕ) → is_identifier member ≡ true
    → renamed_symbol cell.numbers (symbol_of cell.names member) ≡ symbol.Name (number_in_cell cell member)
member_symbol cell [] h = absurd cc
member_symbol cell (b ∷ s) h =
    let parts = and_parts (begins_name b) (list_all is_word_byte s) h in
    let first = and_parts (is_word_byte b) (not (is_ascii_digit b)) parts.0 in
    ap (λ digit. name_by cell b s digit (is_word_byte b)) (not_true (is_ascii_digit b) first.1)
    ∙ ap (λ word. name_by cell b s false word) first.0

-- symbols and the same with other numbers
alike_renamed : (to : List ℕ) (s : List Symbol) → Alike s (map (renamed_symbol to) s)
alike_renamed to [] = Alike.none
alike_renamed to (symbol.Name i ∷ s) = Alike.names (alike_renamed to s)
alike_renamed to (x ∷ s) = Alike.equal (alike_renamed to s)

-- where two lists of symbols are equal but for the numbers of names, so are their trees
same_trees :
    (to by : List ℕ) (s w : List Symbol) (f : Node) → map (renamed_symbol to) s ≡ map (renamed_symbol by) w → IsText s f
    → renamed_by to f ≡ renamed_by by (tree_or (run start w))
same_trees to by s w f same is =
    let renamed : IsText (map (renamed_symbol by) w) (renamed_by to f) =
    subst (λ x. IsText x (renamed_by to f)) same (renamed_text to s f is) in
    let own = alike_text (alike_back (alike_renamed by w)) (renamed_by to f) renamed in
    one_tree (map (renamed_symbol by) w) (renamed_by to f) (renamed_by by own.0) renamed (renamed_text by w own.0 own.1)
    ∙ sym (ap (λ r. renamed_by by (tree_or r)) (text_read w own.0 own.1))

-- an entry between others
entry_between : (front : List ℕ) (x : ℕ) (rest : List ℕ) → slice_index (front ++ x ∷ rest) (length front) ≡ x
entry_between [] x rest = refl
entry_between (y ∷ front) x rest = entry_between front x rest

module _ (cell : CellNames) (at : ℕ) where
  member_is :
      (vector : Vector) (bit : Option ℕ) (member : List ℕ) → Spells vector → member_of vector at bit ≡ Some member
      → member ≡ bit_name vector at bit
  member_is vector None member spells e = sym (ap (λ found. unwrap_or found []) e)
  member_is vector (Some bit) member spells e = spells at bit member e

  -- the symbols of a name of several bits that was replaced
  abbrev one_name : Part → Vector → List Symbol
  one_name part vector = symbol.Name (number_in_cell cell (bit_name vector at part.bit)) ∷ []

  became :
      (part : Part) (vector : Vector) (member : List ℕ) (named : Bool) → is_identifier member ≡ named
      → member ≡ bit_name vector at part.bit
      → is_missing (if named then Becomes member else Missing) ≡ false
      → map (renamed_symbol cell.numbers)
      (symbols_replaced_by cell.names part (if named then Becomes member else Missing)) ≡ one_name part vector
  became part vector member true i e h =
      ap (λ (x : Symbol). x ∷ []) (member_symbol cell member i ∙ ap (λ name. symbol.Name (number_in_cell cell name)) e)
  became part vector member false i e h = absurd cc

  by_member :
      (part : Part) (vector : Vector) (member : Option (List ℕ)) → Spells vector → member_of vector at part.bit ≡ member
      → is_missing (becomes member) ≡ false
      → map (renamed_symbol cell.numbers) (symbols_replaced_by cell.names part (becomes member)) ≡ one_name part vector
  by_member part vector None spells e h = absurd cc
  by_member part vector (Some member) spells e h =
      became part vector member (is_identifier member) refl (member_is vector part.bit member spells e) h

  many_name : (place : ℕ) (bit : Option ℕ) → symbol_at place true bit ≡ symbol.Name place
  many_name place None = refl
  many_name place (Some bit) = refl

  -- a name, where the entry of its place is its number
  own_name :
      (part : Part) (place : ℕ) (numbers : List ℕ) (bit : Option ℕ) → part.bit ≡ bit
      → slice_index numbers place ≡ number_in_cell cell part.name
      → is_identifier part.name ≡ true → IsWritten part.written part.name bit
      → list_any is_stray (symbols cell.names part.written) ≡ false
      → map (renamed_symbol cell.numbers) (symbols cell.names part.written) ≡ renamed_symbol numbers
      (symbol_at place false bit) ∷ []
  own_name part place numbers None b n i w h =
      let word = identifier_word part.name i in
      ap (λ written. map (renamed_symbol cell.numbers) (symbols cell.names written)) w
      ∙ (ap (map (renamed_symbol cell.numbers)) (symbols_word cell.names part.name word.0 word.1)
      ∙ ap (λ (x : Symbol). x ∷ []) (member_symbol cell part.name i ∙ ap symbol.Name (sym n)))
  own_name part place numbers (Some bit) b n i w h = let stray : list_any is_stray (symbols cell.names part.written) ≡ true =
      w cell.names in absurd cc

  by_vector :
      (part : Part) (place : ℕ) (numbers : List ℕ) (vector : Option Vector) → ((v : Vector) → vector ≡ Some v → Spells v)
      → slice_index numbers place ≡ number_in_cell cell (name_as part at vector)
      → is_identifier part.name ≡ true → IsWritten part.written part.name part.bit
      → is_missing (replaced_by at part.bit vector) ≡ false
      → list_any is_stray (symbols_replaced_by cell.names part (replaced_by at part.bit vector)) ≡ false
      → map (renamed_symbol cell.numbers) (symbols_replaced_by cell.names part (replaced_by at part.bit vector))
      ≡ renamed_symbol numbers (symbol_at place (is_some vector) part.bit) ∷ []
  by_vector part place numbers None spells n i w m h = own_name part place numbers part.bit refl n i w h
  by_vector part place numbers (Some vector) spells n i w m h =
      by_member part vector (member_of vector at part.bit) (spells vector refl) refl m
      ∙ (ap (λ (number : ℕ). symbol.Name number ∷ []) (sym n)
      ∙ ap (λ (x : Symbol). renamed_symbol numbers x ∷ []) (sym (many_name place part.bit)))

  module _ (spell : AllByRecursion Spells cell.vectors) where
    named_spells : (name : List ℕ) (vector : Vector) → vector_named cell.vectors name ≡ Some vector → Spells vector
    named_spells name vector e = by (nat_eq (length name) 0) e
      where
        by :
            (empty : Bool) → (if empty then None else find (has_name name) cell.vectors) ≡ Some vector
            → Spells vector
        by true h = absurd cc
        by false h = found_spells name cell.vectors spell vector h

    abbrev replaced : List Part → List Symbol
    replaced parts = flat_map (replaced_symbols cell.names cell.vectors at) parts

    abbrev numbered : List Part → List ℕ
    numbered parts = map (number_at cell at) (filter is_name_part parts)

    nameless_name : (part : Part) → is_name_part part ≡ false → part.name ≡ []
    nameless_name part h = by part.name (length part.name == 0) refl h
      where
        by : (name : List ℕ) (empty : Bool) → (length name == 0) ≡ empty → not empty ≡ false → name ≡ []
        by [] empty e h = refl
        by (b ∷ s) true e h = let none : length (b ∷ s) ≡ 0 = eqb-true (length (b ∷ s)) 0 e in absurd (omega (arith, none))
        by (b ∷ s) false e h = absurd cc

    some_name : (part : Part) → is_name_part part ≡ true → part.name ≡ [] → ⊥
    some_name part h e = let none : is_name_part part ≡ false = ap (λ name. not (length name == 0)) e in cc

    nameless_replaced : (part : Part) → part.name ≡ []
        → replaced_symbols cell.names cell.vectors at part ≡ symbols cell.names part.written
    nameless_replaced part e =
        ap (λ name. symbols_replaced_by cell.names part (replaced_by at part.bit (vector_named cell.vectors name))) e

    abbrev written_from : ℕ → List Part → List Symbol
    written_from place parts = symbols_from cell.vectors place parts

    abbrev Same : List ℕ → List Part → Type 0
    Same front parts =
        map (renamed_symbol cell.numbers) (replaced parts) ≡ map (renamed_symbol (front ++ numbered parts))
        (written_from (length front) parts)

    both : (x y u w : List Symbol) → x ≡ u → y ≡ w → x ++ y ≡ u ++ w
    both x y u w e f = ap (λ s. s ++ y) e ∙ ap (λ s. u ++ s) f

    part_step :
        (front : List ℕ) (part : Part) (parts : List Part) (named : Bool) → is_name_part part ≡ named → IsPart part
        → runs_into_name part ≡ false
        → part_misses cell.vectors at part ≡ false → list_any is_stray (replaced_symbols cell.names cell.vectors at part) ≡ false
        → ((more : List ℕ) → Same more parts) → Same front (part ∷ parts)
    part_step front part parts true e is a m h later =
        let place : ℕ = length front in
        let number : ℕ = number_at cell at part in
        let numbers : List ℕ = front ++ number ∷ numbered parts in
        let first : Symbol = symbol_at place (is_vector cell.vectors part) part.bit in
        let chosen : numbered (part ∷ parts) ≡ number ∷ numbered parts =
        ap (λ b. map (number_at cell at) (if b then part ∷ filter is_name_part parts else filter is_name_part parts)) e in
        let as_written : written_from place (part ∷ parts) ≡ first ∷ written_from (place + 1) parts =
        ap (λ b. if b then first ∷ written_from (place + 1) parts else other_symbols part ++ written_from place parts) e in
        let here : map (renamed_symbol cell.numbers) (replaced_symbols cell.names cell.vectors at part) ≡ renamed_symbol numbers
        first ∷ [] =
        by_vector part place numbers (vector_named cell.vectors part.name) (named_spells part.name)
        (entry_between front number (numbered parts))
        (is.named (some_name part e)) (is.written (some_name part e)) m h in
        let regrouped : (front ++ number ∷ []) ++ numbered parts ≡ numbers = append_assoc front (number ∷ []) (numbered parts) in
        let count : length (front ++ number ∷ []) ≡ place + 1 = length-append front (number ∷ []) in
        let behind : map (renamed_symbol cell.numbers) (replaced parts) ≡ map (renamed_symbol numbers)
        (written_from (place + 1) parts) =
        later (front ++ number ∷ [])
        ∙ (ap (λ ns. map (renamed_symbol ns) (written_from (length (front ++ number ∷ [])) parts)) regrouped
        ∙ ap (λ n. map (renamed_symbol numbers) (written_from n parts)) count) in
        map-append (renamed_symbol cell.numbers) (replaced_symbols cell.names cell.vectors at part) (replaced parts)
        ∙ (both _ _ _ _ here behind
        ∙ (sym (ap (map (renamed_symbol numbers)) as_written)
        ∙ sym (ap (λ ns. map (renamed_symbol (front ++ ns)) (written_from place (part ∷ parts))) chosen)))
    part_step front part parts false e is a m h later =
        let place : ℕ = length front in
        let numbers : List ℕ = front ++ numbered parts in
        let none : part.name ≡ [] = nameless_name part e in
        let plain : List Symbol = symbols [] part.written in
        let chosen : numbered (part ∷ parts) ≡ numbered parts =
        ap (λ b. map (number_at cell at) (if b then part ∷ filter is_name_part parts else filter is_name_part parts)) e in
        let as_written : written_from place (part ∷ parts) ≡ plain ++ written_from place parts =
        ap (λ b. if b then symbol_at place (is_vector cell.vectors part) part.bit ∷ written_from (place + 1) parts
        else other_symbols part ++ written_from place parts) e
        ∙ ap (λ b. (if b then symbol.Stray ∷ [] else plain) ++ written_from place parts) a in
        let here : map (renamed_symbol cell.numbers) (replaced_symbols cell.names cell.vectors at part) ≡ map
        (renamed_symbol numbers) plain =
        ap (map (renamed_symbol cell.numbers)) (nameless_replaced part none)
        ∙ (is.nameless none cell.names cell.numbers ∙ sym (is.nameless none [] numbers)) in
        map-append (renamed_symbol cell.numbers) (replaced_symbols cell.names cell.vectors at part) (replaced parts)
        ∙ (both _ _ _ _ here (later front)
        ∙ (sym (map-append (renamed_symbol numbers) plain (written_from place parts))
        ∙ (sym (ap (map (renamed_symbol numbers)) as_written)
        ∙ sym (ap (λ ns. map (renamed_symbol (front ++ ns)) (written_from place (part ∷ parts))) chosen))))

    parts_same :
        (parts : List Part) → AllByRecursion IsPart parts → list_any runs_into_name parts ≡ false
        → list_any (part_misses cell.vectors at) parts ≡ false
        → list_any is_stray (replaced parts) ≡ false → (front : List ℕ) → Same front parts
    parts_same [] is a m h front = refl
    parts_same (part ∷ parts) is a m h front =
        let apart = or_parts (runs_into_name part) (list_any runs_into_name parts) a in
        let misses = or_parts (part_misses cell.vectors at part) (list_any (part_misses cell.vectors at) parts) m in
        let strays =
        or_parts (list_any is_stray (replaced_symbols cell.names cell.vectors at part)) (list_any is_stray (replaced parts))
        (sym (list_any-append is_stray (replaced_symbols cell.names cell.vectors at part) (replaced parts)) ∙ h) in
        part_step front part parts (is_name_part part) refl is.0 apart.0 misses.0 strays.0
        (parts_same parts is.1 apart.1 misses.1 strays.1)

    -- the rewritten text has the tree of the text as it stands
    pub tree_same :
        (written : List ℕ) (f : Node) → is_misplaced cell.vectors at written ≡ false
        → IsText (symbols cell.names (rewritten cell.vectors at written)) f
        → renamed_by cell.numbers f ≡ function_at cell at written
    tree_same written f missing is =
        let apart : runs_together written ≡ false =
        elim (cases_Bool (runs_together written)) [
          | inl runs ↦ absurd (running_unread cell.names cell.vectors at written f runs is)
          | inr h ↦ h
        ] in
        let made : symbols cell.names (rewritten cell.vectors at written) ≡ replaced (parts_of written) =
        symbols_replaced cell.names cell.vectors at (length written) written (omega arith) apart in
        let read : IsText (replaced (parts_of written)) f = subst (λ s. IsText s f) made is in
        let clean : list_any is_stray (replaced (parts_of written)) ≡ false =
        elim (cases_Bool (list_any is_stray (replaced (parts_of written)))) [
          | inl stray ↦ absurd (stray_unread (replaced (parts_of written)) f stray start
              (text_read (replaced (parts_of written)) f read))
          | inr h ↦ h
        ] in
        same_trees cell.numbers (numbers_at cell at written) (replaced (parts_of written))
        (symbols_from cell.vectors 0 (parts_of written)) f
        (parts_same (parts_of written) (are_parts written) apart missing clean []) read

    -- and reads as it
    pub read_same :
        (written : List ℕ) (f : Node) → is_misplaced cell.vectors at written ≡ false
        → reading_of cell.names (rewritten cell.vectors at written) ≡ Ok f
        → renamed_by cell.numbers f ≡ function_at cell at written
    read_same written f placed e = tree_same written f placed
        (reading_tree cell.names (rewritten cell.vectors at written) f e).tree

-- a text with which nothing is wrong is read
pub record IsRead (r : Result Node FunctionFault) (t : Text) (at : ℕ) : Type 0 where
  pub function : Node
  pub answer : r ≡ Ok function
  pub reads : t ≡ text.Reads function at

pub judged_reads : (classes : List Class) (scope : Scope) (at : ℕ) (r : Result Node FunctionFault)
    → IsSound (judged classes scope at r) → IsRead r (judged classes scope at r) at
judged_reads classes scope at (Ok f) s = by (has_unknown classes scope f) (has_coupled classes scope f) refl refl
  where
    by : (unknown coupled : Bool) → has_unknown classes scope f ≡ unknown → has_coupled classes scope f ≡ coupled
        → IsRead (Ok f) (judged classes scope at (Ok f)) at
    by true coupled u c =
        let t : judged_tree classes scope at f ≡ text.Unknown at = rw u refl in
        let none : at ∷ [] ≡ [] = ap unknown_at (sym t) ∙ s.known in absurd cc
    by false true u c =
        let t : judged_tree classes scope at f ≡ text.Coupled at = rw (u, c) refl in
        let none : at ∷ [] ≡ [] = ap coupled_at (sym t) ∙ s.apart in absurd cc
    by false false u c = record { function = f; answer = refl; reads = rw (u, c) refl }
judged_reads classes scope at (Err fault.TooLong) s = let h = s.well_formed in absurd cc
judged_reads classes scope at (Err (fault.Malformed n)) s = let h = s.well_formed in absurd cc
judged_reads classes scope at (Err (fault.UnknownName n)) s = let h = s.known in absurd cc
judged_reads classes scope at (Err fault.Memory) s = let h = s.well_formed in absurd cc

-- a text of which no name makes states hang on one another
none_any : {X : Type 0} (p : X → Bool) (xs : List X) → ((x : X) → p x ≡ false) → list_any p xs ≡ false
none_any p [] h = refl
none_any p (x ∷ xs) h = ap (λ here. here || list_any p xs) (h x) ∙ none_any p xs h

pub judged_apart :
    (classes : List Class) (scope : Scope) (at : ℕ) → ((i : ℕ) (class : Class) → is_coupled (use_of scope i class) ≡ false)
    → (r : Result Node FunctionFault) → coupled_at (judged classes scope at r) ≡ []
judged_apart classes scope at h (Ok f) = by (has_unknown classes scope f) refl
  where
    coupled : has_coupled classes scope f ≡ false
    coupled = none_any (λ i. is_coupled (use_at classes scope i)) (support_of f) (λ i. h i (class_at classes i))

    by : (unknown : Bool) → has_unknown classes scope f ≡ unknown → coupled_at (judged classes scope at (Ok f)) ≡ []
    by true u = rw u refl
    by false u = rw (u, coupled) refl
judged_apart classes scope at h (Err fault.TooLong) = refl
judged_apart classes scope at h (Err (fault.Malformed n)) = refl
judged_apart classes scope at h (Err (fault.UnknownName n)) = refl
judged_apart classes scope at h (Err fault.Memory) = refl
