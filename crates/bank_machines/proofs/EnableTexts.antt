-- The function of the output that is 1 where another output does not float.
use Rattle.std.proofs.Common.{◌≡◌, ℕ, true, false, List, [], ◌∷◌, ◌++◌, Some, Result, Ok, Err, if◌then◌else◌, refl, sym, ap}
use Rattle.std.proofs.Common.{subst, ◌∙◌, codes}
use Rattle.std.specs.Prelude.{is_ok}
use Rattle.std.specs.List.{AllByRecursion}
use Rattle.std.proofs.lemmas.Bool.{cases_Bool}
use Rattle.std.proofs.Common.{inl, inr}
use Rattle.liberty_groups.specs.Attributes.{Attribute}
use Rattle.bool_functions.specs.declared.symbol.Symbol.{Symbol}
use Rattle.bool_functions.specs.declared.symbol.Symbol.TheVariants as symbol
use Rattle.bool_functions.specs.declared.faults.FunctionFault.{FunctionFault}
use Rattle.bool_functions.specs.declared.tree.Node.{Node}
use Rattle.bool_functions.specs.declared.tree.Node.TheVariants as tree
use Rattle.bool_functions.specs.FunctionText.{free_names, reading_of}
use Rattle.bool_functions.specs.Grammar.{Rule, Takes, IsText}
use Rattle.bool_functions.specs.Laws.{ends_in_word}
use Rattle.bool_functions.specs.Token.{symbols}
use Rattle.bool_functions.specs.Tree.{renamed_step, renamed_by}
use Rattle.bool_functions.proofs.Alike.{alike_back, alike_text}
use Rattle.bool_functions.proofs.Complete.{text_tree}
use Rattle.bool_functions.proofs.JoinedTexts.{symbols_append}
use Rattle.bool_functions.proofs.Readings.{alike_symbols, reading_tree}
use Rattle.bool_functions.proofs.Trees.{fold-Not}
use Rattle.cell_attributes.specs.declared.texts.Scope.{Scope}
use Rattle.cell_attributes.specs.Building.{function_of}
use Rattle.cell_attributes.specs.Texts.{judged, text_as}
use Rattle.cell_attributes.specs.Vocabulary.{Vocabulary}
use Rattle.cell_attributes.proofs.TextNames.{IsSound}
use Rattle.three_state_cells.specs.CoreGroups.{reads_alone, enable_function}
use Rattle.bus_texts.specs.declared.vectors.Vector.{Vector}
use Rattle.bus_texts.specs.Texts.{is_misplaced, text_fails, rewritten}
use Rattle.bus_texts.proofs.RewrittenTexts.{and_right}
use Rattle.bank_cells.specs.Faults.{fault_of}
use Rattle.bank_machines.specs.BankTexts.{function_at}
use Rattle.bank_machines.proofs.TextLemmas.{Spells, tree_same, IsRead, judged_reads}
use Rattle.bank_machines.proofs.MovedTexts.{cell_names, unfaulted}

-- a phrase that leaves some symbols leaves them and more, where more stand behind
takes_more : (more : List Symbol) {l : Rule} {s rest : List Symbol} {f : Node} → Takes l s f rest
    → Takes l (s ++ more) f (rest ++ more)
takes_more more Takes.name = Takes.name
takes_more more Takes.zero = Takes.zero
takes_more more Takes.one = Takes.one
takes_more more (Takes.group t) = Takes.group (takes_more more t)
takes_more more (Takes.quote t) = Takes.quote (takes_more more t)
takes_more more (Takes.post t) = Takes.post (takes_more more t)
takes_more more (Takes.bang t) = Takes.bang (takes_more more t)
takes_more more (Takes.not t) = Takes.not (takes_more more t)
takes_more more (Takes.caret t u) = Takes.caret (takes_more more t) (takes_more more u)
takes_more more (Takes.xor t) = Takes.xor (takes_more more t)
takes_more more (Takes.times t u) = Takes.times (takes_more more t) (takes_more more u)
takes_more more (Takes.beside t u) = Takes.beside (takes_more more t) (takes_more more u)
takes_more more (Takes.and t) = Takes.and (takes_more more t)
takes_more more (Takes.plus t u) = Takes.plus (takes_more more t) (takes_more more u)

-- the inverse of a text in brackets
abbrev inverted : List Symbol → List Symbol
inverted s = symbol.Bang ∷ symbol.Open ∷ (s ++ symbol.Close ∷ [])

inverted_text : (s : List Symbol) (f : Node) → IsText s f → IsText (inverted s) (tree.Not f)
inverted_text s f t = Takes.and (Takes.xor (Takes.not (Takes.bang (Takes.post (Takes.group (takes_more (symbol.Close ∷ []) t))))))

inverted_symbols : (names : List (List ℕ)) (text : List ℕ)
    → symbols names (codes "!(" ++ text ++ codes ")") ≡ inverted (symbols names text)
inverted_symbols names text =
    symbols_append names (codes "!(" ++ text) (codes ")") (and_right (ends_in_word (codes "!(" ++ text)))
    ∙ ap (λ s. s ++ symbol.Close ∷ []) (symbols_append names (codes "!(") text refl)

-- a text that reads by itself is one over all names
record HasTree (names : List (List ℕ)) (text : List ℕ) : Type 0 where
  pub function : Node
  pub is : IsText (symbols names text) function

alone_has_tree : (names : List (List ℕ)) (text : List ℕ) → reads_alone text ≡ true → HasTree names text
alone_has_tree names text h = by (reading_of (free_names text) text) refl h
  where
    by : (r : Result Node FunctionFault) → reading_of (free_names text) text ≡ r → is_ok r ≡ true → HasTree names text
    by (Err e) q k = absurd cc
    by (Ok f) q k =
        let own = alike_text (alike_symbols (free_names text) text) f (reading_tree (free_names text) text f q).tree in
        let wanted = alike_text (alike_back (alike_symbols names text)) own.0 own.1 in
        record { function = wanted.0; is = wanted.1 }

enabled_tree : (names : List (List ℕ)) (text : List ℕ) (g : Node) → reading_of names (enable_function text) ≡ Ok g
    → reads_alone text ≡ true
    → (has : HasTree names text) → g ≡ tree.Not has.function
enabled_tree names text g e h has =
    let written : enable_function text ≡ codes "!(" ++ text ++ codes ")" =
    ap (λ b. if b then codes "!(" ++ text ++ codes ")" else []) h in
    let read : IsText (inverted (symbols names text)) g =
    subst (λ s. IsText s g) (ap (symbols names) written ∙ inverted_symbols names text)
    (reading_tree names (enable_function text) g e).tree in
    text_tree (inverted (symbols names text)) g (tree.Not has.function) read
    (inverted_text (symbols names text) has.function has.is)

empty_unread : (names : List (List ℕ)) (text : List ℕ) (g : Node) → reading_of names (enable_function text) ≡ Ok g
    → reads_alone text ≡ false → ⊥
empty_unread names text g e h =
    let written : enable_function text ≡ [] = ap (λ b. if b then codes "!(" ++ text ++ codes ")" else []) h in
    let none : reading_of names [] ≡ Ok g = sym (ap (reading_of names) written) ∙ e in
    cc

pub enable_is :
    (vectors : List Vector) (v : Vocabulary) (numbers : List ℕ) (at : ℕ) → AllByRecursion Spells vectors
    → (scope : Scope) (floats : Attribute)
    → fault_of vectors (Some at) (Some floats) ≡ []
    → IsSound (text_as v scope (Some (record { text = enable_function (rewritten vectors at floats.text); at = floats.at })))
    → function_of numbers (text_as v scope
    (Some (record { text = enable_function (rewritten vectors at floats.text); at = floats.at })))
    ≡ tree.Not (function_at (cell_names vectors v numbers) at floats.text)
enable_is vectors v numbers at spell scope floats h s =
    let made : List ℕ = rewritten vectors at floats.text in
    let read : IsRead (reading_of v.names (enable_function made))
    (judged v.classes scope floats.at (reading_of v.names (enable_function made))) floats.at =
    judged_reads v.classes scope floats.at (reading_of v.names (enable_function made)) s in
    let placed : is_misplaced vectors at floats.text ≡ false = unfaulted (text_fails vectors (Some at) floats.text) floats.at h in
    let alone : reads_alone made ≡ true =
    elim (cases_Bool (reads_alone made)) [
      | inl e ↦ e
      | inr e ↦ absurd (empty_unread v.names made read.function read.answer e)
    ] in
    let has : HasTree v.names made = alone_has_tree v.names made alone in
    ap (function_of numbers) read.reads
    ∙ (ap (renamed_by numbers) (enabled_tree v.names made read.function read.answer alone has)
    ∙ (fold-Not Node (renamed_step numbers) has.function
    ∙ ap tree.Not (tree_same (cell_names vectors v numbers) at spell floats.text has.function placed has.is)))
