-- Sections that are read may be given to a simulator.
use Rattle.std.proofs.Common.{◌≡◌, ℕ, ◌+◌, ◌<◌, Bool, true, false, nat_le, if◌then◌else◌, List, [], ◌∷◌, refl, sym, ap, subst}
use Rattle.std.specs.Prelude.{Option, Some, None, Result, Ok, Err, All, ok_or}
use Rattle.std.proofs.lemmas.Bool.{ltb-true}
use Rattle.std.proofs.lemmas.List.Elements.{All-cons, All-nil}
use Rattle.cell_machine.specs.declared.changes.Change.{Change}
use Rattle.cell_machine.specs.History.{ComesAfter, IsProperFrom}
use Rattle.stimulus.specs.declared.faults.Cause.{Cause}
use Rattle.stimulus.specs.declared.faults.Cause.TheVariants as cause
use Rattle.stimulus.specs.declared.catalog.CellFound.{CellFound}
use Rattle.stimulus.specs.declared.catalog.CellFound.TheVariants as cells
use Rattle.stimulus.specs.declared.catalog.PinFound.{PinFound}
use Rattle.stimulus.specs.declared.catalog.PinFound.TheVariants as pins
use Rattle.stimulus.specs.declared.context.Context.{Context}
use Rattle.stimulus.specs.declared.context.Said.{Said}
use Rattle.stimulus.specs.declared.context.Said.TheVariants.{Nothing, Begins, Changes}
use Rattle.stimulus.specs.declared.line_meanings.TheConstants.{MAX_CHANGES}
use Rattle.stimulus.specs.Catalog.{Listing, cell_found, pin_found}
use Rattle.stimulus.specs.Context.{start, after}
use Rattle.stimulus.specs.LineMeanings.{and_then, begun, input_of, value_of, is_later, changed_at, changed, written_meaning}
use Rattle.stimulus.specs.LineMeanings.{line_meaning}
use Rattle.stimulus.specs.Times.{time_of}
use Rattle.stimulus.specs.Written.{Written, no_words, section_line, change_line, other_line, written_in}
use Rattle.stimulus.specs.Sections.{changes_ahead, sections_of}
use Rattle.stimulus.specs.Stimulus.{at_line, all_said}
use Rattle.stimulus.specs.Text.{lines_of}
use Rattle.stimulus.specs.Laws.{HasInputs, IsSectionOf, SectionsAreProper}

-- what two steps give was given by the second, of what the first gave
both_given : {A B E : Type 0} (first : Result A E) (next : A → Result B E) (b : B) → and_then first next ≡ Ok b → (a : A)
    × ((first ≡ Ok a) × (next a ≡ Ok b))
both_given (Ok a) next b e = (a, (refl, e))
both_given (Err f) next b e = absurd cc

not_refused : {A E : Type 0} (b : Bool) (f : E) (rest : Result A E) (a : A) → (if b then Err f else rest) ≡ Ok a → rest ≡ Ok a
not_refused true f rest a e = absurd cc
not_refused false f rest a e = e

allowed_if : {A E : Type 0} (b : Bool) (f : E) (given a : A) → (if b then Ok given else Err f) ≡ Ok a → (b ≡ true) × (given ≡ a)
allowed_if true f given a e = (refl, cc)
allowed_if false f given a e = absurd cc

was_there : {A E : Type 0} (o : Option A) (f : E) (a : A) → ok_or o f ≡ Ok a → o ≡ Some a
was_there (Some b) f a e = cc
was_there None f a e = absurd cc

-- a change that a line may say
record IsChangeOf (listing : Listing) (context : Context) (change : Change) : Type 0 where
  cell : ℕ
  name : List ℕ
  in_section : context.cell ≡ Some cell
  of_input : pin_found listing cell name ≡ pins.Input change.pin
  later : is_later change.at context.last ≡ true

-- what a line may say
MaySay : Listing → Context → Said → Type 0
MaySay listing context Nothing = Unit {0}
MaySay listing context (Begins cell) = (name : List ℕ) × (cell_found listing name ≡ cells.Cell cell)
MaySay listing context (Changes change) = IsChangeOf listing context change

may_begin : (listing : Listing) (context : Context) (name : List ℕ) (found : CellFound) (said : Said)
    → cell_found listing name ≡ found → begun found ≡ Ok said → MaySay listing context said
unfolding MaySay
may_begin listing context name (cells.Cell cell) said is e =
    let same : Begins cell ≡ said = cc in subst (MaySay listing context) same (name, is)
may_begin listing context name cells.Unknown said is e = absurd cc
may_begin listing context name (cells.Refused cell) said is e = absurd cc
may_begin listing context name (cells.VerilogPorts cell) said is e = absurd cc
may_begin listing context name (cells.VitalPorts cell) said is e = absurd cc

input_found : (found : PinFound) (pin : ℕ) → input_of found ≡ Ok pin → found ≡ pins.Input pin
input_found (pins.Input number) pin e = let same : number ≡ pin = cc in ap pins.Input same
input_found pins.Output pin e = absurd cc
input_found pins.Unknown pin e = absurd cc

may_change : (listing : Listing) (context : Context) (time pin value : List ℕ) (said : Said)
    → changed listing context time pin value ≡ Ok said → MaySay listing context said
unfolding MaySay
may_change listing context time pin value said e =
    let (cell, (c, e1)) = both_given (ok_or context.cell cause.Form) _ said e in
    let (at, (t, e2)) = both_given (ok_or (time_of time) cause.Form) _ said e1 in
    let e3 : and_then (input_of (pin_found listing cell pin))
    (λ number. and_then (ok_or (value_of value) cause.Value) (λ to. changed_at context at number to)) ≡ Ok said =
    not_refused (nat_le MAX_CHANGES context.changes) cause.Count _ said e2 in
    let (number, (p, e4)) = both_given (input_of (pin_found listing cell pin)) _ said e3 in
    let (to, (v, e5)) = both_given (ok_or (value_of value) cause.Value) _ said e4 in
    let (later, same) = allowed_if (is_later at context.last) cause.Time _ said e5 in
    let is : IsChangeOf listing context (record { at = at; pin = number; to = to }) = record {
      cell = cell;
      name = pin;
      in_section = was_there context.cell cause.Form cell c;
      of_input = input_found (pin_found listing cell pin) number p;
      later = later;
    } in
    subst (MaySay listing context) same is

may_say_as : (listing : Listing) (context : Context) (written : Written) (said : Said)
    → written_meaning listing context written ≡ Ok said → MaySay listing context said
unfolding MaySay
may_say_as listing context no_words said e = let same : Nothing ≡ said = cc in subst (MaySay listing context) same tt
may_say_as listing context (section_line name) said e = may_begin listing context name (cell_found listing name) said refl e
may_say_as listing context (change_line time pin value) said e = may_change listing context time pin value said e
may_say_as listing context other_line said e = absurd cc

at_line_ok : {A : Type 0} (number : ℕ) (answer : Result A Cause) (a : A) → at_line number answer ≡ Ok a → answer ≡ Ok a
at_line_ok number (Ok b) a e = let same : b ≡ a = cc in ap Ok same
at_line_ok number (Err c) a e = absurd cc

-- the history of a section ends with the change of this time
EndsAt : Option ℕ → List Change → Type 0
EndsAt None h = h ≡ []
EndsAt (Some last) [] = ⊥
EndsAt (Some last) (c ∷ h) = c.at ≡ last

-- a time that is later comes after such a history
comes_after : (at : ℕ) (last : Option ℕ) (h : List Change) → EndsAt last h → is_later at last ≡ true → ComesAfter at h
unfolding EndsAt
comes_after at None h e l = subst (ComesAfter at) (sym e) tt
comes_after at (Some last) [] e l = absurd e
comes_after at (Some last) (c ∷ h) e l = subst (λ t. t < at) (sym e) (ltb-true last at l)

-- the section's cell has inputs with numbers below n
CellHasInputs : Listing → Option ℕ → ℕ → Type 0
CellHasInputs listing None n = Unit {0}
CellHasInputs listing (Some cell) n = HasInputs listing cell n

-- what lines say makes proper sections, and the changes ahead go on properly from the section's history
record AreProper (listing : Listing) (context : Context) (all : List Said) : Type 0 where
  sections : All (IsSectionOf listing) (sections_of all)
  ahead : (n : ℕ) (h : List Change) → CellHasInputs listing context.cell n → EndsAt context.last h
      → IsProperFrom n h (changes_ahead all)

nothing_more : (listing : Listing) (context : Context) → AreProper listing context []
nothing_more listing context = record { sections = All-nil (IsSectionOf listing); ahead = λ n h i l. tt }

one_more : (listing : Listing) (context : Context) (said : Said) (more : List Said) → MaySay listing context said
    → AreProper listing (after context said) more → AreProper listing context (said ∷ more)
unfolding MaySay EndsAt CellHasInputs
one_more listing context Nothing more may rest = record { sections = rest.sections; ahead = rest.ahead }
one_more listing context (Begins cell) more may rest = record {
  sections = All-cons (IsSectionOf listing) _ _ (record { named = may; proper = λ n i. rest.ahead n [] i refl }) rest.sections;
  ahead = λ n h i l. tt;
}
one_more listing context (Changes change) more may rest = record {
  sections = rest.sections;
  ahead = λ n h i l. (
    subst (λ cell. CellHasInputs listing cell n) may.in_section i may.name change.pin may.of_input,
    comes_after change.at context.last h l may.later,
    rest.ahead n (change ∷ h) i refl,
  );
}

all_proper : (listing : Listing) (number : ℕ) (context : Context) (lines : List (List ℕ)) (all : List Said)
    → all_said listing number context lines ≡ Ok all → AreProper listing context all
all_proper listing number context [] all e = let same : [] ≡ all = cc
    in subst (AreProper listing context) same (nothing_more listing context)
all_proper listing number context (line ∷ lines) all e =
    let (said, (s, e1)) = both_given (at_line number (line_meaning listing context line)) _ all e in
    let (more, (m, e2)) = both_given (all_said listing (number + 1) (after context said) lines) (λ more. Ok (said ∷ more)) all e1
    in
    let same : said ∷ more ≡ all = cc in
    subst (AreProper listing context) same (one_more listing context said more
    (may_say_as listing context (written_in line) said (at_line_ok number (line_meaning listing context line) said s))
    (all_proper listing (number + 1) (after context said) lines more m))

pub sections_proper : SectionsAreProper
sections_proper listing bytes sections e =
    let (all, (a, e1)) = both_given (all_said listing 1 start (lines_of bytes)) (λ all. Ok (sections_of all)) sections e in
    let same : sections_of all ≡ sections = cc in
    subst (All (IsSectionOf listing)) same (all_proper listing 1 start (lines_of bytes) all a).sections
