-- The cause of a bad line names a cell as the catalog answers it.
use Rattle.std.proofs.Common.{◌≡◌, ℕ, ◌+◌, Bool, true, false, if◌then◌else◌, nat_le, List, [], ◌∷◌, Option, Some, None, Result}
use Rattle.std.proofs.Common.{Ok, Err, refl, subst}
use Rattle.std.specs.Prelude.{ok_or}
use Rattle.stimulus.specs.declared.catalog.CellFound.{CellFound}
use Rattle.stimulus.specs.declared.catalog.CellFound.TheVariants as cells
use Rattle.stimulus.specs.declared.catalog.PinFound.{PinFound}
use Rattle.stimulus.specs.declared.catalog.PinFound.TheVariants as pins
use Rattle.stimulus.specs.declared.context.Context.{Context}
use Rattle.stimulus.specs.declared.context.Said.{Said}
use Rattle.stimulus.specs.declared.context.Said.TheVariants.{Nothing, Begins, Changes}
use Rattle.stimulus.specs.declared.faults.Cause.{Cause}
use Rattle.stimulus.specs.declared.faults.Cause.TheVariants as cause
use Rattle.stimulus.specs.declared.faults.StimulusFault.{StimulusFault}
use Rattle.stimulus.specs.declared.faults.StimulusFault.TheVariants as fault
use Rattle.stimulus.specs.declared.line_meanings.TheConstants.{MAX_CHANGES}
use Rattle.stimulus.specs.Catalog.{Listing, cell_found, pin_found}
use Rattle.stimulus.specs.Context.{start, after}
use Rattle.stimulus.specs.LineMeanings.{and_then, begun, input_of, value_of, is_later, changed_at, changed_in, changed}
use Rattle.stimulus.specs.LineMeanings.{written_meaning}
use Rattle.stimulus.specs.LineMeanings.{line_meaning}
use Rattle.stimulus.specs.Sections.{sections_of}
use Rattle.stimulus.specs.Stimulus.{at_line, all_said}
use Rattle.stimulus.specs.Text.{lines_of}
use Rattle.stimulus.specs.Times.{time_of}
use Rattle.stimulus.specs.Written.{Written, no_words, section_line, change_line, other_line, written_in}
use Rattle.stimulus.specs.Laws.{NamesAnAnswer, CausesNameAnswers}

-- every cause with which this ends names a cell as the catalog answers it
abbrev NameAnswers : {A : Type 0} → Listing → Result A Cause → Type 0
NameAnswers {A} listing answer = (why : Cause) → answer ≡ Err why → NamesAnAnswer listing why

well : {A : Type 0} (listing : Listing) (a : A) → NameAnswers listing (Ok a)
well listing a why e = absurd cc

ends : {A : Type 0} (listing : Listing) (one : Cause) → NamesAnAnswer listing one → NameAnswers {A = A} listing (Err one)
ends listing one h why e = let same : one ≡ why = cc in subst (NamesAnAnswer listing) same h

next : {A B : Type 0} (listing : Listing) (answer : Result A Cause) (more : A → Result B Cause) → NameAnswers listing answer
    → ((a : A) → NameAnswers listing (more a)) → NameAnswers listing (and_then answer more)
next listing (Ok a) more h k = k a
next listing (Err one) more h k = ends listing one (h one refl)

wanted : {A : Type 0} (listing : Listing) (there : Option A) (one : Cause) → NamesAnAnswer listing one
    → NameAnswers listing (ok_or there one)
wanted listing (Some a) one h = well listing a
wanted listing None one h = ends listing one h

either : {A : Type 0} (listing : Listing) (b : Bool) (one other : Result A Cause) → NameAnswers listing one
    → NameAnswers listing other → NameAnswers listing (if b then one else other)
either listing true one other h k = h
either listing false one other h k = k

by_pin : (listing : Listing) (pin : PinFound) → NameAnswers listing (input_of pin)
by_pin listing (pins.Input number) = well listing number
by_pin listing pins.Output = ends listing cause.OutputPin tt
by_pin listing pins.Unknown = ends listing cause.UnknownPin tt

by_change : (listing : Listing) (context : Context) (time pin value : List ℕ)
    → NameAnswers listing (changed listing context time pin value)
by_change listing context time pin value =
    next listing (ok_or context.cell cause.Form)
    (λ cell. and_then (ok_or (time_of time) cause.Form) (λ at. changed_in listing context pin value cell at))
    (wanted listing context.cell cause.Form tt) (λ cell.
    next listing (ok_or (time_of time) cause.Form) (λ at. changed_in listing context pin value cell at)
    (wanted listing (time_of time) cause.Form tt) (λ at.
    either listing (nat_le MAX_CHANGES context.changes) (Err cause.Count)
    (and_then (input_of (pin_found listing cell pin))
    (λ number. and_then (ok_or (value_of value) cause.Value) (λ to. changed_at context at number to)))
    (ends listing cause.Count tt)
    (next listing (input_of (pin_found listing cell pin))
    (λ number. and_then (ok_or (value_of value) cause.Value) (λ to. changed_at context at number to))
    (by_pin listing (pin_found listing cell pin)) (λ number.
    next listing (ok_or (value_of value) cause.Value) (λ to. changed_at context at number to)
    (wanted listing (value_of value) cause.Value tt) (λ to.
    either listing (is_later at context.last) (Ok (Changes (record { at = at; pin = number; to = to }))) (Err cause.Time)
    (well listing (Changes (record { at = at; pin = number; to = to }))) (ends listing cause.Time tt))))))

by_cell : (listing : Listing) (name : List ℕ) (found : CellFound) → cell_found listing name ≡ found
    → NameAnswers listing (begun found)
by_cell listing name (cells.Cell number) e = well listing (Begins number)
by_cell listing name cells.Unknown e = ends listing cause.UnknownCell tt
by_cell listing name (cells.Refused number) e = ends listing (cause.RefusedCell number) (name, e)
by_cell listing name (cells.VerilogPorts number) e = ends listing (cause.VerilogPorts number) (name, e)
by_cell listing name (cells.VitalPorts number) e = ends listing (cause.VitalPorts number) (name, e)

by_written : (listing : Listing) (context : Context) (line : Written) → NameAnswers listing (written_meaning listing context line)
by_written listing context no_words = well listing Nothing
by_written listing context (section_line name) = by_cell listing name (cell_found listing name) refl
by_written listing context (change_line time pin value) = by_change listing context time pin value
by_written listing context other_line = ends listing cause.Form tt

-- the first bad line

abbrev FaultNamesAnswer : Listing → StimulusFault → Type 0
FaultNamesAnswer listing (fault.Line line why) = NamesAnAnswer listing why
FaultNamesAnswer listing fault.Memory = Unit {0}

first_bad : (listing : Listing) (number : ℕ) (context : Context) (lines : List (List ℕ))
    → (bad : StimulusFault) → all_said listing number context lines ≡ Err bad → FaultNamesAnswer listing bad
first_bad listing number context [] bad e = absurd cc
first_bad listing number context (line ∷ lines) bad e =
    by (line_meaning listing context line) (by_written listing context (written_in line))
    (λ here one. first_bad listing (number + 1) (after context here) lines one) e
  where
    later : (here : Said) (answer : Result (List Said) StimulusFault)
        → ((one : StimulusFault) → answer ≡ Err one → FaultNamesAnswer listing one)
        → and_then answer (λ more. Ok (here ∷ more)) ≡ Err bad → FaultNamesAnswer listing bad
    later here (Ok more) k f = absurd cc
    later here (Err one) k f = let same : one ≡ bad = cc in subst (FaultNamesAnswer listing) same (k one refl)

    by : (answer : Result Said Cause) → NameAnswers listing answer
        → ((here : Said) (one : StimulusFault) → all_said listing (number + 1) (after context here) lines ≡ Err one
        → FaultNamesAnswer listing one)
        → and_then (at_line number answer)
        (λ here. and_then (all_said listing (number + 1) (after context here) lines) (λ more. Ok (here ∷ more))) ≡ Err bad
        → FaultNamesAnswer listing bad
    by (Ok here) k more f = later here (all_said listing (number + 1) (after context here) lines) (more here) f
    by (Err one) k more f = let same : fault.Line number one ≡ bad = cc in subst (FaultNamesAnswer listing) same (k one refl)

pub causes_name_answers : CausesNameAnswers
causes_name_answers listing bytes line why e =
    by (all_said listing 1 start (lines_of bytes)) (first_bad listing 1 start (lines_of bytes)) e
  where
    by : (answer : Result (List Said) StimulusFault) → ((one : StimulusFault) → answer ≡ Err one → FaultNamesAnswer listing one)
        → and_then answer (λ all. Ok (sections_of all)) ≡ Err (fault.Line line why) → NamesAnAnswer listing why
    by (Ok all) k f = absurd cc
    by (Err one) k f = let same : one ≡ fault.Line line why = cc in subst (FaultNamesAnswer listing) same (k one refl)
