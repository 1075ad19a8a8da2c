-- What the end of a part of a library comes to.
use Rattle.std.specs.Prelude.{ℕ, ◌+◌, Bool, true, false, not, ◌&&◌, List, [], length, Option, Some, None, Ok, Err, if◌then◌else◌}
use Rattle.grammar_rules.specs.Reading.{Outcome, read}
use Rattle.liberty_text.specs.declared.token.Stop.{Stop}
use Rattle.liberty_text.specs.declared.token.Stop.TheVariants.{BadByte, OpenText}
use Rattle.liberty_text.specs.Scanner.{scan_of}
use Rattle.liberty_groups.specs.declared.fault.LibraryFault.{LibraryFault}
use Rattle.liberty_groups.specs.declared.fault.Refusal.{Refusal}
use Rattle.liberty_groups.specs.declared.read.Halt.{Halt}
use Rattle.liberty_groups.specs.declared.read.Halt.TheVariants as halt
use Rattle.liberty_groups.specs.Lexeme.{Lexeme, lexemes_behind}
use Rattle.liberty_groups.specs.Answer.{is_nil, is_last, is_end, halt_at, fault_of, closed_text}
use Rattle.cell_cursor.specs.declared.cursor.Answer.{Answer}
use Rattle.cell_cursor.specs.declared.cursor.Answer.TheVariants as answer
use Rattle.cell_cursor.specs.declared.item.LibraryItem.{LibraryItem}
use Rattle.cell_cursor.specs.declared.part.Place.{Place}
use Rattle.cell_cursor.specs.Items.{rest_at}
use Rattle.cell_cursor.specs.Leads.{is_start}
use Rattle.cell_cursor.specs.Scanned.{stop_behind}

-- a part that so many bytes stand before, read from a place on
unfoldable pub part_outcome : Place → ℕ → List ℕ → Outcome Lexeme (List LibraryItem × Refusal) (List LibraryItem)
part_outcome here n bytes = read (rest_at here []) (lexemes_behind n bytes (scan_of bytes).0)

-- the tokens that a reading left
abbrev pub left_in : Outcome Lexeme (List LibraryItem × Refusal) (List LibraryItem) → List Lexeme
left_in (Ok p) = p.1
left_in (Err e) = e.1

-- where a reading halts of a text of this length
abbrev pub halt_in : ℕ → Bool → Outcome Lexeme (List LibraryItem × Refusal) (List LibraryItem) → Halt
halt_in len is_only (Ok p) = halt.Whole
halt_in len is_only (Err e) = halt_at len is_only e.0.1 e.1

unfoldable pub part_halt : Place → ℕ → List ℕ → Halt
part_halt here n bytes = halt_in (n + length bytes) (is_start here && is_last (lexemes_behind n bytes (scan_of bytes).0))
    (part_outcome here n bytes)

-- some library goes on with a part that ends in an open text, once that is closed
abbrev pub goes_on_closed : Place → ℕ → List ℕ → Bool
goes_on_closed here n bytes = is_nil (left_in (part_outcome here n (closed_text bytes)))

abbrev pub goes_on_from : Place → ℕ → List ℕ → Stop → Bool
goes_on_from here n bytes (BadByte at) = false
goes_on_from here n bytes (OpenText at) = goes_on_closed here n bytes
goes_on_from here n bytes _ = true

-- some library goes on with a part
abbrev pub may_go_on : Place → ℕ → List ℕ → Halt → Stop → Bool
may_go_on here n bytes (halt.Refused k at u) stop = is_end stop && u
may_go_on here n bytes _ stop = goes_on_from here n bytes stop

-- How a library ends that has this fault or none. One that is not whole always has a fault, or goes on.
abbrev pub answer_by : Bool → Option LibraryFault → Answer
answer_by true None = answer.End
answer_by false None = answer.Over
answer_by true (Some f) = answer.Fault f
answer_by false (Some f) = answer.Refused f

-- how a library ends with a part or, where that is not whole, comes to its limit with it
unfoldable pub answer_at : Place → ℕ → List ℕ → Bool → Answer
answer_at here n bytes whole =
    if not whole && may_go_on here n bytes (part_halt here n bytes) (scan_of bytes).1 then answer.Over
    else answer_by whole (fault_of (n + length bytes) (part_halt here n bytes) (stop_behind n (scan_of bytes).1))
