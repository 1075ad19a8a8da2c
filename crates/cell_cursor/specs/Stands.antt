-- Where a cursor stands in a library, and what a call does to it.
use Rattle.std.specs.Prelude.{◌≡◌, ℕ, ◌+◌, ◌≤◌, Bool, true, false, List, [], ◌∷◌, ◌++◌, reverse, length, Option, Some, None}
use Rattle.std.specs.Prelude.{Result, Ok, Err, IfSome}
use Rattle.text_io.specs.declared.slots.InSlot.TheVariants.{Library}
use Rattle.text_io.specs.declared.stop.Stop.{Stop}
use Rattle.text_io.specs.declared.stop.Stop.TheVariants.{Failed, Memory}
use Rattle.text_io.specs.Desk.{DeskState}
use Rattle.liberty_groups.specs.declared.read.End.TheVariants.{Whole, Cut, Fault}
use Rattle.cell_cursor.specs.declared.cursor.Answer.{Answer}
use Rattle.cell_cursor.specs.declared.cursor.Answer.TheVariants as answer
use Rattle.cell_cursor.specs.declared.cursor.CellCursor.{CellCursor}
use Rattle.cell_cursor.specs.declared.item.LibraryItem.{LibraryItem}
use Rattle.cell_cursor.specs.declared.item.Next.{Next}
use Rattle.cell_cursor.specs.declared.item.Next.TheVariants as next
use Rattle.cell_cursor.specs.Braces.{has_outer, LastMayBeOuter, kinds_of}
use Rattle.cell_cursor.specs.Ends.{ReadsSo, AreFirst}
use Rattle.cell_cursor.specs.Given.{HasSeen, HasGiven}
use Rattle.cell_cursor.specs.Leads.{LeadTo}
use Rattle.cell_cursor.specs.Progress.{scanned_by}
use Rattle.cell_cursor.specs.Taking.{Takes}

-- an answer, as what a call returns
abbrev pub answered : Answer → Result Next Stop
answered answer.Over = Ok (next.Ended Cut)
answered answer.End = Ok (next.Ended Whole)
answered (answer.Refused f) = Ok (next.Ended (Fault f))
answered (answer.Fault f) = Ok (next.Ended (Fault f))
answered (answer.Stopped stop) = Err stop

-- the item that a call returned
abbrev pub given_next : Next → List LibraryItem
given_next (next.Item one) = one ∷ []
given_next (next.Ended end) = []

abbrev pub given_by : Result Next Stop → List LibraryItem
given_by (Ok next) = given_next next
given_by (Err stop) = []

-- What the cursor keeps is the end of the bytes that were taken, and those before it lead to its place, behind these items,
-- whatever follows the bytes of its part.
pub record Keeps (c : CellCursor) (bytes : List ℕ) (items : List LibraryItem) : Type 0 where
  pub before : List ℕ
  pub split : bytes ≡ before ++ (c.part.bytes ++ c.piece)
  pub size : c.part.before ≡ length before
  pub leads : (more : List ℕ) → LeadTo before (c.part.bytes ++ more) c.place items

-- The cursor has no answer yet. No group of the library has ended in its part, and each cell that is closed in the bytes that
-- are scanned is among these items.
pub record Goes (c : CellCursor) (bytes : List ℕ) (items : List LibraryItem) : Type 0 where
  pub keeps : Keeps c bytes items
  pub inner : has_outer c.place (kinds_of c.part.tokens) ≡ false
  pub seen : HasSeen (scanned_by c + 1) bytes items

-- A group of the library may have ended with the last token of its part, and none before.
pub record MayTake (c : CellCursor) (bytes : List ℕ) (items : List LibraryItem) : Type 0 where
  pub keeps : Keeps c bytes items
  pub last : LastMayBeOuter c.place (kinds_of c.part.tokens)
  pub seen : HasSeen (scanned_by c) bytes items

-- after scanning, as this says whether a statement may have ended
abbrev pub GoesBy : Bool → CellCursor → List ℕ → List LibraryItem → Type 0
GoesBy true c bytes items = MayTake c bytes items
GoesBy false c bytes items = Goes c bytes items

-- what is known of the bytes that were taken, and of all items up to the answer
abbrev pub Knows : Option Answer → CellCursor → List ℕ → List LibraryItem → Type 0
Knows None c bytes items = Goes c bytes items
Knows (Some answer.Over) c bytes items = (more : List ℕ) → ReadsSo c.limit (bytes ++ more) items Cut
Knows (Some answer.End) c bytes items = ReadsSo c.limit bytes items Whole
Knows (Some (answer.Refused f)) c bytes items = (more : List ℕ) → ReadsSo c.limit (bytes ++ more) items (Fault f)
Knows (Some (answer.Fault f)) c bytes items = ReadsSo c.limit bytes items (Fault f)
Knows (Some (answer.Stopped stop)) c bytes items = AreFirst c.limit bytes items

-- A cursor stands behind the bytes that it has taken of a library and the items that it has given: the items that wait are the
-- next ones, and it knows what comes behind them. Each cell is given whose closing brace has 65,536 bytes or more behind it.
pub record Stands (c : CellCursor) (bytes : List ℕ) (items : List LibraryItem) : Type 0 where
  pub known : Knows c.answer c bytes (items ++ reverse c.waiting.items)
  pub within : length bytes ≤ c.limit + 1
  pub given : HasGiven bytes items

abbrev pub is_going : Option Answer → Bool
is_going None = true
is_going (Some a) = false

-- the stop tells of a failed read
abbrev pub is_failure : Stop → Bool
is_failure Failed = true
is_failure Memory = false

-- a read failed
abbrev pub is_failed : Option Answer → Bool
is_failed (Some (answer.Stopped stop)) = is_failure stop
is_failed _ = false

-- the call told of a failed read
abbrev pub tells_failure : Result Next Stop → Bool
tells_failure (Ok next) = false
tells_failure (Err stop) = is_failure stop

-- the library ended with its last byte
abbrev pub is_ended : Option Answer → Bool
is_ended (Some answer.End) = true
is_ended (Some (answer.Fault f)) = true
is_ended _ = false

-- nothing is left of the library, where the desk tells that
abbrev pub NothingLeft : DeskState → Type 0
NothingLeft s = IfSome (s.left Library) (λ left. left ≡ [])

-- after a step the cursor stands behind these bytes or, where the step stopped, the items that were given are the first ones
abbrev pub StandsOr : Result (Unit {0}) Stop → CellCursor → List ℕ → List LibraryItem → Type 0
StandsOr (Ok u) c bytes items = Stands c bytes items
StandsOr (Err stop) c bytes items = (c.waiting.items ≡ []) × AreFirst c.limit bytes items × (length bytes ≤ c.limit + 1)

-- after a step with which a library ended nothing is left of it
abbrev pub EndsOr : Result (Unit {0}) Stop → CellCursor → DeskState → Type 0
EndsOr (Ok u) c s = is_ended c.answer ≡ true → NothingLeft s
EndsOr (Err stop) c s = Unit {0}

-- a step of a cursor that goes on, with what was read in it
pub record Advances (result : Result (Unit {0}) Stop) (old new : CellCursor) (before after : DeskState) : Type 0 where
  pub taken : List ℕ
  pub takes : Takes before after taken
  pub limit : new.limit ≡ old.limit
  pub stands : (bytes : List ℕ) (items : List LibraryItem) → Goes old bytes items → StandsOr result new (bytes ++ taken) items
  pub given : (bytes : List ℕ) (items : List LibraryItem) → Goes old bytes items → HasGiven (bytes ++ taken) items
  pub ended : EndsOr result new after

-- Some bytes of the library were read, and these items given. Wherever the cursor stood before, it stands behind them now. Each
-- cell whose closing brace has 65,536 bytes or more behind it in all that was read was given before: a cell that is given now has
-- fewer. Where it came to the end of the library, nothing is left of it.
pub record Moves (old new : CellCursor) (before after : DeskState) (given : List LibraryItem) : Type 0 where
  pub taken : List ℕ
  pub takes : Takes before after taken
  pub limit : new.limit ≡ old.limit
  pub stands : (bytes : List ℕ) (items : List LibraryItem) → Stands old bytes items → Stands new (bytes ++ taken) (items ++ given)
  pub given_before : (bytes : List ℕ) (items : List LibraryItem) → Stands old bytes items → HasGiven (bytes ++ taken) items
  pub ended : is_going old.answer ≡ true → is_ended new.answer ≡ true → NothingLeft after

-- the cursor gives this answer from now on
pub record IsSettled (c : CellCursor) (a : Answer) : Type 0 where
  pub none_waits : c.waiting.items ≡ []
  pub settled : c.answer ≡ Some a

-- The call returned the answer at which the cursor is settled from now on.
abbrev pub IsAnswered : CellCursor → Result Next Stop → Type 0
IsAnswered c result = (a : Answer) × IsSettled c a × (result ≡ answered a)

-- A settled cursor answers as before, and reads nothing.
pub record StaysSettled (a : Answer) (new : CellCursor) (before after : DeskState) (result : Result Next Stop) : Type 0 where
  pub same : IsSettled new a
  pub answer : result ≡ answered a
  pub state : after ≡ before
