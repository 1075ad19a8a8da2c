-- What a part of a library shows, and what it keeps.
use Rattle.std.specs.Prelude.{◌≡◌, ◌≤◌, ℕ, false, List, length}
use Rattle.liberty_text.specs.declared.scanner.Mode.TheVariants.{Between}
use Rattle.liberty_text.specs.Runs.{mode_behind, tokens_ended}
use Rattle.cell_cursor.specs.declared.part.Part.TheInside.{Inside}
use Rattle.cell_cursor.specs.Braces.{depth_after, kinds_of}
use Rattle.cell_cursor.specs.Scanned.{Scanned}

abbrev pub scanned : Inside → Scanned
scanned p = record {
  before = p.before;
  bytes = p.bytes.items;
  tokens = p.scanner.tokens.items;
  mode = p.scanner.mode;
  depth = p.depth;
}

-- these bytes, before which so many others stand, all of them scanned
abbrev pub all_scanned : ℕ → List ℕ → Scanned
all_scanned before bytes = record {
  before = before;
  bytes = bytes;
  tokens = tokens_ended (Between false) 0 bytes;
  mode = mode_behind (Between false) 0 bytes;
  depth = depth_after 0 (kinds_of (tokens_ended (Between false) 0 bytes));
}

-- the tokens are those that have ended in the bytes, and the braces of them are counted
pub record IsInside (p : Inside) : Type 0 where
  pub tokens_are : p.scanner.tokens.items ≡ tokens_ended (Between false) 0 p.bytes.items
  pub open_is : p.scanner.mode ≡ mode_behind (Between false) 0 p.bytes.items
  pub counted : p.depth ≡ depth_after 0 (kinds_of p.scanner.tokens.items)
  pub few : p.depth ≤ length p.bytes.items
