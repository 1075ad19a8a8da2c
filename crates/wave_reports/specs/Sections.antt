-- What a section of a report shows: its signals, and the changes of each at their times. This project's rule.
use Rattle.std.specs.Prelude.{ℕ, ◌+◌, ◌-◌, ◌^◌, min, max, Bool, false, ◌&&◌, ◌==◌, nat_lt, not, List, [], ◌∷◌, ◌++◌, length}
use Rattle.std.specs.Prelude.{Option, Some, None, is_some, unwrap_or, if◌then◌else◌}
use Rattle.std.specs.Ordering.{nat_cmp, ordering_then}
use Rattle.std.specs.BTreeMap.{insert_entry}
use Rattle.std.specs.Str.{bytes_eq}
use Rattle.std.specs.declared.cmp.Ordering.{Ordering}
use Rattle.bool_functions.specs.NameList.{number_of}
use Rattle.wave_reports.specs.declared.sections.Section.{Section}
use Rattle.wave_reports.specs.declared.sections.ValueChange.{ValueChange}
use Rattle.wave_reports.specs.Signs.{Sign, sign_of}
use Rattle.wave_reports.specs.Traces.{Input, Trace, trace_of}

-- Signals by their keys, numbered from 0: `L`, `V` or `H` of an output or a check and `.` of an input, then its mark and its
-- name. What is told of each signal at each time, in the order of times and then of signals; and the latest time.
pub record Drawn : Type 0 where
  pub keys : List (List ℕ)
  pub changes : List ((ℕ × ℕ) × ValueChange)
  pub end : ℕ

abbrev pub drawn : Section → Drawn
drawn s = record { keys = s.keys; changes = s.changes.entries; end = s.end }

-- before its first line, where the section begins at this time
abbrev pub blank : ℕ → Drawn
blank start = record { keys = []; changes = []; end = start }

-- times are in order, and the signals of one time
abbrev pub moment_cmp : ℕ × ℕ → ℕ × ℕ → Ordering
moment_cmp x y = ordering_then (nat_cmp x.0 y.0) (nat_cmp x.1 y.1)

-- so many picoseconds later; no time is later than 2^64 - 1
abbrev pub later : ℕ → ℕ → ℕ
later at delay = min (at + delay) (2 ^ 64 - 1)

-- the keys with this one, which stands last where it is new
abbrev pub with_key : List (List ℕ) → List ℕ → List (List ℕ)
with_key keys key = if is_some (number_of keys key) then keys else keys ++ key ∷ []

-- the number of a key among them
abbrev pub key_number : List (List ℕ) → List ℕ → ℕ
key_number keys key = unwrap_or (number_of keys key) (length keys)

-- with what a line tells of a signal at a time, in the place of what an earlier line told of it
unfoldable pub with_change : Drawn → ℕ → ℕ → List ℕ → ℕ → Drawn
with_change d line at key value = record {
  keys = with_key d.keys key;
  changes = insert_entry moment_cmp d.changes (at, key_number d.keys key) (record { line = line; value = value });
  end = max d.end at;
}

-- where the line tells when
abbrev pub with_delayed : Drawn → ℕ → ℕ → Option ℕ → List ℕ → ℕ → Drawn
with_delayed d line at None key value = d
with_delayed d line at (Some delay) key value = with_change d line (later at delay) key value

-- the delay of what is told at the start, where nothing is old, or at a change
abbrev pub delay_shown : Option Input → Option ℕ → Option ℕ
delay_shown None delay = Some (unwrap_or delay 0)
delay_shown (Some change) delay = delay

-- with what a word tells
abbrev pub with_sign : Drawn → ℕ → ℕ → ℕ → Option Input → Option Sign → Drawn
with_sign d line at tag change None = d
with_sign d line at tag change (Some sign) =
    with_delayed d line at (delay_shown change sign.delay) (tag ∷ sign.mark ∷ sign.name) sign.value

abbrev pub with_signs : Drawn → ℕ → ℕ → ℕ → Option Input → List (List ℕ) → Drawn
with_signs d line at tag change [] = d
with_signs d line at tag change (word ∷ words) =
    with_signs (with_sign d line at tag change (sign_of word)) line at tag change words

-- with the change of an input
abbrev pub with_input : Drawn → ℕ → ℕ → Option Input → Drawn
with_input d line at None = d
with_input d line at (Some input) = with_change d line at (46 ∷ 61 ∷ input.name) input.value

-- with the event that two lines differ
abbrev pub with_difference : Drawn → ℕ → ℕ → Bool → Drawn
with_difference d line at differs = if differs then with_change d line at (46 ∷ 33 ∷ []) 49 else d

-- the cell's line stands before the module's, and this before the entity's
abbrev pub rank : ℕ → ℕ
rank tag = if tag == 76 then 0 else (if tag == 86 then 1 else 2)

abbrev pub behind_first : List ℕ → List ℕ
behind_first [] = []
behind_first (b ∷ rest) = rest

-- the line before is one of a trace at the same time, whose tag stands before this one's, and the two differ behind their tags
abbrev pub differs_from : Trace → List ℕ → Option Trace → List ℕ → Bool
differs_from t line None previous = false
differs_from t line (Some before) previous =
    nat_lt (rank before.tag) (rank t.tag) && (before.at == t.at && not (bytes_eq (behind_first previous) (behind_first line)))

-- with what a line of a trace tells, behind a line before it, in a section that begins at this time
abbrev pub with_trace : Drawn → ℕ → ℕ → List ℕ → List ℕ → Trace → Drawn
with_trace d start number previous line t =
    let at = later start t.at in
    let seen = with_difference d number at (differs_from t line (trace_of previous) previous) in
    with_signs (with_input seen number at t.change) number at t.tag t.change t.words
