-- What the rows of a step match.
use Rattle.std.proofs.Common.{◌≡◌, ℕ, zero, suc, ◌≤◌, Bool, true, false, not, ◌&&◌, List, [], ◌∷◌, map, length}
use Rattle.std.proofs.Common.{refl, ◌∙◌, ap, arith}
use Rattle.std.specs.List.{list_all}
use Rattle.std.proofs.lemmas.List.Folds.{list_all-append}
use Rattle.trit_cubes.specs.declared.trits.Trit.{Trit}
use Rattle.trit_cubes.specs.declared.trits.Trit.TheVariants.{Zero, One, Unknown}
use Rattle.trit_cubes.specs.Filling.{same, covers}
use Rattle.cell_machine.specs.Machine.{insert, init}
use Rattle.udp_tables.specs.declared.table.Level.TheVariants as level
use Rattle.udp_tables.specs.declared.table.Entry.{Entry}
use Rattle.udp_tables.specs.declared.table.Entry.TheVariants as entry
use Rattle.udp_tables.specs.Tables.{columns_match}
use Rattle.udp_tables.specs.Primitive.{level_matches, entry_matches, is_level}
use Rattle.udp_tables.specs.Generated.{level_entry}
use Rattle.udp_tables.specs.Sequential.{row_matches, is_level_row, level_symbol, edge_entry, noted, state_row, edge_inputs}
use Rattle.cell_tables.proofs.TableLemmas.{entries-level}
use Rattle.udp_tables.proofs.ColumnLemmas.{and-true, and-swap, columns-push}
use Rattle.udp_tables.proofs.CubeLemmas.{admits, same-self}
use Rattle.cell_tables.proofs.ChangeColumns.{FitsEntries}
use Rattle.cell_tables.proofs.ServingRows.{FitsFrame, frame-levels}

-- a level matches what a place of a cube admits, whatever was before
entry-admits : (w old new : Trit) → entry_matches (level_entry w) old new ≡ admits w new
entry-admits Zero old new = refl
entry-admits One old new = refl
entry-admits Unknown old new = refl

pub symbol-admits : (w t : Trit) → level_matches (level_symbol w) t ≡ admits w t
symbol-admits Zero t = refl
symbol-admits One t = refl
symbol-admits Unknown t = refl

change-admits :
    (old new a b : Trit) → entry_matches (edge_entry old new) a b ≡ (not (same a b) && (admits old a && admits new b))
change-admits Zero new a b = grind arith
change-admits One new a b = grind arith
change-admits Unknown new a b = grind arith

-- a change entry does not match an input that keeps its value
change-still : (old new t : Trit) → entry_matches (edge_entry old new) t t ≡ false
change-still old new t =
    change-admits old new t t ∙ ap (λ b. not b && (admits old t && admits new t)) (same-self t)

pub entries-fit : FitsEntries Entry entry_matches level_entry edge_entry
entries-fit =
    record {
      levels = entry-admits;
      edges = λ old new a b rest m apart. change-admits old new a b ∙ ap (λ t. not t && (admits old a && admits new b)) apart;
      stays = change-still;
    }

change-no-level : (old new : Trit) → is_level (edge_entry old new) ≡ false
change-no-level Zero new = refl
change-no-level One new = refl
change-no-level Unknown Zero = refl
change-no-level Unknown One = refl
change-no-level Unknown Unknown = refl

-- a free notifier matches all
noted-free :
    (checks : Bool) (es : List Entry) (olds news : List Trit) (x y : Trit)
    → length olds ≡ length es → length news ≡ length es
    → columns_match entry_matches (noted checks (entry.Level level.Any) es) (noted checks x olds) (noted checks y news)
    ≡ columns_match entry_matches es olds news
noted-free false es olds news x y f g = refl
noted-free true es olds news x y f g =
    columns-push entry_matches es (entry.Level level.Any) olds x news y f g
    ∙ and-true (columns_match entry_matches es olds news)

pub notes-fit : (checks : Bool) → FitsFrame Entry entry_matches (noted checks (entry.Level level.Any)) (noted checks)
notes-fit checks = record { free = noted-free checks }

levels-insert : (p : ℕ) (e : Entry) (es : List Entry) → list_all is_level (insert p e es) ≡ (is_level e && list_all is_level es)
levels-insert zero e es = refl
levels-insert (suc p) e [] = refl
levels-insert (suc p) e (x ∷ es) =
    ap (λ b. is_level x && b) (levels-insert p e es) ∙ and-swap (is_level x) (is_level e) (list_all is_level es)

levels-noted : (checks : Bool) (e : Entry) (es : List Entry) → list_all is_level es ≡ false
    → list_all is_level (noted checks e es) ≡ false
levels-noted false e es h = h
levels-noted true e es h = list_all-append is_level es (e ∷ []) ∙ ap (λ b. b && list_all is_level (e ∷ [])) h

-- the rows of levels
pub state_row-levels : (checks : Bool) (v : Trit) (c : List Trit) → is_level_row (state_row checks v c) ≡ true
state_row-levels false v c = entries-level c
state_row-levels true v c =
    list_all-append is_level (map level_entry c) (entry.Level level.Any ∷ [])
    ∙ and-true (list_all is_level (map level_entry c)) ∙ entries-level c

pub state_row-matches :
    (checks : Bool) (v : Trit) (c olds news : List Trit) (x y s : Trit)
    → length olds ≡ length c → length news ≡ length c
    → row_matches (noted checks x olds) (noted checks y news) s (state_row checks v c) ≡ covers c news
state_row-matches checks v c olds news x y s f g =
    and-true (columns_match entry_matches (noted checks (entry.Level level.Any) (map level_entry c)) (noted checks x olds)
    (noted checks y news))
    ∙ frame-levels entries-fit (notes-fit checks) c olds news x y f g

-- the columns of a change
pub change-levels : (checks : Bool) (p : ℕ) (c : List Trit) → 3 ≤ length c
    → list_all is_level (noted checks (entry.Level level.Any) (edge_inputs p c)) ≡ false
change-levels checks p [] l = absurd (omega arith)
change-levels checks p (old ∷ []) l = absurd (omega arith)
change-levels checks p (old ∷ new ∷ rest) l =
    levels-noted checks (entry.Level level.Any) (insert p (edge_entry old new) (map level_entry (init rest)))
    (levels-insert p (edge_entry old new) (map level_entry (init rest))
    ∙ ap (λ b. b && list_all is_level (map level_entry (init rest))) (change-no-level old new))
