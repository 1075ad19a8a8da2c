-- Where the items of a library stand: each at the offset of its statement.
use Rattle.std.proofs.Common.{◌≡◌, ℕ, Bool, true, false, List, [], ◌∷◌, Ok, inl, inr, cond, codes, refl, ap, subst, ◌∙◌}
use Rattle.std.specs.Str.{bytes_eq}
use Rattle.grammar_rules.specs.Rule.{Verdict, Fits, Foul, Misfit}
use Rattle.grammar_rules.specs.Rule as r
use Rattle.grammar_rules.specs.Reading.{read}
use Rattle.grammar_rules.proofs.Steps.{value_is, choose_ok, and_then_ok}
use Rattle.liberty_groups.specs.declared.fault.Expected.TheVariants as expected
use Rattle.liberty_groups.specs.declared.fault.Refusal.TheVariants.{Syntax}
use Rattle.liberty_groups.specs.declared.reader.Mark.TheVariants as mark
use Rattle.liberty_groups.specs.declared.tree.Value.{Value}
use Rattle.liberty_groups.specs.declared.tree.Item.{Item, out-Item}
use Rattle.liberty_groups.specs.declared.tree.Item.TheVariants as item
use Rattle.liberty_groups.specs.declared.tree.Item.TheOpen.{Item-F}
use Rattle.liberty_groups.specs.declared.tree.Item.TheViews.{outs-Simple, outs-Complex, outs-Inner, out-roll-Group}
use Rattle.liberty_groups.specs.declared.tree.Group.{Group, out-Group, roll-Group}
use Rattle.liberty_groups.specs.Lexeme.{Lexeme}
use Rattle.liberty_groups.specs.Grammar.{◌>>=◌, expect, arguments, value, colon, simple, opens, group_of, complex_or_group}
use Rattle.liberty_groups.specs.Grammar.{bracketed, body, statement}
use Rattle.liberty_groups.specs.Library.{one_text}
use Rattle.cell_cursor.specs.declared.item.LibraryItem.{LibraryItem}
use Rattle.cell_cursor.specs.declared.item.LibraryItem.TheVariants as given_item
use Rattle.cell_cursor.specs.Items.{named_item, group_item, given_by, given, item_at}

-- a statement's item has the statement's offset

abbrev pub AllAt : ℕ → List LibraryItem → Type 0
AllAt at [] = Unit {0}
AllAt at (x ∷ items) = (item_at x ≡ at) × AllAt at items

named_at : (x : Bool) (at : ℕ) → AllAt at (cond x (given_item.LeftOut at ∷ []) [])
named_at true at = (refl, tt)
named_at false at = tt

unit_at : (x : Bool) (name : List ℕ) (values : List Value) (at : ℕ)
    → AllAt at (cond x (given_item.Unit (record { value = one_text values; at = at }) ∷ []) (named_item name at))
unit_at true name values at = (refl, tt)
unit_at false name values at = named_at (bytes_eq name (codes "include_file")) at

item_of_group_at_by : (is_cell is_type is_left_out : Bool) (group : Group) →
    AllAt (out-Group group).at (cond is_cell (given_item.Cell group ∷ [])
    (cond is_type (given_item.BusType group ∷ []) (cond is_left_out (given_item.LeftOut (out-Group group).at ∷ []) [])))
item_of_group_at_by true is_type is_left_out group = (refl, tt)
item_of_group_at_by false true is_left_out group = (refl, tt)
item_of_group_at_by false false is_left_out group = named_at is_left_out (out-Group group).at

item_of_group_at : (group : Group) → AllAt (out-Group group).at (group_item group)
item_of_group_at group =
    let name = (out-Group group).name
    in item_of_group_at_by (bytes_eq name (codes "cell")) (bytes_eq name (codes "type"))
    (bytes_eq name (codes "include_file")) group

-- the offset of a statement
abbrev at_by : Item-F Item Group → ℕ
at_by (Item-F.Simple name _ at) = at
at_by (Item-F.Complex name _ at) = at
at_by (Item-F.Inner group) = (out-Group group).at

given_at_by : (one : Item-F Item Group) → AllAt (at_by one) (given_by one)
given_at_by (Item-F.Simple name values at) = unit_at (bytes_eq name (codes "time_unit")) name values at
given_at_by (Item-F.Complex name _ at) = named_at (bytes_eq name (codes "include_file")) at
given_at_by (Item-F.Inner group) = item_of_group_at group

pub given_at : (one : Item) (at : ℕ) → at_by (out-Item one) ≡ at → AllAt at (given one)
unfolding given
given_at one at e = subst (λ (k : ℕ). AllAt k (given_by (out-Item one))) e (given_at_by (out-Item one))

abbrev pub IsAt : ℕ → Item → Type 0
IsAt at one = at_by (out-Item one) ≡ at

simple_at : (name : List ℕ) (found : List Value) (at : ℕ) → IsAt at (item.Simple name found at)
simple_at name found at = ap at_by (outs-Simple name found at)

complex_at : (name : List ℕ) (found : List Value) (at : ℕ) → IsAt at (item.Complex name found at)
complex_at name found at = ap at_by (outs-Complex name found at)

group_at : (name : List ℕ) (found : List Value) (items : List Item) (at : ℕ) → IsAt at (group_of name found items at)
group_at name found items at =
    ap at_by (outs-Inner (roll-Group (record { name = name; arguments = found; items = items; at = at })))
    ∙ ap (λ g. g.at) (out-roll-Group (record { name = name; arguments = found; items = items; at = at }))

reads_simple : (name : List ℕ) (at : ℕ) (s : List Lexeme) (one : Item) (left : List Lexeme)
    → read (simple name at) s ≡ Ok (one, left) → IsAt at one
unfolding simple
reads_simple name at s one left e =
    let t = and_then_ok (read value s) (λ found m. read (r.Gives (item.Simple name found at)) m) (one, left) e in
    subst (λ (x : Item). IsAt at x) (value_is t.3) (simple_at name t.0 at)

reads_complex : (levels : ℕ) (name : List ℕ) (found : List Value) (at : ℕ) (s : List Lexeme) (one : Item) (left : List Lexeme) →
    read (complex_or_group levels (body levels) name found at) s ≡ Ok (one, left) → IsAt at one
unfolding complex_or_group
reads_complex levels name found at s one left e =
    elim (choose_ok (opens levels) s (λ _ m. read (body levels >>= λ items. r.Gives (group_of name found items at)) m)
    (read (r.Gives (item.Complex name found at)) s) (one, left) e) [
      | inl (x, a, m, is, fits, h) ↦
          (let t = and_then_ok (read (body levels) m) (λ items q. read (r.Gives (group_of name found items at)) q) (one, left) h
          in
          subst (λ (x : Item). IsAt at x) (value_is t.3) (group_at name found t.0 at))
      | inr h ↦ subst (λ (x : Item). IsAt at x) (value_is h.1) (complex_at name found at)
    ]

reads_bracketed : (levels : ℕ) (name : List ℕ) (at : ℕ) (s : List Lexeme) (one : Item) (left : List Lexeme) →
    read (bracketed levels (body levels) name at) s ≡ Ok (one, left) → IsAt at one
unfolding bracketed
reads_bracketed levels name at s one left e =
    let t = and_then_ok (read (expect mark.Open (Syntax expected.AfterName)) s)
    (λ _ m. read (arguments >>= λ found. complex_or_group levels (body levels) name found at) m) (one, left) e in
    let u = and_then_ok (read arguments t.1) (λ found m. read (complex_or_group levels (body levels) name found at) m)
    (one, left) t.3 in
    reads_complex levels name u.0 at u.1 one left u.3

pub reads_at : (levels : ℕ) (name : List ℕ) (at : ℕ) (s : List Lexeme) (one : Item) (left : List Lexeme)
    → read (statement levels name at) s ≡ Ok (one, left) → IsAt at one
reads_at levels name at s one left e =
    elim (choose_ok colon s (λ _ m. read (simple name at) m) (read (bracketed levels (body levels) name at) s) (one, left) e) [
      | inl (x, a, m, is, fits, h) ↦ reads_simple name at m one left h
      | inr h ↦ reads_bracketed levels name at s one left h.1
    ]
