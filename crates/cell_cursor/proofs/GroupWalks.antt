-- Over which braces the statements of a library walk.
use Rattle.std.proofs.Common.{◌≡◌, ℕ, zero, suc, ◌+◌, ◌==◌, ◌&&◌, Bool, true, false, cond, List, [], ◌∷◌, ◌++◌, Option}
use Rattle.std.proofs.Common.{Some, None, Ok, Err, inl, inr, refl, sym, ap, subst, ◌∙◌, arith}
use Rattle.std.proofs.lemmas.Bool.Decides.{nat_tests}
use Rattle.std.proofs.lemmas.Bool.{or_cases as either_true}
use Rattle.std.specs.Cmp.{first_so as left_true}
use Rattle.grammar_rules.specs.Rule.{Rule, Verdict, Fits, Foul, Misfit}
use Rattle.grammar_rules.specs.Rule as r
use Rattle.grammar_rules.specs.Reading.{Outcome, and_then, read}
use Rattle.liberty_text.specs.declared.token.Token.{Token}
use Rattle.liberty_text.specs.declared.token.TokenKind.{TokenKind}
use Rattle.liberty_text.specs.declared.token.TokenKind.TheVariants as kind
use Rattle.liberty_groups.specs.declared.fault.Expected.TheVariants as expected
use Rattle.liberty_groups.specs.declared.fault.Refusal.{Refusal}
use Rattle.liberty_groups.specs.declared.fault.Refusal.TheVariants.{Syntax, NotLibrary, TooDeep}
use Rattle.liberty_groups.specs.declared.reader.Place.{Place as ValuePlace}
use Rattle.liberty_groups.specs.declared.reader.Place.TheVariants as part
use Rattle.liberty_groups.specs.declared.reader.Mark.{Mark}
use Rattle.liberty_groups.specs.declared.reader.Mark.TheVariants as mark
use Rattle.liberty_groups.specs.declared.reader.Start.{Start}
use Rattle.liberty_groups.specs.declared.reader.Start.TheVariants as start
use Rattle.liberty_groups.specs.declared.tree.Value.{Value}
use Rattle.liberty_groups.specs.declared.tree.Item.{Item}
use Rattle.liberty_groups.specs.declared.tree.Item.TheVariants as item
use Rattle.liberty_groups.specs.declared.tree.Item.TheViews.{outs-Inner}
use Rattle.liberty_groups.specs.declared.tree.Group.{roll-Group}
use Rattle.liberty_groups.specs.Lexeme.{Lexeme}
use Rattle.liberty_groups.specs.Grammar.{◌>>=◌, is_mark, only_mark, expect, is_argument, is_value, goes_on, part_of, part_at}
use Rattle.liberty_groups.specs.Grammar.{parts, arguments, end_at, value_end, more_value, no_value, value, colon, simple}
use Rattle.liberty_groups.specs.Grammar.{start_by, begun_by, starts, one_more, some_statements, opens, group_of, complex_or_group}
use Rattle.liberty_groups.specs.Grammar.{bracketed, body, statement}
use Rattle.liberty_groups.specs.Library.{is_word, is_library_name, library_name, header}
use Rattle.cell_cursor.specs.declared.part.Place.{Place}
use Rattle.cell_cursor.specs.declared.part.Place.TheVariants as place
use Rattle.cell_cursor.specs.Braces.{begins_group, ends_group, depth_behind, is_outer}
use Rattle.cell_cursor.specs.Items.{is_group, is_group_by}
use Rattle.cell_cursor.proofs.Closed.{no_group_simple, no_group_complex}
use Rattle.cell_cursor.proofs.Depths.{IsPlain, plain_depth, plain_outer, brace_plain, begin_depth, begin_ends, end_depth}
use Rattle.cell_cursor.proofs.Walks.{Brace, never, Walk, Walks, walks_gives, walks_token, walks_peek, walks_then, walks_choice}
use Rattle.cell_cursor.proofs.Walks.{walks_many}

-- which tokens fit

fits_if : {A K : Type 0} (b : Bool) (v a : A) (k : K) → cond b (Fits v) (Misfit k) ≡ Fits a → b ≡ true
fits_if true v a k e = refl
fits_if false v a k e = absurd cc

some_if : {A K : Type 0} (b : Bool) (v a : A) → ◌≡◌ {A = Option (Verdict A K)} (cond b (Some (Fits v)) None) (Some (Fits a))
    → b ≡ true
some_if true v a e = refl
some_if false v a e = absurd cc

open_plain : (k : TokenKind) → is_mark mark.Open k ≡ true → IsPlain k
open_plain (kind.Brace b) e = brace_plain b 40 e refl refl
open_plain _ e = absurd cc

close_plain : (k : TokenKind) → is_mark mark.Close k ≡ true → IsPlain k
close_plain (kind.Brace b) e = brace_plain b 41 e refl refl
close_plain _ e = absurd cc

colon_plain : (k : TokenKind) → is_mark mark.Colon k ≡ true → IsPlain k
colon_plain kind.Colon e = (refl, refl)
colon_plain _ e = absurd cc

begin_begins : (k : TokenKind) → is_mark mark.Begin k ≡ true → begins_group k ≡ true
begin_begins (kind.Brace b) e = e
begin_begins _ e = absurd cc

end_ends : (k : TokenKind) → is_mark mark.End k ≡ true → ends_group k ≡ true
end_ends (kind.Brace b) e = e
end_ends _ e = absurd cc

argument_plain : (k : TokenKind) → is_argument k ≡ true → IsPlain k
argument_plain kind.Word e = (refl, refl)
argument_plain kind.Text e = (refl, refl)
argument_plain kind.Comma e = (refl, refl)
argument_plain _ e = absurd cc

value_plain : (k : TokenKind) → is_value k ≡ true → IsPlain k
value_plain (kind.Brace b) e = elim (either_true (b == 40) (b == 41) e)
    [ inl f ↦ brace_plain b 40 f refl refl | inr f ↦ brace_plain b 41 f refl refl ]
value_plain kind.Word e = (refl, refl)
value_plain kind.Text e = (refl, refl)
value_plain kind.Colon e = (refl, refl)
value_plain kind.Semicolon e = absurd cc
value_plain kind.Comma e = (refl, refl)

word_is_plain : (k : TokenKind) → is_word k ≡ true → IsPlain k
word_is_plain kind.Word e = (refl, refl)
word_is_plain _ e = absurd cc

part_plain : (p : ValuePlace) (t : Token) → goes_on p t ≡ true → IsPlain t.kind
part_plain part.Arguments t e = argument_plain t.kind e
part_plain part.ValueStart t e = value_plain t.kind e
part_plain part.Value t e = value_plain t.kind (left_true (is_value t.kind) _ e)

pub named_plain : (k : TokenKind) → start_by k ≡ start.Named → IsPlain k
named_plain kind.Word e = (refl, refl)
named_plain _ e = absurd cc

pub empty_plain : (k : TokenKind) → start_by k ≡ start.Empty → IsPlain k
empty_plain kind.Semicolon e = (refl, refl)
empty_plain _ e = absurd cc

-- walks over tokens that are no braces of groups

abbrev PlainIf : {A K : Type 0} → (Lexeme → Verdict A K) → Type 0
PlainIf {A} {K} f = (x : Lexeme) (a : A) → f x ≡ Fits a → IsPlain x.token.kind

plain_token : {K A : Type 0} (here : Place) (d : ℕ) (f : Lexeme → Verdict A K) (k : K) → PlainIf f
    → Walks (is_outer here) d d never (r.Token f k)
plain_token here d f k h = walks_token (is_outer here) d d never f k (λ x a fits. let p = h x a fits
    in (plain_depth d x.token.kind p, plain_outer here d x.token.kind p))

expect_plain : {K : Type 0} (here : Place) (d : ℕ) (m : Mark) (k : K) → ((t : TokenKind) → is_mark m t ≡ true → IsPlain t)
    → Walks (is_outer here) d d never (expect m k)
expect_plain here d m k h = plain_token here d (only_mark m k) k
    (λ x a fits. h x.token.kind (fits_if (is_mark m x.token.kind) tt a k fits))

parts_walk : (here : Place) (d : ℕ) (p : ValuePlace) (found : List Value) → Walks (is_outer here) d d never (parts p found)
parts_walk here d p found =
    walks_many (is_outer here) d (λ _. part_at p) (λ found more. r.Gives (found ++ more)) found
    (λ v x a fits. let k = part_plain p x.token (some_if (goes_on p x.token) (part_of x) a fits) in (
      plain_outer here d x.token.kind k,
      plain_depth d x.token.kind k,
      walks_gives Refusal (is_outer here) d never (v ++ a) refl,
    ))

pub arguments_walk : (here : Place) (d : ℕ) → Walks (is_outer here) d d never arguments
unfolding arguments
arguments_walk here d =
    walks_then (is_outer here) d d d never (parts part.Arguments [])
    (λ found. expect mark.Close (Syntax expected.Argument) >>= λ _. r.Gives found) (parts_walk here d part.Arguments [])
    (λ found. walks_then (is_outer here) d d d never (expect mark.Close (Syntax expected.Argument)) (λ _. r.Gives found)
    (expect_plain here d mark.Close (Syntax expected.Argument) close_plain)
    (λ _. walks_gives Refusal (is_outer here) d never found refl))

more_value_walk : (here : Place) (d : ℕ) (more : List Value) → Walks (is_outer here) d d never (more_value more)
unfolding more_value
more_value_walk here d more =
    walks_then (is_outer here) d d d never (parts part.Value more) (λ found. value_end part.Value >>= λ _. r.Gives found)
    (parts_walk here d part.Value more)
    (λ found. walks_then (is_outer here) d d d never (value_end part.Value) (λ _. r.Gives found)
    (walks_peek (is_outer here) d (end_at part.Value) (Syntax expected.Value))
    (λ _. walks_gives Refusal (is_outer here) d never found refl))

no_value_walk : (here : Place) (d : ℕ) → Walks (is_outer here) d d never no_value
unfolding no_value
no_value_walk here d =
    walks_then (is_outer here) d d d never (value_end part.ValueStart) (λ _. r.Gives [])
    (walks_peek (is_outer here) d (end_at part.ValueStart) (Syntax expected.Value))
    (λ _. walks_gives {A = List Value} Refusal (is_outer here) d never [] refl)

value_walk : (here : Place) (d : ℕ) → Walks (is_outer here) d d never value
unfolding value
value_walk here d =
    walks_choice (is_outer here) d d never (part_at part.ValueStart) more_value no_value
    (λ x a fits. let k = part_plain part.ValueStart x.token (some_if (goes_on part.ValueStart x.token) (part_of x) a fits) in (
      plain_outer here d x.token.kind k,
      subst (λ (e : ℕ). Walks (is_outer here) e d never (more_value a)) (sym (plain_depth d x.token.kind k))
          (more_value_walk here d a),
    ))
    (no_value_walk here d)

-- Statements: the brace that ends a group is an outer one where none is open around it.

abbrev Closing : Brace
Closing = is_outer place.Inside

abbrev pub group_at : ℕ → Item → Bool
group_at d one = d == 0 && is_group one

no_group_at : (d : ℕ) (one : Item) → is_group one ≡ false → group_at d one ≡ false
no_group_at d one e = ap (λ (x : Bool). d == 0 && x) e ∙ and_false (d == 0)
  where
    and_false : (x : Bool) → (x && false) ≡ false
    and_false true = refl
    and_false false = refl

simple_walk : (d : ℕ) (name : List ℕ) (at : ℕ) → Walks Closing d d (group_at d) (simple name at)
unfolding simple
simple_walk d name at =
    walks_then Closing d d d (group_at d) value (λ found. r.Gives (item.Simple name found at)) (value_walk place.Inside d)
    (λ found. walks_gives Refusal Closing d (group_at d) (item.Simple name found at)
    (no_group_at d (item.Simple name found at) (no_group_simple name found at)))

group_given : (d : ℕ) (name : List ℕ) (found : List Value) (items : List Item) (at : ℕ)
    → (d == 0) ≡ group_at d (group_of name found items at)
group_given d name found items at =
    sym (and_true (d == 0)) ∙ ap (λ (x : Bool). d == 0 && x)
    (sym (ap is_group_by (outs-Inner (roll-Group (record { name = name; arguments = found; items = items; at = at })))))
  where
    and_true : (x : Bool) → (x && true) ≡ x
    and_true true = refl
    and_true false = refl

abbrev GroupWalk : ℕ → ℕ → Type 0
GroupWalk levels d = Walks Closing (d + 1) d (λ (items : List Item). d == 0) (body levels)

-- what a value of the same walk is changed to
changed_walk : {K A B : Type 0} (is : Brace) (d e : ℕ) (c : A → Bool) (f : B → Bool) (g : A
    → B) (s : List Lexeme) (o : Outcome Lexeme K A) →
    ((a : A) → c a ≡ f (g a)) → Walk is d e c s o → Walk is d e f s (and_then o (λ a m. Ok (g a, m)))
changed_walk is d e c f g s (Ok p) h (used, split, depth, shown) = (used, split, depth, shown ∙ h p.0)
changed_walk is d e c f g s (Err z) h w = w

opened_if : (levels : ℕ) (k : TokenKind) (a : Unit {0}) →
    ◌≡◌ {A = Option (Verdict (Unit {0}) Refusal)}
    (cond (is_mark mark.Begin k) (cond (levels == 0) (Some (Misfit TooDeep)) (Some (Fits tt))) None) (Some (Fits a)) →
    (begins_group k ≡ true) × ((levels == 0) ≡ false)
opened_if levels k a e = (
  begin_begins k (by_mark (is_mark mark.Begin k) (levels == 0) e).0,
  (by_mark (is_mark mark.Begin k) (levels == 0) e).1,
)
  where
    by_mark : (x y : Bool) → ◌≡◌ {A = Option (Verdict (Unit {0}) Refusal)}
        (cond x (cond y (Some (Misfit TooDeep)) (Some (Fits tt))) None) (Some (Fits a)) → (x ≡ true) × (y ≡ false)
    by_mark true true e = absurd cc
    by_mark true false e = (refl, refl)
    by_mark false y e = absurd cc

begin_outer : (d : ℕ) (k : TokenKind) → begins_group k ≡ true → Closing d k ≡ false
begin_outer d k b = ap (λ (x : Bool). x && (depth_behind d k == 0)) (begin_ends k b)

complex_or_group_walk : (levels d : ℕ) (name : List ℕ) (found : List Value) (at : ℕ)
    → ((levels == 0) ≡ false → GroupWalk levels d) →
    Walks Closing d d (group_at d) (complex_or_group levels (body levels) name found at)
unfolding complex_or_group
complex_or_group_walk levels d name found at inner =
    walks_choice Closing d d (group_at d) (opens levels) (λ _. body levels >>= λ items. r.Gives (group_of name found items at))
    (r.Gives (item.Complex name found at))
    (λ x a fits. let k = opened_if levels x.token.kind a fits in (
      begin_outer d x.token.kind k.0,
      subst (λ (e : ℕ). Walks Closing e d (group_at d) (body levels >>= λ items. r.Gives (group_of name found items at)))
          (sym (begin_depth d x.token.kind k.0))
          (λ s. changed_walk Closing (d + 1) d (λ (items : List Item). d == 0) (group_at d)
          (λ items. group_of name found items at) s (read (body levels) s) (λ items. group_given d name found items at)
          (inner k.1 s)),
    ))
    (walks_gives Refusal Closing d (group_at d) (item.Complex name found at)
    (no_group_at d (item.Complex name found at) (no_group_complex name found at)))

bracketed_walk : (levels d : ℕ) (name : List ℕ) (at : ℕ) → ((levels == 0) ≡ false → GroupWalk levels d)
    → Walks Closing d d (group_at d) (bracketed levels (body levels) name at)
unfolding bracketed
bracketed_walk levels d name at inner =
    walks_then Closing d d d (group_at d) (expect mark.Open (Syntax expected.AfterName))
    (λ _. arguments >>= λ found. complex_or_group levels (body levels) name found at)
    (expect_plain place.Inside d mark.Open (Syntax expected.AfterName) open_plain)
    (λ _. walks_then Closing d d d (group_at d) arguments (λ found. complex_or_group levels (body levels) name found at)
    (arguments_walk place.Inside d)
    (λ found. complex_or_group_walk levels d name found at inner))

statement_by : (levels d : ℕ) (name : List ℕ) (at : ℕ) → ((levels == 0) ≡ false → GroupWalk levels d)
    → Walks Closing d d (group_at d) (statement levels name at)
statement_by levels d name at inner =
    walks_choice Closing d d (group_at d) colon (λ _. simple name at) (bracketed levels (body levels) name at)
    (λ x a fits. let k = colon_plain x.token.kind (some_if (is_mark mark.Colon x.token.kind) tt a fits) in (
      plain_outer place.Inside d x.token.kind k,
      subst (λ (e : ℕ). Walks Closing e d (group_at d) (simple name at)) (sym (plain_depth d x.token.kind k))
          (simple_walk d name at),
    ))
    (bracketed_walk levels d name at inner)

end_outer : (d : ℕ) (k : TokenKind) → ends_group k ≡ true → Closing (d + 1) k ≡ (d == 0)
end_outer d k e = ap (λ (x : Bool). x && (depth_behind (d + 1) k == 0)) e ∙ ap (λ (n : ℕ). n == 0) (end_depth d k e)

end_walk : {A : Type 0} (d : ℕ) (a : A)
    → Walks Closing (d + 1) d (λ (b : A). d == 0) (expect mark.End (Syntax expected.Statement) >>= λ _. r.Gives a)
end_walk {A} d a s =
    changed_walk Closing (d + 1) d (λ (b : Unit {0}). d == 0) (λ (b : A). d == 0) (λ _. a) s
    (read (expect mark.End (Syntax expected.Statement)) s) (λ b. refl)
    (walks_token Closing (d + 1) d (λ (b : Unit {0}). d == 0) (only_mark mark.End (Syntax expected.Statement))
    (Syntax expected.Statement)
    (λ x b fits. let k = end_ends x.token.kind (fits_if (is_mark mark.End x.token.kind) tt b (Syntax expected.Statement) fits)
    in (end_depth d x.token.kind k, end_outer d x.token.kind k)) s)

pub start_plain : {K : Type 0} (x : Lexeme) (a : Option Lexeme)
    → ◌≡◌ {A = Option (Verdict (Option Lexeme) K)} (starts x) (Some (Fits a)) → IsPlain x.token.kind
start_plain {K} x a fits = by_start (start_by x.token.kind) refl fits
  where
    by_start : (b : Start) → start_by x.token.kind ≡ b
        → ◌≡◌ {A = Option (Verdict (Option Lexeme) K)} (begun_by b x) (Some (Fits a)) → IsPlain x.token.kind
    by_start start.Named e f = named_plain x.token.kind e
    by_start start.Empty e f = empty_plain x.token.kind e
    by_start start.Other e f = absurd cc

more_flat : (d : ℕ) (one : Item) → group_at (d + 1) one ≡ never one
more_flat d one = let k : (d + 1 == 0) ≡ false = grind (arith, nat_tests) in ap (λ (x : Bool). x && is_group one) k

one_more_walk : (levels d : ℕ) (items : List Item) (a : Option Lexeme)
    → ((name : List ℕ) (at : ℕ) → Walks Closing (d + 1) (d + 1) (group_at (d + 1)) (statement levels name at)) →
    Walks Closing (d + 1) (d + 1) never (one_more (statement levels) items a)
one_more_walk levels d items None h = walks_gives Refusal Closing (d + 1) never items refl
one_more_walk levels d items (Some x) h = λ s.
    changed_walk Closing (d + 1) (d + 1) (group_at (d + 1)) never (λ found. items ++ found ∷ []) s
    (read (statement levels x.bytes x.token.at) s) (λ one. more_flat d one) (h x.bytes x.token.at s)

body_walk : (levels d : ℕ) → ((name : List ℕ) (at : ℕ)
    → Walks Closing (d + 1) (d + 1) (group_at (d + 1)) (statement levels name at)) → GroupWalk (suc levels) d
unfolding body
body_walk levels d h =
    walks_then Closing (d + 1) (d + 1) d (λ (items : List Item). d == 0) (some_statements (statement levels) [])
    (λ items. expect mark.End (Syntax expected.Statement) >>= λ _. r.Gives items)
    (walks_many Closing (d + 1) (λ _. starts) (one_more (statement levels)) []
    (λ v x a fits. let k = start_plain x a fits
    in (plain_outer place.Inside (d + 1) x.token.kind k, plain_depth (d + 1) x.token.kind k, one_more_walk levels d v a h)))
    (λ items. end_walk d items)

pub statement_walk : (levels d : ℕ) (name : List ℕ) (at : ℕ) → Walks Closing d d (group_at d) (statement levels name at)
statement_walk zero d name at = statement_by zero d name at (λ some. absurd cc)
statement_walk (suc levels) d name at =
    statement_by (suc levels) d name at (λ some. body_walk levels d (λ n t. statement_walk levels (d + 1) n t))

-- the beginning of the library: its brace is the only one that begins a group

abbrev Opening : Brace
Opening = is_outer place.Start

pub header_walk : (d : ℕ) → Walks (is_outer place.Start) d (d + 1) (λ (b : Unit {0}). true) header
unfolding header
header_walk d =
    walks_then Opening d d (d + 1) (λ (b : Unit {0}). true) (r.Token library_name NotLibrary)
    (λ _. expect mark.Open (Syntax expected.Opening) >>= λ _. arguments >>= λ _. expect mark.Begin (Syntax expected.Opening))
    (plain_token place.Start d library_name NotLibrary
    (λ x a fits. word_is_plain x.token.kind
    (left_true (is_word x.token.kind) _ (fits_if (is_library_name x) tt a NotLibrary fits))))
    (λ _. walks_then Opening d d (d + 1) (λ (b : Unit {0}). true) (expect mark.Open (Syntax expected.Opening))
    (λ _. arguments >>= λ _. expect mark.Begin (Syntax expected.Opening))
    (expect_plain place.Start d mark.Open (Syntax expected.Opening) open_plain)
    (λ _. walks_then Opening d d (d + 1) (λ (b : Unit {0}). true) arguments (λ _. expect mark.Begin (Syntax expected.Opening))
    (arguments_walk place.Start d)
    (λ _. walks_token Opening d (d + 1) (λ (b : Unit {0}). true) (only_mark mark.Begin (Syntax expected.Opening))
    (Syntax expected.Opening)
    (λ x a fits. let k = begin_begins x.token.kind (fits_if (is_mark mark.Begin x.token.kind) tt a (Syntax expected.Opening) fits)
    in (begin_depth d x.token.kind k, k)))))
