-- A group that is written is read again.
use Rattle.std.proofs.Common.{◌≡◌, ℕ, zero, suc, ◌+◌, ◌-◌, ◌==◌, ◌&&◌, Bool, true, false, not, List, [], ◌∷◌, ◌++◌, length, map}
use Rattle.std.proofs.Common.{Some, None, Ok, refl, sym, ap, subst, ◌∙◌, arith, append_assoc}
use Rattle.std.proofs.lemmas.List.{append-nil}
use Rattle.std.specs.List.{list_all}
use Rattle.std.proofs.lemmas.Bool.{and_parts as and_splits}
use Rattle.liberty_text.specs.declared.token.Token.{Token}
use Rattle.liberty_text.specs.declared.token.TokenKind.TheVariants.{Word, Brace, Colon, Semicolon}
use Rattle.liberty_text.specs.declared.token.Stop.TheVariants as stops
use Rattle.liberty_text.specs.Tokens.{Lexes}
use Rattle.liberty_text.specs.Tokens as lex
use Rattle.grammar_rules.specs.Rule as r
use Rattle.grammar_rules.specs.Reading.{Outcome, read}
use Rattle.grammar_rules.proofs.Steps.{and_then_at}
use Rattle.grammar_rules.proofs.Exact.{parts_shrink, sound}
use Rattle.grammar_rules.proofs.Turns.{turns, turn, ends}
use Rattle.liberty_groups.specs.declared.fault.Refusal.{Refusal}
use Rattle.liberty_groups.specs.declared.tree.Value.{Value}
use Rattle.liberty_groups.specs.declared.tree.Item.{Item, out-Item, fold-Item, fold_out-Item}
use Rattle.liberty_groups.specs.declared.tree.Item.TheOpen.{Item-F, Group-F}
use Rattle.liberty_groups.specs.declared.tree.Item.TheFolds.{map-Item}
use Rattle.liberty_groups.specs.declared.tree.Item.TheVariants as item
use Rattle.liberty_groups.specs.declared.tree.Group.{Group, out-Group, roll-Group, out-roll-Group, fold-Group, fold_out-Group}
use Rattle.liberty_groups.specs.Lexeme.{Lexeme, lexemes_of}
use Rattle.liberty_groups.specs.Grammar.{starts, one_more, statement}
use Rattle.liberty_groups.specs.Writing.{values_text, simple_text, complex_text, item_step, group_step, item_text, items_text}
use Rattle.liberty_groups.specs.Writing.{group_text, is_name, is_quotable, writable_item, writable_group, is_writable}
use Rattle.liberty_groups.specs.Writing.{item_is_writable, as_quoted, plain_item_step, plain_group_step, plain_item, plain_group}
use Rattle.liberty_groups.specs.Writing.{ReadsBack, WritableParts}
use Rattle.liberty_groups.proofs.Texts.{group_text_is}
use Rattle.liberty_groups.proofs.Spelling.{Spells, spells_then, lexeme, mark_at, values_at, spells_mark, spells_blank}
use Rattle.liberty_groups.proofs.Spelling.{spells_line, spells_name, spells_values}
use Rattle.liberty_groups.proofs.Rereads.{back_simple, back_complex, back_group}

spells_text : {u v : List ℕ} {l m : Bool} {S : ℕ → List Lexeme} → u ≡ v → Spells u l m S → Spells v l m S
spells_text {u} {v} {l} {m} {S} e h = subst (λ (t : List ℕ). Spells t l m S) e h

-- the parts of a written statement, grouped from the right
regroup : (a b c d : List ℕ) → a ++ (b ++ (c ++ d)) ≡ ((a ++ b) ++ c) ++ d
regroup a b c d = sym (append_assoc a b (c ++ d)) ∙ sym (append_assoc (a ++ b) c d)

-- the tokens of ": values ;" from an offset on
simple_at : List Value → ℕ → List Lexeme
simple_at value n = mark_at Colon 58 n false ∷ (values_at true value (n + 2)
    ++ mark_at Semicolon 59 (n + 2 + length (values_text true value)) false ∷ [])

spells_simple : (name : List ℕ) (value : List Value) (l : Bool) → is_name name ≡ true → list_all is_quotable value ≡ true →
    Spells (simple_text name value) l true
    (λ n. lexeme Word n (n + length name) l name ∷ simple_at value (n + length (name ++ 32 ∷ [])))
unfolding simple_at
spells_simple name value l h i =
    spells_text
    (append_assoc name (32 ∷ []) (58 ∷ 32 ∷ (values_text true value ++ 59 ∷ 10 ∷ []))
    ∙ regroup name (32 ∷ 58 ∷ 32 ∷ []) (values_text true value) (59 ∷ 10 ∷ []))
    (spells_then (spells_name name l h)
    (spells_then (spells_then (spells_mark Colon 58 false (λ n rest V s d. lex.mark Colon refl d)) (spells_blank false))
    (spells_then (spells_values true value i)
    (spells_then (spells_mark Semicolon 59 false (λ n rest V s d. lex.mark Semicolon refl d)) (spells_line false)))))

-- the tokens of "( values )" from an offset on
arguments_at : List Value → ℕ → List Lexeme
arguments_at arguments n = mark_at
    (Brace 40) 40 n false ∷ (values_at true arguments (n + 1)
    ++ mark_at (Brace 41) 41 (n + 1 + length (values_text true arguments)) false ∷ [])

spells_arguments : (name : List ℕ) (arguments : List Value) (l : Bool) → is_name name ≡ true
    → list_all is_quotable arguments ≡ true →
    Spells ((name ++ 32 ∷ []) ++ (40 ∷ (values_text true arguments ++ 41 ∷ []))) l false
    (λ n. lexeme Word n (n + length name) l name ∷ arguments_at arguments (n + length (name ++ 32 ∷ [])))
unfolding arguments_at
spells_arguments name arguments l h i =
    spells_then (spells_name name l h)
    (spells_then (spells_mark (Brace 40) 40 false (λ n rest V s d. lex.mark (Brace 40) refl d))
    (spells_then (spells_values true arguments i) (spells_mark (Brace 41) 41 false (λ n rest V s d. lex.mark (Brace 41) refl d))))

-- bytes of a name and arguments before others
head_first : (name : List ℕ) (values behind : List ℕ) →
    ((name ++ 32 ∷ []) ++ (40 ∷ (values ++ 41 ∷ []))) ++ behind ≡ ((name ++ 32 ∷ 40 ∷ []) ++ values) ++ (41 ∷ behind)
head_first name values behind =
    append_assoc (name ++ 32 ∷ []) (40 ∷ (values ++ 41 ∷ [])) behind
    ∙ append_assoc name (32 ∷ []) (40 ∷ ((values ++ 41 ∷ []) ++ behind))
    ∙ ap (λ (t : List ℕ). name ++ (32 ∷ 40 ∷ t)) (append_assoc values (41 ∷ []) behind)
    ∙ regroup name (32 ∷ 40 ∷ []) values (41 ∷ behind)

spells_complex : (name : List ℕ) (arguments : List Value) (l : Bool) → is_name name ≡ true → list_all is_quotable arguments ≡ true
    →
    Spells (complex_text name arguments) l true
    (λ n. (lexeme Word n (n + length name) l name ∷ arguments_at arguments (n + length (name ++ 32 ∷ [])))
    ++ mark_at Semicolon 59 (n + length ((name ++ 32 ∷ []) ++ (40 ∷ (values_text true arguments ++ 41 ∷ [])))) false ∷ [])
spells_complex name arguments l h i =
    spells_text (head_first name (values_text true arguments) (59 ∷ 10 ∷ []))
    (spells_then (spells_arguments name arguments l h i)
    (spells_then (spells_mark Semicolon 59 false (λ n rest V s d. lex.mark Semicolon refl d)) (spells_line false)))

-- the statements read so far
abbrev pub item_turns : ℕ → List Item → List Lexeme → Outcome Lexeme Refusal (List Item)
item_turns levels items s = turns (λ _. starts) (λ u a t. read (one_more (statement levels) u a) t) items s

-- A statement is written as tokens that are read as one more statement, this one but for offsets and quotes.
record ItemBack (levels : ℕ) (x : Item) (l : Bool) : Type 0 where
  S : ℕ → List Lexeme
  again : ℕ → Item
  spells : Spells (item_text x) l true S
  reads : (n : ℕ) (items : List Item) (more : List Lexeme)
      → item_turns levels items (S n ++ more) ≡ item_turns levels (items ++ again n ∷ []) more
  same : (n : ℕ) → plain_item (again n) ≡ plain_item x

record ItemsBack (levels : ℕ) (xs : List Item) : Type 0 where
  S : ℕ → List Lexeme
  again : ℕ → List Item
  spells : Spells (items_text xs) true true S
  reads : (n : ℕ) (items : List Item) (more : List Lexeme)
      → item_turns levels items (S n ++ more) ≡ item_turns levels (items ++ again n) more
  same : (n : ℕ) → map plain_item (again n) ≡ map plain_item xs

record GroupBack (levels : ℕ) (g : Group) (l : Bool) : Type 0 where
  B : ℕ → List Lexeme
  again : ℕ → Group
  spells : Spells (group_text g) l true (λ n. lexeme Word n (n + length (out-Group g).name) l (out-Group g).name ∷ B n)
  reads : (n : ℕ) (more : List Lexeme)
      → read (statement levels (out-Group g).name n) (B n ++ more) ≡ Ok (item.Inner (again n), more)
  same : (n : ℕ) → plain_group (again n) ≡ plain_group g

-- one statement by its name, which leaves a token behind it or not
named_turn : (levels : ℕ) (name : List ℕ) (n : ℕ) (l : Bool) (items : List Item) (B t : List Lexeme) (x : Item) →
    read (statement levels name n) B ≡ Ok (x, t) →
    item_turns levels items (lexeme Word n (n + length name) l name ∷ B) ≡ item_turns levels (items ++ x ∷ []) t
named_turn levels name n l items B t x e =
    turn (λ _. starts) (λ u a t. read (one_more (statement levels) u a) t) (parts_shrink (one_more (statement levels))) items
    (lexeme Word n (n + length name) l name) (Some (lexeme Word n (n + length name) l name)) B (items ++ x ∷ []) t refl
    (and_then_at (read (statement levels name n) B) (λ found t. read (r.Gives {K = Refusal} (items ++ found ∷ [])) t) x t e)

semicolon_turn : (levels n : ℕ) (l : Bool) (items : List Item) (more : List Lexeme)
    → item_turns levels items (mark_at Semicolon 59 n l ∷ more) ≡ item_turns levels items more
semicolon_turn levels n l items more =
    turn (λ _. starts) (λ u a t. read (one_more (statement levels) u a) t) (parts_shrink (one_more (statement levels))) items
    (mark_at Semicolon 59 n l) None more items more refl refl

-- a statement of this shape, under each fold
of_shape : {A A' : Type 0} (step : Item-F A A' → A) (step' : Group-F A A' → A') (x : Item) (y : Item-F Item Group)
    → out-Item x ≡ y →
    fold-Item A A' step step' x ≡ step (map-Item Item Group A A' (fold-Item A A' step step') (fold-Group A A' step step') y)
of_shape {A} {A'} step step' x y e =
    fold_out-Item A A' step step' x ∙ ap
    (λ (z : Item-F Item Group). step (map-Item Item Group A A' (fold-Item A A' step step') (fold-Group A A' step step') z)) e

quoted_twice : (vs : List Value) → map as_quoted (map as_quoted vs) ≡ map as_quoted vs
quoted_twice [] = refl
quoted_twice (v ∷ vs) = ap (λ (t : List Value). as_quoted v ∷ t) (quoted_twice vs)

-- a statement of each shape
simple_back : (levels : ℕ) (x : Item) (l : Bool) (name : List ℕ) (value : List Value) (at : ℕ)
    → out-Item x ≡ Item-F.Simple name value at →
    is_name name ≡ true → list_all is_quotable value ≡ true → ItemBack levels x l
unfolding simple_at
simple_back levels x l name value at e h i = record {
  S = λ n. lexeme Word n (n + length name) l name ∷ simple_at value (n + length (name ++ 32 ∷ []));
  again = λ n. item.Simple name (map as_quoted value) n;
  spells = subst (λ (t : List ℕ). Spells t l true
      (λ n. lexeme Word n (n + length name) l name ∷ simple_at value (n + length (name ++ 32 ∷ []))))
      (sym (of_shape item_step group_step x (Item-F.Simple name value at) e)) (spells_simple name value l h i);
  reads = λ n items more.
      (let c = n + length (name ++ 32 ∷ []) in
      let m = c + 2 + length (values_text true value) in
      named_turn levels name n l items (simple_at value c ++ more) (mark_at Semicolon 59 m false ∷ more)
      (item.Simple name (map as_quoted value) n)
      (ap (λ (t : List Lexeme). read (statement levels name n) (mark_at Colon 58 c false ∷ t))
      (append_assoc (values_at true value (c + 2)) (mark_at Semicolon 59 m false ∷ []) more)
      ∙ back_simple levels name n value c (c + 2) m false false more i)
      ∙ semicolon_turn levels m false (items ++ item.Simple name (map as_quoted value) n ∷ []) more);
  same = λ n.
      (of_shape plain_item_step plain_group_step (item.Simple name (map as_quoted value) n)
      (Item-F.Simple name (map as_quoted value) n) (item.outs-Simple name (map as_quoted value) n)
      ∙ ap (λ (v : List Value). item.Simple name v 0) (quoted_twice value)
      ∙ sym (of_shape plain_item_step plain_group_step x (Item-F.Simple name value at) e));
}

complex_back : (levels : ℕ) (x : Item) (l : Bool) (name : List ℕ) (arguments : List Value) (at : ℕ)
    → out-Item x ≡ Item-F.Complex name arguments at →
    is_name name ≡ true → list_all is_quotable arguments ≡ true → ItemBack levels x l
unfolding arguments_at
complex_back levels x l name arguments at e h i = record {
  S = λ n. (lexeme Word n (n + length name) l name ∷ arguments_at arguments (n + length (name ++ 32 ∷ [])))
      ++ mark_at Semicolon 59 (n + length ((name ++ 32 ∷ []) ++ (40 ∷ (values_text true arguments ++ 41 ∷ [])))) false ∷ [];
  again = λ n. item.Complex name (map as_quoted arguments) n;
  spells = subst (λ (t : List ℕ). Spells t l true
      (λ n. (lexeme Word n (n + length name) l name ∷ arguments_at arguments (n + length (name ++ 32 ∷ [])))
      ++ mark_at Semicolon 59 (n + length ((name ++ 32 ∷ []) ++ (40 ∷ (values_text true arguments ++ 41 ∷ [])))) false ∷ []))
      (sym (of_shape item_step group_step x (Item-F.Complex name arguments at) e)) (spells_complex name arguments l h i);
  reads = λ n items more.
      (let c = n + length (name ++ 32 ∷ []) in
      let m = c + 1 + length (values_text true arguments) in
      let f = n + length ((name ++ 32 ∷ []) ++ (40 ∷ (values_text true arguments ++ 41 ∷ []))) in
      let semi = mark_at Semicolon 59 f false in
      let close = mark_at (Brace 41) 41 m false in
      named_turn levels name n l items ((arguments_at arguments c ++ semi ∷ []) ++ more) (semi ∷ more)
      (item.Complex name (map as_quoted arguments) n)
      (ap (λ (t : List Lexeme). read (statement levels name n) (mark_at (Brace 40) 40 c false ∷ t))
      (append_assoc (values_at true arguments (c + 1) ++ close ∷ []) (semi ∷ []) more
      ∙ append_assoc (values_at true arguments (c + 1)) (close ∷ []) (semi ∷ more))
      ∙ back_complex levels name n arguments c (c + 1) m f false false false more i)
      ∙ semicolon_turn levels f false (items ++ item.Complex name (map as_quoted arguments) n ∷ []) more);
  same = λ n.
      (of_shape plain_item_step plain_group_step (item.Complex name (map as_quoted arguments) n)
      (Item-F.Complex name (map as_quoted arguments) n) (item.outs-Complex name (map as_quoted arguments) n)
      ∙ ap (λ (v : List Value). item.Complex name v 0) (quoted_twice arguments)
      ∙ sym (of_shape plain_item_step plain_group_step x (Item-F.Complex name arguments at) e));
}

inner_back : (levels : ℕ) (x : Item) (l : Bool) (g : Group) → out-Item x ≡ Item-F.Inner g → GroupBack levels g l
    → ItemBack levels x l
inner_back levels x l g e b = record {
  S = λ n. lexeme Word n (n + length (out-Group g).name) l (out-Group g).name ∷ b.B n;
  again = λ n. item.Inner (b.again n);
  spells = subst (λ (t : List ℕ). Spells t l true
      (λ n. lexeme Word n (n + length (out-Group g).name) l (out-Group g).name ∷ b.B n))
      (sym (of_shape item_step group_step x (Item-F.Inner g) e)) b.spells;
  reads = λ n items more. named_turn levels (out-Group g).name n l items (b.B n ++ more) more (item.Inner (b.again n))
      (b.reads n more);
  same = λ n.
      (of_shape plain_item_step plain_group_step (item.Inner (b.again n)) (Item-F.Inner (b.again n)) (item.outs-Inner (b.again n))
      ∙ ap item.Inner (b.same n)
      ∙ sym (of_shape plain_item_step plain_group_step x (Item-F.Inner g) e));
}

item_back : (levels : ℕ) → ((g : Group) (l : Bool) → is_writable levels g ≡ true → GroupBack levels g l) → (x : Item) (l : Bool)
    → item_is_writable levels x ≡ true → ItemBack levels x l
item_back levels inner x l h = by_shape (out-Item x) refl
  where
    by_shape : (y : Item-F Item Group) → out-Item x ≡ y → ItemBack levels x l
    by_shape (Item-F.Simple name value at) e =
        let i = and_splits (is_name name) (list_all is_quotable value)
        (sym (ap (λ (f : ℕ → Bool). f levels) (of_shape writable_item writable_group x (Item-F.Simple name value at) e)) ∙ h)
        in
        simple_back levels x l name value at e i.0 i.1
    by_shape (Item-F.Complex name arguments at) e =
        let i = and_splits (is_name name) (list_all is_quotable arguments)
        (sym (ap (λ (f : ℕ → Bool). f levels) (of_shape writable_item writable_group x (Item-F.Complex name arguments at) e))
        ∙ h) in
        complex_back levels x l name arguments at e i.0 i.1
    by_shape (Item-F.Inner g) e =
        inner_back levels x l g e (inner g l
        (sym (ap (λ (f : ℕ → Bool). f levels) (of_shape writable_item writable_group x (Item-F.Inner g) e)) ∙ h))

items_back : (levels : ℕ) → ((x : Item) (l : Bool) → item_is_writable levels x ≡ true → ItemBack levels x l) → (xs : List Item)
    → list_all (item_is_writable levels) xs ≡ true → ItemsBack levels xs
items_back levels one [] h = record {
  S = λ n. [];
  again = λ n. [];
  spells = record { spells = λ pre rest n V s e d. ([], subst (λ (i : ℕ). Lexes i true rest V s) (omega arith) d, refl) };
  reads = λ n items more. ap (λ (t : List Item). item_turns levels t more) (sym (append-nil items));
  same = λ n. refl;
}
items_back levels one (x ∷ xs) h =
    let i = and_splits (item_is_writable levels x) (list_all (item_is_writable levels) xs) h in
    let a = one x true i.0 in
    let b = items_back levels one xs i.1 in record {
      S = λ n. a.S n ++ b.S (n + length (item_text x));
      again = λ n. a.again n ∷ b.again (n + length (item_text x));
      spells = spells_then a.spells b.spells;
      reads = λ n items more.
          (let m = n + length (item_text x) in
          ap (item_turns levels items) (append_assoc (a.S n) (b.S m) more)
          ∙ a.reads n items (b.S m ++ more)
          ∙ b.reads m (items ++ a.again n ∷ []) more
          ∙ ap (λ (t : List Item). item_turns levels t more) (append_assoc items (a.again n ∷ []) (b.again m)));
      same = λ n. ap (λ (t : Item). t ∷ map plain_item (b.again (n + length (item_text x)))) (a.same n)
          ∙ ap (λ (t : List Item). plain_item x ∷ t) (b.same (n + length (item_text x)));
    }

-- a group of these parts, without offsets and quotes
plain_is : (y : Group) (o : Group-F Item Group) → out-Group y ≡ o →
    plain_group y ≡ roll-Group (record {
      name = o.name;
      arguments = map as_quoted o.arguments;
      items =
          map plain_item o.items;
      at = 0;
    })
plain_is y o e =
    fold_out-Group Item Group plain_item_step plain_group_step y
    ∙ ap (λ (z : Group-F Item Group). roll-Group
    (record { name = z.name; arguments = map as_quoted z.arguments; items = map plain_item z.items; at = 0 })) e

-- the bytes of a group, grouped from the right
group_first : (g : Group) →
    (((out-Group g).name ++ 32 ∷ []) ++ (40 ∷ (values_text true (out-Group g).arguments ++ 41 ∷ [])))
    ++ ((32 ∷ 123 ∷ 10 ∷ []) ++ (items_text (out-Group g).items ++ 125 ∷ 10 ∷ []))
    ≡ group_text g
group_first g =
    let o = out-Group g in
    let x = (o.name ++ 32 ∷ 40 ∷ []) ++ values_text true o.arguments in
    let items = items_text o.items in
    head_first o.name (values_text true o.arguments) (32 ∷ 123 ∷ 10 ∷ (items ++ 125 ∷ 10 ∷ []))
    ∙ sym (append_assoc x (41 ∷ 32 ∷ 123 ∷ 10 ∷ []) (items ++ 125 ∷ 10 ∷ []))
    ∙ sym (append_assoc (x ++ 41 ∷ 32 ∷ 123 ∷ 10 ∷ []) items (125 ∷ 10 ∷ []))
    ∙ sym (group_text_is g)

-- tokens of a group, grouped from the right
tokens_first : (v s more : List Lexeme) (c b e : Lexeme)
    → ((v ++ c ∷ []) ++ (b ∷ (s ++ e ∷ []))) ++ more ≡ v ++ (c ∷ b ∷ (s ++ (e ∷ more)))
tokens_first v s more c b e =
    append_assoc (v ++ c ∷ []) (b ∷ (s ++ e ∷ [])) more
    ∙ append_assoc v (c ∷ []) (b ∷ ((s ++ e ∷ []) ++ more))
    ∙ ap (λ (t : List Lexeme). v ++ (c ∷ b ∷ t)) (append_assoc s (e ∷ []) more)

-- a group, with what is read of its statements
group_from : (levels : ℕ) (g : Group) (l : Bool) → is_name (out-Group g).name ≡ true
    → list_all is_quotable (out-Group g).arguments ≡ true →
    ItemsBack levels (out-Group g).items → GroupBack (suc levels) g l
unfolding arguments_at
group_from levels g l h i b =
    let o = out-Group g in
    let name = o.name in
    let head = (name ++ 32 ∷ []) ++ (40 ∷ (values_text true o.arguments ++ 41 ∷ [])) in
    let inside : ℕ → ℕ = λ n. n + length head + 3 in
    let begin : ℕ → Lexeme = λ n. mark_at (Brace 123) 123 (n + length head + 1) false in
    let end : ℕ → Lexeme = λ n. mark_at (Brace 125) 125 (inside n + length (items_text o.items)) true in
    let B : ℕ → List Lexeme = λ n. arguments_at o.arguments (n + length (name ++ 32 ∷ []))
    ++ (begin n ∷ (b.S (inside n) ++ (end n ∷ []))) in
    record {
      B = B;
      again = λ n. roll-Group (record { name = name; arguments = map as_quoted o.arguments; items = b.again (inside n); at = n });
      spells = spells_text (group_first g)
          (spells_then (spells_arguments name o.arguments l h i)
          (spells_then (spells_then (spells_blank false)
          (spells_then (spells_mark (Brace 123) 123 false (λ n rest V s d. lex.mark (Brace 123) refl d)) (spells_line false)))
          (spells_then b.spells (spells_then (spells_mark (Brace 125) 125 true (λ n rest V s d. lex.mark (Brace 125) refl d))
          (spells_line false)))));
      reads = λ n more.
          (let c = n + length (name ++ 32 ∷ []) in
          let m = c + 1 + length (values_text true o.arguments) in
          ap (λ (t : List Lexeme). read (statement (suc levels) name n) (mark_at (Brace 40) 40 c false ∷ t))
          (tokens_first (values_at true o.arguments (c + 1)) (b.S (inside n)) more (mark_at (Brace 41) 41 m false) (begin n)
          (end n))
          ∙ back_group levels name n o.arguments c (c + 1) m (n + length head + 1) false false false (b.S (inside n))
          (b.again (inside n)) (inside n + length (items_text o.items)) true more i
          (b.reads (inside n) [] (end n ∷ more)
          ∙ ends (λ _. starts) (λ u a t. read (one_more (statement levels) u a) t) (parts_shrink (one_more (statement levels)))
          (b.again (inside n)) (end n ∷ more) refl));
      same = λ n.
          (let again : Group-F Item Group =
          record { name = name; arguments = map as_quoted o.arguments; items = b.again (inside n); at = n } in
          plain_is (roll-Group again) again (out-roll-Group again)
          ∙ ap (λ (v : List Value). roll-Group
          (record { name = name; arguments = v; items = map plain_item (b.again (inside n)); at = 0 }))
          (quoted_twice o.arguments)
          ∙ ap (λ (v : List Item). roll-Group (record { name = name; arguments = map as_quoted o.arguments; items = v; at = 0 }))
          (b.same (inside n))
          ∙ sym (plain_is g o refl));
    }

abbrev item_test : Item → ℕ → Bool
item_test = fold-Item (ℕ → Bool) (ℕ → Bool) writable_item writable_group

-- every statement passes
all_fit : (k : ℕ) (xs : List Item) → list_all (λ fits. fits k) (map item_test xs) ≡ list_all (item_is_writable k) xs
all_fit k [] = refl
all_fit k (x ∷ xs) = ap (λ (b : Bool). item_test x k && b) (all_fit k xs)

writable_is : (levels : ℕ) (g : Group) →
    is_writable levels g ≡
    (not (levels == 0) && (is_name (out-Group g).name
    && (list_all is_quotable (out-Group g).arguments
    && list_all (λ fits. fits (levels - 1)) (map item_test (out-Group g).items))))
writable_is levels g = ap (λ (f : ℕ → Bool). f levels) (fold_out-Group (ℕ → Bool) (ℕ → Bool) writable_item writable_group g)

group_back : (levels : ℕ) (g : Group) (l : Bool) → is_writable levels g ≡ true → GroupBack levels g l
group_back zero g l h = absurd (let e = sym (writable_is 0 g) ∙ h in cc)
group_back (suc levels) g l h =
    let o = out-Group g in
    let a = and_splits (not (suc levels == 0)) _ (sym (writable_is (suc levels) g) ∙ h) in
    let b = and_splits (is_name o.name) _ a.1 in
    let c = and_splits (list_all is_quotable o.arguments) _ b.1 in
    let below : suc levels - 1 ≡ levels = omega arith in
    let all : list_all (item_is_writable levels) o.items ≡ true =
    sym (all_fit levels o.items) ∙ ap (λ (k : ℕ). list_all (λ fits. fits k) (map item_test o.items)) (sym below) ∙ c.1 in
    group_from levels g l b.0 c.0 (items_back levels (item_back levels (λ inner l' f. group_back levels inner l' f)) o.items all)

pub reads_back : (levels : ℕ) (g : Group) → is_writable levels g ≡ true → ReadsBack levels g
reads_back levels g h =
    let b = group_back levels g false h in
    let name = (out-Group g).name in
    let text = group_text g in
    let a = b.spells.spells [] [] 0 [] stops.End refl lex.end in
    let long = append-nil text in
    record {
      tokens = a.0;
      again = b.again 0;
      lexes = subst (λ (t : List ℕ). Lexes 0 false t a.0 stops.End) long
          (subst (λ (t : List Token). Lexes 0 false (text ++ []) t stops.End) (append-nil a.0) a.1);
      are_group = (
        lexeme Word 0 (0 + length name) false name,
        b.B 0,
        ap (λ (t : List ℕ). lexemes_of t a.0) (sym long) ∙ a.2,
        refl,
        sound (statement levels name 0) (b.B 0) (item.Inner (b.again 0)) []
            (ap (read (statement levels name 0)) (sym (append-nil (b.B 0))) ∙ b.reads 0 []),
      );
      same = b.same 0;
    }

pub writable_parts : WritableParts
writable_parts = record {
  group = λ levels name arguments items at.
      (let o : Group-F Item Group = record { name = name; arguments = arguments; items = items; at = at } in
      let p = out-roll-Group o in
      writable_is levels (roll-Group o)
      ∙ ap (λ (z : Group-F Item Group). not (levels == 0)
      && (is_name z.name && (list_all is_quotable z.arguments
      && list_all (λ fits. fits (levels - 1)) (map item_test z.items)))) p
      ∙ ap (λ (b : Bool). not (levels == 0) && (is_name name && (list_all is_quotable arguments && b)))
      (all_fit (levels - 1) items));
  simple = λ levels name value at.
      ap (λ (f : ℕ → Bool). f levels) (of_shape writable_item writable_group (item.Simple name value at)
      (Item-F.Simple name value at) (item.outs-Simple name value at));
  complex = λ levels name arguments at.
      ap (λ (f : ℕ → Bool). f levels) (of_shape writable_item writable_group (item.Complex name arguments at)
      (Item-F.Complex name arguments at) (item.outs-Complex name arguments at));
  inner = λ levels g.
      ap (λ (f : ℕ → Bool). f levels) (of_shape writable_item writable_group (item.Inner g) (Item-F.Inner g) (item.outs-Inner g));
}
