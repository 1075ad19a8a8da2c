-- Levels among the entries of a row.
use Rattle.std.proofs.Common.{◌≡◌, ℕ, ◌+◌, ◌-◌, ◌<◌, ◌==◌, Bool, true, false, ◌&&◌, ◌||◌, List, [], ◌∷◌, ◌++◌, Option, Some, Ok}
use Rattle.std.proofs.Common.{refl, sym, ap, ◌∙◌, eqb-true}
use Rattle.std.specs.Option.{is_some}
use Rattle.std.proofs.Math.Bool.{and-false as and_false}
use Rattle.udp_tables.specs.declared.table.Level.{Level}
use Rattle.udp_tables.specs.declared.table.Entry.{Entry}
use Rattle.udp_tables.specs.declared.table.Entry.TheVariants as entry
use Rattle.grammar_rules.specs.Reading.{Outcome, and_then, choose, read, repeat}
use Rattle.grammar_reader.specs.declared.refusal.Refusal.{Refusal}
use Rattle.udp_tables.specs.VerilogPrimitives.{level_by, symbol, begins_change, has_change, begins_next_entry, next_entry}
use Rattle.grammar_reader.specs.Next.{next_bytes, rest}
use Rattle.grammar_reader.proofs.Repeats.{turn}
use Rattle.verilog_udp_reader.proofs.Entries.{one_entry}

-- a byte is this one, which begins no change, or it is not
or_else : (b k : ℕ) → begins_change (k ∷ []) ≡ false → ((b == k) ≡ false → begins_change (b ∷ []) ≡ false)
    → begins_change (b ∷ []) ≡ false
or_else b k f g = by (b == k) refl
  where
    by : (t : Bool) → (b == k) ≡ t → begins_change (b ∷ []) ≡ false
    by true e = ap (λ n. begins_change (n ∷ [])) (eqb-true b k e) ∙ f
    by false e = g e

none_left : (b : ℕ) → (b == 48) ≡ false → (b == 49) ≡ false → (b == 120) ≡ false → (b == 88) ≡ false → (b == 63) ≡ false
    → (b == 98) ≡ false → (b == 66) ≡ false
    → is_some (level_by b) ≡ false
none_left b zero one small large any binary upper = rw (zero, one, small, large, any, binary, upper) refl

-- the symbol of a level begins no change
no_change : (b : ℕ) → is_some (level_by b) ≡ true → begins_change (b ∷ []) ≡ false
no_change b h =
    or_else b 48 refl (λ zero. or_else b 49 refl
    (λ one. or_else b 120 refl (λ small. or_else b 88 refl (λ large. or_else b 63 refl (λ any.
    or_else b 98 refl (λ binary. or_else b 66 refl
    (λ upper. absurd (let none = none_left b zero one small large any binary upper in cc))))))))

no_change_in : (x : List ℕ) (l : Level) → symbol level_by x ≡ Some l → begins_change x ≡ false
no_change_in [] l e = absurd cc
no_change_in (b ∷ []) l e = no_change b (ap is_some e)
no_change_in (b ∷ c ∷ bs) l e = absurd cc

-- a level begins an entry of a row, whatever stands before it
pub level_begins : {B : Type 0} (sequential : Bool) (entries : List Entry) (s : List (List ℕ)) (go : List ℕ → List (List ℕ)
    → Outcome (List ℕ) Refusal B)
    (other : Outcome (List ℕ) Refusal B) (l : Level) → symbol level_by (next_bytes s) ≡ Some l
    → choose (begins_next_entry sequential entries) s go other ≡ go (next_bytes s) (rest s)
level_begins sequential entries s go other l e =
    one_entry sequential entries s go other (ap (λ o. is_some o || (sequential && begins_change (next_bytes s))) e)
    (ap (λ c. has_change entries && c) (no_change_in (next_bytes s) l e) ∙ and_false (has_change entries))

-- and is that entry
pub level_entry : (entries : List Entry) (x : List ℕ) (s : List (List ℕ)) (l : Level) → symbol level_by x ≡ Some l
    → read (next_entry entries x) s ≡ Ok (entries ++ entry.Level l ∷ [], s)
unfolding next_entry
level_entry entries x s l e = rw e refl

-- so many more turns of entries
abbrev turns : Bool → ℕ → List Entry → List (List ℕ) → Outcome (List ℕ) Refusal (List Entry)
turns sequential n entries s = repeat (begins_next_entry sequential) (λ found x r. read (next_entry found x) r) n entries s

level_turn : (sequential : Bool) (n i : ℕ) (entries : List Entry) (s : List (List ℕ)) (l : Level) → i < n
    → symbol level_by (next_bytes s) ≡ Some l
    → turns sequential (n - i) entries s ≡ turns sequential (n - (i + 1)) (entries ++ entry.Level l ∷ []) (rest s)
level_turn sequential n i entries s l h e =
    let more : List Entry → List (List ℕ) → Outcome (List ℕ) Refusal (List Entry) = λ v q. turns sequential (n - (i + 1)) v q in
    turn (begins_next_entry sequential) (λ found x r. read (next_entry found x) r) n i entries s h
    ∙ level_begins sequential entries s (λ x r. and_then (read (next_entry entries x) r) more) (Ok (entries, s)) l e
    ∙ ap (λ (o : Outcome (List ℕ) Refusal (List Entry)). and_then o more) (level_entry entries (next_bytes s) (rest s) l e)

-- a level more is read
pub level_preserved : (sequential : Bool) (n i : ℕ) (entries more : List Entry) (s left : List (List ℕ)) (x : List ℕ)
    (found : Option Level) (l : Level)
    (whole : Outcome (List ℕ) Refusal (List Entry)) → i < n → x ≡ next_bytes s → found ≡ symbol level_by x → found ≡ Some l
    → left ≡ rest s
    → more ≡ entries ++ entry.Level l ∷ [] → turns sequential (n - i) entries s ≡ whole
    → turns sequential (n - (i + 1)) more left ≡ whole
level_preserved sequential n i entries more s left x found l whole h ex ef el es em ew =
    let here : symbol level_by (next_bytes s) ≡ Some l = ap (symbol level_by) (sym ex) ∙ sym ef ∙ el in
    ap (λ (v : List Entry). turns sequential (n - (i + 1)) v left) em
    ∙ ap (λ (q : List (List ℕ)). turns sequential (n - (i + 1)) (entries ++ entry.Level l ∷ []) q) es
    ∙ sym (level_turn sequential n i entries s l h here) ∙ ew
