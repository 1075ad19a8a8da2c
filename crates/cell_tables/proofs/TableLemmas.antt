-- Tables of rows: what the first row that matches gives, and the rows of cubes.
use Rattle.std.proofs.Common.{◌≡◌, ◌≢◌, ℕ, zero, suc, Bool, true, false, cond, ◌||◌, IsTrue, List, [], ◌∷◌, ◌++◌, map, length}
use Rattle.std.proofs.Common.{replicate, refl, sym, ◌∙◌, ap, arith, append-nil, slice_index_or}
use Rattle.std.specs.List.{All, list_all}
use Rattle.std.proofs.lemmas.List.{length_push, length-map, length-replicate}
use Rattle.std.proofs.lemmas.List.Elements.{All-append, All-map, All-cons, Contains-get_or}
use Rattle.trit_cubes.specs.declared.trits.Trit.{Trit}
use Rattle.trit_cubes.specs.declared.trits.Trit.TheVariants.{Zero, One, Unknown}
use Rattle.trit_cubes.specs.Filling.{is_unknown, same, covers}
use Rattle.trit_cubes.specs.Resolution.{res}
use Rattle.trit_cubes.specs.Sets.{gives}
use Rattle.trit_cubes.specs.Prime.{prime_list, any_covers}
use Rattle.trit_cubes.proofs.SplitLemmas.{prime_list-gives, prime_list-length}
use Rattle.trit_cubes.proofs.ListLemmas.{contains-among}
use Rattle.udp_tables.specs.declared.table.UdpRow.{UdpRow}
use Rattle.udp_tables.specs.Tables.{columns_match, value_rows, or_row}
use Rattle.udp_tables.specs.Primitive.{entry_matches, is_level, next_of, inputs_match, level_output, IsCombinational}
use Rattle.udp_tables.specs.Generated.{level_entry, next_to, level_row, function_rows, primitive_of}
use Rattle.udp_tables.specs.PortNames.{input_name, input_names}
use Rattle.udp_tables.proofs.FirstLemmas.{cond-same}

-- the entry of a cube's place matches what the place covers
entry-place : (w t : Trit) → entry_matches (level_entry w) t t ≡ (is_unknown w || same w t)
entry-place Zero t = refl
entry-place One t = refl
entry-place Unknown t = refl

columns-covers : (c ts : List Trit) → columns_match entry_matches (map level_entry c) ts ts ≡ covers c ts
columns-covers [] [] = refl
columns-covers [] (t ∷ ts) = refl
columns-covers (w ∷ c) [] = refl
columns-covers (w ∷ c) (t ∷ ts) = rw (entry-place w t, columns-covers c ts) refl

cond-or : {V : Type 0} (p q : Bool) (v w : V) → cond p v (cond q v w) ≡ cond (p || q) v w
cond-or true q v w = refl
cond-or false q v w = refl

-- rows of one value, one for each cube
pub first-cubes : (ts : List Trit) (v : Trit) (cs : List (List Trit)) (rows : List UdpRow)
    → level_output (map (level_row v) cs ++ rows) ts ≡ cond (any_covers cs ts) (next_of Unknown (next_to v))
    (level_output rows ts)
first-cubes ts v [] rows = refl
first-cubes ts v (c ∷ cs) rows =
    rw (columns-covers c ts, first-cubes ts v cs rows)
    (cond-or (covers c ts) (any_covers cs ts) (next_of Unknown (next_to v)) (level_output rows ts))

-- a row that gives x in place of no row
pub first-or_row : (ts c : List Trit) (rows : List UdpRow)
    → level_output (or_row (level_row Unknown c) rows) ts ≡ level_output rows ts
first-or_row ts c [] = cond-same (inputs_match ts (level_row Unknown c)) Unknown
first-or_row ts c (row ∷ rows) = refl

decided : (r : Trit) → cond (same One r) One (cond (same Zero r) Zero Unknown) ≡ r
decided Zero = refl
decided One = refl
decided Unknown = refl

zero≢unknown : Zero ≢ Unknown
zero≢unknown e = cc

one≢unknown : One ≢ Unknown
one≢unknown e = cc

-- the generated rows give the resolution
pub function_rows-res : (n : ℕ) (f : List Bool → Trit) (ts : List Trit) → length ts ≡ n
    → level_output (function_rows n f) ts ≡ res f ts
function_rows-res n f ts long =
    let ones = prime_list n (gives One f) in
    let zeros = prime_list n (gives Zero f) in
    first-or_row ts (replicate n Unknown) (value_rows level_row ones zeros)
    ∙ first-cubes ts One ones (map (level_row Zero) zeros)
    ∙ ap (λ rows. cond (any_covers ones ts) One (level_output rows ts)) (sym (append-nil (map (level_row Zero) zeros)))
    ∙ ap (cond (any_covers ones ts) One) (first-cubes ts Zero zeros [])
    ∙ rw (prime_list-gives n f One ts one≢unknown long, prime_list-gives n f Zero ts zero≢unknown long) (decided (res f ts))

-- the rows have an entry for each place, and levels alone
pub length-input_names : (n : ℕ) → length (input_names n) ≡ n
length-input_names zero = refl
length-input_names (suc n) = length_push (input_names n) (input_name (suc n)) ∙ omega (arith, length-input_names n)

pub cubes-long : (n : ℕ) (set : List Bool → Bool) → All (λ c. length c ≡ n) (prime_list n set)
cubes-long n set k d within = prime_list-length n set _ (contains-among _ _ (Contains-get_or (prime_list n set) k d within))

pub entries-level : (c : List Trit) → list_all is_level (map level_entry c) ≡ true
entries-level [] = refl
entries-level (Zero ∷ c) = entries-level c
entries-level (One ∷ c) = entries-level c
entries-level (Unknown ∷ c) = entries-level c

or_row-all : (P : UdpRow → Type 0) (alone : UdpRow) (rows : List UdpRow) → P alone → All P rows → All P (or_row alone rows)
or_row-all P alone [] h k = All-cons P alone [] h k
or_row-all P alone (row ∷ rows) h k = k

value_rows-all : (P : UdpRow → Type 0) (ones zeros : List (List Trit))
    → All (λ c. P (level_row One c)) ones → All (λ c. P (level_row Zero c)) zeros → All P (value_rows level_row ones zeros)
value_rows-all P ones zeros h k =
    All-append P (map (level_row One) ones) (map (level_row Zero) zeros) (All-map P (level_row One) ones h)
    (All-map P (level_row Zero) zeros k)

long_row : (v : Trit) (c : List Trit) (n : ℕ) → length c ≡ n → length (map level_entry c) ≡ length (input_names n)
long_row v c n e = length-map c level_entry ∙ e ∙ sym (length-input_names n)

pub primitive-combinational : (name : List ℕ) (n : ℕ) (f : List Bool → Trit) → IsCombinational (primitive_of name n f)
primitive-combinational name n f =
    let ones = prime_list n (gives One f) in
    let zeros = prime_list n (gives Zero f) in
    let alone = level_row Unknown (replicate n Unknown) in
    record {
      entries =
          let P : UdpRow → Type 0 = λ row. length row.inputs ≡ length (input_names n) in
          or_row-all P alone (value_rows level_row ones zeros)
          (long_row Unknown (replicate n Unknown) n (length-replicate n Unknown))
          (value_rows-all P ones zeros
          (λ k d l. long_row One _ n (cubes-long n (gives One f) k d l))
          (λ k d l. long_row Zero _ n (cubes-long n (gives Zero f) k d l)));
      levels =
          let P : UdpRow → Type 0 = λ row. IsTrue (list_all is_level row.inputs) in
          or_row-all P alone (value_rows level_row ones zeros) (entries-level (replicate n Unknown))
          (value_rows-all P ones zeros (λ k d l. entries-level (slice_index_or ones k d))
          (λ k d l. entries-level (slice_index_or zeros k d)));
    }
