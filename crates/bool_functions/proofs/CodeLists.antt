-- Trees as lists of codes.
use Rattle.std.proofs.Common.{◌≡◌, ℕ, Bool, true, false, not, ◌&&◌, ◌||◌, ◌==◌, ◌↔◌, List, [], ◌∷◌, ◌++◌, length, map}
use Rattle.std.proofs.Common.{slice_index, slice_index_or, refl, sym, ap, subst, ◌∙◌, arith, append_assoc, eqb-true, eq-eqb}
use Rattle.std.proofs.lemmas.List.{append-nil, length-map, map-append}
use Rattle.std.proofs.lemmas.Bool.{and_parts}
use Rattle.std.proofs.Math.Bool.{beq}
use Rattle.std.specs.Prelude.{IsTrue}
use Rattle.std.specs.List.{list_any, IsLastAndRest}
use Rattle.bool_functions.specs.declared.codes.Code.{Code}
use Rattle.bool_functions.specs.declared.codes.Code.TheVariants as code
use Rattle.bool_functions.specs.declared.tree.Node.{Node}
use Rattle.bool_functions.specs.declared.tree.Node.TheVariants as node
use Rattle.bool_functions.specs.Code.{codes_step, codes_of, read_code, read_codes, innermost, tree_of, renamed_code, code_names}
use Rattle.bool_functions.specs.Code.{is_name_code, same_code, same_codes, fits, Adds}
use Rattle.bool_functions.specs.Tree.{value_step, value_of, names_of, renamed_step, renamed_by, xor}
use Rattle.bool_functions.proofs.Trees.{every_tree, fold-Zero, fold-One, fold-Name, fold-Not, fold-Xor, fold-And, fold-Or}
use Rattle.bool_functions.proofs.Trees.{names_Zero, names_One, names_Name, names_Not, names_Xor, names_And, names_Or}

-- the codes of a tree by its top
pub codes_Zero : codes_of node.Zero ≡ code.Zero ∷ []
codes_Zero = fold-Zero (List Code) codes_step

pub codes_One : codes_of node.One ≡ code.One ∷ []
codes_One = fold-One (List Code) codes_step

pub codes_Name : (i : ℕ) → codes_of (node.Name i) ≡ code.Name i ∷ []
codes_Name i = fold-Name (List Code) codes_step i

pub codes_Not : (f : Node) → codes_of (node.Not f) ≡ codes_of f ++ code.Not ∷ []
codes_Not f = fold-Not (List Code) codes_step f

pub codes_Xor : (f g : Node) → codes_of (node.Xor f g) ≡ (codes_of f ++ codes_of g) ++ code.Xor (length (codes_of g)) ∷ []
codes_Xor f g = fold-Xor (List Code) codes_step f g

pub codes_And : (f g : Node) → codes_of (node.And f g) ≡ (codes_of f ++ codes_of g) ++ code.And (length (codes_of g)) ∷ []
codes_And f g = fold-And (List Code) codes_step f g

pub codes_Or : (f g : Node) → codes_of (node.Or f g) ≡ (codes_of f ++ codes_of g) ++ code.Or (length (codes_of g)) ∷ []
codes_Or f g = fold-Or (List Code) codes_step f g

-- Reading the codes of a tree puts it before the trees that were read earlier.
abbrev Reads : Node → Type 0
Reads f = (fs : List Node) (rest : List Code) → read_codes fs (codes_of f ++ rest) ≡ read_codes (f ∷ fs) rest

reads_leaf : (f : Node) (c : Code) → codes_of f ≡ c ∷ [] → ((fs : List Node) → read_code fs c ≡ f ∷ fs) → Reads f
reads_leaf f c e r fs rest = ap (λ cs. read_codes fs (cs ++ rest)) e ∙ ap (λ gs. read_codes gs rest) (r fs)

reads_not : (f : Node) → Reads f → Reads (node.Not f)
reads_not f p fs rest =
    ap (λ cs. read_codes fs (cs ++ rest)) (codes_Not f) ∙ ap (read_codes fs) (append_assoc (codes_of f) (code.Not ∷ []) rest)
    ∙ p fs (code.Not ∷ rest)

reads_two : (op : Node → Node → Node) (f g : Node) (c : Code) → codes_of (op f g) ≡ (codes_of f ++ codes_of g) ++ c ∷ []
    → ((fs : List Node) → read_code (g ∷ (f ∷ fs)) c ≡ op f g ∷ fs) → Reads f → Reads g → Reads (op f g)
reads_two op f g c e r p q fs rest =
    ap (λ cs. read_codes fs (cs ++ rest)) e
    ∙ ap (read_codes fs) (append_assoc (codes_of f ++ codes_of g) (c ∷ []) rest
    ∙ append_assoc (codes_of f) (codes_of g) (c ∷ rest))
    ∙ p fs (codes_of g ++ c ∷ rest) ∙ q (f ∷ fs) (c ∷ rest) ∙ ap (λ gs. read_codes gs rest) (r fs)

reads : (f : Node) → Reads f
reads = every_tree Reads (record {
  zero_leaf = reads_leaf node.Zero code.Zero codes_Zero (λ fs. refl);
  one_leaf = reads_leaf node.One code.One codes_One (λ fs. refl);
  name_leaf = λ i. reads_leaf (node.Name i) (code.Name i) (codes_Name i) (λ fs. refl);
  not_of = reads_not;
  xor_of = λ f g p q. reads_two node.Xor f g _ (codes_Xor f g) (λ fs. refl) p q;
  and_of = λ f g p q. reads_two node.And f g _ (codes_And f g) (λ fs. refl) p q;
  or_of = λ f g p q. reads_two node.Or f g _ (codes_Or f g) (λ fs. refl) p q;
})

-- the codes of a tree make it
pub tree_of_codes : (f : Node) → tree_of (codes_of f) ≡ f
tree_of_codes f = ap (λ cs. innermost (read_codes [] cs)) (sym (append-nil (codes_of f))) ∙ ap innermost (reads f [] [])

-- the codes of a renamed tree
module _ (to : List ℕ) where
  abbrev renamed : List Code → List Code
  renamed = map (renamed_code to)

  abbrev Renames : Node → Type 0
  Renames f = renamed (codes_of f) ≡ codes_of (renamed_by to f)

  renamed_two : (op : ℕ → Code) (f g : Node) → ((n : ℕ) → renamed_code to (op n) ≡ op n) → Renames f → Renames g
      → renamed ((codes_of f ++ codes_of g) ++ op (length (codes_of g)) ∷ [])
      ≡ (codes_of (renamed_by to f) ++ codes_of (renamed_by to g)) ++ op (length (codes_of (renamed_by to g))) ∷ []
  renamed_two op f g same p q =
      let size : length (codes_of g) ≡ length (codes_of (renamed_by to g)) = sym (length-map (codes_of g) (renamed_code to))
      ∙ ap length q in
      map-append (renamed_code to) (codes_of f ++ codes_of g) (op (length (codes_of g)) ∷ [])
      ∙ ap (λ l. l ++ renamed_code to (op (length (codes_of g))) ∷ [])
      (map-append (renamed_code to) (codes_of f) (codes_of g) ∙ ap (λ l. l ++ renamed (codes_of g)) p
      ∙ ap (λ l. codes_of (renamed_by to f) ++ l) q)
      ∙ ap (λ c. (codes_of (renamed_by to f) ++ codes_of (renamed_by to g)) ++ c ∷ []) (same (length (codes_of g)) ∙ ap op size)

  pub renamed_codes : (f : Node) → Renames f
  renamed_codes = every_tree Renames (record {
    zero_leaf = ap renamed codes_Zero ∙ sym codes_Zero ∙ sym (ap codes_of (fold-Zero Node (renamed_step to)));
    one_leaf = ap renamed codes_One ∙ sym codes_One ∙ sym (ap codes_of (fold-One Node (renamed_step to)));
    name_leaf = λ i. ap renamed (codes_Name i) ∙ sym (codes_Name (slice_index to i))
        ∙ sym (ap codes_of (fold-Name Node (renamed_step to) i));
    not_of = λ f p.
        ap renamed (codes_Not f) ∙ map-append (renamed_code to) (codes_of f) (code.Not ∷ []) ∙ ap (λ l. l ++ code.Not ∷ []) p
        ∙ sym (codes_Not (renamed_by to f)) ∙ sym (ap codes_of (fold-Not Node (renamed_step to) f));
    xor_of = λ f g p q.
        ap renamed (codes_Xor f g) ∙ renamed_two code.Xor f g (λ n. refl) p q
        ∙ sym (codes_Xor (renamed_by to f) (renamed_by to g))
        ∙ sym (ap codes_of (fold-Xor Node (renamed_step to) f g));
    and_of = λ f g p q.
        ap renamed (codes_And f g) ∙ renamed_two code.And f g (λ n. refl) p q
        ∙ sym (codes_And (renamed_by to f) (renamed_by to g))
        ∙ sym (ap codes_of (fold-And Node (renamed_step to) f g));
    or_of = λ f g p q.
        ap renamed (codes_Or f g) ∙ renamed_two code.Or f g (λ n. refl) p q ∙ sym (codes_Or (renamed_by to f) (renamed_by to g))
        ∙ sym (ap codes_of (fold-Or Node (renamed_step to) f g));
  })

  -- the codes of a tree make the renamed one, where they are renamed
  pub renamed_tree : (cs : List Code) (f : Node) → cs ≡ codes_of (tree_of cs) → tree_of cs ≡ f
      → tree_of (renamed cs) ≡ renamed_by to f
  renamed_tree cs f own is =
      ap (λ l. tree_of (renamed l)) own ∙ ap tree_of (renamed_codes (tree_of cs)) ∙ tree_of_codes (renamed_by to (tree_of cs))
      ∙ ap (renamed_by to) is

-- codes that pass the test are equal
from_same : (c d : Code) → same_code c d ≡ true → c ≡ d
from_same code.Zero code.Zero h = refl
from_same code.One code.One h = refl
from_same code.Not code.Not h = refl
from_same (code.Name i) (code.Name j) h = ap (λ n. code.Name n) (eqb-true i j h)
from_same (code.Xor i) (code.Xor j) h = ap (λ n. code.Xor n) (eqb-true i j h)
from_same (code.And i) (code.And j) h = ap (λ n. code.And n) (eqb-true i j h)
from_same (code.Or i) (code.Or j) h = ap (λ n. code.Or n) (eqb-true i j h)
from_same _ _ h = absurd cc

same_itself : (c : Code) → same_code c c ≡ true
same_itself code.Zero = refl
same_itself code.One = refl
same_itself (code.Name i) = eq-eqb i i refl
same_itself code.Not = refl
same_itself (code.Xor i) = eq-eqb i i refl
same_itself (code.And i) = eq-eqb i i refl
same_itself (code.Or i) = eq-eqb i i refl

equal_codes : (cs ds : List Code) → same_codes cs ds ≡ true → cs ≡ ds
equal_codes [] [] h = refl
equal_codes [] (d ∷ ds) h = absurd cc
equal_codes (c ∷ cs) [] h = absurd cc
equal_codes (c ∷ cs) (d ∷ ds) h =
    let both = and_parts (same_code c d) (same_codes cs ds) h in
    ap (λ x. x ∷ cs) (from_same c d both.0) ∙ ap (λ l. d ∷ l) (equal_codes cs ds both.1)

same_themselves : (cs : List Code) → same_codes cs cs ≡ true
same_themselves [] = refl
same_themselves (c ∷ cs) = ap (λ b. b && same_codes cs cs) (same_itself c) ∙ same_themselves cs

-- trees are equal exactly where their codes pass the test
pub same_lines : (cs ds : List Code) (f g : Node) (b : Bool) → tree_of cs ≡ f → tree_of ds ≡ g → cs ≡ codes_of (tree_of cs)
    → ds ≡ codes_of (tree_of ds) → b ≡ same_codes cs ds → IsTrue b ↔ (f ≡ g)
same_lines cs ds f g b p q m n e = (
  λ h. sym p ∙ ap tree_of (equal_codes cs ds (sym e ∙ h)) ∙ q,
  λ s. let are : cs ≡ ds = m ∙ ap codes_of (p ∙ s ∙ sym q) ∙ sym n in e ∙ ap (same_codes cs) (sym are) ∙ same_themselves cs,
)

-- the names among codes
names-append : (cs ds : List Code) → code_names (cs ++ ds) ≡ code_names cs ++ code_names ds
names-append [] ds = refl
names-append (code.Zero ∷ cs) ds = names-append cs ds
names-append (code.One ∷ cs) ds = names-append cs ds
names-append (code.Name i ∷ cs) ds = ap (λ l. i ∷ l) (names-append cs ds)
names-append (code.Not ∷ cs) ds = names-append cs ds
names-append (code.Xor n ∷ cs) ds = names-append cs ds
names-append (code.And n ∷ cs) ds = names-append cs ds
names-append (code.Or n ∷ cs) ds = names-append cs ds

abbrev Names : Node → Type 0
Names f = code_names (codes_of f) ≡ names_of f

names_two : (f g : Node) (c : Code) → code_names (c ∷ []) ≡ [] → Names f → Names g
    → code_names ((codes_of f ++ codes_of g) ++ c ∷ []) ≡ names_of f ++ names_of g
names_two f g c n p q =
    names-append (codes_of f ++ codes_of g) (c ∷ []) ∙ ap (λ l. code_names (codes_of f ++ codes_of g) ++ l) n
    ∙ append-nil (code_names (codes_of f ++ codes_of g))
    ∙ names-append (codes_of f) (codes_of g) ∙ ap (λ l. l ++ code_names (codes_of g)) p ∙ ap (λ l. names_of f ++ l) q

-- those of a tree's codes are the tree's
pub names_of_codes : (f : Node) → Names f
names_of_codes = every_tree Names (record {
  zero_leaf = ap code_names codes_Zero ∙ sym names_Zero;
  one_leaf = ap code_names codes_One ∙ sym names_One;
  name_leaf = λ i. ap code_names (codes_Name i) ∙ sym (names_Name i);
  not_of = λ f p. ap code_names (codes_Not f) ∙ names-append (codes_of f) (code.Not ∷ []) ∙ append-nil (code_names (codes_of f))
      ∙ p ∙ sym (names_Not f);
  xor_of = λ f g p q. ap code_names (codes_Xor f g) ∙ names_two f g _ refl p q ∙ sym (names_Xor f g);
  and_of = λ f g p q. ap code_names (codes_And f g) ∙ names_two f g _ refl p q ∙ sym (names_And f g);
  or_of = λ f g p q. ap code_names (codes_Or f g) ∙ names_two f g _ refl p q ∙ sym (names_Or f g);
})

pub line_names : (cs : List Code) (f : Node) → tree_of cs ≡ f → cs ≡ codes_of (tree_of cs) → code_names cs ≡ names_of f
line_names cs f p m = ap code_names m ∙ names_of_codes (tree_of cs) ∙ ap names_of p

-- the codes that come to an empty list
pub codes_made : (f : Node) (b : Bool) (old new shrunk : List Code) → Adds b old new f → b ≡ true → old ≡ [] → shrunk ≡ new
    → (shrunk ≡ codes_of f) × (fits f ≡ true)
codes_made f true old new shrunk p e o s = (s ∙ p.0 ∙ ap (λ l. l ++ codes_of f) o, p.1)
codes_made f false old new shrunk p e o s = absurd cc

-- a name is among codes exactly where a code is that name's
pub any_name : (i : ℕ) (cs : List Code) → list_any (is_name_code i) cs ≡ list_any (λ j. j == i) (code_names cs)
any_name i [] = refl
any_name i (code.Zero ∷ cs) = any_name i cs
any_name i (code.One ∷ cs) = any_name i cs
any_name i (code.Name j ∷ cs) = ap (λ b. (j == i) || b) (any_name i cs)
any_name i (code.Not ∷ cs) = any_name i cs
any_name i (code.Xor n ∷ cs) = any_name i cs
any_name i (code.And n ∷ cs) = any_name i cs
any_name i (code.Or n ∷ cs) = any_name i cs

-- the parts of a list that ends with its own last code
abbrev head_of : Code → List Code → Code
head_of d [] = d
head_of d (c ∷ cs) = c

abbrev tail_of : List Code → List Code
tail_of [] = []
tail_of (c ∷ cs) = cs

no_last : (cs : List Code) (c : Code) → [] ≡ cs ++ c ∷ [] → ⊥
no_last [] c e = absurd cc
no_last (b ∷ cs) c e = absurd cc

same_last : (cs ds : List Code) (c d : Code) → cs ++ c ∷ [] ≡ ds ++ d ∷ [] → (cs ≡ ds) × (c ≡ d)
same_last [] [] c d e = (refl, ap (head_of c) e)
same_last [] (b ∷ ds) c d e = absurd (no_last ds d (ap tail_of e))
same_last (a ∷ cs) [] c d e = absurd (no_last cs c (sym (ap tail_of e)))
same_last (a ∷ cs) (b ∷ ds) c d e =
    let rest = same_last cs ds c d (ap tail_of e) in
    (ap (λ x. x ∷ cs) (ap (head_of a) e) ∙ ap (λ l. b ∷ l) rest.0, rest.1)

-- what a tree is by the last of its codes and those before it
abbrev pub Parted : Code → List Code → Node → Type 0
Parted code.Zero cs f = f ≡ node.Zero
Parted code.One cs f = f ≡ node.One
Parted (code.Name i) cs f = f ≡ node.Name i
Parted code.Not cs f = (g : Node) × (f ≡ node.Not g) × (cs ≡ codes_of g)
Parted (code.Xor n) cs f = (g : Node) × (h : Node) × (f ≡ node.Xor g h) × (cs ≡ codes_of g ++ codes_of h)
    × (n ≡ length (codes_of h))
Parted (code.And n) cs f = (g : Node) × (h : Node) × (f ≡ node.And g h) × (cs ≡ codes_of g ++ codes_of h)
    × (n ≡ length (codes_of h))
Parted (code.Or n) cs f = (g : Node) × (h : Node) × (f ≡ node.Or g h) × (cs ≡ codes_of g ++ codes_of h)
    × (n ≡ length (codes_of h))

abbrev IsParted : Node → Type 0
IsParted f = (cs : List Code) (c : Code) → codes_of f ≡ cs ++ c ∷ [] → Parted c cs f

parted_by : (f : Node) (ds : List Code) (d : Code) → codes_of f ≡ ds ++ d ∷ [] → Parted d ds f → IsParted f
parted_by f ds d e p cs c h =
    let same = same_last ds cs d c (sym e ∙ h) in
    subst (λ l. Parted c l f) same.0 (subst (λ x. Parted x ds f) same.1 p)

parts : (f : Node) → IsParted f
parts = every_tree IsParted (record {
  zero_leaf = parted_by node.Zero [] code.Zero codes_Zero refl;
  one_leaf = parted_by node.One [] code.One codes_One refl;
  name_leaf = λ i. parted_by (node.Name i) [] (code.Name i) (codes_Name i) refl;
  not_of = λ f p. parted_by (node.Not f) (codes_of f) code.Not (codes_Not f) (f, refl, refl);
  xor_of = λ f g p q. parted_by (node.Xor f g) (codes_of f ++ codes_of g) (code.Xor (length (codes_of g))) (codes_Xor f g)
      (f, g, refl, refl, refl);
  and_of = λ f g p q. parted_by (node.And f g) (codes_of f ++ codes_of g) (code.And (length (codes_of g))) (codes_And f g)
      (f, g, refl, refl, refl);
  or_of = λ f g p q. parted_by (node.Or f g) (codes_of f ++ codes_of g) (code.Or (length (codes_of g))) (codes_Or f g)
      (f, g, refl, refl, refl);
})

pub parted : (f : Node) (cs before : List Code) (c : Code) → cs ≡ codes_of f → IsLastAndRest cs c before → Parted c before f
parted f cs before c e last = parts f before c (sym e ∙ last.0)

pub parted_as : (f : Node) (cs before : List Code) (c d : Code) → cs ≡ codes_of f → IsLastAndRest cs c before → c ≡ d
    → Parted d before f
parted_as f cs before c d e last is = subst (λ x. Parted x before f) is (parted f cs before c e last)

pub no_codes : (f : Node) (cs : List Code) → cs ≡ codes_of f → length cs ≡ 0 → ⊥
no_codes f [] e none = every_tree (λ g. [] ≡ codes_of g → ⊥) (record {
  zero_leaf = λ h. no_last [] code.Zero (h ∙ codes_Zero);
  one_leaf = λ h. no_last [] code.One (h ∙ codes_One);
  name_leaf = λ i h. no_last [] (code.Name i) (h ∙ codes_Name i);
  not_of = λ g p h. no_last (codes_of g) code.Not (h ∙ codes_Not g);
  xor_of = λ g k p q h. no_last (codes_of g ++ codes_of k) _ (h ∙ codes_Xor g k);
  and_of = λ g k p q h. no_last (codes_of g ++ codes_of k) _ (h ∙ codes_And g k);
  or_of = λ g k p q h. no_last (codes_of g ++ codes_of k) _ (h ∙ codes_Or g k);
}) f e
no_codes f (c ∷ cs) e none = omega (arith, none)

-- the values of a tree by its codes
module _ (bits : List Bool) where
  abbrev given : ℕ → Bool
  given i = slice_index_or bits i false

  pub value_Zero : (f : Node) → f ≡ node.Zero → false ≡ value_of bits f
  value_Zero f e = sym (ap (value_of bits) e ∙ fold-Zero Bool (value_step given))

  pub value_One : (f : Node) → f ≡ node.One → true ≡ value_of bits f
  value_One f e = sym (ap (value_of bits) e ∙ fold-One Bool (value_step given))

  pub value_Name : (f : Node) (i : ℕ) → f ≡ node.Name i → slice_index_or bits i false ≡ value_of bits f
  value_Name f i e = sym (ap (value_of bits) e ∙ fold-Name Bool (value_step given) i)

  pub value_Not : (f g : Node) (a : Bool) → f ≡ node.Not g → a ≡ value_of bits g → not a ≡ value_of bits f
  value_Not f g a e p = ap not p ∙ sym (ap (value_of bits) e ∙ fold-Not Bool (value_step given) g)

  unequal : (a b : Bool) → not (beq a b) ≡ xor a b
  unequal true true = refl
  unequal true false = refl
  unequal false true = refl
  unequal false false = refl

  pub value_Xor : (f g h : Node) (a b : Bool) → f ≡ node.Xor g h → a ≡ value_of bits g → b ≡ value_of bits h
      → not (beq a b) ≡ value_of bits f
  value_Xor f g h a b e p q =
      unequal a b ∙ ap (λ x. xor x b) p ∙ ap (xor (value_of bits g)) q
      ∙ sym (ap (value_of bits) e ∙ fold-Xor Bool (value_step given) g h)

  value_And : (f g h : Node) (a b : Bool) → f ≡ node.And g h → a ≡ value_of bits g → b ≡ value_of bits h
      → (a && b) ≡ value_of bits f
  value_And f g h a b e p q = ap (λ x. x && b) p ∙ ap (λ x. value_of bits g && x) q
      ∙ sym (ap (value_of bits) e ∙ fold-And Bool (value_step given) g h)

  value_Or : (f g h : Node) (a b : Bool) → f ≡ node.Or g h → a ≡ value_of bits g → b ≡ value_of bits h
      → (a || b) ≡ value_of bits f
  value_Or f g h a b e p q = ap (λ x. x || b) p ∙ ap (λ x. value_of bits g || x) q
      ∙ sym (ap (value_of bits) e ∙ fold-Or Bool (value_step given) g h)

  pub value_both : (f g h : Node) (a b : Bool) → f ≡ node.And g h → a ≡ value_of bits g → b ≡ value_of bits h → a ≡ true
      → b ≡ value_of bits f
  value_both f g h a b e p q t = ap (λ x. x && b) (sym t) ∙ value_And f g h a b e p q

  pub value_neither : (f g h : Node) (a : Bool) → f ≡ node.And g h → a ≡ value_of bits g → a ≡ false → a ≡ value_of bits f
  value_neither f g h a e p t = t ∙ ap (λ x. x && value_of bits h) (sym t) ∙ value_And f g h a (value_of bits h) e p refl

  pub value_first : (f g h : Node) (a : Bool) → f ≡ node.Or g h → a ≡ value_of bits g → a ≡ true → a ≡ value_of bits f
  value_first f g h a e p t = t ∙ ap (λ x. x || value_of bits h) (sym t) ∙ value_Or f g h a (value_of bits h) e p refl

  pub value_second : (f g h : Node) (a b : Bool) → f ≡ node.Or g h → a ≡ value_of bits g → b ≡ value_of bits h → a ≡ false
      → b ≡ value_of bits f
  value_second f g h a b e p q t = ap (λ x. x || b) (sym t) ∙ value_Or f g h a b e p q
