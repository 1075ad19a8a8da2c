-- What the code for a group's rows builds is what the definitions say.
use Rattle.std.proofs.Common.{◌≡◌, ℕ, zero, suc, ◌+◌, ◌<◌, ◌≤◌, Bool, false, true, not, List, [], ◌∷◌, ◌++◌, map, drop}
use Rattle.std.proofs.Common.{length, get_or, refl, sym, ◌∙◌, ap, arith, flat_map}
use Rattle.std.proofs.lemmas.List.{drop_more}
use Rattle.trit_cubes.specs.declared.trits.Trit.{Trit}
use Rattle.trit_cubes.specs.Filling.{trit_of}
use Rattle.trit_cubes.specs.Resolution.{res}
use Rattle.bool_functions.specs.declared.tree.Node.{Node}
use Rattle.cell_machine.specs.Machine.{insert}
use Rattle.step_tables.specs.Turned.{turned}
use Rattle.udp_tables.specs.Conditions.{added, added_all}

-- conditions of two lists, one after the other
pub added_all-append : (trees fs gs : List Node) → added_all trees (fs ++ gs) ≡ added_all (added_all trees fs) gs
added_all-append trees [] gs = refl
added_all-append trees (f ∷ fs) gs = added_all-append (added trees f) fs gs

-- those of one more item of a list
pub next-added :
    {X : Type 0} (used : X → List Node) (trees more : List Node) (items : List X) (i : ℕ) (item : X)
    → i < length items → item ≡ get_or items i item → more ≡ added_all trees (used item)
    → added_all more (flat_map used (drop (i + 1) items)) ≡ added_all trees (flat_map used (drop i items))
next-added used trees more items i item l is e =
    let rest : drop i items ≡ item ∷ drop (i + 1) items = drop_more items i item l ∙ ap (λ x. x ∷ drop (i + 1) items) (sym is) in
    ap (λ ts. added_all ts (flat_map used (drop (i + 1) items))) e
    ∙ sym (added_all-append trees (used item) (flat_map used (drop (i + 1) items)))
    ∙ ap (λ rows. added_all trees (flat_map used rows)) (sym rest)

pub added-twice :
    (none some all fs gs : List Node)
    → all ≡ added_all some gs → some ≡ added_all none fs → none ≡ [] → all ≡ added_all [] (fs ++ gs)
added-twice none some all fs gs e f g =
    e ∙ ap (λ ts. added_all ts gs) (f ∙ ap (λ ts. added_all ts fs) g) ∙ sym (added_all-append [] fs gs)

-- a known point has its value
pub res-known : (f : List Bool → Trit) (p : List Bool) → res f (map trit_of p) ≡ f p
res-known f [] = refl
res-known f (false ∷ p) = res-known (λ q. f (false ∷ q)) p
res-known f (true ∷ p) = res-known (λ q. f (true ∷ q)) p

-- the place of an inserted value turned
pub turned-insert : (p : ℕ) (b : Bool) (xs : List Bool) → p ≤ length xs → turned p (insert p b xs) ≡ insert p (not b) xs
turned-insert zero b xs l = refl
turned-insert (suc p) b [] l = absurd (omega arith)
turned-insert (suc p) b (x ∷ xs) l = ap (λ ys. x ∷ ys) (turned-insert p b xs (omega arith))
