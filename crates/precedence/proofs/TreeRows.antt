-- A DtExpr's row leads to the DtExpr: from a row number to a node of the tree, the tokens before it, and the rows from
-- it on.
use Prim.Native.Nat.{ℕ, zero, suc, ◌+◌, ◌*◌, ◌-◌, ◌<◌}
use native.Mathlib.Nat.{zero-add}
use native.Mathlib.Omega.{arith}
use mathlib.Core.Path.{◌≡◌, refl, sym, ◌∙◌, ap, subst}
use mathlib.Core.Bool.{Bool, true, false}
use mathlib.Core.List.{List, [], ◌∷◌, ◌++◌, append_assoc, append-nil}
use borrow.Author.Tests.{ltb-true, ltb-false}
use lib.Dec.{ltb}
use lib.ListN.{length, take, drop, length-append}
use lib.Seq.{drop-drop, drop-append-add}
use Rattle.definitions.specs.Layout.{TREE_ROW}
use Rattle.definitions.specs.NodeKind as N
use Rattle.definitions.specs.Token.{Token, byte_count}
use Rattle.definitions.specs.Place.{Tree, nil, leaf, subtree, width, count, row_count}
use Rattle.definitions.specs.Parent.{tree_row, rows_under}
use Rattle.laws.proofs.Tree.{leaves}
use Rattle.laws.proofs.Decode.{rows_length}
use Rattle.precedence.specs.Precedence.{tree_row_at, tokens_before}
use Rattle.precedence.proofs.Settle.{Each}

next_row : (q : ℕ) → TREE_ROW * suc q ≡ suc (suc (suc (suc (suc (TREE_ROW * q)))))
next_row q = omega arith

-- past one row
drop_row : (c k w n u q : ℕ) (l : List ℕ) → drop (TREE_ROW * suc q) (tree_row c k w n u l) ≡ drop (TREE_ROW * q) l
drop_row c k w n u q l = ap (λ (m : ℕ). drop m (tree_row c k w n u l)) (next_row q)

-- past the rows of a whole tree
drop_rows : (f : Tree) (u i : ℕ) (l : List ℕ) (q : ℕ) → drop (TREE_ROW * (row_count f + q)) (rows_under u i f ++ l) ≡ drop (TREE_ROW * q) l
drop_rows f u i l q =
    ap (λ (n : ℕ). drop n (rows_under u i f ++ l)) (let e : TREE_ROW * (row_count f + q) ≡ length (rows_under u i f) + TREE_ROW * q = omega (arith, rows_length f u i) in e)
    ∙ drop-append-add (rows_under u i f) l (TREE_ROW * q)

tokens_after : (f : Tree) (u i : ℕ) (l : List ℕ) (q : ℕ) → tokens_before (row_count f + q) (rows_under u i f ++ l) ≡ length (leaves f) + tokens_before q l
unfolding rows_under row_count leaves tokens_before
tokens_after nil u i l q = ap (λ (n : ℕ). tokens_before n l) (zero-add q) ∙ sym (zero-add (tokens_before q l))
tokens_after (leaf k ts f) u i l q =
    let h = tokens_after f u (suc i) l q in
    let e : suc (row_count f) + q ≡ suc (row_count f + q) = omega arith in
    rw e (omega (arith, length-append ts (leaves f)))
tokens_after (subtree k c f) u i l q =
    let F : List ℕ = rows_under u (suc i + row_count c) f in
    let h = tokens_after f u (suc i + row_count c) l q in
    let g = tokens_after c i (suc i) (F ++ l) (row_count f + q) in
    let e : suc (row_count c + row_count f) + q ≡ suc (row_count c + (row_count f + q)) = omega arith in
    rw (e, append_assoc (rows_under i (suc i) c) F l) (omega (arith, length-append (leaves c) (leaves f)))

-- ---------------------------------------------------------------- finding

-- row p of l, whose first row has number i, is a DtExpr with the children c
pub record Found (Q : List Token → Tree → Type 0) (ts : List Token) (i p : ℕ) (l : List ℕ) : Type 0 where
  pub children : Tree
  pub fact : Q (drop (tokens_before p l) ts) children
  pub parent : ℕ
  pub more : List ℕ
  pub rows_are : drop (TREE_ROW * p) l ≡ rows_under parent (i + p) (subtree N.DtExpr children nil) ++ more

-- row p of l is a DtExpr's
abbrev pub IsCell : ℕ → List ℕ → Type 0
IsCell p l = (w : ℕ) × (n : ℕ) × (u : ℕ) × (tree_row_at p l ≡ 0 ∷ N.DtExpr ∷ w ∷ n ∷ u ∷ [])

module _ (Q : List Token → Tree → Type 0) where
  abbrev Finds : Tree → Type 0
  Finds f =
      (u i : ℕ) (l : List ℕ) (ts : List Token) (p : ℕ) → Each Q ts f → p < row_count f → IsCell p (rows_under u i f ++ l)
      → Found Q ts i p (rows_under u i f ++ l)

  -- a row earlier
  found_next : (c k w n u i q : ℕ) (l : List ℕ) (ts us : List Token) → drop (tokens_before q l) us ≡ drop (tokens_before (suc q) (tree_row c k w n u l)) ts
      → Found Q us (suc i) q l → Found Q ts i (suc q) (tree_row c k w n u l)
  found_next c k w n u i q l ts us e d =
      let z : suc i + q ≡ i + suc q = omega arith in
      record {
        children = d.children;
        fact = subst (λ (x : List Token). Q x d.children) e d.fact;
        parent = d.parent;
        more = d.more;
        rows_are = drop_row c k w n u q l ∙ d.rows_are ∙ ap (λ (m : ℕ). rows_under d.parent m (subtree N.DtExpr d.children nil) ++ d.more) z;
      }

  cell_next : (c k w n u q : ℕ) (l : List ℕ) → IsCell (suc q) (tree_row c k w n u l) → IsCell q l
  cell_next c k w n u q l h = (h.0, h.1, h.2, ap (take TREE_ROW) (sym (drop_row c k w n u q l)) ∙ h.3)

  -- rows of a tree earlier
  found_past : (f : Tree) (u i : ℕ) (l : List ℕ) (ts us : List Token) (q : ℕ) → us ≡ drop (length (leaves f)) ts → Found Q us (i + row_count f) q l
      → Found Q ts i (row_count f + q) (rows_under u i f ++ l)
  found_past f u i l ts us q e d =
      let z : i + row_count f + q ≡ i + (row_count f + q) = omega arith in
      record {
        children = d.children;
        fact =
            subst (λ (x : List Token). Q x d.children)
            (ap (drop (tokens_before q l)) e
            ∙ drop-drop (tokens_before q l) (length (leaves f)) ts
            ∙ ap (λ (m : ℕ). drop m ts) (sym (tokens_after f u i l q)))
            d.fact;
        parent = d.parent;
        more = d.more;
        rows_are = drop_rows f u i l q ∙ d.rows_are ∙ ap (λ (m : ℕ). rows_under d.parent m (subtree N.DtExpr d.children nil) ++ d.more) z;
      }

  cell_past : (f : Tree) (u i : ℕ) (l : List ℕ) (q : ℕ) → IsCell (row_count f + q) (rows_under u i f ++ l) → IsCell q l
  cell_past f u i l q h = (h.0, h.1, h.2, ap (take TREE_ROW) (sym (drop_rows f u i l q)) ∙ h.3)

  -- among the children of row i, or after them
  find_both : (c f : Tree) (u i : ℕ) (l : List ℕ) (ts : List Token) (q : ℕ) → Each Q ts c → Each Q (drop (length (leaves c)) ts) f → q < row_count c + row_count f
      → IsCell q (rows_under i (suc i) c ++ (rows_under u (suc i + row_count c) f ++ l)) → Finds c → Finds f
      → Found Q ts (suc i) q (rows_under i (suc i) c ++ (rows_under u (suc i + row_count c) f ++ l))
  find_both c f u i l ts q x y h j find-c find-f = go (ltb q (row_count c)) refl
    where
      beyond : (k : ℕ) → q ≡ row_count c + k → k < row_count f → Found Q ts (suc i) q (rows_under i (suc i) c ++ (rows_under u (suc i + row_count c) f ++ l))
      beyond k e g =
          subst (λ (m : ℕ). Found Q ts (suc i) m (rows_under i (suc i) c ++ (rows_under u (suc i + row_count c) f ++ l))) (sym e)
          (found_past c i (suc i) (rows_under u (suc i + row_count c) f ++ l) ts (drop (length (leaves c)) ts) k refl
          (find-f u (suc i + row_count c) l (drop (length (leaves c)) ts) k y g (cell_past c i (suc i) (rows_under u (suc i + row_count c) f ++ l) k (subst (λ (m : ℕ). IsCell m (rows_under i (suc i) c ++ (rows_under u (suc i + row_count c) f ++ l))) e j))))

      go : (b : Bool) → ltb q (row_count c) ≡ b → Found Q ts (suc i) q (rows_under i (suc i) c ++ (rows_under u (suc i + row_count c) f ++ l))
      go true e = find-c i (suc i) (rows_under u (suc i + row_count c) f ++ l) ts q x (ltb-true q (row_count c) e) j
      go false e = let g = ltb-false q (row_count c) e in beyond (q - row_count c) (omega arith) (omega arith)

  pub find : (f : Tree) → Finds f
  unfolding Each rows_under row_count tokens_before
  find nil u i l ts p h g j = absurd (omega arith)
  find (leaf k raw f) u i l ts zero h g j = let z : ◌≡◌ {A = ℕ} 1 0 = cc j.3 in absurd (omega arith)
  find (leaf k raw f) u i l ts (suc q) h g j =
      let F : List ℕ = rows_under u (suc i) f ++ l in
      found_next 1 k (byte_count raw) (length raw) u i q F ts (drop (length raw) ts) (drop-drop (tokens_before q F) (length raw) ts)
      (find f u (suc i) l (drop (length raw) ts) q h (omega arith) (cell_next 1 k (byte_count raw) (length raw) u q F j))
  find (subtree k c f) u i l ts zero h g j =
      let z : k ≡ N.DtExpr = cc j.3 in
      let y : i + 0 ≡ i = omega arith in
      let C : List ℕ = rows_under i (suc i) c in
      let F : List ℕ = rows_under u (suc i + row_count c) f in
      record {
        children = c;
        fact = h.0 z;
        parent = u;
        more = F ++ l;
        rows_are = rw (z, y, append-nil C, append_assoc C F l);
      }
  find (subtree k c f) u i l ts (suc q) h g j =
      let C : List ℕ = rows_under i (suc i) c in
      let F : List ℕ = rows_under u (suc i + row_count c) f in
      rw (append_assoc C F l)
      (found_next 0 k (width c) (count c) u i q (C ++ (F ++ l)) ts ts (ap (λ (m : ℕ). drop m ts) (sym (zero-add (tokens_before q (C ++ (F ++ l))))))
      (find_both c f u i l ts q h.1 h.2 (omega arith)
      (cell_next 0 k (width c) (count c) u q (C ++ (F ++ l)) (rw (append_assoc C F l) at j)) (find c) (find f)))
