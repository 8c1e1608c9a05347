-- Parts found in rows are parts of the tree whose rows they are: rows of whole parts cut a tree in two.
use Prim.Native.Nat.{ℕ, suc, ◌+◌}
use native.Mathlib.Omega.{arith}
use mathlib.Core.Path.{◌≡◌, refl, ap, sym, ◌∙◌, subst}
use mathlib.Core.Bool.{true}
use mathlib.Core.List.{List, [], ◌∷◌, ◌++◌, append_assoc, append-nil}
use lib.ListN.{length, length-append}
use Rattle.definitions.specs.Layout.{NODE, LEAF}
use Rattle.definitions.specs.TokenKind as K
use Rattle.definitions.specs.Token.{Token, byte_count}
use Rattle.definitions.specs.Place.{Tree, nil, leaf, subtree, ◌⊕◌, width, count, row_count}
use Rattle.definitions.specs.Parent.{tree_row}
use Rattle.laws.proofs.Tree.{count_beside}
use Rattle.rows.specs.ResultRows.{Row, class, kind, Subtrees}
use Rattle.rows.specs.ResultRows as S
use Rattle.recovery.specs.Recovery.{is_statement, Semicolon, row_number}
use Rattle.rows.proofs.Written.{rows_of, rows_counted, rows_beside, rows_parts}
use Rattle.basics.proofs.Lists.{first_same, rest_same, none_some}

-- a node's row is not a leaf's
node_leaf : (r : Row) (k w n p : ℕ) → r ≡ tree_row LEAF k w n p [] → class r ≡ NODE → ⊥
node_leaf r k w n p e h = let z : ◌≡◌ {A = ℕ} 1 0 = sym (ap class e) ∙ h in omega arith

leaf_node : (r : Row) (k w n p : ℕ) → r ≡ tree_row NODE k w n p [] → class r ≡ LEAF → ⊥
leaf_node r k w n p e h = let z : ◌≡◌ {A = ℕ} 0 1 = sym (ap class e) ∙ h in omega arith

-- ---------------------------------------------------------------- rows of whole parts

-- the rows of all the parts of c are just the parts that they begin with
pub whole_parts : {n : ℕ} {l : List Row} → Subtrees n l → (c : Tree) (p i : ℕ) → count c ≡ n → (x y : List Row) → rows_of p i c ++ x ≡ l ++ y → (rows_of p i c ≡ l) × (x ≡ y)
unfolding rows_of count
whole_parts S.none nil p i e x y h = (refl, h)
whole_parts S.none (leaf k ts f) p i e x y h = absurd (omega arith)
whole_parts S.none (subtree k c f) p i e x y h = absurd (omega arith)
whole_parts (S.leaf a s) nil p i e x y h = absurd (omega arith)
whole_parts (S.leaf a s) (leaf k ts f) p i e x y h =
    let g = whole_parts s f p (suc i) (let z : count f ≡ _ = cc in z) x y (rest_same h) in
    ((λ j. first_same h j ∷ g.0 j), g.1)
whole_parts (S.leaf a s) (subtree k c f) p i e x y h = absurd (leaf_node _ k (width c) (count c) p (sym (first_same h)) a)
whole_parts (S.node a s q) nil p i e x y h = absurd (omega arith)
whole_parts (S.node a s q) (leaf k ts f) p i e x y h = absurd (node_leaf _ k (byte_count ts) (length ts) p (sym (first_same h)) a)
whole_parts (S.node {r = r} {c = d} {l = l} a s q) (subtree k c f) p i e x y h =
    let C : List Row = rows_of i (suc i) c in
    let F : List Row = rows_of p (suc i + row_count c) f in
    let h' : C ++ (F ++ x) ≡ d ++ (l ++ y) = sym (append_assoc C F x) ∙ rest_same h ∙ append_assoc d l y in
    let m : count c ≡ S.count r = ap S.count (first_same h) in
    let g : (C ≡ d) × (F ++ x ≡ l ++ y) = whole_parts s c i (suc i) m (F ++ x) (l ++ y) h' in
    let g' : (F ≡ l) × (x ≡ y) = whole_parts q f p (suc i + row_count c) (let z : count f ≡ _ = cc in z) x y g.1 in
    ((λ j. first_same h j ∷ (g.0 j ++ g'.0 j)), g'.1)

-- one leaf more
pub one_more : {n : ℕ} {l : List Row} → Subtrees n l → (r : Row) → class r ≡ LEAF → Subtrees (suc n) (l ++ (r ∷ []))
one_more S.none r e = S.leaf e S.none
one_more (S.leaf a p) r e = S.leaf a (one_more p r e)
one_more (S.node {n = n} {r = x} {c = c} {l = l} a p q) r e =
    subst (λ (m : List Row). Subtrees (suc (suc n)) (x ∷ m)) (sym (append_assoc c l (r ∷ []))) (S.node a p (one_more q r e))

-- a tree in two pieces, children of row p of which the first is row i, with the rows of each
pub record Cut (f : Tree) (p i : ℕ) (l m : List Row) : Type 0 where
  pub one : Tree
  pub two : Tree
  pub is : f ≡ one ⊕ two
  pub rows_one : rows_of p i one ≡ l
  pub rows_two : rows_of p (i + row_count one) two ≡ m

pub cut : {n : ℕ} {l : List Row} → Subtrees n l → (f : Tree) (p i : ℕ) (m : List Row) → rows_of p i f ≡ l ++ m → Cut f p i l m
unfolding rows_of ◌⊕◌ row_count
cut S.none f p i m h =
    let e : i + 0 ≡ i = omega arith in
    record { one = nil; two = f; is = refl; rows_one = refl; rows_two = ap (λ (n : ℕ). rows_of p n f) e ∙ h }
cut (S.leaf a s) nil p i m h = absurd (none_some h)
cut (S.leaf a s) (leaf k ts f) p i m h =
    let C = cut s f p (suc i) m (rest_same h) in
    let e : i + suc (row_count C.one) ≡ suc i + row_count C.one = omega arith in
    record {
      one = leaf k ts C.one;
      two = C.two;
      is = ap (leaf k ts) C.is;
      rows_one = (λ j. first_same h j ∷ C.rows_one j);
      rows_two = ap (λ (n : ℕ). rows_of p n C.two) e ∙ C.rows_two;
    }
cut (S.leaf a s) (subtree k c f) p i m h = absurd (leaf_node _ k (width c) (count c) p (sym (first_same h)) a)
cut (S.node a s q) nil p i m h = absurd (none_some h)
cut (S.node a s q) (leaf k ts f) p i m h = absurd (node_leaf _ k (byte_count ts) (length ts) p (sym (first_same h)) a)
cut (S.node {r = r} {c = d} {l = l} a s q) (subtree k c f) p i m h =
    let n = suc i + row_count c in
    let g : (rows_of i (suc i) c ≡ d) × (rows_of p n f ≡ l ++ m) =
    whole_parts s c i (suc i) (ap S.count (first_same h)) (rows_of p n f) (l ++ m) (rest_same h ∙ append_assoc d l m) in
    let C : Cut f p n l m = cut q f p n m g.1 in
    let e : i + suc (row_count c + row_count C.one) ≡ n + row_count C.one = omega arith in
    record {
      one = subtree k c C.one;
      two = C.two;
      is = ap (subtree k c) C.is;
      rows_one = (λ j. first_same h j ∷ (g.0 j ++ C.rows_one j));
      rows_two = ap (λ (x : ℕ). rows_of p x C.two) e ∙ C.rows_two;
    }

-- ---------------------------------------------------------------- the semicolon's place in the tree

-- the statement that the semicolon ends, in a root's children f
pub record Placed (f : Tree) {l : List Row} (s : Semicolon l) : Type 0 where
  pub before : Tree
  pub kind : ℕ
  pub inside : Tree
  pub raw : List Token
  pub later : Tree
  pub is : f ≡ before ⊕ subtree kind (inside ⊕ leaf K.Semicolon raw nil) later
  pub statement : is_statement kind ≡ true
  pub rows_before : rows_of 0 1 before ≡ s.before
  pub rows_inside : rows_of (suc (row_count before)) (suc (suc (row_count before))) inside ≡ s.inside
  pub rows_later : rows_of 0 (suc (row_number s)) later ≡ s.later

-- rows that begin with a node's, and then its children: so does the tree
pub record Opened (f : Tree) (p i : ℕ) (r : Row) (l : List Row) : Type 0 where
  pub kind : ℕ
  pub inner : Tree
  pub next : Tree
  pub is : f ≡ subtree kind inner next
  pub row : r ≡ tree_row NODE kind (width inner) (count inner) p []
  pub rows : rows_of i (suc i) inner ++ rows_of p (suc i + row_count inner) next ≡ l

opened : (f : Tree) (p i : ℕ) (r : Row) (l : List Row) → class r ≡ NODE → rows_of p i f ≡ r ∷ l → Opened f p i r l
unfolding rows_of
opened nil p i r l e h = absurd (none_some h)
opened (leaf k ts f) p i r l e h = absurd (node_leaf r k (byte_count ts) (length ts) p (sym (first_same h)) e)
opened (subtree k c f) p i r l e h = record { kind = k; inner = c; next = f; is = refl; row = sym (first_same h); rows = rest_same h }

-- a single leaf
pub record Single (f : Tree) (r : Row) : Type 0 where
  pub raw : List Token
  pub is : f ≡ leaf (kind r) raw nil

no_rows : (f : Tree) (p i : ℕ) → rows_of p i f ≡ [] → f ≡ nil
unfolding rows_of
no_rows nil p i h = refl
no_rows (leaf k ts f) p i h = absurd (none_some (sym h))
no_rows (subtree k c f) p i h = absurd (none_some (sym h))

single : (f : Tree) (p i : ℕ) (r : Row) → class r ≡ LEAF → rows_of p i f ≡ r ∷ [] → Single f r
unfolding rows_of
single nil p i r e h = absurd (none_some h)
single (leaf k ts f) p i r e h = record { raw = ts; is = (λ j. leaf (ap kind (first_same h) j) ts (no_rows f p (suc i) (rest_same h) j)) }
single (subtree k c f) p i r e h = absurd (leaf_node r k (width c) (count c) p (sym (first_same h)) e)

-- THE SEMICOLON in a root's children
pub placed : (k : ℕ) (f : Tree) {l : List Row} (s : Semicolon l) → l ≡ rows_of 0 0 (subtree k f nil) → Placed f s
unfolding rows_of row_number row_count
placed k f {l} s e =
    let h : rows_of 0 1 f ≡ s.before ++ (s.part ∷ (s.inside ++ (s.leaf ∷ s.later))) = sym (append-nil (rows_of 0 1 f)) ∙ rest_same (sym e ∙ s.is) in
    let C : Cut f 0 1 s.before (s.part ∷ (s.inside ++ (s.leaf ∷ s.later))) = cut s.before_whole f 0 1 _ h in
    let at = suc (row_count C.one) in
    let two_at : rows_of 0 at C.two ≡ s.part ∷ (s.inside ++ (s.leaf ∷ s.later)) =
    (let z : at ≡ 1 + row_count C.one = omega arith in ap (λ (x : ℕ). rows_of 0 x C.two) z ∙ C.rows_two) in
    let O : Opened C.two 0 at s.part (s.inside ++ (s.leaf ∷ s.later)) = opened C.two 0 at s.part _ s.part_node two_at in
    let m = suc at + row_count O.inner in
    let n : count O.inner ≡ suc s.children_inside = sym (ap S.count O.row) ∙ s.leaf_last in
    let g : (rows_of at (suc at) O.inner ≡ s.inside ++ (s.leaf ∷ [])) × (rows_of 0 m O.next ≡ s.later) =
    whole_parts (one_more s.inside_whole s.leaf s.leaf_leaf) O.inner at (suc at) n (rows_of 0 m O.next) s.later (O.rows ∙ sym (append_assoc s.inside (s.leaf ∷ []) s.later)) in
    let D : Cut O.inner at (suc at) s.inside (s.leaf ∷ []) = cut s.inside_whole O.inner at (suc at) (s.leaf ∷ []) g.0 in
    let L : Single D.two s.leaf = single D.two at (suc at + row_count D.one) s.leaf s.leaf_leaf D.rows_two in
    let before-rows : row_count C.one ≡ length s.before = sym (rows_counted C.one 0 1) ∙ ap length C.rows_one in
    let inside-rows : row_count O.inner ≡ length s.inside + 1 = sym (rows_counted O.inner at (suc at)) ∙ ap length g.0 ∙ length-append s.inside (s.leaf ∷ []) in
    let next-at : suc (suc (length s.before) + suc (length s.inside)) ≡ m = omega (arith, before-rows, inside-rows) in
    record {
      before = C.one;
      kind = O.kind;
      inside = D.one;
      raw = L.raw;
      later = O.next;
      is =
          C.is
          ∙ ap (C.one ⊕◌)
          (O.is ∙ ap (λ (x : Tree). subtree O.kind x O.next) (D.is ∙ ap (D.one ⊕◌) (L.is ∙ ap (λ (j : ℕ). leaf j L.raw nil) s.leaf_kind)));
      statement = ap (λ (r : Row). is_statement (kind r)) (sym O.row) ∙ s.part_kind;
      rows_before = C.rows_one;
      rows_inside = D.rows_one;
      rows_later = ap (λ (x : ℕ). rows_of 0 x O.next) next-at ∙ g.1;
    }

-- ---------------------------------------------------------------- none is missed

-- EVERY SEMICOLON that ends a statement among a root's children is found in the rows
pub semicolon_in : (k : ℕ) (before : Tree) (j : ℕ) (inside : Tree) (raw : List Token) (later : Tree) → is_statement j ≡ true
    → Semicolon (rows_of 0 0 (subtree k (before ⊕ subtree j (inside ⊕ leaf K.Semicolon raw nil) later) nil))
unfolding rows_of count
semicolon_in k before j inside raw later e =
    let i : Tree = inside ⊕ leaf K.Semicolon raw nil in
    let f : Tree = before ⊕ subtree j i later in
    let at = 1 + row_count before in
    let part : Row = tree_row NODE j (width i) (count i) 0 [] in
    let own : Row = tree_row LEAF K.Semicolon (byte_count raw) (length raw) at [] in
    let top : Row = tree_row NODE k (width f) (count f) 0 [] in
    let late : List Row = rows_of 0 (suc at + row_count i) later in
    let deep : List Row = rows_of at (suc at) inside in
    let n : count i ≡ suc (count inside) = let z : count i ≡ count inside + 1 = count_beside inside (leaf K.Semicolon raw nil) in omega arith in
    record {
      root = top;
      before = rows_of 0 1 before;
      part = part;
      inside = deep;
      leaf = own;
      later = late;
      is =
          ap (top ∷◌)
          (append-nil (rows_of 0 1 f)
          ∙ rows_beside before (subtree j i later) 0 1
          ∙ ap (λ (l : List Row). rows_of 0 1 before ++ (part ∷ (l ++ late))) (rows_beside inside (leaf K.Semicolon raw nil) at (suc at))
          ∙ ap (λ (l : List Row). rows_of 0 1 before ++ (part ∷ l)) (append_assoc deep (own ∷ []) late));
      parts_before = count before;
      before_whole = rows_parts before 0 1;
      part_node = refl;
      part_kind = e;
      children_inside = count inside;
      inside_whole = rows_parts inside at (suc at);
      leaf_last = n;
      leaf_leaf = refl;
      leaf_kind = refl;
    }
