-- One pass over the rows of a tree finds the rows that the definitions list (specs/OnePass.antt): a tree that ends
-- before the byte is passed over, and one that has it is gone into.
use Prim.Native.Nat.{ℕ, suc, ◌+◌, ◌-◌, ◌≤◌, ◌<◌}
use native.Mathlib.Omega.{arith}
use mathlib.Core.Path.{◌≡◌, refl, ap, sym, ◌∙◌}
use mathlib.Core.Bool.{Bool, true, false}
use mathlib.Core.List.{List, [], ◌∷◌, ◌++◌, append_assoc}
use lib.Dec.{ltb}
use borrow.Author.Tests.{ltb-true, ltb-false, lt-ltb, le-ltb, le-leb}
use Rattle.definitions.specs.Token.{byte_count}
use Rattle.definitions.specs.Place.{Tree, nil, leaf, subtree, width, row_count}
use Rattle.definitions.specs.Caret.{LeafAt, leaves_at, chain_to}
use Rattle.rows.specs.ResultRows.{Row}
use Rattle.rows.specs.OnePass.{holding}
use Rattle.rows.proofs.Written.{rows_of}

-- ---------------------------------------------------------------- the chain

-- at another number and another byte that are the same
pub holding_at : {i j a b : ℕ} (l : List Row) → i ≡ j → a ≡ b → holding i a l ≡ holding j b l
holding_at l e f = rw (e, f)

-- a tree that ends before the byte
pub holding_past : (f : Tree) (p : ℕ) (i left : ℕ) (l : List Row) → width f ≤ left → holding i left (rows_of p i f ++ l) ≡ holding (i + row_count f) (left - width f) l
unfolding rows_of holding width row_count
holding_past nil p i left l h = holding_at l (omega arith) (omega arith)
holding_past (leaf k ts f) p i left l h =
    let w = byte_count ts in
    rw (le-ltb left w (omega arith))
    (holding_past f p (suc i) (left - w) l (omega arith) ∙ holding_at l (omega arith) (omega arith))
holding_past (subtree k c f) p i left l h =
    rw (le-ltb left (width c) (omega arith))
    (ap (holding (suc i) (left - 0)) (append_assoc (rows_of i (suc i) c) (rows_of p (suc i + row_count c) f) l)
    ∙ holding_past c i (suc i) (left - 0) (rows_of p (suc i + row_count c) f ++ l) (omega arith)
    ∙ holding_past f p (suc i + row_count c) (left - 0 - width c) l (omega arith)
    ∙ holding_at l (omega arith) (omega arith))

-- the same of the definitions' leaves
chain_past : (f : Tree) (above : List ℕ) (i start left : ℕ) (m : List LeafAt) → width f ≤ left
    → chain_to (start + left) (leaves_at above i start f ++ m) ≡ chain_to (start + left) m
unfolding leaves_at chain_to width
chain_past nil above i start left m h = refl
chain_past (leaf k ts f) above i start left m h =
    let w = byte_count ts in
    let e : start + left ≡ (start + w) + (left - w) = omega arith in
    rw (le-leb start (start + left) (omega arith), le-ltb (start + left) (start + w) (omega arith))
    (ap (λ (x : ℕ). chain_to x (leaves_at above (suc i) (start + w) f ++ m)) e
    ∙ chain_past f above (suc i) (start + w) (left - w) m (omega arith)
    ∙ ap (λ (x : ℕ). chain_to x m) (sym e))
chain_past (subtree k c f) above i start left m h =
    let w = width c in
    let e : start + left ≡ (start + w) + (left - w) = omega arith in
    let later = leaves_at above (suc i + row_count c) (start + w) f in
    ap (chain_to (start + left)) (append_assoc (leaves_at (above ++ (i ∷ [])) (suc i) start c) later m)
    ∙ chain_past c (above ++ (i ∷ [])) (suc i) start left (later ++ m) (omega arith)
    ∙ ap (λ (x : ℕ). chain_to x (later ++ m)) e
    ∙ chain_past f above (suc i + row_count c) (start + w) (left - w) m (omega arith)
    ∙ ap (λ (x : ℕ). chain_to x m) (sym e)

-- a row before those of a chain
pub above_one : (above : List ℕ) (i : ℕ) (l : List ℕ) → (above ++ (i ∷ [])) ++ l ≡ above ++ (i ∷ l)
above_one above i l = append_assoc above (i ∷ []) l

-- A TREE THAT HAS THE BYTE: the rows that have it are the chain to the leaf that owns it
pub chain_holding : (f : Tree) (p : ℕ) (above : List ℕ) (i start left : ℕ) (m : List LeafAt) (l : List Row) → left < width f
    → chain_to (start + left) (leaves_at above i start f ++ m) ≡ above ++ holding i left (rows_of p i f ++ l)
unfolding leaves_at chain_to rows_of holding width
chain_holding nil p above i start left m l h = absurd (omega arith)
chain_holding (leaf k ts f) p above i start left m l h =
    go (ltb left (byte_count ts)) refl (λ q. chain_holding f p above (suc i) (start + byte_count ts) (left - byte_count ts) m l q)
  where
    go : (b : Bool) → ltb left (byte_count ts) ≡ b
        → (left - byte_count ts < width f
        → chain_to (start + byte_count ts + (left - byte_count ts)) (leaves_at above (suc i) (start + byte_count ts) f ++ m)
        ≡ above ++ holding (suc i) (left - byte_count ts) (rows_of p (suc i) f ++ l))
        → chain_to (start + left) (leaves_at above i start (leaf k ts f) ++ m) ≡ above ++ holding i left (rows_of p i (leaf k ts f) ++ l)
    go true e rec =
        let q = ltb-true left (byte_count ts) e in
        rw (e, le-leb start (start + left) (omega arith), lt-ltb (start + left) (start + byte_count ts) (omega arith)) refl
    go false e rec =
        let q = ltb-false left (byte_count ts) e in
        let x : start + left ≡ (start + byte_count ts) + (left - byte_count ts) = omega arith in
        rw (e, le-leb start (start + left) (omega arith), le-ltb (start + left) (start + byte_count ts) (omega arith))
        (ap (λ (y : ℕ). chain_to y (leaves_at above (suc i) (start + byte_count ts) f ++ m)) x ∙ rec (omega arith))
chain_holding (subtree k c f) p above i start left m l h =
    go (ltb left (width c)) refl
    (λ q. chain_holding c i (above ++ (i ∷ [])) (suc i) start left (leaves_at above (suc i + row_count c) (start + width c) f ++ m) (rows_of p (suc i + row_count c) f ++ l) q)
    (λ q. chain_holding f p above (suc i + row_count c) (start + width c) (left - width c) m l q)
  where
    go : (b : Bool) → ltb left (width c) ≡ b
        → (left < width c
        → chain_to (start + left) (leaves_at (above ++ (i ∷ [])) (suc i) start c ++ (leaves_at above (suc i + row_count c) (start + width c) f ++ m))
        ≡ (above ++ (i ∷ [])) ++ holding (suc i) left (rows_of i (suc i) c ++ (rows_of p (suc i + row_count c) f ++ l)))
        → (left - width c < width f
        → chain_to (start + width c + (left - width c)) (leaves_at above (suc i + row_count c) (start + width c) f ++ m)
        ≡ above ++ holding (suc i + row_count c) (left - width c) (rows_of p (suc i + row_count c) f ++ l))
        → chain_to (start + left) (leaves_at above i start (subtree k c f) ++ m) ≡ above ++ holding i left (rows_of p i (subtree k c f) ++ l)
    go true e inner after =
        rw e
        (ap (chain_to (start + left)) (append_assoc (leaves_at (above ++ (i ∷ [])) (suc i) start c) (leaves_at above (suc i + row_count c) (start + width c) f) m)
        ∙ inner (ltb-true left (width c) e)
        ∙ above_one above i _
        ∙ ap (λ (x : List Row). above ++ (i ∷ holding (suc i) left x)) (sym (append_assoc (rows_of i (suc i) c) (rows_of p (suc i + row_count c) f) l)))
    go false e inner after =
        let q = ltb-false left (width c) e in
        let x : start + left ≡ (start + width c) + (left - width c) = omega arith in
        rw e
        (ap (chain_to (start + left)) (append_assoc (leaves_at (above ++ (i ∷ [])) (suc i) start c) (leaves_at above (suc i + row_count c) (start + width c) f) m)
        ∙ chain_past c (above ++ (i ∷ [])) (suc i) start left (leaves_at above (suc i + row_count c) (start + width c) f ++ m) q
        ∙ ap (λ (y : ℕ). chain_to y (leaves_at above (suc i + row_count c) (start + width c) f ++ m)) x
        ∙ after (omega arith)
        ∙ ap (above ++◌)
        (sym
        (ap (holding (suc i) (left - 0)) (append_assoc (rows_of i (suc i) c) (rows_of p (suc i + row_count c) f) l)
        ∙ holding_past c i (suc i) (left - 0) (rows_of p (suc i + row_count c) f ++ l) (omega arith)
        ∙ holding_at (rows_of p (suc i + row_count c) f ++ l) refl (omega arith))))
