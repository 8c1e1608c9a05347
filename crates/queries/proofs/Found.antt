-- One pass over the rows of a file's tree finds what the definitions list.
use Prim.Native.Nat.{ℕ, ◌+◌, ◌-◌, ◌<◌}
use native.Mathlib.Omega.{arith}
use mathlib.Core.Path.{◌≡◌, refl, ap, sym, ◌∙◌}
use mathlib.Core.Bool.{Bool, true, false}
use mathlib.Core.List.{[], ◌∷◌, append-nil}
use lib.Dec.{ltb, eqb}
use borrow.Author.Tests.{ltb-true, eqb-true, eqb-false}
use Rattle.definitions.specs.Place.{Tree, nil, subtree, width}
use Rattle.definitions.specs.Caret.{leaves_at, chain_to, chain_to_last, rows_at, top_level, sharing, Query, caret, range, listed}
use Rattle.rows.specs.OnePass.{holding, starting, found}
use Rattle.rows.proofs.Written.{rows_of}
use Rattle.rows.proofs.Passes.{chain_holding}
use Rattle.rows.proofs.Last.{LeavesWide, no_leaf, last_holding}
use Rattle.rows.proofs.Parts.{starting_sharing}

-- inside a tree
pub chain_is : (t : Tree) (offset : ℕ) → offset < width t → chain_to offset (leaves_at [] 0 0 t) ≡ holding 0 offset (rows_of 0 0 t)
chain_is t offset h =
    let z : offset ≡ 0 + offset = omega arith in
    ap (λ (n : ℕ). chain_to n (leaves_at [] 0 0 t)) z
    ∙ ap (chain_to (0 + offset)) (sym (append-nil (leaves_at [] 0 0 t)))
    ∙ chain_holding t 0 [] 0 0 offset [] [] h
    ∙ ap (holding 0 offset) (append-nil (rows_of 0 0 t))

-- at its end
pub last_is : (t : Tree) → LeavesWide t → 0 < width t → chain_to_last (0 ∷ []) (leaves_at [] 0 0 t) ≡ holding 0 (width t - 1) (rows_of 0 0 t)
last_is t wide h = last_holding t 0 (0 ∷ []) [] 0 0 [] wide h ∙ ap (holding 0 (width t - 1)) (append-nil (rows_of 0 0 t))

module _ (t : Tree) (size : ℕ) (e : width t ≡ size) (wide : LeavesWide t) where
  caret_found : (offset : ℕ) (a b c : Bool) → ltb offset size ≡ a → eqb offset size ≡ b → eqb size 0 ≡ c → found (caret offset) size (rows_of 0 0 t) ≡ rows_at size offset t
  unfolding found rows_at chain_to_last
  caret_found offset true b c p q r = rw p (sym (chain_is t offset (let z = ltb-true offset size p in omega (arith, z, e))))
  caret_found offset false true true p q r =
      rw (p, q, r) (ap (chain_to_last (0 ∷ [])) (sym (no_leaf t [] 0 0 wide (e ∙ eqb-true size 0 r))))
  caret_found offset false true false p q r =
      let n = eqb-false size 0 r in
      rw (p, q, r) (ap (λ (n : ℕ). holding 0 (n - 1) (rows_of 0 0 t)) (sym e) ∙ sym (last_is t wide (omega (arith, e, n))))
  caret_found offset false false c p q r = rw (p, q) refl

range_found : (k from to size : ℕ) (c : Tree) → found (range from to) size (rows_of 0 0 (subtree k c nil)) ≡ sharing from to 1 0 c
unfolding found rows_of starting
range_found k from to size c = starting_sharing from to c 0 1 0 [] ∙ append-nil (sharing from to 1 0 c)

-- WHAT IS FOUND IS WHAT IS LISTED
pub found_listed : (q : Query) (k size : ℕ) (c : Tree) → width (subtree k c nil) ≡ size → LeavesWide (subtree k c nil) → found q size (rows_of 0 0 (subtree k c nil)) ≡ listed q size (subtree k c nil)
unfolding listed top_level
found_listed (caret offset) k size c e wide = caret_found (subtree k c nil) size e wide offset (ltb offset size) (eqb offset size) (eqb size 0) refl refl refl
found_listed (range from to) k size c e wide = range_found k from to size c
