-- One pass over the rows of parts side by side finds those that share a byte with a range, and their bytes add up.
use Prim.Native.Nat.{ℕ, zero, suc, ◌+◌, ◌-◌, ◌≤◌}
use native.Mathlib.Omega.{arith}
use mathlib.Core.Path.{◌≡◌, refl, ap, sym, ◌∙◌, subst}
use mathlib.Core.Bool.{Bool, true, false, cond, ◌&&◌}
use mathlib.Core.List.{List, ◌∷◌, ◌++◌, append_assoc}
use lib.Dec.{ltb}
use borrow.Author.Tests.{le-ltb}
use Rattle.definitions.specs.Token.{byte_count}
use Rattle.definitions.specs.Place.{Tree, nil, leaf, subtree, width, row_count}
use Rattle.definitions.specs.Caret.{share, sharing}
use Rattle.rows.specs.ResultRows.{Row}
use Rattle.rows.specs.OnePass.{starting, AddsUp}
use Rattle.rows.proofs.Written.{rows_of}

module _ (from to : ℕ) where
  starting_at : {i j a b s t : ℕ} (l : List Row) → i ≡ j → a ≡ b → s ≡ t → starting from to i a s l ≡ starting from to j b t l
  starting_at l e f g = rw (e, f, g)

  -- nothing shares a byte with what has none
  shares_none : (start end : ℕ) → end ≡ start → share from to start end ≡ false
  shares_none start end e = rw (le-ltb start end (omega arith)) (go (ltb from to) (ltb from end) (ltb start to))
    where
      go : (a b c : Bool) → (a && b && c && false) ≡ false
      go true true true = refl
      go true true false = refl
      go true false c = refl
      go false b c = refl

  -- a tree inside a part
  starting_inside : (f : Tree) (p : ℕ) (i inside start : ℕ) (l : List Row) → width f ≤ inside
      → starting from to i inside start (rows_of p i f ++ l) ≡ starting from to (i + row_count f) (inside - width f) start l
  unfolding rows_of starting width row_count
  starting_inside nil p i inside start l h = starting_at l (omega arith) (omega arith) refl
  starting_inside (leaf k ts f) p i zero start l h =
      rw (shares_none start (start + byte_count ts) (omega arith))
      (starting_at (rows_of p (suc i) f ++ l) refl (omega arith) (omega arith)
      ∙ starting_inside f p (suc i) 0 start l (omega arith)
      ∙ starting_at l (omega arith) (omega arith) refl)
  starting_inside (leaf k ts f) p i (suc n) start l h =
      starting_inside f p (suc i) (suc n - byte_count ts) start l (omega arith) ∙ starting_at l (omega arith) (omega arith) refl
  starting_inside (subtree k c f) p i zero start l h =
      rw (shares_none start (start + width c) (omega arith))
      (ap (starting from to (suc i) (width c - 0) (start + width c)) (append_assoc (rows_of i (suc i) c) (rows_of p (suc i + row_count c) f) l)
      ∙ starting_at (rows_of i (suc i) c ++ (rows_of p (suc i + row_count c) f ++ l)) refl (omega arith) (omega arith)
      ∙ starting_inside c i (suc i) 0 start (rows_of p (suc i + row_count c) f ++ l) (omega arith)
      ∙ starting_inside f p (suc i + row_count c) (0 - width c) start l (omega arith)
      ∙ starting_at l (omega arith) (omega arith) refl)
  starting_inside (subtree k c f) p i (suc n) start l h =
      ap (starting from to (suc i) (suc n - 0) start) (append_assoc (rows_of i (suc i) c) (rows_of p (suc i + row_count c) f) l)
      ∙ starting_inside c i (suc i) (suc n - 0) start (rows_of p (suc i + row_count c) f ++ l) (omega arith)
      ∙ starting_inside f p (suc i + row_count c) (suc n - 0 - width c) start l (omega arith)
      ∙ starting_at l (omega arith) (omega arith) refl

  one_or_none : (b : Bool) (i : ℕ) (x y : List ℕ) → cond b (i ∷ (x ++ y)) (x ++ y) ≡ cond b (i ∷ x) x ++ y
  one_or_none true i x y = refl
  one_or_none false i x y = refl

  -- PARTS SIDE BY SIDE
  pub starting_sharing : (f : Tree) (p : ℕ) (i start : ℕ) (l : List Row)
      → starting from to i 0 start (rows_of p i f ++ l) ≡ sharing from to i start f ++ starting from to (i + row_count f) 0 (start + width f) l
  unfolding rows_of starting sharing width row_count
  starting_sharing nil p i start l = starting_at l (omega arith) refl (omega arith)
  starting_sharing (leaf k ts f) p i start l =
      let b = share from to start (start + byte_count ts) in
      let e : starting from to (suc i) (byte_count ts - byte_count ts) (start + byte_count ts) (rows_of p (suc i) f ++ l)
      ≡ sharing from to (suc i) (start + byte_count ts) f ++ starting from to (i + suc (row_count f)) 0 (start + (byte_count ts + width f)) l =
      starting_at (rows_of p (suc i) f ++ l) refl (omega arith) refl ∙ starting_sharing f p (suc i) (start + byte_count ts) l
      ∙ ap (sharing from to (suc i) (start + byte_count ts) f ++◌) (starting_at l (omega arith) refl (omega arith)) in
      ap (λ (x : List ℕ). cond b (i ∷ x) x) e ∙ one_or_none b i _ _
  starting_sharing (subtree k c f) p i start l =
      let b = share from to start (start + width c) in
      let e : starting from to (suc i) (width c - 0) (start + width c) ((rows_of i (suc i) c ++ rows_of p (suc i + row_count c) f) ++ l)
      ≡ sharing from to (suc i + row_count c) (start + width c) f ++ starting from to (i + suc (row_count c + row_count f)) 0 (start + (width c + width f)) l =
      ap (starting from to (suc i) (width c - 0) (start + width c)) (append_assoc (rows_of i (suc i) c) (rows_of p (suc i + row_count c) f) l)
      ∙ starting_inside c i (suc i) (width c - 0) (start + width c) (rows_of p (suc i + row_count c) f ++ l) (omega arith)
      ∙ starting_at (rows_of p (suc i + row_count c) f ++ l) refl (omega arith) refl
      ∙ starting_sharing f p (suc i + row_count c) (start + width c) l
      ∙ ap (sharing from to (suc i + row_count c) (start + width c) f ++◌) (starting_at l (omega arith) refl (omega arith)) in
      ap (λ (x : List ℕ). cond b (i ∷ x) x) e ∙ one_or_none b i _ _

-- ---------------------------------------------------------------- the bytes of parts add up

adds_at : (a b x y : ℕ) (l : List Row) → a ≡ b → x ≡ y → AddsUp a x l → AddsUp b y l
adds_at a b x y l e g h = subst (λ (i : ℕ). AddsUp i y l) e (subst (λ (i : ℕ). AddsUp a i l) g h)

adds_beside : (a x : ℕ) (c f l : List Row) → AddsUp a x (c ++ (f ++ l)) → AddsUp a x ((c ++ f) ++ l)
adds_beside a x c f l h = subst (AddsUp a x) (sym (append_assoc c f l)) h

adds_inside : (f : Tree) (p i : ℕ) (inside room : ℕ) (l : List Row) → width f ≤ inside → AddsUp (inside - width f) room l → AddsUp inside room (rows_of p i f ++ l)
unfolding rows_of AddsUp width
adds_inside nil p i inside room l h a = adds_at (inside - 0) inside room room l (omega arith) refl a
adds_inside (leaf k ts f) p i zero room l h a =
    let w = byte_count ts in (
      omega arith,
      adds_at 0 (w - w) room (room - w) (rows_of p (suc i) f ++ l) (omega arith) (omega arith)
          (adds_inside f p (suc i) 0 room l (omega arith) (adds_at (0 - (w + width f)) (0 - width f) room room l (omega arith) refl a)),
    )
adds_inside (leaf k ts f) p i (suc n) room l h a =
    let w = byte_count ts in (
      omega arith,
      adds_inside f p (suc i) (suc n - w) room l (omega arith) (adds_at (suc n - (w + width f)) (suc n - w - width f) room room l (omega arith) refl a),
    )
adds_inside (subtree k c f) p i zero room l h a =
    let w = width c in (
      omega arith,
      adds_beside (w - 0) (room - w) (rows_of i (suc i) c) (rows_of p (suc i + row_count c) f) l
          (adds_at 0 (w - 0) room (room - w) (rows_of i (suc i) c ++ (rows_of p (suc i + row_count c) f ++ l)) (omega arith) (omega arith)
          (adds_inside c i (suc i) 0 room (rows_of p (suc i + row_count c) f ++ l) (omega arith)
          (adds_inside f p (suc i + row_count c) (0 - w) room l (omega arith) (adds_at (0 - (w + width f)) (0 - w - width f) room room l (omega arith) refl a)))),
    )
adds_inside (subtree k c f) p i (suc n) room l h a =
    let w = width c in (
      omega arith,
      adds_beside (suc n - 0) room (rows_of i (suc i) c) (rows_of p (suc i + row_count c) f) l
          (adds_at (suc n) (suc n - 0) room room (rows_of i (suc i) c ++ (rows_of p (suc i + row_count c) f ++ l)) (omega arith) refl
          (adds_inside c i (suc i) (suc n) room (rows_of p (suc i + row_count c) f ++ l) (omega arith)
          (adds_inside f p (suc i + row_count c) (suc n - w) room l (omega arith) (adds_at (suc n - (w + width f)) (suc n - w - width f) room room l (omega arith) refl a)))),
    )

-- PARTS SIDE BY SIDE ADD UP
pub adds_parts : (f : Tree) (p i : ℕ) (room : ℕ) (l : List Row) → width f ≤ room → AddsUp 0 (room - width f) l → AddsUp 0 room (rows_of p i f ++ l)
unfolding rows_of AddsUp width
adds_parts nil p i room l h a = adds_at 0 0 (room - 0) room l refl (omega arith) a
adds_parts (leaf k ts f) p i room l h a =
    let w = byte_count ts in (
      omega arith,
      adds_at 0 (w - w) (room - w) (room - w) (rows_of p (suc i) f ++ l) (omega arith) refl
          (adds_parts f p (suc i) (room - w) l (omega arith) (adds_at 0 0 (room - (w + width f)) (room - w - width f) l refl (omega arith) a)),
    )
adds_parts (subtree k c f) p i room l h a =
    let w = width c in (
      omega arith,
      adds_beside (w - 0) (room - w) (rows_of i (suc i) c) (rows_of p (suc i + row_count c) f) l
          (adds_at w (w - 0) (room - w) (room - w) (rows_of i (suc i) c ++ (rows_of p (suc i + row_count c) f ++ l)) (omega arith) refl
          (adds_inside c i (suc i) w (room - w) (rows_of p (suc i + row_count c) f ++ l) (omega arith)
          (adds_at 0 (w - w) (room - w) (room - w) (rows_of p (suc i + row_count c) f ++ l) (omega arith) refl
          (adds_parts f p (suc i + row_count c) (room - w) l (omega arith) (adds_at 0 0 (room - (w + width f)) (room - w - width f) l refl (omega arith) a))))),
    )
