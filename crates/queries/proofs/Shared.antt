-- The parts that share a byte with a range: by induction over the parts, each of which stands among all rows as a child
-- of the root.
use Prim.Native.Nat.{ℕ, suc, ◌+◌, ◌≤◌, ◌<◌}
use native.Mathlib.Omega.{arith}
use mathlib.Core.Path.{◌≡◌, refl, ap, sym, ◌∙◌, subst}
use mathlib.Core.Bool.{Bool, true, false, cond, ◌&&◌, false≢true}
use mathlib.Core.Logic.{◌⊎◌, inl, inr, ⊎_elim}
use mathlib.Core.List.{List, [], ◌∷◌}
use lib.Dec.{ltb, eqb}
use lib.ListN.{drop}
use borrow.Author.Tests.{ltb-true, ltb-false, lt-ltb, eqb-true, eqb-false}
use Rattle.basics.proofs.Tests.{and_left, and_right}
use Rattle.definitions.specs.Token.{byte_count}
use Rattle.definitions.specs.Place.{Tree, nil, leaf, subtree, width, count, row_count}
use Rattle.definitions.specs.Caret.{share, sharing}
use Rattle.rows.specs.ResultRows.{Row}
use Rattle.rows.specs.RowTree.{span, Child, first_byte, end_byte}
use Rattle.queries.specs.PartsListed.{On, Ascending, Shares, PartsListed}
use Rattle.rows.proofs.Written.{rows_of}
use Rattle.rows.proofs.Placed.{under_root, first_one, root_count, Placed, leaf_child, leaf_before, leaf_width, after_leaf, leaf_next, node_child, node_before, node_width, after_node, node_next}

-- ---------------------------------------------------------------- a byte in both

-- the first that can be
later : (a b : ℕ) → ℕ
later a b = cond (ltb a b) b a

later_left : (a b : ℕ) → a ≤ later a b
unfolding later
later_left a b = go (ltb a b) refl
  where
    go : (t : Bool) → ltb a b ≡ t → a ≤ cond t b a
    go true e = let x = ltb-true a b e in omega (arith, x)
    go false e = omega arith

later_right : (a b : ℕ) → b ≤ later a b
unfolding later
later_right a b = go (ltb a b) refl
  where
    go : (t : Bool) → ltb a b ≡ t → b ≤ cond t b a
    go true e = omega arith
    go false e = ltb-false a b e

later_below : (a b c : ℕ) → a < c → b < c → later a b < c
unfolding later
later_below a b c x y = go (ltb a b)
  where
    go : (t : Bool) → cond t b a < c
    go true = y
    go false = x

module _ (all : List Row) (from to i start end : ℕ) (s : first_byte all i ≡ start) (e : end_byte all i ≡ end) where
  pub share_byte : share from to start end ≡ true → Shares all from to i
  share_byte h =
      let abc = and_left (ltb from to && ltb from end && ltb start to) (ltb start end) h in
      let ab = and_left (ltb from to && ltb from end) (ltb start to) abc in
      let a : from < to = ltb-true from to (and_left (ltb from to) (ltb from end) ab) in
      let b : from < end = ltb-true from end (and_right (ltb from to) (ltb from end) ab) in
      let c : start < to = ltb-true start to (and_right (ltb from to && ltb from end) (ltb start to) abc) in
      let d : start < end = ltb-true start end (and_right (ltb from to && ltb from end && ltb start to) (ltb start end) h) in
      let x = later_left from start in
      let y = later_right from start in
      record {
        byte = later from start;
        after_start = x;
        before_end = (let z = later_below from start to a c in omega (arith, z));
        has = (omega (arith, y, s), (let z = later_below from start end b d in omega (arith, z, e)));
      }

  pub byte_share : Shares all from to i → share from to start end ≡ true
  byte_share h =
      rw (
        lt-ltb from to (omega (arith, h.after_start, h.before_end)),
        lt-ltb from end (omega (arith, h.after_start, h.has.1, e)),
        lt-ltb start to (omega (arith, h.before_end, h.has.0, s)),
        lt-ltb start end (omega (arith, h.has.0, h.has.1, s, e)),
      )
      refl

-- ---------------------------------------------------------------- the parts in turn

-- rows that list, of the parts that start at row s with so many before them, those that share a byte
record Lists (all : List Row) (from to s before many : ℕ) (rows : List ℕ) : Type 0 where
  part : (i : ℕ) → On i rows → Child all 0 i
  shares : (i : ℕ) → On i rows → Shares all from to i
  not_before : (i : ℕ) → On i rows → s ≤ i
  all_of : (i : ℕ) (h : Child all 0 i) → before ≤ h.before → h.before < before + many → Shares all from to i → On i rows
  in_order : Ascending rows

ascending_cons : (x : ℕ) (l : List ℕ) → ((i : ℕ) → On i l → x < i) → Ascending l → Ascending (x ∷ l)
ascending_cons x [] h a = tt
ascending_cons x (y ∷ l) h a = (let z = h y (inl refl) in omega (arith, z), a)

module _ (all : List Row) (from to s next before many start end : ℕ) (c : Child all 0 s) (cb : c.before ≡ before) (fs : first_byte all s ≡ start) (es : end_byte all s ≡ end)
    (sn : s < next) (more : List ℕ) (r : Lists all from to next (suc before) many more) where
  -- the part of that place is this row
  same_row : (i : ℕ) (h : Child all 0 i) → h.before ≡ before → i ≡ s
  same_row i h e = h.is ∙ ap (λ (n : ℕ). 1 + span n (drop 1 all)) (e ∙ sym cb) ∙ sym c.is

  first_or_later : (i : ℕ) (h : Child all 0 i) → before ≤ h.before → (i ≡ s) ⊎ (suc before ≤ h.before)
  first_or_later i h x = go (eqb h.before before) refl
    where
      go : (t : Bool) → eqb h.before before ≡ t → (i ≡ s) ⊎ (suc before ≤ h.before)
      go true e = inl (same_row i h (eqb-true _ _ e))
      go false e = inr (let z = eqb-false h.before before e in omega (arith, x, z))

  listed_first : (t : Bool) → share from to start end ≡ t → Lists all from to s before (suc many) (cond t (s ∷ more) more)
  listed_first true e =
      record {
        part = λ i x. ⊎_elim (λ y. subst (Child all 0) (sym y) c) (λ y. r.part i y) x;
        shares = λ i x. ⊎_elim (λ y. subst (Shares all from to) (sym y) (share_byte all from to s start end fs es e)) (λ y. r.shares i y) x;
        not_before = λ i x. ⊎_elim (λ y. (let z : s ≤ i = omega (arith, y) in z)) (λ y. (let q = r.not_before i y in let z : s ≤ i = omega (arith, q, sn) in z)) x;
        all_of = λ i h x y z. ⊎_elim (λ w. inl w) (λ w. inr (r.all_of i h w (omega (arith, y)) z)) (first_or_later i h x);
        in_order = ascending_cons s more (λ i x. let z = r.not_before i x in omega (arith, z, sn)) r.in_order;
      }
  listed_first false e =
      record {
        part = r.part;
        shares = r.shares;
        not_before = λ i x. let z = r.not_before i x in omega (arith, z, sn);
        all_of = λ i h x y z.
            ⊎_elim (λ w. absurd (false≢true (sym e ∙ byte_share all from to s start end fs es (subst (Shares all from to) w z)))) (λ w. r.all_of i h w (omega (arith, y)) z)
            (first_or_later i h x);
        in_order = r.in_order;
      }

lists : (all : List Row) (from to : ℕ) (f : Tree) (l : List Row) (s before start : ℕ) → Placed all f l s 0 before → first_byte all s ≡ start
    → Lists all from to s before (count f) (sharing from to s start f)
unfolding sharing count
lists all from to nil l s before start w e =
    record { part = λ i x. absurd x; shares = λ i x. absurd x; not_before = λ i x. absurd x; all_of = λ i h x y z. absurd (omega (arith, x, y)); in_order = tt }
lists all from to (leaf k ts f) l s before start w e =
    let n = leaf_next all k ts f l s 0 before w in
    listed_first all from to s (suc s) before (count f) start (start + byte_count ts) (leaf_child all k ts f l s 0 before w) (leaf_before all k ts f l s 0 before w) e
    (leaf_width all k ts f l s 0 before w ∙ ap (◌+ byte_count ts) e) (omega arith) (sharing from to (suc s) (start + byte_count ts) f)
    (lists all from to f l (suc s) (suc before) (start + byte_count ts) (after_leaf all k ts f l s 0 before w) (n ∙ ap (◌+ byte_count ts) e))
    (share from to start (start + byte_count ts)) refl
lists all from to (subtree k c f) l s before start w e =
    let n = node_next all k c f l s 0 before w in
    listed_first all from to s (suc s + row_count c) before (count f) start (start + width c) (node_child all k c f l s 0 before w) (node_before all k c f l s 0 before w) e
    (node_width all k c f l s 0 before w ∙ ap (◌+ width c) e) (omega arith) (sharing from to (suc s + row_count c) (start + width c) f)
    (lists all from to f l (suc s + row_count c) (suc before) (start + width c) (after_node all k c f l s 0 before w) (n ∙ ap (◌+ width c) e))
    (share from to start (start + width c)) refl

-- ALL THE PARTS of a root
pub parts_listed : (k from to : ℕ) (c : Tree) → PartsListed (rows_of 0 0 (subtree k c nil)) from to (sharing from to 1 0 c)
parts_listed k from to c =
    let all = rows_of 0 0 (subtree k c nil) in
    let r = lists all from to c [] 1 0 0 (under_root k c) (first_one k c) in
    record {
      part = r.part;
      shares = r.shares;
      all = λ i h x. r.all_of i h (omega arith) (let z = root_count k c in omega (arith, h.among, z)) x;
      in_order = r.in_order;
      nothing = λ h. none (sharing from to 1 0 c) (λ i x. let y = r.shares i x in omega (arith, h, y.after_start, y.before_end));
    }
  where
    none : (l : List ℕ) → ((i : ℕ) → On i l → ⊥) → l ≡ []
    none [] h = refl
    none (x ∷ l) h = absurd (h x (inl refl))
