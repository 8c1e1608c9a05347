-- Where the Names that a setting reports stand: none has its first token inside a DtExpr in which no Name is judged.
use Prim.Native.Nat.{ℕ, ◌+◌, ◌-◌, ◌≤◌, ◌<◌}
use native.Mathlib.Omega.{arith}
use mathlib.Core.Path.{◌≡◌, ap, subst}
use mathlib.Core.Logic.{◌⊎◌, inl, inr, ⊎_elim}
use mathlib.Core.Bool.{Bool, true, false, cond, ◌&&◌}
use mathlib.Core.List.{List, [], ◌∷◌, ◌++◌}
use lib.Dec.{eqb}
use lib.ListN.{length, take, drop, length-append, length-drop}
use Rattle.definitions.specs.Layout.{OLD_SETTING}
use Rattle.definitions.specs.TokenKind as K
use Rattle.definitions.specs.Token.{Token, byte_count}
use Rattle.definitions.specs.Place.{Tree, nil, leaf, subtree, width}
use Rattle.definitions.specs.Strict.{NameAt, keeps_rule, judges, token_count, judged, breaking, reported_names}
use Rattle.laws.proofs.Tree.{leaves, tokens_leaves}
use Rattle.precedence.proofs.Settle.{Each}

-- this Name is among them
abbrev pub Among : NameAt → List NameAt → Type 0
Among n [] = ⊥
Among n (x ∷ l) = (n ≡ x) ⊎ Among n l

in_parts : (n : NameAt) (k l : List NameAt) → Among n (k ++ l) → Among n k ⊎ Among n l
in_parts n [] l h = inr h
in_parts n (x ∷ k) l (inl e) = inl (inl e)
in_parts n (x ∷ k) l (inr h) = ⊎_elim (λ g. inl (inr g)) (λ g. inr g) (in_parts n k l h)

-- one more stands first, or does not
in_front : (n x : NameAt) (b : Bool) (l : List NameAt) → Among n (cond b (x ∷ l) l) → Among n (x ∷ l)
in_front n x true l h = h
in_front n x false l h = inr h

-- ---------------------------------------------------------------- the Names that a setting reports

of_breaking : (n : NameAt) (bytes : List ℕ) (l : List NameAt) → Among n (breaking bytes l) → Among n l
unfolding breaking
of_breaking n bytes [] h = h
of_breaking n bytes (x ∷ l) h = ⊎_elim (λ e. inl e) (λ g. inr (of_breaking n bytes l g)) (go (keeps_rule (take (x.end - x.start) (drop x.start bytes))) h)
  where
    go : (b : Bool) → Among n (cond b (breaking bytes l) (x ∷ breaking bytes l)) → Among n (x ∷ breaking bytes l)
    go true g = inr g
    go false g = g

-- each is a judged one of the tree
pub of_reported : (n : NameAt) (setting : ℕ) (bytes : List ℕ) (t : Tree) → Among n (reported_names setting bytes t) → Among n (judged false 0 0 t)
unfolding reported_names
of_reported n setting bytes t h = go (eqb setting OLD_SETTING) h
  where
    go : (b : Bool) → Among n (cond b [] (breaking bytes (judged false 0 0 t))) → Among n (judged false 0 0 t)
    go true g = absurd g
    go false g = of_breaking n bytes (judged false 0 0 t) g

-- ---------------------------------------------------------------- where judged Names stand

-- a leaf is one itself, or it is one of those after it
of_leaf : (n : NameAt) (under : Bool) (at byte k : ℕ) (ts : List Token) (f : Tree) → Among n (judged under at byte (leaf k ts f))
    → (n.first_token ≡ at) ⊎ Among n (judged under (at + length ts) (byte + byte_count ts) f)
unfolding judged
of_leaf n under at byte k ts f h = ⊎_elim (λ e. inl (ap (λ (x : NameAt). x.first_token) e)) (λ g. inr g) (in_front n _ (under && eqb k K.Name) _ h)

-- a node's children have it, or it is one of those after the node
of_node : (n : NameAt) (under : Bool) (at byte k : ℕ) (c f : Tree) → Among n (judged under at byte (subtree k c f))
    → Among n (judged (judges k c) at byte c) ⊎ Among n (judged under (at + token_count c) (byte + width c) f)
unfolding judged
of_node n under at byte k c f h = in_parts n (judged (judges k c) at byte c) _ h

-- they stand in their tree
abbrev Within : ℕ → Tree → NameAt → Type 0
Within at t n = (at ≤ n.first_token) × (n.first_token ≤ at + token_count t)

within : (n : NameAt) (under : Bool) (at byte : ℕ) (t : Tree) → Among n (judged under at byte t) → Within at t n
unfolding judged token_count
within n under at byte nil h = absurd h
within n under at byte (leaf k ts f) h =
    ⊎_elim (λ e. (omega arith, omega arith)) (λ g. let w = within n under (at + length ts) (byte + byte_count ts) f g in (omega (arith, w.0), omega (arith, w.1)))
    (of_leaf n under at byte k ts f h)
within n under at byte (subtree k c f) h =
    ⊎_elim (λ g. let w = within n (judges k c) at byte c g in (omega (arith, w.0), omega (arith, w.1)))
    (λ g. let w = within n under (at + token_count c) (byte + width c) f g in (omega (arith, w.0), omega (arith, w.1)))
    (of_node n under at byte k c f h)

-- ---------------------------------------------------------------- inside a DtExpr

module _ (names : List NameAt) where
  -- each stands before the tree, is one of the tree's, or stands after it
  record Known (under : Bool) (at byte : ℕ) (t : Tree) : Type 0 where
    side : (n : NameAt) → Among n names → (n.first_token ≤ at) ⊎ (Among n (judged under at byte t) ⊎ (at + token_count t ≤ n.first_token))

  past_leaf : (under : Bool) (at byte k : ℕ) (ts : List Token) (f : Tree) → Known under at byte (leaf k ts f) → Known under (at + length ts) (byte + byte_count ts) f
  unfolding token_count
  past_leaf under at byte k ts f h = record {
    side = λ n a. ⊎_elim (λ g. inl (omega arith)) (⊎_elim (λ g. ⊎_elim (λ e. inl (omega arith)) (λ m. inr (inl m)) (of_leaf n under at byte k ts f g)) (λ g. inr (inr (omega arith)))) (h.side n a);
  }

  in_children : (under : Bool) (at byte k : ℕ) (c f : Tree) → Known under at byte (subtree k c f) → Known (judges k c) at byte c
  unfolding token_count
  in_children under at byte k c f h =
      record {
        side = λ n a.
            ⊎_elim (λ g. inl g)
            (⊎_elim (λ g. inr (⊎_elim (λ m. inl m) (λ m. inr (within n under (at + token_count c) (byte + width c) f m).0) (of_node n under at byte k c f g)))
            (λ g. inr (inr (omega arith))))
            (h.side n a);
      }

  past_node : (under : Bool) (at byte k : ℕ) (c f : Tree) → Known under at byte (subtree k c f) → Known under (at + token_count c) (byte + width c) f
  unfolding token_count
  past_node under at byte k c f h =
      record {
        side = λ n a.
            ⊎_elim (λ g. inl (omega arith))
            (⊎_elim (λ g. ⊎_elim (λ m. inl (within n (judges k c) at byte c m).1) (λ m. inr (inl m)) (of_node n under at byte k c f g)) (λ g. inr (inr (omega arith))))
            (h.side n a);
      }

  -- Of a DtExpr with the children c, in a file of so many tokens, ts being those from the DtExpr on: where no Name
  -- under it is judged, none of these has its first token in it, the DtExpr's own first token apart.
  abbrev pub Apart : ℕ → List Token → Tree → Type 0
  Apart total ts c =
      ((at byte : ℕ) → judged false at byte c ≡ []) → (n : NameAt) → Among n names → total < n.first_token + length ts
      → n.first_token + length ts < total + length (leaves c) → ⊥

  apart_cell : (at byte : ℕ) (c : Tree) (total : ℕ) (ts : List Token) → total ≡ at + length ts → Known false at byte c → Apart total ts c
  apart_cell at byte c total ts e h none n a low high =
      ⊎_elim (λ g. omega arith) (⊎_elim (λ g. subst (Among n) (none at byte) g) (λ g. omega (arith, tokens_leaves c))) (h.side n a)

  apart : (under : Bool) (at byte : ℕ) (t : Tree) (total : ℕ) (ts : List Token) → total ≡ at + length ts → length (leaves t) ≤ length ts → Known under at byte t → Each (Apart total) ts t
  unfolding Each leaves judges
  apart under at byte nil total ts e g h = tt
  apart under at byte (leaf k raw f) total ts e g h =
      let x = length-append raw (leaves f) in
      let y = length-drop (length raw) ts in
      apart under (at + length raw) (byte + byte_count raw) f total (drop (length raw) ts) (omega arith) (omega arith) (past_leaf under at byte k raw f h)
  apart under at byte (subtree k c f) total ts e g h =
      let x = length-append (leaves c) (leaves f) in
      let y = length-drop (length (leaves c)) ts in
      let z = tokens_leaves c in (
        λ d. apart_cell at byte c total ts e (subst (λ (j : ℕ). Known (judges j c) at byte c) d (in_children under at byte k c f h)),
        apart (judges k c) at byte c total ts e (omega arith) (in_children under at byte k c f h),
        apart under (at + token_count c) (byte + width c) f total (drop (length (leaves c)) ts) (omega arith) (omega arith) (past_node under at byte k c f h),
      )

-- THE NAMES THAT A SETTING REPORTS stand so to each DtExpr of the whole tree
pub reported_apart : (setting : ℕ) (bytes : List ℕ) (t : Tree) (ts : List Token) → leaves t ≡ ts → Each (Apart (reported_names setting bytes t) (length ts)) ts t
reported_apart setting bytes t ts e =
    apart (reported_names setting bytes t) false 0 0 t (length ts) ts (omega arith) (omega (arith, ap length e))
    (record { side = λ n a. inr (inl (of_reported n setting bytes t a)) })
