-- The Names that the definitions judge (`judged`) are those that a reader of the tree's rows finds (`Judged`), both
-- ways; and their first tokens rise.
use Prim.Native.Nat.{ℕ, suc, ◌+◌, ◌≤◌}
use native.Mathlib.Omega.{arith}
use mathlib.Core.Path.{◌≡◌, refl, ap, sym, ◌∙◌, subst}
use mathlib.Core.Bool.{Bool, true, false, cond, not, ◌&&◌}
use mathlib.Core.List.{List, ◌∷◌, ◌++◌}
use mathlib.Core.Logic.{◌⊎◌, inl, inr}
use lib.Dec.{eqb}
use lib.ListN.{length}
use borrow.Author.Tests.{eqb-true, eq-eqb}
use Rattle.definitions.specs.TokenKind as K
use Rattle.definitions.specs.NodeKind as N
use Rattle.definitions.specs.Token.{Token, byte_count}
use Rattle.definitions.specs.Place.{Tree, nil, leaf, subtree, width, count}
use Rattle.definitions.specs.Strict.{NameAt, has_lcurly, judges, token_count, judged}
use Rattle.basics.proofs.Tests.{and_left, and_right, cond-with}
use Rattle.laws.specs.TreeRows.{Rows, end, node}
use Rattle.laws.specs.TreeRows as R
use Rattle.laws.specs.Lossless.{KindOf, one_token, a_name}
use Rattle.laws.proofs.Decode.{shown}
use Rattle.laws.proofs.Leaves.{Right}
use Rattle.strict.specs.Exactly.{raw_tokens, Unbraced, NameAmong, here, Judged, in_label, in_phandle, deeper, past_leaf, past_node}
use Rattle.strict.proofs.Rule.{Says, says_true, says_and, says_or, says_eqb, unbraced_says}
use Rattle.strict.proofs.Listed.{At, first, later, at_left, at_right, All, all_append, all_by, Rising, rising_none, rising_with, rising_append}

same_tokens : (t : Tree) → token_count t ≡ raw_tokens (shown t)
unfolding token_count raw_tokens shown
same_tokens nil = refl
same_tokens (leaf k ts f) = ap (length ts +◌) (same_tokens f)
same_tokens (subtree k c f) = ap (◌+ token_count f) (same_tokens c) ∙ ap (raw_tokens (shown c) +◌) (same_tokens f)

judges_says : (k : ℕ) (c : Tree) → Says (judges k c) ((k ≡ N.DtLabel) ⊎ ((k ≡ N.DtPhandle) × Unbraced (shown c)))
unfolding judges
judges_says k c =
    says_or (eqb k N.DtLabel) (eqb k N.DtPhandle && not (has_lcurly c)) (says_eqb k N.DtLabel)
    (says_and (eqb k N.DtPhandle) (not (has_lcurly c)) (says_eqb k N.DtPhandle) (unbraced_says c))

-- ---------------------------------------------------------------- each that is judged is found

-- where a Name stands in rows. under: these stand directly under a judging node.
pub data Stands (under : Bool) (r : Rows) (w a y : ℕ) : Type 0 where
  directly : under ≡ true → NameAmong w a y r → Stands under r w a y
  further : Judged w a y r → Stands under r w a y

-- a Name of the definitions, found in rows that start at a token index and a byte
pub record Found (P : ℕ → ℕ → ℕ → Type 0) (at byte : ℕ) (m : NameAt) : Type 0 where
  pub tokens : ℕ
  pub bytes : ℕ
  pub covers : ℕ
  pub stands : P covers tokens bytes
  pub first_token : m.first_token ≡ at + tokens
  pub start : m.start ≡ byte + bytes
  pub end : m.end ≡ byte + bytes + covers

-- past so many tokens and bytes
past : {P Q : ℕ → ℕ → ℕ → Type 0} {at byte : ℕ} (n w : ℕ) → ((v a y : ℕ) → P v a y → Q v (n + a) (w + y))
    → (m : NameAt) → Found P (at + n) (byte + w) m → Found Q at byte m
past n w f m h =
    record {
      tokens = n + h.tokens;
      bytes = w + h.bytes;
      covers = h.covers;
      stands = f _ _ _ h.stands;
      first_token = omega (arith, h.first_token);
      start = omega (arith, h.start);
      end = omega (arith, h.end);
    }

beside_leaf : (under : Bool) (k w n v a y : ℕ) (f : Rows) → Stands under f v a y → Stands under (R.leaf k w n f) v (n + a) (w + y)
beside_leaf under k w n v a y f (directly e h) = directly e (past_leaf h)
beside_leaf under k w n v a y f (further h) = further (past_leaf h)

beside_node : (under : Bool) (k w n v a y : ℕ) (c f : Rows) → Stands under f v a y → Stands under (node k w n c f) v (raw_tokens c + a) (w + y)
beside_node under k w n v a y c f (directly e h) = directly e (past_node h)
beside_node under k w n v a y c f (further h) = further (past_node h)

-- inside a node
inside : (under : Bool) (k n v a y : ℕ) (c : Tree) (f : Rows) → Stands (judges k c) (shown c) v a y → Stands under (node k (width c) n (shown c) f) v a y
inside under k n v a y c f (further h) = further (deeper h)
inside under k n v a y c f (directly e h) = further (by_kind ((judges_says k c).yes e))
  where
    by_kind : (k ≡ N.DtLabel) ⊎ ((k ≡ N.DtPhandle) × Unbraced (shown c)) → Judged v a y (node k (width c) n (shown c) f)
    by_kind (inl q) = subst (λ (i : ℕ). Judged v a y (node i (width c) n (shown c) f)) (sym q) (in_label h)
    by_kind (inr q) = subst (λ (i : ℕ). Judged v a y (node i (width c) n (shown c) f)) (sym q.0) (in_phandle h q.1)

abbrev pub In : Bool → Tree → ℕ → ℕ → NameAt → Type 0
In under t at byte m = Found (Stands under (shown t)) at byte m

-- a leaf that is a Name directly under a judging node
this_name : (under : Bool) (at byte k : ℕ) (ts : List Token) (f : Tree) → under ≡ true → k ≡ K.Name
    → In under (leaf k ts f) at byte (record { first_token = at; start = byte; end = byte + byte_count ts })
unfolding shown
this_name under at byte k ts f u q =
    record {
      tokens = 0;
      bytes = 0;
      covers = byte_count ts;
      stands = subst (λ (i : ℕ). Stands under (R.leaf i (byte_count ts) (length ts) (shown f)) (byte_count ts) 0 0) (sym q) (directly u here);
      first_token = omega arith;
      start = omega arith;
      end = omega arith;
    }

past_this : (under : Bool) (at byte k : ℕ) (ts : List Token) (f : Tree) (l : List NameAt) → All (In under f (at + length ts) (byte + byte_count ts)) l
    → All (In under (leaf k ts f) at byte) l
unfolding shown
past_this under at byte k ts f l h = all_by (past (length ts) (byte_count ts) (λ v a y. beside_leaf under k (byte_count ts) (length ts) v a y (shown f))) l h

down : (under : Bool) (at byte k : ℕ) (c f : Tree) (m : NameAt) → In (judges k c) c at byte m → In under (subtree k c f) at byte m
unfolding shown
down under at byte k c f m h =
    record {
      tokens = h.tokens;
      bytes = h.bytes;
      covers = h.covers;
      stands = inside under k (count c) h.covers h.tokens h.bytes c (shown f) h.stands;
      first_token = h.first_token;
      start = h.start;
      end = h.end;
    }

on : (under : Bool) (k : ℕ) (c f : Tree) (v a y : ℕ) → Stands under (shown f) v a y → Stands under (shown (subtree k c f)) v (token_count c + a) (width c + y)
unfolding shown
on under k c f v a y h =
    subst (λ (n : ℕ). Stands under (shown (subtree k c f)) v (n + a) (width c + y)) (sym (same_tokens c))
    (beside_node under k (width c) (count c) v a y (shown c) (shown f) h)

pub found : (under : Bool) (at byte : ℕ) (t : Tree) → All (In under t at byte) (judged under at byte t)
unfolding judged All
found under at byte nil = tt
found under at byte (leaf k ts f) =
    let more = past_this under at byte k ts f (judged under (at + length ts) (byte + byte_count ts) f) (found under (at + length ts) (byte + byte_count ts) f) in
    cond-with (All (In under (leaf k ts f) at byte)) (under && eqb k K.Name)
    {x = record { first_token = at; start = byte; end = byte + byte_count ts } ∷ judged under (at + length ts) (byte + byte_count ts) f}
    {y = judged under (at + length ts) (byte + byte_count ts) f}
    (λ e. (this_name under at byte k ts f (and_left under (eqb k K.Name) e) (eqb-true k K.Name (and_right under (eqb k K.Name) e)), more)) (λ e. more)
found under at byte (subtree k c f) =
    all_append (In under (subtree k c f) at byte) (judged (judges k c) at byte c) (judged under (at + token_count c) (byte + width c) f)
    (all_by (down under at byte k c f) (judged (judges k c) at byte c) (found (judges k c) at byte c))
    (all_by (past (token_count c) (width c) (on under k c f)) (judged under (at + token_count c) (byte + width c) f) (found under (at + token_count c) (byte + width c) f))

-- ---------------------------------------------------------------- each that is found is judged

-- a Name with these numbers is in a list
pub record Listed (at byte w : ℕ) (l : List NameAt) : Type 0 where
  pub index : ℕ
  pub name : NameAt
  pub stands : At name index l
  pub first_token : name.first_token ≡ at
  pub start : name.start ≡ byte
  pub end : name.end ≡ byte + w

-- the same with equal numbers, in a list that has all of the other's
moved : {at byte at' byte' w : ℕ} {l m : List NameAt} → at ≡ at' → byte ≡ byte' → ((n : NameAt) (j : ℕ) → At n j l → (i : ℕ) × At n i m) → Listed at byte w l → Listed at' byte' w m
moved p q f h =
    let g = f h.name h.index h.stands in
    record { index = g.0; name = h.name; stands = g.1; first_token = h.first_token ∙ p; start = h.start ∙ q; end = omega (arith, q, h.end) }

in_cond : (b : Bool) (x : NameAt) (l : List NameAt) (n : NameAt) (j : ℕ) → At n j l → (i : ℕ) × At n i (cond b (x ∷ l) l)
in_cond true x l n j h = (suc j, later h)
in_cond false x l n j h = (j, h)

-- a Name further on, past so many tokens and bytes
abbrev pub Past : (ℕ → ℕ → Type 0) → ℕ → ℕ → ℕ → ℕ → Type 0
Past P n w a y = (a' : ℕ) × (y' : ℕ) × (a ≡ n + a') × (y ≡ w + y') × P a' y'

-- the ways in which a Name can stand among rows
abbrev pub Ways : ℕ → ℕ → ℕ → Rows → Type 0
Ways v a y end = ⊥
Ways v a y (R.leaf k w n f) = ((k ≡ K.Name) × (v ≡ w) × (a ≡ 0) × (y ≡ 0)) ⊎ Past (λ a' y'. NameAmong v a' y' f) n w a y
Ways v a y (node k w n c f) = Past (λ a' y'. NameAmong v a' y' f) (raw_tokens c) w a y

pub ways : {v a y : ℕ} {r : Rows} → NameAmong v a y r → Ways v a y r
ways here = inl (refl, refl, refl, refl)
ways (past_leaf {at} {byte} h) = inr (at, byte, refl, refl, h)
ways (past_node {at} {byte} h) = (at, byte, refl, refl, h)

abbrev pub JudgedWays : ℕ → ℕ → ℕ → Rows → Type 0
JudgedWays v a y end = ⊥
JudgedWays v a y (R.leaf k w n f) = Past (λ a' y'. Judged v a' y' f) n w a y
JudgedWays v a y (node k w n c f) =
    (((k ≡ N.DtLabel) ⊎ ((k ≡ N.DtPhandle) × Unbraced c)) × NameAmong v a y c) ⊎ (Judged v a y c ⊎ Past (λ a' y'. Judged v a' y' f) (raw_tokens c) w a y)

pub judged_ways : {v a y : ℕ} {r : Rows} → Judged v a y r → JudgedWays v a y r
judged_ways (in_label h) = inl (inl refl, h)
judged_ways (in_phandle h g) = inl (inr (refl, g), h)
judged_ways (deeper h) = inr (inl h)
judged_ways (past_leaf {at} {byte} h) = (at, byte, refl, refl, h)
judged_ways (past_node {at} {byte} h) = inr (inr (at, byte, refl, refl, h))

among_listed : (at byte v a y : ℕ) (t : Tree) → NameAmong v a y (shown t) → Listed (at + a) (byte + y) v (judged true at byte t)
unfolding judged shown
among_listed at byte v a y nil h = absurd (ways h)
among_listed at byte v a y (leaf k ts f) h = by_way (ways h) (λ a' y'. among_listed (at + length ts) (byte + byte_count ts) v a' y' f)
  where
    more : List NameAt
    more = judged true (at + length ts) (byte + byte_count ts) f

    this : NameAt
    this = record { first_token = at; start = byte; end = byte + byte_count ts }

    by_way : Ways v a y (R.leaf k (byte_count ts) (length ts) (shown f))
        → ((a' y' : ℕ) → NameAmong v a' y' (shown f) → Listed (at + length ts + a') (byte + byte_count ts + y') v more)
        → Listed (at + a) (byte + y) v (cond (eqb k K.Name) (this ∷ more) more)
    by_way (inl (q, w, e, d)) go =
        subst (λ (b : Bool). Listed (at + a) (byte + y) v (cond b (this ∷ more) more)) (sym (eq-eqb k K.Name q))
        (record { index = 0; name = this; stands = first; first_token = omega arith; start = omega arith; end = omega arith })
    by_way (inr (a', y', e, d, g)) go = moved (omega arith) (omega arith) (in_cond (eqb k K.Name) this more) (go a' y' g)
among_listed at byte v a y (subtree k c f) h =
    let w : Past (λ a' y'. NameAmong v a' y' (shown f)) (raw_tokens (shown c)) (width c) a y = ways h in
    moved (omega (arith, same_tokens c)) (omega arith) (λ n j. at_right (judged (judges k c) at byte c))
    (among_listed (at + token_count c) (byte + width c) v w.0 w.1 f w.4)

pub judged_listed : (under : Bool) (at byte v a y : ℕ) (t : Tree) → Judged v a y (shown t) → Listed (at + a) (byte + y) v (judged under at byte t)
unfolding judged shown
judged_listed under at byte v a y nil h = absurd (judged_ways h)
judged_listed under at byte v a y (leaf k ts f) h =
    let w : Past (λ a' y'. Judged v a' y' (shown f)) (length ts) (byte_count ts) a y = judged_ways h in
    moved (omega arith) (omega arith) (in_cond (under && eqb k K.Name) _ (judged under (at + length ts) (byte + byte_count ts) f))
    (judged_listed under (at + length ts) (byte + byte_count ts) v w.0 w.1 f w.4)
judged_listed under at byte v a y (subtree k c f) h =
    by_way (judged_ways h) (judged_listed (judges k c) at byte v a y c) (λ a' y'. judged_listed under (at + token_count c) (byte + width c) v a' y' f)
  where
    all : List NameAt
    all = judged (judges k c) at byte c ++ judged under (at + token_count c) (byte + width c) f

    -- those inside come first
    left : Listed (at + a) (byte + y) v (judged (judges k c) at byte c) → Listed (at + a) (byte + y) v all
    left h = moved refl refl (λ n j g. (j, at_left (judged under (at + token_count c) (byte + width c) f) g)) h

    by_way : JudgedWays v a y (node k (width c) (count c) (shown c) (shown f))
        → (Judged v a y (shown c) → Listed (at + a) (byte + y) v (judged (judges k c) at byte c))
        → ((a' y' : ℕ) → Judged v a' y' (shown f) → Listed (at + token_count c + a') (byte + width c + y') v (judged under (at + token_count c) (byte + width c) f))
        → Listed (at + a) (byte + y) v all
    by_way (inl (q, g)) go more =
        left
        (subst (λ (b : Bool). Listed (at + a) (byte + y) v (judged b at byte c)) (sym (says_true (judges k c) (judges_says k c) q))
        (among_listed at byte v a y c g))
    by_way (inr (inl g)) go more = left (go g)
    by_way (inr (inr (a', y', e, d, g))) go more =
        moved (omega (arith, same_tokens c)) (omega arith) (λ n j. at_right (judged (judges k c) at byte c)) (more a' y' g)

-- ---------------------------------------------------------------- in order

some_token : {k : ℕ} {raw : List Token} → KindOf k raw → 1 ≤ length raw
some_token (one_token t e) = omega arith
some_token (a_name t ts e h) = omega arith

pub rises : (under : Bool) (at byte : ℕ) (t : Tree) → Right t → Rising at (at + token_count t) (judged under at byte t)
unfolding judged token_count Right
rises under at byte nil h = rising_none at (at + 0) (omega arith)
rises under at byte (leaf k ts f) h =
    let e : at + length ts + token_count f ≡ at + (length ts + token_count f) = omega arith in
    rising_with (under && eqb k K.Name) at (at + (length ts + token_count f)) (length ts) (record { first_token = at; start = byte; end = byte + byte_count ts })
    (judged under (at + length ts) (byte + byte_count ts) f) (some_token h.0) refl
    (subst (λ (hi : ℕ). Rising (at + length ts) hi (judged under (at + length ts) (byte + byte_count ts) f)) e
    (rises under (at + length ts) (byte + byte_count ts) f h.1))
rises under at byte (subtree k c f) h =
    let e : at + token_count c + token_count f ≡ at + (token_count c + token_count f) = omega arith in
    rising_append at (at + token_count c) (at + (token_count c + token_count f)) (judged (judges k c) at byte c) (judged under (at + token_count c) (byte + width c) f)
    (rises (judges k c) at byte c h.0)
    (subst (λ (hi : ℕ). Rising (at + token_count c) hi (judged under (at + token_count c) (byte + width c) f)) e
    (rises under (at + token_count c) (byte + width c) f h.1))
