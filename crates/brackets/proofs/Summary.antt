-- What is known of kinds side by side: flags, each of which, if it is set, holds of them. The flags of two pieces give
-- those of the whole, and the flags of children give those of their node, if the node may be closed.
use Prim.Native.Nat.{ℕ}
use mathlib.Core.Path.{◌≡◌, refl, ap, sym, ◌∙◌, subst}
use mathlib.Core.Logic.{◌⊎◌, inl, inr}
use mathlib.Core.Bool.{Bool, true, false, not, ◌&&◌, ◌||◌, false≢true}
use mathlib.Core.List.{List, [], ◌∷◌}
use lib.Dec.{eqb}
use Rattle.definitions.specs.TokenKind as K
use Rattle.basics.proofs.Tests.{and_left, and_right, and_both}
use Rattle.brackets.specs.Brackets.{Outline, end, leaf, node, is_end, first_leaf, begins, has_angle, no_bracket, first_only, last_only, children_proper, ListOf, cells, values, cell_branches, value_branches, expression, list_below, leaf_proper, node_proper, proper}
use Rattle.laws.proofs.FactsHold.{or_right}
use Rattle.laws.proofs.Leaves.{or_cases}
use Rattle.brackets.proofs.Bits.{at, Below, below_nil, below_cons}
use Rattle.brackets.proofs.Flat.{◌⊞◌, beside_end}

-- ---------------------------------------------------------------- flags

-- a single Ident; an Ident first, and then no LParen but the next one
unfoldable pub lone_name : Outline → Bool
unfolding is_end
lone_name end = false
lone_name (leaf k f) = eqb k K.Ident && is_end f
lone_name (node k c f) = false

unfoldable pub named : Outline → Bool
unfolding first_only
named end = false
named (leaf k f) = eqb k K.Ident && first_only f
named (node k c f) = false

-- after whatever d is not an LParen, or after anything, the first leaf is not an LParen
unfoldable pub starts_plain : ℕ → Outline → Bool
unfolding first_leaf
starts_plain d x = not (eqb (first_leaf x d) K.LParen)

unfoldable pub no_angle : Outline → Bool
unfolding has_angle
no_angle x = not (has_angle x)

pub record Sum : Type 0 where
  pub empty : Bool
  pub free : Bool
  pub first : Bool
  pub lone : Bool
  pub called : Bool
  pub last : Bool
  pub begun : Bool
  pub plain : Bool
  pub leads : Bool
  pub angleless : Bool
  pub in_cells : Bool
  pub in_values : Bool
  pub in_cell_branches : Bool
  pub in_value_branches : Bool
  pub in_expression : Bool

abbrev pub bits : Sum → List Bool
bits m =
    m.empty ∷ m.free ∷ m.first ∷ m.lone ∷ m.called ∷ m.last ∷ m.begun ∷ m.plain ∷ m.leads ∷ m.angleless ∷ m.in_cells ∷ m.in_values
    ∷ m.in_cell_branches ∷ m.in_value_branches ∷ m.in_expression ∷ []

-- all of them, of kinds that are known
unfoldable pub exact : Outline → Sum
unfolding is_end no_bracket first_only lone_name named last_only begins starts_plain no_angle proper
exact x =
    record {
      empty = is_end x;
      free = no_bracket x;
      first = first_only x;
      lone = lone_name x;
      called = named x;
      last = last_only x;
      begun = begins x;
      plain = starts_plain K.Whitespace x;
      leads = starts_plain K.LParen x;
      angleless = no_angle x;
      in_cells = proper cells x;
      in_values = proper values x;
      in_cell_branches = proper cell_branches x;
      in_value_branches = proper value_branches x;
      in_expression = proper expression x;
    }

pub record Sums (m : Sum) (x : Outline) : Type 0 where
  pub flags : Below (bits m) (bits (exact x))

-- ---------------------------------------------------------------- one piece after another

pub nothing_there : (p : Outline) → is_end p ≡ true → p ≡ end
unfolding is_end
nothing_there end e = refl
nothing_there (leaf k f) e = absurd (false≢true e)
nothing_there (node k c f) e = absurd (false≢true e)

-- where nothing stands before, or after
before_it : (P : Outline → Bool) (p q : Outline) → is_end p ≡ true → P q ≡ true → P (p ⊞ q) ≡ true
unfolding ◌⊞◌
before_it P p q e h = subst (λ (x : Outline). P (x ⊞ q) ≡ true) (sym (nothing_there p e)) h

after_it : (P : Outline → Bool) (p q : Outline) → is_end q ≡ true → P p ≡ true → P (p ⊞ q) ≡ true
after_it P p q e h = subst (λ (x : Outline). P (p ⊞ x) ≡ true) (sym (nothing_there q e)) (subst (λ (x : Outline). P x ≡ true) (sym (beside_end p)) h)

free_join : (p q : Outline) → no_bracket p ≡ true → no_bracket q ≡ true → no_bracket (p ⊞ q) ≡ true
unfolding no_bracket ◌⊞◌
free_join end q e f = f
free_join (leaf k p) q e f = and_both (and_left (not (eqb k K.LParen)) _ e) (free_join p q (and_right (not (eqb k K.LParen)) _ e) f)
free_join (node k c p) q e f = free_join p q e f

first_join : (p q : Outline) → first_only p ≡ true → no_bracket q ≡ true → first_only (p ⊞ q) ≡ true
unfolding first_only no_bracket ◌⊞◌
first_join end end e f = refl
first_join end (leaf k q) e f = and_right (not (eqb k K.LParen)) _ f
first_join end (node k c q) e f = f
first_join (leaf k p) q e f = free_join p q e f
first_join (node k c p) q e f = free_join p q e f

named_join : (p q : Outline) → named p ≡ true → no_bracket q ≡ true → named (p ⊞ q) ≡ true
unfolding named ◌⊞◌
named_join end q e f = absurd (false≢true e)
named_join (leaf k p) q e f = and_both (and_left (eqb k K.Ident) _ e) (first_join p q (and_right (eqb k K.Ident) _ e) f)
named_join (node k c p) q e f = absurd (false≢true e)

lone_join : (p q : Outline) → lone_name p ≡ true → first_only q ≡ true → named (p ⊞ q) ≡ true
unfolding named lone_name ◌⊞◌
lone_join end q e f = absurd (false≢true e)
lone_join (leaf k p) q e f = and_both (and_left (eqb k K.Ident) _ e) (before_it first_only p q (and_right (eqb k K.Ident) _ e) f)
lone_join (node k c p) q e f = absurd (false≢true e)

last_join : (p q : Outline) → no_bracket p ≡ true → last_only q ≡ true → last_only (p ⊞ q) ≡ true
unfolding no_bracket last_only ◌⊞◌
last_join end q e f = f
last_join (leaf k p) q e f = and_both (or_right (is_end (p ⊞ q)) _ (and_left (not (eqb k K.LParen)) _ e)) (last_join p q (and_right (not (eqb k K.LParen)) _ e) f)
last_join (node k c p) q e f = last_join p q e f

begins_join : (p q : Outline) → begins p ≡ true → begins (p ⊞ q) ≡ true
unfolding begins ◌⊞◌
begins_join end q e = absurd (false≢true e)
begins_join (leaf k p) q e = e
begins_join (node k c p) q e = absurd (false≢true e)

empty_join : (p q : Outline) → is_end p ≡ true → is_end q ≡ true → is_end (p ⊞ q) ≡ true
empty_join p q e f = before_it is_end p q e f

angle_join : (p q : Outline) → no_angle p ≡ true → no_angle q ≡ true → no_angle (p ⊞ q) ≡ true
unfolding no_angle has_angle ◌⊞◌
angle_join end q e f = f
angle_join (leaf k p) q e f = go (eqb k K.LAngle) e (λ h. angle_join p q h f)
  where
    go : (b : Bool) → not (b || has_angle p) ≡ true → (not (has_angle p) ≡ true → not (has_angle (p ⊞ q)) ≡ true) → not (b || has_angle (p ⊞ q)) ≡ true
    go true h ih = absurd (false≢true h)
    go false h ih = ih h
angle_join (node k c p) q e f = angle_join p q e f

pub fits_join : (x : ListOf) (p q : Outline) → proper x p ≡ true → proper x q ≡ true → proper x (p ⊞ q) ≡ true
unfolding proper ◌⊞◌
fits_join x end q e f = f
fits_join x (leaf k p) q e f = and_both (and_left (leaf_proper x k) _ e) (fits_join x p q (and_right (leaf_proper x k) _ e) f)
fits_join x (node k c p) q e f =
    let e₁ = and_right (node_proper x k c) _ e in
    let e₂ = and_right (children_proper k c) _ e₁ in
    and_both (and_left (node_proper x k c) _ e)
    (and_both (and_left (children_proper k c) _ e₁)
    (and_both (and_left (proper (list_below x k (has_angle c)) c) _ e₂) (fits_join x p q (and_right (proper (list_below x k (has_angle c)) c) _ e₂) f)))

-- ---------------------------------------------------------------- the first leaf

leaf_join : (p q : Outline) (d : ℕ) → first_leaf (p ⊞ q) d ≡ first_leaf p (first_leaf q d)
unfolding first_leaf ◌⊞◌
leaf_join end q d = refl
leaf_join (leaf k p) q d = refl
leaf_join (node k c p) q d = ap (first_leaf c) (leaf_join p q d)

-- there is none, or it is the same whatever follows
none_or_one : (p : Outline) → ((d : ℕ) → first_leaf p d ≡ d) ⊎ ((d e : ℕ) → first_leaf p d ≡ first_leaf p e)
unfolding first_leaf
none_or_one end = inl (λ d. refl)
none_or_one (leaf k p) = inr (λ d e. refl)
none_or_one (node k c p) = go (none_or_one c) (none_or_one p)
  where
    go : ((d : ℕ) → first_leaf c d ≡ d) ⊎ ((d e : ℕ) → first_leaf c d ≡ first_leaf c e) → ((d : ℕ) → first_leaf p d ≡ d) ⊎ ((d e : ℕ) → first_leaf p d ≡ first_leaf p e)
        → ((d : ℕ) → first_leaf c (first_leaf p d) ≡ d) ⊎ ((d e : ℕ) → first_leaf c (first_leaf p d) ≡ first_leaf c (first_leaf p e))
    go (inr f) g = inr (λ d e. f (first_leaf p d) (first_leaf p e))
    go (inl f) (inl g) = inl (λ d. f (first_leaf p d) ∙ g d)
    go (inl f) (inr g) = inr (λ d e. ap (first_leaf c) (g d e))

abbrev Plain : ℕ → Type 0
Plain k = not (eqb k K.LParen) ≡ true

plain_after : (p : Outline) (d : ℕ) → starts_plain K.Whitespace p ≡ true → Plain d → Plain (first_leaf p d)
unfolding starts_plain
plain_after p d e h = go (none_or_one p)
  where
    go : ((d : ℕ) → first_leaf p d ≡ d) ⊎ ((d e : ℕ) → first_leaf p d ≡ first_leaf p e) → Plain (first_leaf p d)
    go (inl f) = subst Plain (sym (f d)) h
    go (inr f) = subst Plain (f K.Whitespace d) e

leads_always : (p : Outline) (d : ℕ) → starts_plain K.LParen p ≡ true → Plain (first_leaf p d)
unfolding starts_plain
leads_always p d e = go (none_or_one p)
  where
    go : ((d : ℕ) → first_leaf p d ≡ d) ⊎ ((d e : ℕ) → first_leaf p d ≡ first_leaf p e) → Plain (first_leaf p d)
    go (inl f) = absurd (false≢true (subst Plain (f K.LParen) e))
    go (inr f) = subst Plain (f K.LParen d) e

starts_join : (d : ℕ) (p q : Outline) → Plain (first_leaf p (first_leaf q d)) → starts_plain d (p ⊞ q) ≡ true
unfolding starts_plain
starts_join d p q h = subst Plain (sym (leaf_join p q d)) h

-- ---------------------------------------------------------------- the flags of the whole

unfoldable pub concat : Sum → Sum → Sum
concat m n =
    record {
      empty = m.empty && n.empty;
      free = m.free && n.free;
      first = (m.first && n.free) || (m.empty && n.first);
      lone = (m.lone && n.empty) || (m.empty && n.lone);
      called = (m.called && n.free) || ((m.lone && n.first) || (m.empty && n.called));
      last = (m.free && n.last) || (m.last && n.empty);
      begun = m.begun || (m.empty && n.begun);
      plain = m.leads || (m.plain && n.plain);
      leads = m.leads || (m.plain && n.leads);
      angleless = m.angleless && n.angleless;
      in_cells = m.in_cells && n.in_cells;
      in_values = m.in_values && n.in_values;
      in_cell_branches = m.in_cell_branches && n.in_cell_branches;
      in_value_branches = m.in_value_branches && n.in_value_branches;
      in_expression = m.in_expression && n.in_expression;
    }

pair : {P : Type 0} (a b : Bool) → (a && b) ≡ true → (a ≡ true → b ≡ true → P) → P
pair a b e f = f (and_left a b e) (and_right a b e)

module _ (m n : Sum) (p q : Outline) (h : Sums m p) (g : Sums n q) where
  abbrev ha : (i : ℕ) → at i (bits m) ≡ true → at i (bits (exact p)) ≡ true
  ha i e = h.flags.holds i e

  abbrev ga : (i : ℕ) → at i (bits n) ≡ true → at i (bits (exact q)) ≡ true
  ga i e = g.flags.holds i e

  first_flag : (concat m n).first ≡ true → first_only (p ⊞ q) ≡ true
  unfolding concat exact
  first_flag e =
      or_cases (m.first && n.free) (m.empty && n.first) e (λ z. pair _ _ z (λ a b. first_join p q (ha 2 a) (ga 1 b)))
      (λ z. pair _ _ z (λ a b. before_it first_only p q (ha 0 a) (ga 2 b)))

  lone_flag : (concat m n).lone ≡ true → lone_name (p ⊞ q) ≡ true
  unfolding concat exact
  lone_flag e =
      or_cases (m.lone && n.empty) (m.empty && n.lone) e (λ z. pair _ _ z (λ a b. after_it lone_name p q (ga 0 b) (ha 3 a)))
      (λ z. pair _ _ z (λ a b. before_it lone_name p q (ha 0 a) (ga 3 b)))

  called_flag : (concat m n).called ≡ true → named (p ⊞ q) ≡ true
  unfolding concat exact
  called_flag e =
      or_cases (m.called && n.free) ((m.lone && n.first) || (m.empty && n.called)) e (λ z. pair _ _ z (λ a b. named_join p q (ha 4 a) (ga 1 b)))
      (λ y. or_cases (m.lone && n.first) (m.empty && n.called) y (λ z. pair _ _ z (λ a b. lone_join p q (ha 3 a) (ga 2 b)))
      (λ z. pair _ _ z (λ a b. before_it named p q (ha 0 a) (ga 4 b))))

  last_flag : (concat m n).last ≡ true → last_only (p ⊞ q) ≡ true
  unfolding concat exact
  last_flag e =
      or_cases (m.free && n.last) (m.last && n.empty) e (λ z. pair _ _ z (λ a b. last_join p q (ha 1 a) (ga 5 b)))
      (λ z. pair _ _ z (λ a b. after_it last_only p q (ga 0 b) (ha 5 a)))

  begun_flag : (concat m n).begun ≡ true → begins (p ⊞ q) ≡ true
  unfolding concat exact
  begun_flag e =
      or_cases m.begun (m.empty && n.begun) e (λ a. begins_join p q (ha 6 a)) (λ z. pair _ _ z (λ a b. before_it begins p q (ha 0 a) (ga 6 b)))

  plain_flag : (concat m n).plain ≡ true → starts_plain K.Whitespace (p ⊞ q) ≡ true
  unfolding concat exact starts_plain
  plain_flag e =
      starts_join K.Whitespace p q
      (or_cases m.leads (m.plain && n.plain) e (λ a. leads_always p (first_leaf q K.Whitespace) (ha 8 a))
      (λ z. pair _ _ z (λ a b. plain_after p (first_leaf q K.Whitespace) (ha 7 a) (ga 7 b))))

  leads_flag : (concat m n).leads ≡ true → starts_plain K.LParen (p ⊞ q) ≡ true
  unfolding concat exact starts_plain
  leads_flag e =
      starts_join K.LParen p q
      (or_cases m.leads (m.plain && n.leads) e (λ a. leads_always p (first_leaf q K.LParen) (ha 8 a))
      (λ z. pair _ _ z (λ a b. plain_after p (first_leaf q K.LParen) (ha 7 a) (ga 8 b))))

  -- THE FLAGS OF THE WHOLE
  pub sums_join : Sums (concat m n) (p ⊞ q)
  unfolding concat exact
  sums_join =
      record {
        flags =
            below_cons (λ e. pair _ _ e (λ a b. empty_join p q (ha 0 a) (ga 0 b)))
            (below_cons (λ e. pair _ _ e (λ a b. free_join p q (ha 1 a) (ga 1 b)))
            (below_cons first_flag
            (below_cons lone_flag
            (below_cons called_flag
            (below_cons last_flag
            (below_cons begun_flag
            (below_cons plain_flag
            (below_cons leads_flag
            (below_cons (λ e. pair _ _ e (λ a b. angle_join p q (ha 9 a) (ga 9 b)))
            (below_cons (λ e. pair _ _ e (λ a b. fits_join cells p q (ha 10 a) (ga 10 b)))
            (below_cons (λ e. pair _ _ e (λ a b. fits_join values p q (ha 11 a) (ga 11 b)))
            (below_cons (λ e. pair _ _ e (λ a b. fits_join cell_branches p q (ha 12 a) (ga 12 b)))
            (below_cons (λ e. pair _ _ e (λ a b. fits_join value_branches p q (ha 13 a) (ga 13 b)))
            (below_cons (λ e. pair _ _ e (λ a b. fits_join expression p q (ha 14 a) (ga 14 b))) (below_nil _)))))))))))))));
      }
