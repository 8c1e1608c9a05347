-- A marker completed: from the flags of what stands in it, whether it may become a node of a kind, and the flags of
-- that node.
use Prim.Native.Nat.{ℕ}
use mathlib.Core.Path.{◌≡◌, refl, ap, sym, ◌∙◌}
use mathlib.Core.Bool.{Bool, true, false, cond, not, ◌&&◌, ◌||◌, false≢true}
use mathlib.Core.List.{[], ◌∷◌}
use lib.Dec.{eqb}
use Rattle.definitions.specs.TokenKind as K
use Rattle.definitions.specs.NodeKind as N
use Rattle.definitions.specs.Token.{one_of}
use Rattle.basics.proofs.Tests.{and_left, and_right, and_both}
use Rattle.brackets.specs.Brackets.{Outline, end, leaf, node, is_end, first_leaf, starts_open, begins, has_angle, no_bracket, first_only, after_name, last_only, children_proper, ListOf, cells, values, cell_branches, value_branches, expression, elsewhere, list_below, node_proper, proper}
use Rattle.laws.proofs.FactsHold.{or_left, or_right}
use Rattle.laws.proofs.Leaves.{or_cases}
use Rattle.brackets.proofs.Bits.{at, below_nil, below_cons}
use Rattle.brackets.proofs.Summary.{lone_name, named, starts_plain, no_angle, Sum, bits, exact, Sums}

-- ---------------------------------------------------------------- what is asked

-- what stands in it fits x
abbrev pub within : Sum → ListOf → Bool
within m cells = m.in_cells
within m values = m.in_values
within m cell_branches = m.in_cell_branches
within m value_branches = m.in_value_branches
within m expression = m.in_expression
within m elsewhere = true

-- it fits where a node of kind k that stands in x puts it
unfoldable pub node_in : ListOf → ℕ → Sum → Bool
unfolding list_below
node_in x k m = within m (list_below x k false) && (m.angleless || within m (list_below x k true))

unfoldable pub children_ok : ℕ → Sum → Bool
unfolding one_of
children_ok k m =
    cond (one_of (N.DtExpr ∷ N.ParenExpr ∷ []) k) m.first
    (cond (eqb k N.MacroInvocation) (m.free || m.called) (cond (eqb k N.MacroArgument) true (cond (eqb k N.ParseError) m.last m.free)))

unfoldable pub closing_ok : ℕ → Sum → Bool
unfolding children_ok node_in
closing_ok k m = children_ok k m && node_in elsewhere k m

unfoldable pub close : ℕ → Sum → Sum
unfolding node_in
close k m =
    record {
      empty = false;
      free = true;
      first = true;
      lone = false;
      called = false;
      last = true;
      begun = false;
      plain = m.plain;
      leads = m.leads;
      angleless = true;
      in_cells = (m.plain || (eqb k N.DtExpr && m.begun)) && node_in cells k m;
      in_values = node_in values k m;
      in_cell_branches = node_in cell_branches k m;
      in_value_branches = node_in value_branches k m;
      in_expression = (not (eqb k N.ParseError) || m.free) && node_in expression k m;
    }

-- ---------------------------------------------------------------- what holds

free_named : (c : Outline) → no_bracket c ≡ true → after_name c ≡ true
unfolding after_name no_bracket
free_named end e = refl
free_named (leaf k f) e = or_right (eqb k K.Ident && first_only f) _ e
free_named (node k c f) e = e

called_named : (c : Outline) → named c ≡ true → after_name c ≡ true
unfolding after_name named
called_named end e = absurd (false≢true e)
called_named (leaf k f) e = or_left _ _ e
called_named (node k c f) e = absurd (false≢true e)

cond_map : (b : Bool) {x y z w : Bool} → (x ≡ true → z ≡ true) → (y ≡ true → w ≡ true) → cond b x y ≡ true → cond b z w ≡ true
cond_map true f g e = f e
cond_map false f g e = g e

module _ (m : Sum) (c : Outline) (h : Sums m c) (fit : proper elsewhere c ≡ true) where
  abbrev flag : (i : ℕ) → at i (bits m) ≡ true → at i (bits (exact c)) ≡ true
  flag i e = h.flags.holds i e

  pub within_fits : (x : ListOf) → within m x ≡ true → proper x c ≡ true
  unfolding exact
  within_fits cells e = flag 10 e
  within_fits values e = flag 11 e
  within_fits cell_branches e = flag 12 e
  within_fits value_branches e = flag 13 e
  within_fits expression e = flag 14 e
  within_fits elsewhere e = fit

  node_in_fits : (x : ListOf) (k : ℕ) → node_in x k m ≡ true → proper (list_below x k (has_angle c)) c ≡ true
  unfolding node_in exact no_angle
  node_in_fits x k e = go (has_angle c) refl
    where
      none : has_angle c ≡ true → m.angleless ≡ true → proper (list_below x k true) c ≡ true
      none z a = absurd (false≢true (sym (ap not z) ∙ flag 9 a))

      go : (b : Bool) → has_angle c ≡ b → proper (list_below x k b) c ≡ true
      go false z = within_fits (list_below x k false) (and_left (within m (list_below x k false)) _ e)
      go true z =
          or_cases m.angleless (within m (list_below x k true)) (and_right (within m (list_below x k false)) _ e) (none z)
          (λ a. within_fits (list_below x k true) a)

  children_fits : (k : ℕ) → children_ok k m ≡ true → children_proper k c ≡ true
  unfolding children_ok children_proper exact
  children_fits k e =
      cond_map (one_of (N.DtExpr ∷ N.ParenExpr ∷ []) k) (flag 2)
      (cond_map (eqb k N.MacroInvocation) (λ z. or_cases m.free m.called z (λ a. free_named c (flag 1 a)) (λ a. called_named c (flag 4 a)))
      (cond_map (eqb k N.MacroArgument) (λ z. z) (cond_map (eqb k N.ParseError) (flag 5) (flag 1))))
      e

  -- the node, where it stands
  node_fit : (x : ListOf) (k : ℕ) → children_ok k m ≡ true → node_proper x k c ≡ true → node_in x k m ≡ true → proper x (node k c end) ≡ true
  unfolding proper
  node_fit x k o e g = and_both e (and_both (children_fits k o) (and_both (node_in_fits x k g) refl))

  starts : (k : ℕ) → (m.plain || (eqb k N.DtExpr && m.begun)) ≡ true → node_proper cells k c ≡ true
  unfolding exact starts_plain starts_open
  starts k e =
      or_cases m.plain (eqb k N.DtExpr && m.begun) e (λ a. or_left _ _ (flag 7 a))
      (λ a. or_right (not (starts_open c)) _ (and_both (and_left (eqb k N.DtExpr) _ a) (flag 6 (and_right (eqb k N.DtExpr) _ a))))

  swept : (k : ℕ) → (not (eqb k N.ParseError) || m.free) ≡ true → node_proper expression k c ≡ true
  unfolding exact
  swept k e = or_cases (not (eqb k N.ParseError)) m.free e (λ a. or_left _ _ a) (λ a. or_right (not (eqb k N.ParseError)) _ (flag 1 a))

  pub closes_fit : (k : ℕ) → closing_ok k m ≡ true → proper elsewhere (node k c end) ≡ true
  unfolding closing_ok
  closes_fit k o = node_fit elsewhere k (and_left (children_ok k m) _ o) refl (and_right (children_ok k m) _ o)

  -- THE FLAGS OF A NODE
  pub sums_close : (k : ℕ) → closing_ok k m ≡ true → Sums (close k m) (node k c end)
  unfolding closing_ok close exact is_end no_bracket first_only lone_name named last_only begins starts_plain first_leaf no_angle has_angle
  sums_close k o =
      let ok = and_left (children_ok k m) _ o in
      record {
        flags =
            below_cons (λ e. e)
            (below_cons (λ e. refl)
            (below_cons (λ e. refl)
            (below_cons (λ e. e)
            (below_cons (λ e. e)
            (below_cons (λ e. refl)
            (below_cons (λ e. e)
            (below_cons (flag 7)
            (below_cons (flag 8)
            (below_cons (λ e. refl)
            (below_cons (λ e. let s = m.plain || (eqb k N.DtExpr && m.begun) in node_fit cells k ok (starts k (and_left s _ e)) (and_right s _ e))
            (below_cons (λ e. node_fit values k ok refl e)
            (below_cons (λ e. node_fit cell_branches k ok refl e)
            (below_cons (λ e. node_fit value_branches k ok refl e)
            (below_cons (λ e. let s = not (eqb k N.ParseError) || m.free in node_fit expression k ok (swept k (and_left s _ e)) (and_right s _ e)) (below_nil _)))))))))))))));
      }
