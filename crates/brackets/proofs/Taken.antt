-- The flags of what taking makes: of a token by its class, of a name, and of any leaves.
use Prim.Native.Nat.{ℕ, zero, suc}
use mathlib.Core.Path.{◌≡◌, refl, subst}
use mathlib.Core.Bool.{Bool, true, false, ◌&&◌, false≢true}
use mathlib.Core.List.{List}
use Rattle.definitions.specs.TokenKind as K
use Rattle.brackets.specs.Brackets.{Outline, end, leaf, proper, elsewhere, values, cell_branches, value_branches, expression, leaves_only, is_end, no_bracket, first_only, last_only, begins, first_leaf, has_angle}
use Rattle.brackets.specs.Brackets as B
use Rattle.brackets.proofs.Bits.{at, Below, below_then, below_left, below_right, below_same, below_nil, below_cons}
use Rattle.brackets.proofs.Summary.{Sum, bits, exact, Sums, lone_name, named, starts_plain, no_angle}
use Rattle.brackets.proofs.Ahead.{class_of, by_class}

-- a token of a class, in the place of all
abbrev pub sum_of : ℕ → Sum
sum_of zero = exact end
sum_of (suc zero) = exact (leaf K.LParen end)
sum_of (suc (suc zero)) = exact (leaf K.LAngle end)
sum_of (suc (suc (suc zero))) = exact (leaf K.Ident end)
sum_of (suc (suc (suc (suc c)))) = exact (leaf K.Number end)

pub exact_leaf : (k : ℕ) → exact (leaf k end) ≡ sum_of (class_of k)
unfolding exact is_end no_bracket first_only lone_name named last_only begins starts_plain first_leaf no_angle has_angle proper
exact_leaf k = by_class (λ (j c : ℕ). exact (leaf j end) ≡ sum_of c) k refl refl refl (λ e f g. rw (e, f, g) refl)

-- what holds of both
abbrev pub meet : Sum → Sum → Sum
meet m n =
    record {
      empty = m.empty && n.empty;
      free = m.free && n.free;
      first = m.first && n.first;
      lone = m.lone && n.lone;
      called = m.called && n.called;
      last = m.last && n.last;
      begun = m.begun && n.begun;
      plain = m.plain && n.plain;
      leads = m.leads && n.leads;
      angleless = m.angleless && n.angleless;
      in_cells = m.in_cells && n.in_cells;
      in_values = m.in_values && n.in_values;
      in_cell_branches = m.in_cell_branches && n.in_cell_branches;
      in_value_branches = m.in_value_branches && n.in_value_branches;
      in_expression = m.in_expression && n.in_expression;
    }

pub sums_left : (m n : Sum) (x : Outline) → Sums m x → Sums (meet m n) x
sums_left m n x h = record { flags = below_then (bits (meet m n)) (bits m) (bits (exact x)) (below_left (bits m) (bits n)) h.flags }

pub sums_right : (m n : Sum) (x : Outline) → Sums n x → Sums (meet m n) x
sums_right m n x h = record { flags = below_then (bits (meet m n)) (bits n) (bits (exact x)) (below_right (bits m) (bits n)) h.flags }

pub sums_exact : (x : Outline) → Sums (exact x) x
sums_exact x = record { flags = below_same (bits (exact x)) }

-- of whichever of two, the second if the test fails
abbrev pick : Bool → Sum → Sum → Sum
pick true m n = meet m n
pick false m n = n

pick_here : (b : Bool) (m n : Sum) (x : Outline) → b ≡ true → Sums m x → Sums (pick b m n) x
pick_here true m n x e h = sums_left m n x h
pick_here false m n x e h = absurd (false≢true e)

pick_later : (b : Bool) (m n : Sum) (x : Outline) → Sums n x → Sums (pick b m n) x
pick_later true m n x h = sums_right m n x h
pick_later false m n x h = h

-- of no kinds at all
abbrev all_set : Sum
all_set =
    record {
      empty = true;
      free = true;
      first = true;
      lone = true;
      called = true;
      last = true;
      begun = true;
      plain = true;
      leads = true;
      angleless = true;
      in_cells = true;
      in_values = true;
      in_cell_branches = true;
      in_value_branches = true;
      in_expression = true;
    }

-- a token of one of these classes taken, or none if none is left
unfoldable pub bumped : List Bool → Sum
unfolding exact
bumped n = pick (at 0 n) (sum_of 0) (pick (at 1 n) (sum_of 1) (pick (at 2 n) (sum_of 2) (pick (at 3 n) (sum_of 3) (pick (at 4 n) (sum_of 4) all_set))))

-- and a name
unfoldable pub name_taken : List Bool → Sum
unfolding exact
name_taken n = pick (at 0 n) (sum_of 0) (sum_of 4)

pub bumped_none : (n : List Bool) → at 0 n ≡ true → Sums (bumped n) end
unfolding bumped
bumped_none n e = pick_here (at 0 n) (sum_of 0) _ end e (sums_exact end)

pub bumped_leaf : (n : List Bool) (k : ℕ) → at (class_of k) n ≡ true → Sums (bumped n) (leaf k end)
unfolding bumped
bumped_leaf n k e =
    subst (λ (m : Sum). Below (bits (bumped n)) (bits m) → Sums (bumped n) (leaf k end)) (exact_leaf k) (λ h. record { flags = h })
    (by_class (λ (j c : ℕ). at c n ≡ true → Below (bits (bumped n)) (bits (sum_of c))) k
    (λ h. (pick_later (at 0 n) (sum_of 0) _ (leaf K.LParen end) (pick_here (at 1 n) (sum_of 1) _ (leaf K.LParen end) h (sums_exact (leaf K.LParen end)))).flags)
    (λ h. (pick_later (at 0 n) (sum_of 0) _ (leaf K.LAngle end) (pick_later (at 1 n) (sum_of 1) _ (leaf K.LAngle end) (pick_here (at 2 n) (sum_of 2) _ (leaf K.LAngle end) h (sums_exact (leaf K.LAngle end))))).flags)
    (λ h. (pick_later (at 0 n) (sum_of 0) _ (leaf K.Ident end) (pick_later (at 1 n) (sum_of 1) _ (leaf K.Ident end) (pick_later (at 2 n) (sum_of 2) _ (leaf K.Ident end) (pick_here (at 3 n) (sum_of 3) _ (leaf K.Ident end) h (sums_exact (leaf K.Ident end)))))).flags)
    (λ _ _ _ h. (pick_later (at 0 n) (sum_of 0) _ (leaf K.Number end) (pick_later (at 1 n) (sum_of 1) _ (leaf K.Number end) (pick_later (at 2 n) (sum_of 2) _ (leaf K.Number end) (pick_later (at 3 n) (sum_of 3) _ (leaf K.Number end) (pick_here (at 4 n) (sum_of 4) all_set (leaf K.Number end) h (sums_exact (leaf K.Number end))))))).flags)
    e)

pub name_none : (n : List Bool) → at 0 n ≡ true → Sums (name_taken n) end
unfolding name_taken
name_none n e = pick_here (at 0 n) (sum_of 0) _ end e (sums_exact end)

pub name_leaf : (n : List Bool) → Sums (name_taken n) (leaf K.Name end)
unfolding name_taken
name_leaf n =
    subst (λ (m : Sum). Below (bits (name_taken n)) (bits m) → Sums (name_taken n) (leaf K.Name end)) (exact_leaf K.Name) (λ h. record { flags = h })
    (pick_later (at 0 n) (sum_of 0) _ (leaf K.Number end) (sums_exact (leaf K.Number end))).flags

-- any leaves: they fit everywhere but in a list of cells
abbrev pub leaves : Sum
leaves =
    record {
      empty = false;
      free = false;
      first = false;
      lone = false;
      called = false;
      last = false;
      begun = false;
      plain = false;
      leads = false;
      angleless = false;
      in_cells = false;
      in_values = true;
      in_cell_branches = true;
      in_value_branches = true;
      in_expression = true;
    }

pub leaves_fit : (x : Outline) → leaves_only x ≡ true
    → (proper elsewhere x ≡ true) × (proper values x ≡ true) × (proper cell_branches x ≡ true) × (proper value_branches x ≡ true) × (proper expression x ≡ true)
unfolding leaves_only proper
leaves_fit end e = (refl, refl, refl, refl, refl)
leaves_fit (leaf k f) e = leaves_fit f e
leaves_fit (B.node k c f) e = absurd (false≢true e)

off : {b : Bool} → false ≡ true → b ≡ true
off e = absurd (false≢true e)

pub leaves_sums : (x : Outline) → leaves_only x ≡ true → Sums leaves x
unfolding exact
leaves_sums x e =
    let f = leaves_fit x e in
    record {
      flags =
          below_cons off
          (below_cons off
          (below_cons off
          (below_cons off
          (below_cons off
          (below_cons off
          (below_cons off
          (below_cons off
          (below_cons off
          (below_cons off
          (below_cons off
          (below_cons (λ _. f.1) (below_cons (λ _. f.2) (below_cons (λ _. f.3) (below_cons (λ _. f.4) (below_nil _)))))))))))))));
    }
