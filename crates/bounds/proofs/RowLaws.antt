-- The laws of rows and of the numbers in them.
use Prim.Native.Nat.{ℕ, zero, suc, ◌+◌, max, ◌≤◌}
use native.Mathlib.Nat.{le_trans, le-max_left, le-max_right, max-le}
use native.Mathlib.Omega.{arith}
use mathlib.Core.Path.{◌≡◌, refl, ap, ◌∙◌}
use mathlib.Core.Bool.{Bool, false, cond}
use Rattle.definitions.specs.Prog.{Ans, no, yes, also, again}
use Rattle.definitions.specs.Run.{is_again}
use Rattle.bounds.proofs.Row.{Key, still, there, took, Row, get, tab, glue, lift, lower, top, any, at, ◌⊔◌, then_entry, then, stopped}

-- ---------------------------------------------------------------- entries

pub get_tab : (f : Ans → Key → ℕ) (a : Ans) (κ : Key) → get (tab f) a κ ≡ f a κ
unfolding tab
get_tab f no still = refl
get_tab f no there = refl
get_tab f no took = refl
get_tab f yes still = refl
get_tab f yes there = refl
get_tab f yes took = refl
get_tab f also still = refl
get_tab f also there = refl
get_tab f also took = refl
get_tab f again still = refl
get_tab f again there = refl
get_tab f again took = refl

pub or_is : (f g : Row) (a : Ans) (κ : Key) → get (f ⊔ g) a κ ≡ max (get f a κ) (get g a κ)
unfolding ◌⊔◌
or_is f g a κ = get_tab (λ b j. max (get f b j) (get g b j)) a κ

pub least_left : (f g : Row) (a : Ans) (κ : Key) → get f a κ ≤ get (f ⊔ g) a κ
least_left f g a κ = rw or_is (le-max_left _ _)

pub least_right : (f g : Row) (a : Ans) (κ : Key) → get g a κ ≤ get (f ⊔ g) a κ
least_right f g a κ = rw or_is (le-max_right _ _)

pub or_most : (f g : Row) (a : Ans) (κ : Key) {z : ℕ} → get f a κ ≤ z → get g a κ ≤ z → get (f ⊔ g) a κ ≤ z
or_most f g a κ p q = rw or_is (max-le p q)

pub pick_top : (x : Key → ℕ) (κ : Key) → x κ ≤ top x
pick_top x still = omega arith
pick_top x there = omega arith
pick_top x took = omega arith

pub at_self : (a : Ans) (κ : Key) (v : ℕ) → get (at a κ v) a κ ≡ v
unfolding at
at_self no still v = refl
at_self no there v = refl
at_self no took v = refl
at_self yes still v = refl
at_self yes there v = refl
at_self yes took v = refl
at_self also still v = refl
at_self also there v = refl
at_self also took v = refl
at_self again still v = refl
at_self again there v = refl
at_self again took v = refl

-- ---------------------------------------------------------------- numbers

pub glue_can : (m v u : ℕ) → 1 ≤ v → 1 ≤ u → 1 ≤ glue m v u
unfolding glue
glue_can m zero u a b = absurd (omega arith)
glue_can m (suc v) zero a b = absurd (omega arith)
glue_can m (suc v) (suc u) a b = omega arith

pub glue_pays : (m v u n n' x y z : ℕ) → 1 ≤ v → 1 ≤ u → n + m ≤ v + x → n' + m ≤ u + y → x + y ≤ z → n + n' + m ≤ glue m v u + z
unfolding glue
glue_pays m zero u n n' x y z a b c d e = absurd (omega arith)
glue_pays m (suc v) zero n n' x y z a b c d e = absurd (omega arith)
glue_pays m (suc v) (suc u) n n' x y z a b c d e = omega arith

-- what costs nothing, or less
pub glue_less : (m v u : ℕ) → u ≤ m → glue m v u ≤ v
unfolding glue
glue_less m zero u h = omega arith
glue_less m (suc v) zero h = omega arith
glue_less m (suc v) (suc u) h = omega arith

pub glue_mono : (m v v' u : ℕ) → v ≤ v' → glue m v u ≤ glue m v' u
unfolding glue
glue_mono m zero v' u h = omega arith
glue_mono m (suc v) zero u h = absurd (omega arith)
glue_mono m (suc v) (suc v') zero h = omega arith
glue_mono m (suc v) (suc v') (suc u) h = omega arith

pub lower_pays : (c v n m x y : ℕ) → 1 ≤ v → n + m ≤ v + x → x + c ≤ y → (1 ≤ lower c v) × (n + m ≤ lower c v + y)
unfolding lower
lower_pays c zero n m x y a p h = absurd (omega arith)
lower_pays c (suc v) n m x y a p h = (omega arith, omega arith)

pub lift_pays : (r v n n' m x : ℕ) → 1 ≤ v → n + m ≤ v + x → n' ≤ r + n → (1 ≤ lift r v) × (n' + m ≤ lift r v + x)
unfolding lift
lift_pays r zero n n' m x a p h = absurd (omega arith)
lift_pays r (suc v) n n' m x a p h = (omega arith, omega arith)

-- ---------------------------------------------------------------- one after the other

module _ (m a b c : ℕ) (u k : Row) (x : Ans) where
  pub then_is : (κ : Key) → get (then m a b c u k) x κ ≡ then_entry m a b c u k x κ
  unfolding then
  then_is κ = get_tab (then_entry m a b c u k) x κ

  pub then_still : (κ : Key) → glue m a (get u x κ) ≤ get (then m a b c u k) x κ
  then_still still = rw then_is (le-max_left _ _)
  then_still there = rw then_is (le-max_left _ _)
  then_still took = rw then_is (le_trans (le-max_left _ _) (le-max_left _ _))

  pub then_there : (κ : Key) → glue m b (get k x κ) ≤ get (then m a b c u k) x κ
  then_there still = rw then_is (le-max_right _ _)
  then_there there = rw then_is (le-max_right _ _)
  then_there took = rw then_is (le_trans (le-max_right _ _) (le-max_left _ _))

  pub then_took : glue m c (top (get u x)) ≤ get (then m a b c u k) x took
  then_took = rw then_is (le-max_right _ _)

pub in_any : (f : Row) (a : Ans) (κ : Key) → get f a κ ≤ any f κ
in_any f no κ = omega arith
in_any f yes κ = omega arith
in_any f also κ = omega arith
in_any f again κ = omega arith

pub stopped_is : (f : Row) (a : Ans) (κ : Key) → is_again a ≡ false → get (stopped f) a κ ≡ get f a κ
unfolding stopped
stopped_is f a κ e = get_tab (λ x j. cond (is_again x) 0 (get f x j)) a κ ∙ ap (λ (b : Bool). cond b 0 (get f a κ)) e
