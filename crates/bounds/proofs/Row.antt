-- Rows: for each answer of a run and what is then known, at most how much it costs. Numbers only; Paid says what they
-- mean.
use Prim.Native.Nat.{ℕ, zero, suc, ◌+◌, ◌-◌, max}
use mathlib.Core.Bool.{cond}
use lib.Dec.{eqb}
use Rattle.definitions.specs.Run.{is_again}
use Rattle.definitions.specs.Prog.{Ans, no, yes, also, again}

-- What is known after a run. still: nothing. there: a token that is not trivia stands ahead. took: the cursor moved.
-- The first token that the cursor passed brings no credit under still and there; a loop that goes on gives it back
-- (`moved`).
pub data Key : Type 0 where
  still there took : Key

-- For each answer and key: 0 if a run cannot end so; else v, and it costs at most v - base more than its tokens bring.
pub record Row : Type 0 where
  pub no_still : ℕ
  pub no_there : ℕ
  pub no_took : ℕ
  pub yes_still : ℕ
  pub yes_there : ℕ
  pub yes_took : ℕ
  pub also_still : ℕ
  pub also_there : ℕ
  pub also_took : ℕ
  pub again_still : ℕ
  pub again_there : ℕ
  pub again_took : ℕ

abbrev pub get : Row → Ans → Key → ℕ
get r no still = r.no_still
get r no there = r.no_there
get r no took = r.no_took
get r yes still = r.yes_still
get r yes there = r.yes_there
get r yes took = r.yes_took
get r also still = r.also_still
get r also there = r.also_there
get r also took = r.also_took
get r again still = r.again_still
get r again there = r.again_there
get r again took = r.again_took

unfoldable pub tab : (Ans → Key → ℕ) → Row
tab f =
    record {
      no_still = f no still;
      no_there = f no there;
      no_took = f no took;
      yes_still = f yes still;
      yes_there = f yes there;
      yes_took = f yes took;
      also_still = f also still;
      also_there = f also there;
      also_took = f also took;
      again_still = f again still;
      again_there = f again there;
      again_took = f again took;
    }

-- ---------------------------------------------------------------- numbers

-- one after the other
unfoldable pub glue : ℕ → ℕ → ℕ → ℕ
glue m zero w = 0
glue m (suc v) zero = 0
glue m (suc v) (suc w) = suc (v + suc w - m)

-- so much more
unfoldable pub lift : ℕ → ℕ → ℕ
lift n zero = 0
lift n (suc v) = n + suc v

-- so much less
unfoldable pub lower : ℕ → ℕ → ℕ
lower n zero = 0
lower n (suc v) = suc (v - n)

abbrev pub if_took : Key → ℕ → ℕ
if_took still v = 0
if_took there v = 0
if_took took v = v

abbrev pub top : (Key → ℕ) → ℕ
top x = max (x still) (max (x there) (x took))

-- what a turn costs that moved the cursor
unfoldable pub moved : ℕ → ℕ → ℕ → ℕ → ℕ
unfolding lower
moved c a b v = max (lower c a) (max (lower c b) v)

-- ---------------------------------------------------------------- rows

-- the entries in order
abbrev pub key_place : Key → ℕ
key_place still = 0
key_place there = 1
key_place took = 2

abbrev pub place_of : Ans → Key → ℕ
place_of no κ = key_place κ
place_of yes κ = 3 + key_place κ
place_of also κ = 6 + key_place κ
place_of again κ = 9 + key_place κ

-- one entry
unfoldable pub at : Ans → Key → ℕ → Row
unfolding tab
at a κ v = tab (λ x y. cond (eqb (place_of a κ) (place_of x y)) v 0)

infixr 20 ◌⊔◌
unfoldable pub ◌⊔◌ : Row → Row → Row
unfolding tab
f ⊔ g = tab (λ a κ. max (get f a κ) (get g a κ))

unfoldable pub raise : ℕ → Row → Row
unfolding tab lift
raise n f = tab (λ a κ. lift n (get f a κ))

-- a run with the numbers a, b, c at the three keys, and then u (entered with nothing known) or k (entered with a token
-- there)
abbrev pub then_entry : ℕ → ℕ → ℕ → ℕ → Row → Row → Ans → Key → ℕ
then_entry m a b c u k x still = max (glue m a (get u x still)) (glue m b (get k x still))
then_entry m a b c u k x there = max (glue m a (get u x there)) (glue m b (get k x there))
then_entry m a b c u k x took = max (max (glue m a (get u x took)) (glue m b (get k x took))) (glue m c (top (get u x)))

unfoldable pub then : ℕ → ℕ → ℕ → ℕ → Row → Row → Row
unfolding tab glue
then m a b c u k = tab (then_entry m a b c u k)

-- a loop's last turn, after turns that went on at the cost v
unfoldable pub last : ℕ → ℕ → Row → Row
unfolding then
last m v u = then m 0 0 v u u

unfoldable pub stopped : Row → Row
unfolding tab is_again
stopped f = tab (λ x κ. cond (is_again x) 0 (get f x κ))

-- a run, as above, and then turns as long as they go on. w: the credit. going: after the first turn, if it went on
unfoldable pub going : ℕ → ℕ → ℕ → ℕ → ℕ → Row → Row → ℕ
unfolding moved glue
going w m a b c u k = max (glue m (max a c) (moved w u.again_still u.again_there u.again_took)) (glue m b (moved w k.again_still k.again_there k.again_took))

unfoldable pub turns : ℕ → ℕ → ℕ → ℕ → ℕ → Row → Row → Row
unfolding then last going ◌⊔◌
turns w m a b c u k = then m a b c u k ⊔ last m (going w m a b c u k) u

-- whatever f answers
abbrev pub any : Row → Key → ℕ
any f κ = max (max (get f no κ) (get f yes κ)) (max (get f also κ) (get f again κ))
