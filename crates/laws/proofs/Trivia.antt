-- Trivia passed over: what a peek does to the tokens from the cursor on.
use Prim.Native.Nat.{suc, ◌≤◌, zero-le}
use native.Mathlib.Omega.{arith}
use mathlib.Core.Path.{◌≡◌, refl, ap, sym, ◌∙◌}
use mathlib.Core.Bool.{Bool, true, false, cond}
use mathlib.Core.List.{List, [], ◌∷◌, ◌++◌, append_assoc}
use lib.ListN.{length, length-append}
use Rattle.basics.proofs.Tests.{cond-all, cond-with}
use Rattle.definitions.specs.Token.{Token, trivia, drop_trivia}

-- ---------------------------------------------------------------- drop-trivia

-- all of them are trivia
abbrev pub Blank : List Token → Type 0
Blank [] = Unit {0}
Blank (t ∷ ts) = (trivia t ≡ true) × Blank ts

-- the first of them, if there is one, is not trivia
abbrev pub Solid : List Token → Type 0
Solid [] = Unit {0}
Solid (t ∷ ts) = trivia t ≡ false

pub drop_trivium : (t : Token) (ts : List Token) → trivia t ≡ true → drop_trivia (t ∷ ts) ≡ drop_trivia ts
unfolding drop_trivia
drop_trivium t ts e = ap (λ (b : Bool). cond b (drop_trivia ts) (t ∷ ts)) e

pub drop_none : (t : Token) (ts : List Token) → trivia t ≡ false → drop_trivia (t ∷ ts) ≡ t ∷ ts
unfolding drop_trivia
drop_none t ts e = ap (λ (b : Bool). cond b (drop_trivia ts) (t ∷ ts)) e

pub drop_solid : (ts : List Token) → Solid ts → drop_trivia ts ≡ ts
unfolding drop_trivia
drop_solid [] h = refl
drop_solid (t ∷ ts) h = drop_none t ts h

-- after a peek a token that is not trivia stands first, or none does
pub dropped_solid : (ts : List Token) → Solid (drop_trivia ts)
unfolding drop_trivia
dropped_solid [] = tt
dropped_solid (t ∷ ts) = cond-with Solid (trivia t) {x = drop_trivia ts} {y = t ∷ ts} (λ e. dropped_solid ts) (λ e. e)

-- a second peek does nothing
pub drop_twice : (ts : List Token) → drop_trivia (drop_trivia ts) ≡ drop_trivia ts
drop_twice ts = drop_solid (drop_trivia ts) (dropped_solid ts)

pub drop_blank : (ws ts : List Token) → Blank ws → drop_trivia (ws ++ ts) ≡ drop_trivia ts
drop_blank [] ts h = refl
drop_blank (w ∷ ws) ts h = drop_trivium w (ws ++ ts) h.0 ∙ drop_blank ws ts h.1

pub drop_trivia_length : (ts : List Token) → length (drop_trivia ts) ≤ length ts
unfolding drop_trivia
drop_trivia_length [] = zero-le
drop_trivia_length (t ∷ ts) =
    let h : length (drop_trivia ts) ≤ length ts = drop_trivia_length ts in
    cond-all (λ (l : List Token). length l ≤ suc (length ts)) (trivia t) {x = drop_trivia ts} {y = t ∷ ts} (omega arith) (omega arith)

-- ---------------------------------------------------------------- passing over some of it

-- us is what is left of ts when some trivia that stand first are passed over
pub record Passes (ts us : List Token) : Type 0 where
  pub over : List Token
  pub blank : Blank over
  pub split : ts ≡ over ++ us

blank_join : (v w : List Token) → Blank v → Blank w → Blank (v ++ w)
blank_join [] w h g = g
blank_join (t ∷ v) w h g = (h.0, blank_join v w h.1 g)

pub passes_none : (ts : List Token) → Passes ts ts
passes_none ts = record { over = []; blank = tt; split = refl }

pub passes_then : (ts us vs : List Token) → Passes ts us → Passes us vs → Passes ts vs
passes_then ts us vs p q =
    record {
      over = p.over ++ q.over;
      blank = blank_join p.over q.over p.blank q.blank;
      split = p.split ∙ ap (p.over ++◌) q.split ∙ sym (append_assoc p.over q.over vs);
    }

pub passes_one : (t : Token) (ts : List Token) → trivia t ≡ true → Passes (t ∷ ts) ts
passes_one t ts e = record { over = t ∷ []; blank = (e, tt); split = refl }

-- a peek passes over all of it
pub passes_all : (ts : List Token) → Passes ts (drop_trivia ts)
unfolding drop_trivia
passes_all [] = passes_none []
passes_all (t ∷ ts) =
    cond-with (Passes (t ∷ ts)) (trivia t) {x = drop_trivia ts} {y = t ∷ ts}
    (λ e. passes_then (t ∷ ts) ts (drop_trivia ts) (passes_one t ts e) (passes_all ts))
    (λ e. passes_none (t ∷ ts))

-- what a peek comes to is the same before and after
pub passes_drop : (ts us : List Token) → Passes ts us → drop_trivia ts ≡ drop_trivia us
passes_drop ts us p = ap drop_trivia p.split ∙ drop_blank p.over us p.blank

pub passes_length : (ts us : List Token) → Passes ts us → length us ≤ length ts
passes_length ts us p = omega (arith, simp length-append at (ap length p.split))
