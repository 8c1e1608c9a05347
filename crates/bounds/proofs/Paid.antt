-- What is said of a run: so much was paid on the way from one state to another, and so much is known at its end.
-- A token that the cursor passes brings credit; what a run makes costs.
use Prim.Native.Nat.{ℕ, zero, suc, ◌+◌, ◌-◌, ◌*◌, ◌≤◌}
use native.Mathlib.Nat.{le_trans, mul-le-mul_left}
use native.Mathlib.Omega.{arith}
use mathlib.Core.Path.{◌≡◌, subst}
use mathlib.Core.Bool.{Bool, true, false}
use lib.ListN.{length}
use Rattle.definitions.specs.Token.{drop_trivia, ended}
use Rattle.definitions.specs.Skeleton.{Skeleton, done, token, name, node, ignored, report, over, ◌⧺◌}
use Rattle.definitions.specs.Prog.{Ans}
use Rattle.definitions.specs.Run.{State, Out, closed}
use Rattle.bounds.proofs.Row.{Key, still, there, took, Row, get, glue, lift, at, ◌⊔◌, raise, then}
use Rattle.bounds.proofs.Cost.{Price, Bill, here, side}
use Rattle.bounds.proofs.RowLaws.{get_tab, least_left, least_right, pick_top, at_self, glue_can, glue_pays, lift_pays, then_still, then_there, then_took}

-- ---------------------------------------------------------------- what a key says

abbrev pub There : State → Type 0
There s = ended (drop_trivia s.rest) ≡ false

abbrev pub Known : Bool → State → Type 0
Known false s = Unit {0}
Known true s = There s

-- d: how far the cursor moved
abbrev pub Holds : Key → ℕ → State → Type 0
Holds still d s = Unit {0}
Holds there d s = There s
Holds took d s = 1 ≤ d

-- how many tokens bring credit
abbrev pub counted : Key → ℕ → ℕ
counted still d = d - 1
counted there d = d - 1
counted took d = d

-- one key after another
abbrev onto : Key → Key → Key
onto still κ = κ
onto there κ = κ
onto took κ = took

counted_onto : (j κ : Key) (a b : ℕ) → counted j a + counted κ b ≤ counted (onto j κ) (a + b)
counted_onto still still a b = omega arith
counted_onto still there a b = omega arith
counted_onto still took a b = omega arith
counted_onto there still a b = omega arith
counted_onto there there a b = omega arith
counted_onto there took a b = omega arith
counted_onto took still a b = omega arith
counted_onto took there a b = omega arith
counted_onto took took a b = omega arith

holds_onto : (j κ : Key) (a b : ℕ) (s s' : State) → Holds j a s → Holds κ b s' → Holds (onto j κ) (a + b) s'
holds_onto still still a b s s' p q = tt
holds_onto still there a b s s' p q = q
holds_onto still took a b s s' p q = omega arith
holds_onto there still a b s s' p q = tt
holds_onto there there a b s s' p q = q
holds_onto there took a b s s' p q = omega arith
holds_onto took κ a b s s' p q = omega arith

-- ---------------------------------------------------------------- what is paid

-- what a skeleton costs
unfoldable pub cost : Price → Skeleton → ℕ
cost w done = 0
cost w (token t m o) = w.leaf + cost w o
cost w (name ts m o) = w.leaf + cost w o
cost w (node k m m' a i o) = w.marker + (cost w a + cost w i + cost w o)
cost w (ignored m m' a i o) = w.marker + (cost w a + cost w i + cost w o)
cost w (report r o) = w.report + cost w o
cost w (over m o) = cost w o

pub cost_join : (w : Price) (p q : Skeleton) → cost w (p ⧺ q) ≡ cost w p + cost w q
unfolding cost ◌⧺◌
cost_join w done q = omega arith
cost_join w (token t m p) q = let h : cost w (p ⧺ q) ≡ cost w p + cost w q = cost_join w p q in omega arith
cost_join w (name ts m p) q = let h : cost w (p ⧺ q) ≡ cost w p + cost w q = cost_join w p q in omega arith
cost_join w (node k m m' a i p) q = let h : cost w (p ⧺ q) ≡ cost w p + cost w q = cost_join w p q in omega arith
cost_join w (ignored m m' a i p) q = let h : cost w (p ⧺ q) ≡ cost w p + cost w q = cost_join w p q in omega arith
cost_join w (report r p) q = let h : cost w (p ⧺ q) ≡ cost w p + cost w q = cost_join w p q in omega arith
cost_join w (over m p) q = cost_join w p q

module _ (w : Price) where
  pub closed_cost : (k m m' : ℕ) (a i : Skeleton) → cost w (closed k m m' a i) ≡ w.marker + (cost w a + cost w i)
  unfolding closed cost
  closed_cost zero m m' a i = omega arith
  closed_cost (suc k) m m' a i = omega arith

  -- n was paid on the way from s₀ to s, at the key κ and the number v
  pub record Paid (κ : Key) (v : ℕ) (s₀ s : State) (n : ℕ) : Type 0 where
    pub steps : ℕ
    pub left : length s.rest + steps ≡ length s₀.rest
    pub holds : Holds κ steps s
    pub can : 1 ≤ v
    pub enough : n + w.base ≤ v + w.credit * counted κ steps

  -- at some key, with its number
  pub record Fits (x : Key → ℕ) (s₀ s : State) (n : ℕ) : Type 0 where
    pub key : Key
    pub paid : Paid key (x key) s₀ s n

  pub weaken : {κ : Key} {v v' : ℕ} {s₀ s : State} {n : ℕ} → v ≤ v' → Paid κ v s₀ s n → Paid κ v' s₀ s n
  weaken {κ} {v} {v'} {s₀} {s} {n} h p =
      let e : n + w.base ≤ v + w.credit * counted κ p.steps = p.enough in
      record { steps = p.steps; left = p.left; holds = p.holds; can = le_trans p.can h; enough = omega arith }

  pub after : {j κ : Key} {v u : ℕ} {s₀ s s' : State} {n n' : ℕ} → Paid j v s₀ s n → Paid κ u s s' n' → Paid (onto j κ) (glue w.base v u) s₀ s' (n + n')
  after {j} {κ} {v} {u} {s₀} {s} {s'} {n} {n'} p q =
      let c : w.credit * (counted j p.steps + counted κ q.steps) ≤ w.credit * counted (onto j κ) (p.steps + q.steps) = mul-le-mul_left w.credit (counted_onto j κ p.steps q.steps) in
      let a : length s.rest + p.steps ≡ length s₀.rest = p.left in
      let b : length s'.rest + q.steps ≡ length s.rest = q.left in
      record {
        steps = p.steps + q.steps;
        left = omega arith;
        holds = holds_onto j κ p.steps q.steps s s' p.holds q.holds;
        can = glue_can w.base v u p.can q.can;
        enough = glue_pays w.base v u n n' (w.credit * counted j p.steps) (w.credit * counted κ q.steps) _ p.can q.can p.enough q.enough (omega arith);
      }

  pub recost : {x : Key → ℕ} {s₀ s : State} {n n' : ℕ} → n ≡ n' → Fits x s₀ s n → Fits x s₀ s n'
  recost {x} {s₀} {s} e f = subst (Fits x s₀ s) e f

  pub widen : {x y : Key → ℕ} {s₀ s : State} {n : ℕ} → ((κ : Key) → x κ ≤ y κ) → Fits x s₀ s n → Fits y s₀ s n
  widen h f = record { key = f.key; paid = weaken (h f.key) f.paid }

  pub or_left : (f g : Row) (a : Ans) {s₀ s : State} {n : ℕ} → Fits (get f a) s₀ s n → Fits (get (f ⊔ g) a) s₀ s n
  or_left f g a h = widen (least_left f g a) h

  pub or_right : (f g : Row) (a : Ans) {s₀ s : State} {n : ℕ} → Fits (get g a) s₀ s n → Fits (get (f ⊔ g) a) s₀ s n
  or_right f g a h = widen (least_right f g a) h

  pub fits_at : (a : Ans) {κ : Key} {v : ℕ} {s₀ s : State} {n : ℕ} → Paid κ v s₀ s n → Fits (get (at a κ v) a) s₀ s n
  fits_at a {κ} {v} p = record { key = κ; paid = rw (at_self a κ v) p }

  -- a whole that costs at most r more
  pub raise_fits : (r : ℕ) (f : Row) (a : Ans) {s₀ s : State} {n n' : ℕ} → n' ≤ r + n → Fits (get f a) s₀ s n → Fits (get (raise r f) a) s₀ s n'
  unfolding raise
  raise_fits r f a {s₀} {s} {n} {n'} h g =
      let p = g.paid in
      let l = lift_pays r (get f a g.key) n n' w.base (w.credit * counted g.key p.steps) p.can p.enough h in
      record { key = g.key; paid = rw (get_tab (λ b κ. lift r (get f b κ)) a g.key) (record { steps = p.steps; left = p.left; holds = p.holds; can = l.0; enough = l.1 }) }

  -- ---------------------------------------------------------------- one after the other

  -- a run from s, whatever is known there
  abbrev pub Goes : Bill → Ans → State → State → ℕ → Type 0
  Goes q a s s' n = (d : Bool) → Known d s → Fits (get (side q d) a) s s' n

  abbrev pub Sound : Bill → (State → Out) → Type 0
  Sound q Q = (d : Bool) (s : State) → Known d s → Fits (get (side q d) (Q s).ans) s (Q s).state (cost w (Q s).made)

  pub then_at : (j : Key) (x : Key → ℕ) (q : Bill) (a : Ans) {s₀ s s' : State} {n n' : ℕ} → Paid j (x j) s₀ s n → Goes q a s s' n' → Fits (get (then w.base (x still) (x there) (x took) q.cold q.warm) a) s₀ s' (n + n')
  then_at still x q a p g = let f = g false tt in record { key = f.key; paid = weaken (then_still w.base _ _ _ q.cold q.warm a f.key) (after p f.paid) }
  then_at there x q a p g = let f = g true p.holds in record { key = f.key; paid = weaken (then_there w.base _ _ _ q.cold q.warm a f.key) (after p f.paid) }
  then_at took x q a p g =
      let f = g false tt in
      record { key = took; paid = weaken (then_took w.base _ _ _ q.cold q.warm a) (after p (weaken (pick_top (get q.cold a) f.key) f.paid)) }

  pub then_fits : (x : Key → ℕ) (q : Bill) (a : Ans) {s₀ s s' : State} {n n' : ℕ} → Fits x s₀ s n → Goes q a s s' n' → Fits (get (then w.base (x still) (x there) (x took) q.cold q.warm) a) s₀ s' (n + n')
  then_fits x q a f g = then_at f.key x q a f.paid g

  pub here_paid : (d : Bool) (s : State) → 1 ≤ w.base → Known d s → Paid (here d) w.base s s 0
  here_paid false s b k = record { steps = 0; left = omega arith; holds = tt; can = b; enough = omega arith }
  here_paid true s b k = record { steps = 0; left = omega arith; holds = k; can = b; enough = omega arith }
