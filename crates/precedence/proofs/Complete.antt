-- The symbols of an expression that C's table allows are read as that expression, unless the calls run out.
use Prim.Native.Nat.{ℕ, zero, suc, ◌≤◌, ◌<◌}
use native.Mathlib.Omega.{arith}
use mathlib.Core.Path.{◌≡◌, refl, sym, ap}
use mathlib.Core.Bool.{Bool, true, false}
use mathlib.Core.List.{List, [], ◌∷◌, ◌++◌}
use mathlib.Core.Option.{some}
use borrow.Author.Tests.{ltb-true, ltb-false}
use lib.Dec.{ltb}
use lib.ListN.{length}
use Rattle.definitions.specs.TokenKind as K
use Rattle.definitions.specs.Token.{one_of}
use Rattle.definitions.specs.C.{Symbol, plain, arguments, Change, opens, closes, keeps, change, changed, open_after, line_of, Expr, literal, name, invocation, bracketed, prefix, binary, ternary, WellFormed}
use Rattle.precedence.proofs.Pratt.{Operand, prefixes, brackets, names, literals, operand, Operator, asks, binds, operator, is, Res, done, spent, Reader, bind, expect, Args, closed, push, args_turn, args, named, lhs_by, bind_if, ask_if, step_by, step, loop, reader}
use Rattle.precedence.proofs.Pratt as P
use Rattle.precedence.proofs.Tables.{Powers, OperatorOf, operator_of, prefix_operand, literal_operand}
use Rattle.precedence.proofs.Powers.{lb, rb, powers, under_prefix', as_left', as_right', as_condition', as_branch}
use Rattle.precedence.proofs.Base.{onto, not_none, Below, Stop, stop_all, stop_weaken, Post, post_bind}

-- no argument list begins here
abbrev pub NoCall : List Symbol → Type 0
NoCall [] = Unit {0}
NoCall (plain k ∷ us) = Unit {0}
NoCall (arguments ∷ us) = ⊥

named_name : (us : List Symbol) → NoCall us → named us ≡ done name us
named_name [] h = refl
named_name (plain k ∷ us) h = refl
named_name (arguments ∷ us) h = absurd h

args_push : (t : Change) (x : Symbol) (f : ℕ → Args) (xs us vs : List Symbol) (n : ℕ) → ((m : ℕ) → open_after xs m ≡ some 0 → f m ≡ closed xs vs)
    → changed t (open_after xs) n ≡ some 0 → args_turn t x f us n ≡ closed (x ∷ xs) vs
args_push opens x f xs us vs n ih h = ap (push x) (ih (suc n) h)
args_push closes x f xs us vs zero ih h = absurd (not_none 0 (sym h))
args_push closes x f xs us vs (suc n) ih h = ap (push x) (ih n h)
args_push keeps x f xs us vs n ih h = ap (push x) (ih n h)

pub args_complete : (xs us : List Symbol) (n : ℕ) → open_after xs n ≡ some 0 → args (xs ++ (plain K.RParen ∷ us)) n ≡ closed xs us
args_complete [] us zero h = refl
args_complete [] us (suc n) h = let z : suc n ≡ 0 = cc in absurd (omega arith)
args_complete (x ∷ xs) us n h = args_push (change x) x (args (xs ++ (plain K.RParen ∷ us))) xs (xs ++ (plain K.RParen ∷ us)) us n (args_complete xs us) h

abbrev pub Never : List Symbol → Type 0
Never p = ⊥

abbrev pub Is : Expr → List Symbol → Expr → List Symbol → Type 0
Is e us f vs = (f ≡ e) × (vs ≡ us)

-- what was read is known, so go on with it
pub post_then : (D : Expr → List Symbol → Type 0) (e : Expr) (us : List Symbol) (x : Res) (f : Expr → List Symbol → Res)
    → Post (Is e us) Never x → Post D Never (f e us) → Post D Never (bind x f)
post_then D e us x f h g = post_bind (Is e us) Never D Never x f h (λ p b. b) (λ e' us' z. rw (z.0, z.1) g)

-- ---------------------------------------------------------------- the loop stops

bind_stop : (more : Expr → List Symbol → Res) (rec : Reader) (e : Expr) (k r l m : ℕ) (vs us : List Symbol) → l < m → (b : Bool) → ltb l m ≡ b
    → Post (Is e vs) Never (bind_if b more rec e k r vs us)
bind_stop more rec e k r l m vs us s true t = (refl, refl)
bind_stop more rec e k r l m vs us s false t = absurd (omega (arith, ltb-false l m t))

ask_stop : (more : Expr → List Symbol → Res) (rec : Reader) (e : Expr) (m : ℕ) (vs us : List Symbol) → 2 < m → (b : Bool) → ltb 2 m ≡ b
    → Post (Is e vs) Never (ask_if b more rec e vs us)
ask_stop more rec e m vs us s true t = (refl, refl)
ask_stop more rec e m vs us s false t = absurd (omega (arith, ltb-false 2 m t))

stop_from : (y : Operator) (more : Expr → List Symbol → Res) (rec : Reader) (m : ℕ) (e : Expr) (x : Symbol) (us : List Symbol) → Below m y
    → Post (Is e (x ∷ us)) Never (step_by y more rec m e x us)
stop_from asks more rec m e x us s = ask_stop more rec e m (x ∷ us) us s (ltb 2 m) refl
stop_from (binds k l r) more rec m e x us s = bind_stop more rec e k r l m (x ∷ us) us s (ltb l m) refl
stop_from P.none more rec m e x us s = (refl, refl)

step_stop : (more : Expr → List Symbol → Res) (rec : Reader) (m : ℕ) (e : Expr) (us : List Symbol) → Stop m us → Post (Is e us) Never (step more rec m e us)
step_stop more rec m e [] s = (refl, refl)
step_stop more rec m e (x ∷ us) s = stop_from (operator x) more rec m e x us s

loop_stop : (rec : Reader) (n m : ℕ) (e : Expr) (us : List Symbol) → Stop m us → Post (Is e us) Never (loop rec n m e us)
loop_stop rec zero m e us s = step_stop (λ f vs. spent) rec m e us s
loop_stop rec (suc n) m e us s = step_stop (loop rec n m) rec m e us s

-- ---------------------------------------------------------------- once round the loop

-- the operator k of C's table, in the loop
binds_from : (k : ℕ) (x : Operator) → operator (plain k) ≡ x → OperatorOf k x → 1 ≤ line_of k
    → (l : ℕ) × (r : ℕ) × (operator (plain k) ≡ binds k l r) × Powers (line_of k) l r
binds_from k asks o h n = absurd (omega arith)
binds_from k (binds j l r) o h n = (l, r, rw o (rw h.0), h.1)
binds_from k P.none o h n = absurd (omega arith)

binds_of : (k : ℕ) → 1 ≤ line_of k → (l : ℕ) × (r : ℕ) × (operator (plain k) ≡ binds k l r) × Powers (line_of k) l r
binds_of k n = binds_from k (operator (plain k)) refl (operator_of k) n

module _ (D : Expr → List Symbol → Type 0) (rec : Reader) (m : ℕ) (e : Expr) (us vs : List Symbol) where
  bind_go : (k l r : ℕ) (f : Expr) (ts : List Symbol) (more : Expr → List Symbol → Res) → m ≤ l → Post (Is f vs) Never (rec r us)
      → Post D Never (more (binary e k f) vs) → (b : Bool) → ltb l m ≡ b → Post D Never (bind_if b more rec e k r ts us)
  bind_go k l r f ts more h x g true t = absurd (omega (arith, ltb-true l m t))
  bind_go k l r f ts more h x g false t = post_then D f vs (rec r us) (λ f' ws. more (binary e k f') ws) x g

  round_binary : (k l r : ℕ) (f : Expr) → operator (plain k) ≡ binds k l r → m ≤ l → Post (Is f vs) Never (rec r us)
      → ((n : ℕ) → Post D Never (loop rec n m (binary e k f) vs)) → (n : ℕ) → Post D Never (loop rec n m e (plain k ∷ us))
  round_binary k l r f o h x g zero = rw o (bind_go k l r f (plain k ∷ us) (λ e' us'. spent) h x tt (ltb l m) refl)
  round_binary k l r f o h x g (suc n) = rw o (bind_go k l r f (plain k ∷ us) (loop rec n m) h x (g n) (ltb l m) refl)

  ask_go : (a : Expr) (ws : List Symbol) (b : Expr) (ts : List Symbol) (more : Expr → List Symbol → Res) → m ≤ 2
      → Post (Is a (plain K.Colon ∷ ws)) Never (rec 0 us) → Post (Is b vs) Never (rec 1 ws)
      → Post D Never (more (ternary e a b) vs) → (t : Bool) → ltb 2 m ≡ t → Post D Never (ask_if t more rec e ts us)
  unfolding is one_of
  ask_go a ws b ts more h x y g true t = absurd (omega (arith, ltb-true 2 m t))
  ask_go a ws b ts more h x y g false t =
      post_then D a (plain K.Colon ∷ ws) (rec 0 us)
      (λ a' zs. expect K.Colon zs (λ xs. bind (rec 1 xs) (λ b' ys. more (ternary e a' b') ys))) x
      (post_then D b vs (rec 1 ws) (λ b' ys. more (ternary e a b') ys) y g)

  round_ask : (a : Expr) (ws : List Symbol) (b : Expr) → m ≤ 2 → Post (Is a (plain K.Colon ∷ ws)) Never (rec 0 us) → Post (Is b vs) Never (rec 1 ws)
      → ((n : ℕ) → Post D Never (loop rec n m (ternary e a b) vs)) → (n : ℕ) → Post D Never (loop rec n m e (plain K.QuestionMark ∷ us))
  unfolding operator one_of
  round_ask a ws b h x y g zero = ask_go a ws b (plain K.QuestionMark ∷ us) (λ e' us'. spent) h x y tt (ltb 2 m) refl
  round_ask a ws b h x y g (suc n) = ask_go a ws b (plain K.QuestionMark ∷ us) (loop rec n m) h x y (g n) (ltb 2 m) refl

-- ---------------------------------------------------------------- a whole expression

-- a reader that starts at the expression's symbols comes to the loop with the expression in hand
abbrev Reads : Expr → Type 1
Reads e =
    (d m : ℕ) → m ≤ lb e → (us : List Symbol) → Stop (rb e) us → NoCall us → (D : Expr → List Symbol → Type 0)
    → ((n : ℕ) → Post D Never (loop (reader d) n m e us)) → Post D Never (reader (suc d) m (onto e us))

exact : (e : Expr) → WellFormed e → Reads e → (d m : ℕ) → m ≤ lb e → (us : List Symbol) → Stop m us → NoCall us
    → Post (Is e us) Never (reader d m (onto e us))
exact e a r zero m h us s c = tt
exact e a r (suc d) m h us s c = r d m h us (stop_weaken e (powers e a) m h us s) c (Is e us) (λ n. loop_stop (reader d) n m e us s)

-- what the tests of an operand come to, an operand being read
lhs_then : (D : Expr → List Symbol → Type 0) (d m : ℕ) (y : Operand) (x : Symbol) (us : List Symbol) (e : Expr) (vs : List Symbol) → operand x ≡ y
    → Post (Is e vs) Never (lhs_by y (reader d) x us) → ((n : ℕ) → Post D Never (loop (reader d) n m e vs)) → Post D Never (reader (suc d) m (x ∷ us))
lhs_then D d m y x us e vs o h g =
    rw o (post_then D e vs (lhs_by y (reader d) x us) (λ e' ws. loop (reader d) (length ws) m e' ws) h (g (length vs)))

pub reads : (e : Expr) → WellFormed e → Reads e
unfolding operand is one_of operator
reads (literal k) a d m h us s c D g = lhs_then D d m (literals k) (plain k) us (literal k) us (literal_operand k a) (refl, refl) g
reads name a d m h us s c D g = lhs_then D d m names (plain K.Ident) us name us refl (rw (named_name us c) (refl, refl)) g
reads (invocation xs) a d m h us s c D g =
    lhs_then D d m names (plain K.Ident) (arguments ∷ (xs ++ (plain K.RParen ∷ us))) (invocation xs) us refl (rw (args_complete xs us 0 a) (refl, refl)) g
reads (bracketed e) a d m h us s c D g =
    lhs_then D d m brackets (plain K.LParen) (onto e (plain K.RParen ∷ us)) (bracketed e) us refl
    (post_then (Is (bracketed e) us) e (plain K.RParen ∷ us) (reader d 0 (onto e (plain K.RParen ∷ us)))
    (λ e' vs. expect K.RParen vs (λ ws. done (bracketed e') ws)) (exact e a (reads e a) d 0 (omega arith) (plain K.RParen ∷ us) tt tt) (refl, refl)) g
reads (prefix k e) a d m h us s c D g =
    lhs_then D d m (prefixes k) (plain k) (onto e us) (prefix k e) us (prefix_operand k a.0)
    (post_then (Is (prefix k e) us) e us (reader d 23 (onto e us)) (λ e' vs. done (prefix k e') vs)
    (exact e a.1 (reads e a.1) d 23 (under_prefix' e (powers e a.1) a.2) us (stop_all 23 (omega arith) us) c) (refl, refl)) g
reads (binary l k r) a d m h us s c D g =
    let o = binds_of k a.0 in
    let lp = o.0 in
    let rp = o.1 in
    let pw = o.3 in
    let q = as_left' l (powers l a.1) (line_of k) lp rp pw a.3 in
    let rb-is : rb (binary l k r) ≡ rp = omega arith in
    reads l a.1 d m (omega arith) (plain k ∷ onto r us) (rw o.2 q.0) tt D
    (round_binary D (reader d) m l (onto r us) us k lp rp r o.2 (omega arith)
    (exact r a.2 (reads r a.2) d rp (as_right' r (powers r a.2) (line_of k) lp rp pw a.4) us (rw rb-is at s) c) g)
reads (ternary x y z) a d m h us s c D g =
    let q = as_condition' x (powers x a.0) a.3 in
    reads x a.0 d m (omega arith) (plain K.QuestionMark ∷ onto y (plain K.Colon ∷ onto z us)) q.0 tt D
    (round_ask D (reader d) m x (onto y (plain K.Colon ∷ onto z us)) us y (onto z us) z h
    (exact y a.1 (reads y a.1) d 0 (omega arith) (plain K.Colon ∷ onto z us) tt tt)
    (exact z a.2 (reads z a.2) d 1 (as_branch z (powers z a.2)) us s c) g)

-- at the lowest minimum
pub reads_exactly : (e : Expr) → WellFormed e → (d : ℕ) (us : List Symbol) → Stop 0 us → NoCall us → Post (Is e us) Never (reader d 0 (onto e us))
reads_exactly e a d us s c = exact e a (reads e a) d 0 (omega arith) us s c
